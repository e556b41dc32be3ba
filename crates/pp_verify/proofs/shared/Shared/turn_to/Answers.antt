use Rattle.pp_verify.proofs.shared.Shared.turn_to.Goals as goal

pub returns : goal.returns
returns c p limits shared = c.new.ensures p limits c.args.function.0
