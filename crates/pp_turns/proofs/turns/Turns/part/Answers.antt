use Rattle.std.proofs.Common.{◌∙◌, Some, sym, ap}
use Rattle.pp_turns.specs.declared.part.Part.{Part}
use Rattle.pp_turns.specs.Parts.{part_of}
use Rattle.pp_verify.proofs.Written.{read}
use Rattle.pp_turns.proofs.turns.Turns.part.Goals as goal

pub returns : goal.returns
returns c =
    read part_of c.args.self.now.checks c.as_slice-checks.result.now c.args.check.0 c.index-checks-place.result
    c.as_slice-checks.ensures c.requires c.index-checks-place.is
    ∙ ap (λ (p : Part). Some p) (sym c.part.ensures)
