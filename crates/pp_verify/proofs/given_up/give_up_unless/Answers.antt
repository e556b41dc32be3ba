use Rattle.pp_verify.proofs.GivenUp.{gives_up}
use Rattle.pp_verify.proofs.given_up.give_up_unless.Goals as goal

pub returns-then-not-is_given_up : goal.returns-then-not-is_given_up
returns-then-not-is_given_up c =
    gives_up c.args.program.now c.args.f.0 c.args.marks.now c.requires.marks c.args.hope c.give_up.new.marks
    c.requires.function c.give_up.ensures
