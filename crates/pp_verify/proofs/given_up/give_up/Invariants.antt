use Rattle.pp_verify.specs.GivenUp.{GivesUpTo}
use Rattle.pp_verify.proofs.given_up.give_up.Given as goal

abbrev pub invariant-loop-g : goal.invariant-loop-g
invariant-loop-g l = GivesUpTo l.program l.g l.f.0 l.fn.marks l.marks
