use Rattle.pp_verify.specs.GivenUp.{GivesUpOthers, HasHope}
use Rattle.pp_verify.proofs.cones.give_up_by_ends.Given as goal

abbrev pub invariant-loop-c : goal.invariant-loop-c
invariant-loop-c l = GivesUpOthers l.program l.ends (HasHope l.program l.limits) l.c l.fn.given_up l.given_up
