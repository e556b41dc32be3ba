use Rattle.pp_verify.specs.GivenUp.{GivesUpOthers, HasNoGuess}
use Rattle.pp_verify.proofs.cones.give_up_by_guesses.Given as goal

abbrev pub invariant-loop-c : goal.invariant-loop-c
invariant-loop-c l = GivesUpOthers l.program l.ends (HasNoGuess l.program l.limits) l.c l.fn.given_up l.given_up
