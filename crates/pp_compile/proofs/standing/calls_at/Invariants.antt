use Rattle.std.proofs.Common.{◌≡◌, ◌++◌, drop, map}
use Rattle.pp_steps.specs.Guesses.{calls_before, calls_from, standing}
use Rattle.pp_compile.specs.Guessed.{stands}
use Rattle.pp_compile.proofs.standing.calls_at.Given as goal

abbrev pub invariant-loop-i : goal.invariant-loop-i
invariant-loop-i l =
    (calls_before l.from (standing 0 l.steps)
    ≡ map stands l.calls.before ++ calls_before l.from (standing l.i (drop l.i l.steps)))
    × (calls_from l.from (standing 0 l.steps)
    ≡ map stands l.calls.from ++ calls_from l.from (standing l.i (drop l.i l.steps)))
