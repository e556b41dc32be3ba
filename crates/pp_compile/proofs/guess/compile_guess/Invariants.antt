use Rattle.std.proofs.Common.{◌≡◌}
use Rattle.pp_steps.specs.Guesses.{guess_steps}
use Rattle.pp_compile.specs.Guessed.{guess_of}
use Rattle.pp_compile.proofs.guess.compile_guess.Given as goal

abbrev pub invariant-loop-round : goal.invariant-loop-round
invariant-loop-round l = guess_of l.guess ≡ guess_steps l.functions l.f l.fn.check l.round
