use Rattle.pp_compile.specs.Guessed.{guess_of}
use Rattle.pp_prog.specs.declared.expr.Function.{Function}
use Rattle.pp_prog.specs.declared.id.CheckId.{CheckId}
use Rattle.pp_query.specs.Demanded.{IsDemanded}
use Rattle.pp_query.proofs.demanding.never_fails.Given as goal

abbrev pub invariant-loop : goal.invariant-loop
invariant-loop l =
    (f : Function) (check : CheckId) → IsDemanded l.functions f check l.round (guess_of l.fn.guess)
    → IsDemanded l.functions f check l.round (guess_of l.longer)
