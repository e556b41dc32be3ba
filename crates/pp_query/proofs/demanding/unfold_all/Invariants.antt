use Rattle.pp_prog.specs.declared.expr.Function.{Function}
use Rattle.pp_prog.specs.declared.id.CheckId.{CheckId}
use Rattle.pp_compile.specs.Guessed.{guess_of}
use Rattle.pp_query.specs.Demanded.{AllStand, IsDemanded}
use Rattle.pp_query.proofs.demanding.unfold_all.Given as goal

abbrev pub invariant-loop-it : goal.invariant-loop-it
invariant-loop-it l =
    (f : Function) (check : CheckId) → AllStand l.calls (guess_of l.fn.guess)
    → IsDemanded l.functions f check l.round (guess_of l.fn.guess)
    → AllStand l.calls (guess_of l.longer) × IsDemanded l.functions f check l.round (guess_of l.longer)
