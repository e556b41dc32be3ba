use Rattle.std.proofs.Common.{drop, length, map}
use Rattle.pp_steps.specs.Patterns.{fit_fields, fitting}
use Rattle.pp_compile.proofs.Ahead.{IsAheadFit}
use Rattle.pp_compile.proofs.patterns.+fit.Given as goal

abbrev pub invariant-fit_fields-loop-i : goal.invariant-fit_fields-loop-i
invariant-fit_fields-loop-i l =
    IsAheadFit l.initial.work l.work l.initial.found l.found
    (fit_fields l.ctor 0 (map fitting l.patterns) (length l.initial.work.steps) l.value)
    (fit_fields l.ctor l.i (map fitting (drop l.i l.patterns)) (length l.work.steps) l.value)
