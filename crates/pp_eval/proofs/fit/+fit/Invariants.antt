use Rattle.std.proofs.Common.{◌≡◌, drop, map}
use Rattle.pp_prog.specs.Fits.{bound_before, fit, fit_fields}
use Rattle.pp_eval.proofs.fit.+fit.Given as goal

abbrev pub invariant-bind_fields-loop-i : goal.invariant-bind_fields-loop-i
invariant-bind_fields-loop-i l =
    fit_fields (map fit l.patterns) l.values ≡ bound_before l.bound
    (fit_fields (map fit (drop l.i l.patterns)) (drop l.i l.values))
