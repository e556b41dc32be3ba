use Rattle.std.proofs.Common.{◌≡◌, [], take, drop, map}
use Rattle.pp_declared.specs.WellFormed.{params_new_after, param_names}
use Rattle.pp_tree.specs.Shown.{param_of}
use Rattle.pp_declared.proofs.well_formed.check_params.Given as goal

abbrev pub invariant-loop-i : goal.invariant-loop-i
invariant-loop-i l =
    params_new_after l.source [] (map param_of l.params)
    ≡ params_new_after l.source (param_names (map param_of (take l.i l.params))) (map param_of (drop l.i l.params))
