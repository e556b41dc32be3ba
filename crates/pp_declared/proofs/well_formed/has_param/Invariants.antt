use Rattle.std.proofs.Common.{◌≡◌, drop, map}
use Rattle.pp_declared.specs.WellFormed.{param_names}
use Rattle.pp_names.specs.Places.{has}
use Rattle.pp_tree.specs.Shown.{param_of}
use Rattle.pp_declared.proofs.well_formed.has_param.Given as goal

abbrev pub invariant-loop-param : goal.invariant-loop-param
invariant-loop-param l = has l.name (param_names (map param_of l.params))
    ≡ has l.name (param_names (map param_of (drop l.param-index l.params)))
