use Rattle.std.proofs.Common.{◌≡◌, ◌++◌, drop, map}
use Rattle.pp_declared.specs.WellFormed.{param_names}
use Rattle.pp_tree.specs.Shown.{param_of}
use Rattle.pp_declared.proofs.ctors.names_of.Given as goal

abbrev pub invariant-loop-param : goal.invariant-loop-param
invariant-loop-param l = param_names (map param_of l.params)
    ≡ l.names ++ param_names (map param_of (drop l.param-index l.params))
