use Rattle.std.proofs.Common.{◌≡◌, [], drop}
use Rattle.pp_declared.specs.Shown.{def_ins}
use Rattle.pp_types.specs.Functions.{defs_after}
use Rattle.pp_types.proofs.defs.each_def.Given as goal

abbrev pub invariant-loop-i : goal.invariant-loop-i
invariant-loop-i l =
    defs_after l.names [] (def_ins l.defs) l.names.functions
    ≡ defs_after l.names l.done (def_ins (drop l.i l.defs)) (drop l.i l.names.functions)
