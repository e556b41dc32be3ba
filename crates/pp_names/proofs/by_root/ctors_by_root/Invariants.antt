use Rattle.std.proofs.Common.{take}
use Rattle.pp_names.specs.Find.{owners_of}
use Rattle.pp_names.specs.Places.{lists_of, AreGrouped}
use Rattle.pp_names.proofs.by_root.ctors_by_root.Given as goal

abbrev pub invariant-loop-i : goal.invariant-loop-i
invariant-loop-i l = AreGrouped (lists_of l.lists) l.roots (take l.i (owners_of l.ctors))
