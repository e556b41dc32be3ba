use Rattle.std.proofs.Common.{◌≡◌, map, take}
use Rattle.pp_prog.specs.Values.{greatest}
use Rattle.pp_bounded_trees.specs.Arena.{height_of}
use Rattle.pp_bounded_trees.proofs.construct.highest.Given as goal

abbrev pub invariant-loop-field : goal.invariant-loop-field
invariant-loop-field l = l.most ≡ greatest (map height_of (take l.field-index l.fields))
