use Rattle.std.proofs.Common.{◌≡◌, ◌++◌, take}
use Rattle.pp_named_below.specs.Fields.{trees_among}
use Rattle.pp_named_below.proofs.fields.push_trees.Given as goal

abbrev pub invariant-loop-place : goal.invariant-loop-place
invariant-loop-place l = record { is : l.fields ≡ l.initial.fields ++ trees_among l.lit (take l.place l.symbols) }
