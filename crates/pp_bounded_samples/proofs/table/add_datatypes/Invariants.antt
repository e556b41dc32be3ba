use Rattle.std.proofs.Common.{◌≡◌, ◌++◌, map, take}
use Rattle.pp_bounded_samples.specs.Sample.{datatype_of}
use Rattle.pp_bounded_samples.proofs.table.add_datatypes.Given as goal

abbrev pub invariant-loop-first : goal.invariant-loop-first
invariant-loop-first l =
    l.datatypes ≡ l.fn.datatypes ++ map (λ b. datatype_of l.name b.0 b.1) (take l.first-index l.blocks)
