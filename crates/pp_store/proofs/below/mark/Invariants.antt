use Rattle.std.proofs.Common.{take}
use Rattle.pp_store.specs.Marks.{Marks}
use Rattle.pp_store.proofs.below.mark.Given as goal

abbrev pub invariant-loop-field : goal.invariant-loop-field
invariant-loop-field l = Marks (take l.field-index l.fields) l.initial.marks l.marks
