use Rattle.std.proofs.Common.{◌≡◌, ◌++◌, map, take}
use Rattle.pp_store.specs.Work.{Put, steps_of}
use Rattle.pp_store.proofs.load.push_fields.Given as goal

abbrev pub invariant-loop-field : goal.invariant-loop-field
invariant-loop-field l = steps_of l.pending ≡ steps_of l.initial.pending ++ map Put (take l.field-index l.fields)
