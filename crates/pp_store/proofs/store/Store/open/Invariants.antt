use Rattle.std.proofs.Common.{◌≡◌, ◌++◌, map, take}
use Rattle.pp_store.specs.declared.unload.Task.TheVariants.{Unload}
use Rattle.pp_store.proofs.store.Store.open.Given as goal

abbrev pub invariant-loop-field : goal.invariant-loop-field
invariant-loop-field l = l.tasks ≡ l.initial.tasks ++ map Unload (take l.field-index l.field-items)
