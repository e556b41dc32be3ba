use Rattle.std.proofs.Common.{Contains, take}
use Rattle.pp_store.specs.Values.{value_of, values_of}
use Rattle.pp_store.proofs.store.Store.is_one_of.Given as goal

abbrev pub invariant-loop-field : goal.invariant-loop-field
invariant-loop-field l =
    Contains (values_of l.self (take l.field-index l.fields)) (value_of l.self l.a) → ⊥
