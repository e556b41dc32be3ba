use Rattle.std.proofs.Common.{◌≡◌, reverse, take, drop}
use Rattle.pp_store.proofs.unload.popped.Given as goal

abbrev pub invariant-loop : goal.invariant-loop
invariant-loop g l =
    let before = reverse l.initial.values in
    (l.fields ≡ take l.counter before) × (reverse l.values ≡ drop l.counter before)
