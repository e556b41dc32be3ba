-- A move that takes what is on top stays in its frame.
use Rattle.std.proofs.Common.{◌≡◌, List, Option, Some, None, Ok, ap}
use Rattle.pp_prog.specs.declared.value.Value.{Value}
use Rattle.pp_eval.specs.Part.{Part, and_then, found}
use Rattle.pp_stack.specs.State.{State, parted, popped}

parted_here : (s new : State) (v : Value) (o : Option (List Value × Value))
    → (let r : Part (Value × State) = and_then (found o) (λ p. Ok (p.1, record s { temps = p.0 })) in r) ≡ Ok (v, new)
    → new.here ≡ s.here
parted_here s new v (Some p) is =
    let pair : (v, new) ≡ (p.1, record s { temps = p.0 }) = cc in ap (λ (q : Value × State). q.1.here) pair
parted_here s new v None is = cc

pub popped_here : (s new : State) (v : Value) → popped s ≡ Ok (v, new) → new.here ≡ s.here
popped_here s new v is = parted_here s new v (parted s.temps) is
