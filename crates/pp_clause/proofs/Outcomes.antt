-- What a call answers, once more and with a fact in place of a stronger one.
use Rattle.std.proofs.Common.{Option, Some, None, Result, Ok, Err}
use Rattle.std.specs.Prelude.{IfOk, IfSome, IfNone}

pub none_weaker : {X E : Type 0} (r : Result (Option X) E) (P Q : Type 0) → (P → Q) → IfOk r (λ o. IfNone o P)
    → IfOk r (λ o. IfNone o Q)
none_weaker (Ok None) P Q f h = f h
none_weaker (Ok (Some x)) P Q f h = tt
none_weaker (Err e) P Q f h = tt

pub some_weaker : {X E : Type 0} (r : Result (Option X) E) (P Q R : X → Type 0) → ((x : X) → P x → Q x → R x)
    → IfOk r (λ o. IfSome o P) → IfOk r (λ o. IfSome o Q) → IfOk r (λ o. IfSome o R)
some_weaker (Ok None) P Q R f h k = tt
some_weaker (Ok (Some x)) P Q R f h k = f x h k
some_weaker (Err e) P Q R f h k = tt
