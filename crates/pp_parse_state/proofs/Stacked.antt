-- Lists that grow at their end.
use Rattle.std.proofs.Common.{◌≡◌, List, [], ◌∷◌, ◌++◌, refl}
use Rattle.pp_parse_state.specs.Values.{stacked}

pub stacked_push : {A B : Type 0} (f : A → B) (xs : List A) (x : A) (ys : List B)
    → stacked f (xs ++ x ∷ []) ys ≡ f x ∷ stacked f xs ys
stacked_push f [] x ys = refl
stacked_push f (z ∷ zs) x ys = stacked_push f zs x (f z ∷ ys)
