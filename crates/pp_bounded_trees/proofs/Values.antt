-- The values of nodes: what more nodes leave, and the equation of a node.
use Rattle.std.proofs.Common.{◌≡◌, ℕ, zero, suc, ◌+◌, ◌<◌, Bool, List, [], ◌∷◌, ◌++◌, length, Option, refl, arith}
use Rattle.std.proofs.Common.{length-append}
use Rattle.pp_prog.specs.declared.value.Value.{Value}
use Rattle.pp_bounded_trees.specs.declared.arena.Node.{Node}
use Rattle.pp_bounded_trees.specs.Values.{value_at, value_among, values_after}

pub value_at_left : (xs ys : List (Option Value)) (k : ℕ) → k < length xs → value_at (xs ++ ys) k ≡ value_at xs k
value_at_left [] ys k lt = absurd (omega arith)
value_at_left (x ∷ xs) ys zero lt = refl
value_at_left (x ∷ xs) ys (suc k) lt = value_at_left xs ys k (omega arith)

pub value_at_next : (xs : List (Option Value)) (y : Option Value) → value_at (xs ++ y ∷ []) (length xs) ≡ y
value_at_next [] y = refl
value_at_next (x ∷ xs) y = value_at_next xs y

-- one more node at the end
pub values_push : (a : ℕ → Bool) (done : List (Option Value)) (nodes : List Node) (x : Node)
    → values_after a done (nodes ++ x ∷ [])
    ≡ values_after a done nodes ++ value_among a (values_after a done nodes) x.alternatives ∷ []
values_push a done [] x = refl
values_push a done (n ∷ nodes) x = values_push a (done ++ value_among a done n.alternatives ∷ []) nodes x

pub values_length : (a : ℕ → Bool) (done : List (Option Value)) (nodes : List Node)
    → length (values_after a done nodes) ≡ length done + length nodes
values_length a done [] = omega arith
values_length a done (n ∷ nodes) =
    let e = values_length a (done ++ value_among a done n.alternatives ∷ []) nodes in
    let l = length-append done (value_among a done n.alternatives ∷ []) in omega arith
