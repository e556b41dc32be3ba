-- Where a `decreases` stands behind a requirement.
use Rattle.std.proofs.Common.{◌≡◌, ℕ, ◌<◌, length, arith, List, [], ◌∷◌, refl, Some, None}
use Rattle.pp_tree.specs.Plain.{Tree}
use Rattle.pp_grammar.specs.Joining.{late_behind}
use Rattle.pp_parse_state.specs.Values.{stacked}

behind_more : {B : Type 0} (f : B → Tree) (xs : List B) (y : Tree) (ys : List Tree) (at : ℕ)
    → late_behind (stacked f xs (y ∷ ys)) at ≡ Some at
behind_more f [] y ys at = refl
behind_more f (x ∷ xs) y ys at = behind_more f xs (f x) (y ∷ ys) at

pub behind_none : {B : Type 0} (f : B → Tree) (xs : List B) (at : ℕ) → length xs ≡ 0
    → late_behind (stacked f xs []) at ≡ None
behind_none f [] at none = refl
behind_none f (x ∷ xs) at none = cc

pub behind_some : {B : Type 0} (f : B → Tree) (xs : List B) (at : ℕ) → 0 < length xs
    → late_behind (stacked f xs []) at ≡ Some at
behind_some f [] at some = absurd (omega arith)
behind_some f (x ∷ xs) at some = behind_more f xs (f x) [] at
