-- Lists of locals and of children.
use Rattle.std.proofs.Common.{◌≡◌, ℕ, zero, suc, List, [], ◌∷◌, length, drop, take, refl}
use Rattle.pp_typing.specs.declared.scope.Local.{Local}
use Rattle.pp_typing.specs.Views.{scope_of}

pub shown_drop : (i : ℕ) (ls : List Local) → drop i (scope_of ls) ≡ scope_of (drop i ls)
shown_drop zero ls = refl
shown_drop (suc i) [] = refl
shown_drop (suc i) (l ∷ ls) = shown_drop i ls

-- what stands before what is pushed stays before what is pushed then
pub front_trans : {X : Type 0} (a b c : List X) → take (length a) b ≡ a → take (length b) c ≡ b → take (length a) c ≡ a
front_trans [] b c h k = refl
front_trans (x ∷ a) [] c h k = cc
front_trans (x ∷ a) (y ∷ b) [] h k = cc
front_trans (x ∷ a) (y ∷ b) (z ∷ c) h k =
    let h2 : take (length a) b ≡ a = cc in
    let k2 : take (length b) c ≡ b = cc in
    let r = front_trans a b c h2 k2 in cc
