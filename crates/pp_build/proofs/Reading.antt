-- Registers that are read one after another.
use Rattle.std.proofs.Common.{◌≡◌, ℕ, zero, suc, ◌+◌, ◌<◌, List, [], ◌∷◌, ◌++◌, length, take, get_or, Some, slice_get}
use Rattle.std.proofs.Common.{arith}
use Rattle.std.proofs.lemmas.List.{take_more}
use Rattle.pp_domain.specs.declared.symbol.Symbol.{Symbol}
use Rattle.pp_steps.specs.Reads.{Below}
use Rattle.pp_build.specs.Registers.{AreAt}

pub below_at : (n : ℕ) (ks : List ℕ) (i : ℕ) → Below n ks → i < length ks → get_or ks i 0 < n
below_at n [] i below lt = absurd (omega arith)
below_at n (k ∷ ks) zero below lt = below.0
below_at n (k ∷ ks) (suc i) below lt = below_at n ks i below.1 (omega arith)

module _ {T : Type 0} (rs : List (Symbol T)) where
  are_at_push : (ks : List ℕ) (xs : List (Symbol T)) (k : ℕ) (x : Symbol T) → AreAt rs ks xs
      → slice_get rs k ≡ Some x → AreAt rs (ks ++ k ∷ []) (xs ++ x ∷ [])
  are_at_push [] [] k x are at = (at, tt)
  are_at_push [] (y ∷ ys) k x are at = absurd are
  are_at_push (j ∷ ks) [] k x are at = absurd are
  are_at_push (j ∷ ks) (y ∷ ys) k x are at = (are.0, are_at_push ks ys k x are.1 at)

  pub are_at_turn : (ks : List ℕ) (i : ℕ) (xs ys : List (Symbol T)) (x : Symbol T) → i < length ks
      → AreAt rs (take i ks) xs → slice_get rs (get_or ks i 0) ≡ Some x → ys ≡ xs ++ x ∷ []
      → AreAt rs (take (i + 1) ks) ys
  are_at_turn ks i xs ys x lt are at new =
      rw (new, take_more ks i 0 lt) (are_at_push (take i ks) xs (get_or ks i 0) x are at)
