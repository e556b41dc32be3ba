-- What is left at the end of two lists: it tells nothing of type parameters, and lists of two lengths don't fit.
use Rattle.std.proofs.Common.{◌≡◌, ℕ, ◌≤◌, List, [], ◌∷◌, length, drop, map, min, refl, ap, sym, ◌∙◌, arith}
use Rattle.std.proofs.Common.{⊎_elim, ◌⊎◌}
use Rattle.std.proofs.lemmas.List.{drop_all}
use Rattle.std.specs.Prelude.{nat_eq, Bool, true, false, if◌then◌else◌}
use Rattle.pp_generic.specs.declared.expected.Expected.{Expected}
use Rattle.pp_generic.specs.declared.expected.Expected.TheVariants as expected
use Rattle.pp_generic.specs.Expected.{Found}
use Rattle.pp_generic.specs.Found.{Learning, learn_all, learn_root, learn_step, learn}
use Rattle.pp_typed.specs.declared.sort.GenericSort.{GenericSort}
use Rattle.pp_typed.specs.declared.sort.GenericSort.TheVariants.{Root, rolls-Root}
use Rattle.pp_typed.specs.declared.sort.GenericSort.TheOpen as layer
use Rattle.pp_typed.specs.declared.sort.GenericSort.TheFolds.{fold-roll-GenericSort}

none_left : (ls : List Learning) (found : Found) → learn_all ls [] found ≡ found
none_left [] found = refl
none_left (l ∷ ls) found = refl

at_most : (m n i : ℕ) → min m n ≤ i → (m ≤ i) ⊎ (n ≤ i)
at_most m n i h = search arith

pub learn_rest : (xs : List GenericSort) (ys : List Expected) (found : Found) (i : ℕ)
    → min (length xs) (length ys) ≤ i
    → learn_all (map learn (drop i xs)) (drop i ys) found ≡ found
learn_rest xs ys found i h =
    ⊎_elim (λ a. ap (λ l. learn_all (map learn l) (drop i ys) found) (drop_all i xs a))
    (λ b. ap (λ l. learn_all (map learn (drop i xs)) l found) (drop_all i ys b)
    ∙ none_left (map learn (drop i xs)) found)
    (at_most (length xs) (length ys) i h)

chosen : (b : Bool) (x y : Found) → b ≡ true → (if b then x else y) ≡ x
chosen true x y h = refl
chosen false x y h = cc

-- what two sorts of one root tell is what their arguments tell
pub learn_roots : (s : GenericSort) (e : Expected) (r q : ℕ) (xs : List GenericSort) (ys : List Expected) (found :
    Found)
    → s ≡ Root r xs → e ≡ expected.Root q ys → nat_eq r q ≡ true → learn s e found ≡ learn_all (map learn xs) ys found
learn_roots s e r q xs ys found is_s is_e same =
    ap (λ v. learn v e found) is_s ∙ ap (λ v. learn (Root r xs) v found) is_e
    ∙ ap (λ v. learn v (expected.Root q ys) found) (sym (rolls-Root r xs))
    ∙ ap (λ l. l (expected.Root q ys) found) (fold-roll-GenericSort Learning learn_step (layer.Root r xs))
    ∙ ap (λ o. learn_root r (map learn xs) o found) (expected.outs-Root q ys) ∙ chosen (nat_eq r q) _ _ same
