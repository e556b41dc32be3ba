-- What tests say.
use Rattle.std.proofs.Common.{ℕ, ◌≡◌, ◌≤◌, ◌⊎◌, inl, inr, refl, sym, ap, ◌∙◌, arith, Bool, true, false, cond, not, List}
use Rattle.std.proofs.Common.{[], ◌∷◌, Option, Some}
use Rattle.std.specs.Prelude.{◌&&◌, ◌||◌, ◌==◌, nat_le, nat_lt, find}
use Rattle.std.proofs.lemmas.Bool.Decides.{nat_tests}
use Rattle.pp_tokens.specs.Characters.{begins}
use Rattle.pp_tokens.specs.Words.{spells}

pub and_left : (a b : Bool) → (a && b) ≡ true → a ≡ true
and_left true b h = refl
and_left false b h = cc

pub and_right : (a b : Bool) → (a && b) ≡ true → b ≡ true
and_right true b h = h
and_right false b h = cc

pub and_both : (a b : Bool) → a ≡ true → b ≡ true → (a && b) ≡ true
and_both a b h g = rw (h, g)

pub not_false : (a : Bool) → not a ≡ true → a ≡ false
not_false true h = cc
not_false false h = refl

pub not_both : (a b : Bool) → (a && b) ≡ false → a ≡ true → b ≡ false
not_both true b h g = h
not_both false b h g = cc

pub either : (a b : Bool) → a ≡ false → b ≡ false → (a || b) ≡ false
either a b h g = rw (h, g)

pub same_number : (a b : ℕ) → (a == b) ≡ true → a ≡ b
same_number a b h = grind (arith, nat_tests)

pub same_text : (cs bs : List ℕ) → spells cs bs ≡ true → cs ≡ bs
same_text [] [] h = refl
same_text [] (b ∷ bs) h = cc
same_text (c ∷ cs) [] h = cc
same_text (c ∷ cs) (b ∷ bs) h =
    ap (λ (x : ℕ). x ∷ cs) (same_number c b (and_left (c == b) (spells cs bs) h))
    ∙ ap (λ (l : List ℕ). b ∷ l) (same_text cs bs (and_right (c == b) (spells cs bs) h))

pub equal_number : (c : ℕ) → (c == c) ≡ true
equal_number c = grind (arith, nat_tests)

pub spells_itself : (bs : List ℕ) → spells bs bs ≡ true
spells_itself [] = refl
spells_itself (b ∷ bs) = and_both (b == b) (spells bs bs) (equal_number b) (spells_itself bs)

-- what is found passes
found_one : {X : Type 0} (p : X → Bool) (y x : X) (b : Bool) → p y ≡ b → (r : Option X) → (r ≡ Some x → p x ≡ true)
    → cond b (Some y) r ≡ Some x → p x ≡ true
found_one p y x true e r later h = let same : y ≡ x = cc in ap p (sym same) ∙ e
found_one p y x false e r later h = later h

pub found_passes : {X : Type 0} (p : X → Bool) (xs : List X) (x : X) → find p xs ≡ Some x → p x ≡ true
found_passes p [] x h = cc
found_passes p (y ∷ ys) x h = found_one p y x (p y) refl (find p ys) (found_passes p ys x) h

pub at_most : (a b : ℕ) → nat_le a b ≡ true → a ≤ b
at_most a b h = grind (arith, nat_tests)

pub not_above : (a b : ℕ) → nat_lt a b ≡ false → b ≤ a
not_above a b h = grind (arith, nat_tests)

pub one_of : (a b : Bool) → (a || b) ≡ true → (a ≡ true) ⊎ (b ≡ true)
one_of true b h = inl refl
one_of false b h = inr h

-- two characters begin the characters
pub two_first : (a b c : ℕ) (cs : List ℕ) → begins a b c cs ≡ true → (r : List ℕ) × (c ∷ cs ≡ a ∷ b ∷ r)
two_first a b c [] h = let e = and_right (c == a) false h in cc
two_first a b c (d ∷ r) h = (
  r,
  ap (λ (x : ℕ). x ∷ d ∷ r) (same_number c a (and_left (c == a) (d == b) h))
      ∙ ap (λ (x : ℕ). a ∷ x ∷ r) (same_number d b (and_right (c == a) (d == b) h)),
)
