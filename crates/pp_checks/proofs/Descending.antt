-- While the checks that are plain descents are marked.
use Rattle.std.proofs.Common.{◌≡◌, ◌↔◌, ◌⊎◌, ◌<◌, ◌≤◌, ◌+◌, ℕ, zero, suc, Bool, true, false, List, [], ◌∷◌, length}
use Rattle.std.proofs.Common.{replicate, get_or, Some, slice_get, sym, ap, ◌∙◌, subst, arith, inl, inr, ⊎_elim}
use Rattle.std.proofs.Common.{Contains, IsTrue}
use Rattle.std.proofs.lemmas.Bool.Decides.{eqb_tells}
use Rattle.std.proofs.lemmas.List.{length-replicate}
use Rattle.std.proofs.lemmas.Option.{slice_get_within}
use Rattle.pp_prog.specs.declared.expr.Function.{Function}
use Rattle.pp_graph.specs.Rows.{marked}
use Rattle.pp_checks.proofs.PlainDescents.{descent_found, found_descends}
use Rattle.pp_checks.specs.Plain.{IsPlain}
use Rattle.pp_checks.specs.Marks.{plain_descents}

-- check c is a plain descent of one of the first n functions
abbrev pub IsPlainBelow : List Function → ℕ → ℕ → Type 0
IsPlainBelow functions n c =
    (f : ℕ) × (function : Function) × (f < n) × (slice_get functions f ≡ Some function) × Contains (plain_descents
    functions function) c

-- the marks of the first m checks are at the plain descents of the first n functions
pub record MarkPlain (functions : List Function) (n m : ℕ) (marks : List Bool) : Type 0 where
  pub size : length marks ≡ m
  pub each : (c : ℕ) → c < m → IsTrue (marked marks c) ↔ IsPlainBelow functions n c

-- the item at a place
pub get_at : {A : Type 0} (xs : List A) (i : ℕ) (x : A) → i < length xs → x ≡ get_or xs i x → slice_get xs i ≡ Some x
get_at [] i x lt is = absurd (omega arith)
get_at (y ∷ xs) zero x lt is = ap Some (sym is)
get_at (y ∷ xs) (suc i) x lt is = get_at xs i x (omega arith) is

unmarked_all : (n c : ℕ) → marked (replicate n false) c ≡ true → ⊥
unmarked_all zero c e = let no : false ≡ true = e in cc
unmarked_all (suc n) zero e = let no : false ≡ true = e in cc
unmarked_all (suc n) (suc c) e = unmarked_all n c e

pub none_plain : (functions : List Function) (n : ℕ) → MarkPlain functions 0 n (replicate n false)
none_plain functions n = record {
  size = length-replicate n false;
  each = λ c lt. (λ e. absurd (unmarked_all n c e), λ p. absurd (omega (arith, p.2)));
}

module _ (functions : List Function) (i : ℕ) where
  earlier : (c : ℕ) → IsPlainBelow functions i c → IsPlainBelow functions (i + 1) c
  earlier c p = (p.0, p.1, omega (arith, p.2), p.3, p.4)

  last_or : (k : ℕ) → k < i + 1 → (k < i) ⊎ (k ≡ i)
  last_or k less = elim (eqb_tells k i) [ inl h ↦ inr h.1 | inr h ↦ inl (omega (arith, h.1)) ]

  pub more_plain : (f : Function) (n : ℕ) (old new : List Bool) (found : List ℕ) → i < length functions
      → f ≡ get_or functions i f → found ≡ plain_descents functions f → MarkPlain functions i n old
      → length new ≡ length old → ((c : ℕ) → c < length old → IsTrue (marked new c) ↔ (IsTrue (marked old c) ⊎
      Contains found c)) → MarkPlain functions (i + 1) n new
  more_plain f n old new found lt is all m size each = record {
    size = size ∙ m.size;
    each = λ c inside. let e = each c (omega (arith, m.size, inside)) in (
      λ t. ⊎_elim (λ o. earlier c ((m.each c inside).0 o)) (λ h. (
        i,
        f,
        omega arith,
        get_at functions i f lt is,
        subst (λ l. Contains l c) all h,
      )) (e.0 t),
      λ p. e.1 (by c inside p (last_or p.0 p.2)),
    );
  }
    where
      by : (c : ℕ) → c < n → (p : IsPlainBelow functions (i + 1) c) → (p.0 < i) ⊎ (p.0 ≡ i)
          → IsTrue (marked old c) ⊎ Contains found c
      by c inside p (inl before) = inl ((m.each c inside).1 (p.0, p.1, before, p.3, p.4))
      by c inside p (inr here) =
          let same : Some p.1 ≡ Some f = sym p.3 ∙ ap (slice_get functions) here ∙ get_at functions i f lt is in
          let function : p.1 ≡ f = (cc) in
          inr (subst (λ l. Contains l c) (ap (plain_descents functions) function ∙ sym all) p.4)

pub all_plain : (functions : List Function) (n m : ℕ) (marks : List Bool) → length functions ≤ n
    → MarkPlain functions n m marks → (c : ℕ) → c < m → IsTrue (marked marks c) ↔ IsPlain functions c
all_plain functions n m marks over all c inside = (
  λ t. let p = (all.each c inside).0 t in (p.0, p.1, p.3, found_descends functions p.1 c p.4),
  λ p. (all.each c inside).1 (
    p.0,
    p.1,
    omega (arith, over, slice_get_within functions p.0 p.1 p.2),
    p.2,
    descent_found functions p.1 c p.3,
  ),
)
