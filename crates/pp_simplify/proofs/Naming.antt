-- Names of steps, given one after another.
use Rattle.std.proofs.Common.{◌≡◌, ◌⊎◌, ℕ, zero, suc, Bool, true, false, List, [], ◌∷◌, ◌++◌, length}
use Rattle.std.proofs.Common.{slice_get, Option, Some, None, refl, sym, ap, ◌∙◌, subst, inl, inr}
use Rattle.std.specs.Prelude.{if◌then◌else◌, nat_eq}
use Rattle.std.proofs.lemmas.Bool.{eqb-true}
use Rattle.std.proofs.lemmas.Option.{none-some, same_Some}
use Rattle.pp_prog.specs.declared.id.CtorId.{CtorId}
use Rattle.pp_steps.specs.declared.step.Step.{Step}
use Rattle.pp_steps.specs.declared.step.Step.TheVariants as steps
use Rattle.pp_steps.specs.Compile.{number_or}
use Rattle.pp_simplify.specs.Folded.{field_of, source}
use Rattle.pp_simplify.specs.Names.{Names, name_or, named}

-- what stands behind one more element
pub get_push : {X : Type 0} (xs : List X) (y : X) (k : ℕ)
    → (slice_get (xs ++ y ∷ []) k ≡ slice_get xs k) ⊎ ((k ≡ length xs) × (slice_get (xs ++ y ∷ []) k ≡ Some y))
get_push [] y zero = inr (refl, refl)
get_push [] y (suc k) = inl refl
get_push (x ∷ xs) y zero = inl refl
get_push (x ∷ xs) y (suc k) = elim (get_push xs y k) [ inl e ↦ inl e | inr p ↦ inr (ap suc p.0, p.1) ]

-- what holds of each number with its name holds with one more name
pub named_push : (P : ℕ → ℕ → Type 0) (names : Names) (o : Option ℕ) → ((k : ℕ) → P k (named names k))
    → P (length names) (number_or (length names) o) → (k : ℕ) → P k (named (names ++ o ∷ []) k)
named_push P names o all here k = elim (get_push names o k) [
  | inl e ↦ subst (λ g. P k (name_or k g)) (sym e) (all k)
  | inr p ↦
      subst (λ g. P k (name_or k g)) (sym p.1)
      (subst (λ n. P n (number_or n o)) (sym p.0) here)
]

-- ---- where a name comes from

-- the step chooses, and both operands are number n
pub record IsChosen (t : Step) (n : ℕ) : Type 0 where
  pub test : ℕ
  pub is : t ≡ steps.Choose test n n

-- the step takes the field number n of what was made, whose constructor has that field
pub record IsField (news : List Step) (t : Step) (n : ℕ) : Type 0 where
  pub ctor : CtorId
  pub made : CtorId
  pub place : ℕ
  pub operand : ℕ
  pub fields : List ℕ
  pub is : t ≡ steps.CtorField ctor place operand
  pub same : ctor.0 ≡ made.0
  pub at : slice_get news operand ≡ Some (steps.Construct made fields)
  pub there : slice_get fields place ≡ Some n

-- the step with the number n has the value of the step behind these ones
abbrev pub IsSource : List Step → Step → ℕ → Type 0
IsSource news t n = IsChosen t n ⊎ IsField news t n

module _ (news : List Step) where
  is_chosen : (c a b n : ℕ) (t : Bool) → nat_eq a b ≡ t → (if t then Some a else None) ≡ Some n
      → IsSource news (steps.Choose c a b) n
  is_chosen c a b n true e is =
      let left = same_Some a n is in
      let right = sym (eqb-true a b e) ∙ left in
      inl (record { test = c; is = ap (λ x. steps.Choose c x b) left ∙ ap (λ x. steps.Choose c n x) right })
  is_chosen c a b n false e is = absurd (none-some n is)

  is_part : (c d : CtorId) (i a n : ℕ) (fields : List ℕ) (t : Bool) → nat_eq c.0 d.0 ≡ t
      → slice_get news a ≡ Some (steps.Construct d fields) → (if t then slice_get fields i else None) ≡ Some n
      → IsSource news (steps.CtorField c i a) n
  is_part c d i a n fields true e at is = inr (record {
    ctor = c;
    made = d;
    place = i;
    operand = a;
    fields = fields;
    is = refl;
    same = eqb-true c.0 d.0 e;
    at = at;
    there = is;
  })
  is_part c d i a n fields false e at is = absurd (none-some n is)

  is_field : (c : CtorId) (i a n : ℕ) (o : Option Step) → slice_get news a ≡ o → field_of c i o ≡ Some n
      → IsSource news (steps.CtorField c i a) n
  is_field c i a n (Some (steps.Construct d fields)) at is =
      is_part c d i a n fields (nat_eq c.0 d.0) refl at is
  is_field c i a n o at is = absurd (none-some n is)

  pub is_source : (t : Step) (n : ℕ) → source news t ≡ Some n → IsSource news t n
  is_source (steps.Choose c a b) n is = is_chosen c a b n (nat_eq a b) refl is
  is_source (steps.CtorField c i a) n is = is_field c i a n (slice_get news a) refl is
  is_source t n is = absurd (none-some n is)

  -- what holds of a step's own number, and of each source, holds of the number that stands for it
  pub source_or : (P : ℕ → Type 0) (k : ℕ) (t : Step) → P k → ((n : ℕ) → IsSource news t n → P n)
      → P (number_or k (source news t))
  source_or P k t own other = by (source news t) refl
    where
      by : (o : Option ℕ) → source news t ≡ o → P (number_or k o)
      by None e = own
      by (Some n) e = other n (is_source t n e)
