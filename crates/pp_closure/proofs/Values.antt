-- Values by what is known of them.
use Rattle.std.proofs.Common.{◌≡◌, ℕ, suc, Bool, true, false, List, [], ◌∷◌, Option, Some, None, length, map, refl}
use Rattle.std.proofs.Common.{sym, ap, ◌∙◌, subst, arith}
use Rattle.std.specs.Prelude.{MatchOption, if◌then◌else◌, nat_eq, slice_get}
use Rattle.std.proofs.lemmas.Bool.{and_parts, eqb-true}
use Rattle.std.proofs.lemmas.Option.{slice_get-map}
use Rattle.pp_prog.specs.declared.id.CtorId.{CtorId}
use Rattle.pp_prog.specs.declared.value.Value.{Value}
use Rattle.pp_prog.specs.declared.value.Value.TheOpen as layer
use Rattle.pp_prog.specs.declared.value.Value.TheVariants.{Bool as Truth, Tree, outs-Tree, rolls-Tree}
use Rattle.pp_prog.specs.declared.value.Value.TheViews.{out-Value, roll-Value, roll-out-Value}
use Rattle.pp_eval.specs.Part.{found}
use Rattle.pp_steps.specs.declared.step.Step.{Step}
use Rattle.pp_steps.specs.declared.step.Step.TheVariants as steps
use Rattle.pp_steps.proofs.Bits.{bit_truth}
use Rattle.pp_steps.specs.Meaning.{Missing, Values, bit, ctor_field, ctor_field_in, has_ctor, has_ctor_in, value_or}
use Rattle.pp_closure.specs.Steps.{field_in}
use Rattle.pp_closure.specs.Valuation.{Valuation}

pub bit_of : (v : Value) (b : Bool) → v ≡ Truth b → bit v ≡ b
bit_of v b e = ap bit e ∙ bit_truth b

-- the value is a tree of the constructor
pub record IsTree (c : CtorId) (n : ℕ) (v : Value) : Type 0 where
  pub fields : List Value
  pub is : v ≡ Tree c fields
  pub count : nat_eq n (length fields) ≡ true

same_ctor : (c d : CtorId) → nat_eq c.0 d.0 ≡ true → d ≡ c
same_ctor c d h = let mk : ℕ → CtorId = λ n. record { 0 = n } in sym (ap mk (eqb-true c.0 d.0 h))

tree_in : (c : CtorId) (n : ℕ) (v : Value) (o : layer.Value-F Value) → out-Value v ≡ o → has_ctor_in c n o ≡ true
    → IsTree c n v
tree_in c n v (layer.Int m) e h = absurd (cc)
tree_in c n v (layer.Bool b) e h = absurd (cc)
tree_in c n v (layer.Tree d fields) e h =
    let both = and_parts (nat_eq c.0 d.0) _ h in
    record {
      fields = fields;
      is = sym (roll-out-Value v) ∙ ap roll-Value e ∙ rolls-Tree d fields
          ∙ ap (λ (a : CtorId). Tree a fields) (same_ctor c d both.0);
      count = both.1;
    }

pub tree_of : (c : CtorId) (n : ℕ) (v : Value) → has_ctor c n v ≡ true → IsTree c n v
tree_of c n v h = tree_in c n v (out-Value v) refl h

not_suc : (n : ℕ) → 0 ≡ suc n → ⊥
not_suc n e = omega (arith, e)

no_fields : (xs : List Value) → nat_eq 0 (length xs) ≡ true → xs ≡ []
no_fields [] h = refl
no_fields (x ∷ xs) h = absurd (not_suc (length xs) (eqb-true 0 (length (x ∷ xs)) h))

-- a value of a constructor without fields
pub constant_is : (c : CtorId) (n : ℕ) (v : Value) → nat_eq n 0 ≡ true → has_ctor c n v ≡ true
    → v ≡ Tree (record { 0 = c.0 }) []
constant_is c n v none h =
    let t = tree_of c n v h in
    let zero_fields : nat_eq 0 (length t.fields) ≡ true =
    subst (λ k. nat_eq k (length t.fields) ≡ true) (eqb-true n 0 none) t.count in
    t.is ∙ ap (Tree c) (no_fields t.fields zero_fields)

pub constant_zero : (c : CtorId) (n : ℕ) (v : Value) → n ≡ 0 → has_ctor c n v ≡ true → v ≡ Tree (record { 0 = c.0 }) []
constant_zero c n v none h = constant_is c n v (ap (λ k. nat_eq k 0) none) h

-- the constructor that a tree has
pub has_own : (c : CtorId) (xs : List Value) (v : Value) → v ≡ Tree c xs → has_ctor c (length xs) v ≡ true
has_own c xs v e = ap (has_ctor c (length xs)) e ∙ ap (has_ctor_in c (length xs)) (outs-Tree c xs) ∙ grind arith

-- the field of a tree that is made
pub field_of : (missing : Missing) (ρ : Values) (c d : CtorId) (i : ℕ) (fields : List ℕ) (v : Value) (f : ℕ)
    → v ≡ Tree d (map ρ fields) → nat_eq d.0 c.0 ≡ true → slice_get fields i ≡ Some f → ctor_field missing c i v ≡ ρ f
field_of missing ρ c d i fields v f e same at =
    let here : slice_get (map ρ fields) i ≡ Some (ρ f) =
    slice_get-map ρ fields i ∙ ap (λ (o : Option ℕ). mapped o) at in
    ap (λ x. ctor_field_in (missing.field c i) c i (out-Value x)) e
    ∙ ap (ctor_field_in (missing.field c i) c i) (outs-Tree d (map ρ fields))
    ∙ ap (λ b. if b then value_or (missing.field c i) (found (slice_get (map ρ fields) i)) else missing.field c i)
    (turned c.0 d.0 same)
    ∙ ap (λ o. value_or (missing.field c i) (found o)) here
  where
    mapped : Option ℕ → Option Value
    mapped None = None
    mapped (Some k) = Some (ρ k)

    turned : (m n : ℕ) → nat_eq n m ≡ true → nat_eq m n ≡ true
    turned m n h = subst (λ k. nat_eq m k ≡ true) (sym (eqb-true n m h)) (grind arith)

-- what is said of an item is so where there is one
pub each_item : {A : Type 0} (P : A → Type 0) (o : Option A) → ((x : A) → o ≡ Some x → P x)
    → MatchOption o (Unit {0}) P
each_item P None h = tt
each_item P (Some x) h = h x refl

module _ (ss : List Step) (v : Valuation ss) where
  -- the field at a place of a step that makes the constructor
  pub field_in_is : (c : CtorId) (i k f : ℕ) (o : Option Step) → slice_get ss k ≡ o → field_in c i o ≡ Some f
      → ctor_field v.missing c i (v.values k) ≡ v.values f
  field_in_is c i k f (Some (steps.Construct d fields)) at is =
      let t = taken (nat_eq d.0 c.0) (slice_get fields i) f is in
      field_of v.missing v.values c d i fields (v.values k) f (v.does k (steps.Construct d fields) at) t.0 t.1
    where
      taken : (b : Bool) (o : Option ℕ) (f : ℕ) → (if b then o else None) ≡ Some f → (b ≡ true) × (o ≡ Some f)
      taken true o f h = (refl, h)
      taken false o f h = absurd (cc)
  field_in_is c i k f o at is = absurd (cc)
