-- Trees and their fields.
use Rattle.std.proofs.Common.{◌≡◌, ◌+◌, ℕ, suc, Bool, true, List, [], ◌∷◌, Some, length, refl, sym, ap, ◌∙◌}
use Rattle.std.proofs.Common.{subst, arith}
use Rattle.std.specs.Prelude.{if◌then◌else◌, nat_eq, slice_get}
use Rattle.std.proofs.lemmas.Bool.{eqb-true}
use Rattle.pp_prog.specs.declared.id.CtorId.{CtorId}
use Rattle.pp_prog.specs.declared.value.Value.{Value}
use Rattle.pp_prog.specs.declared.value.Value.TheOpen as layer
use Rattle.pp_prog.specs.declared.value.Value.TheVariants.{Tree, outs-Tree}
use Rattle.pp_prog.specs.declared.value.Value.TheViews.{out-Value}
use Rattle.pp_eval.specs.Part.{found}
use Rattle.pp_steps.specs.Meaning.{Missing, ctor_field, ctor_field_in, has_ctor, value_or}
use Rattle.pp_closure.specs.Steps.{AreFields}
use Rattle.pp_closure.proofs.Values.{tree_of}

abbrev fields_in : layer.Value-F Value → List Value
fields_in (layer.Int n) = []
fields_in (layer.Bool b) = []
fields_in (layer.Tree c fields) = fields

-- one tree has one list of fields
pub same_fields : (c d : CtorId) (xs ys : List Value) → Tree c xs ≡ Tree d ys → xs ≡ ys
same_fields c d xs ys e =
    sym (ap fields_in (outs-Tree c xs)) ∙ ap (λ (v : Value). fields_in (out-Value v)) e ∙ ap fields_in (outs-Tree d ys)

field_at : (missing : Missing) (c : CtorId) (v : Value) (fs : List Value) (i : ℕ) (f : Value) → v ≡ Tree c fs
    → slice_get fs i ≡ Some f → ctor_field missing c i v ≡ f
field_at missing c v fs i f e at =
    let same : nat_eq c.0 c.0 ≡ true = grind arith in
    ap (λ x. ctor_field_in (missing.field c i) c i (out-Value x)) e
    ∙ ap (ctor_field_in (missing.field c i) c i) (outs-Tree c fs)
    ∙ ap (λ (b : Bool). if b then value_or (missing.field c i) (found (slice_get fs i)) else missing.field c i) same
    ∙ ap (λ o. value_or (missing.field c i) (found o)) at

fields_are : (missing : Missing) (c : CtorId) (v : Value) (k : ℕ) (fs xs : List Value)
    → ((i : ℕ) (f : Value) → slice_get fs i ≡ Some f → ctor_field missing c (k + i) v ≡ f) → length xs ≡ length fs
    → AreFields missing c v k xs → xs ≡ fs
fields_are missing c v k [] [] at e are = refl
fields_are missing c v k [] (x ∷ xs) at e are = absurd (omega (arith, e))
fields_are missing c v k (f ∷ fs) [] at e are = absurd (omega (arith, e))
fields_are missing c v k (f ∷ fs) (x ∷ xs) at e are =
    let here : k + 0 ≡ k = omega arith in
    let first : ctor_field missing c k v ≡ f = subst (λ j. ctor_field missing c j v ≡ f) here (at 0 f refl) in
    let rest = fields_are missing c v (suc k) fs xs (behind k fs at) (omega (arith, e)) are.1 in
    ap (λ y. y ∷ xs) (sym are.0 ∙ first) ∙ ap (λ ys. f ∷ ys) rest
  where
    behind : (k : ℕ) (fs : List Value)
        → ((i : ℕ) (g : Value) → slice_get (f ∷ fs) i ≡ Some g → ctor_field missing c (k + i) v ≡ g) → (i : ℕ)
        (g : Value) → slice_get fs i ≡ Some g → ctor_field missing c (suc k + i) v ≡ g
    behind k fs at i g is =
        let there : k + suc i ≡ suc k + i = omega arith in
        subst (λ j. ctor_field missing c j v ≡ g) there (at (suc i) g is)

plus_none : (i : ℕ) → i ≡ 0 + i
plus_none i = omega arith

-- a value that has the constructor and these fields is made of them
pub whole_is : (missing : Missing) (c : CtorId) (v : Value) (xs : List Value) → has_ctor c (length xs) v ≡ true
    → AreFields missing c v 0 xs → v ≡ Tree c xs
whole_is missing c v xs has are =
    let t = tree_of c (length xs) v has in
    let many : length xs ≡ length t.fields = eqb-true (length xs) (length t.fields) t.count in
    t.is
    ∙ ap (Tree c)
    (sym (fields_are missing c v 0 t.fields xs (λ i f at. subst (λ j. ctor_field missing c j v ≡ f) (plus_none i) (field_at missing c v t.fields i f t.is at)) many are))
