-- Where what is chosen and what is answered has its sort, so has the value of each step.
use Rattle.std.proofs.Common.{◌≡◌, ◌<◌, ◌⊎◌, inl, inr, ℕ, zero, suc, ◌+◌, Bool, true, false, List, [], ◌∷◌, length, map}
use Rattle.std.proofs.Common.{Option}
use Rattle.std.proofs.Common.{Some, None, refl, sym, ap, ◌∙◌, subst, arith}
use Rattle.std.specs.Prelude.{nat_eq, if◌then◌else◌, slice_get, slice_index_or}
use Rattle.std.proofs.lemmas.Bool.{and_from, and_parts, cases_lt, eq-eqb, eqb-true}
use Rattle.pp_prog.specs.declared.expr.Function.{Function}
use Rattle.pp_prog.specs.declared.id.CtorId.{CtorId}
use Rattle.pp_prog.specs.declared.id.DataId.{DataId}
use Rattle.pp_prog.specs.declared.sort.Sort.{Sort}
use Rattle.pp_prog.specs.declared.sort.Sort.TheVariants as sort
use Rattle.pp_prog.specs.declared.types.Ctor.{Ctor}
use Rattle.pp_prog.specs.declared.types.Datatype.{Datatype}
use Rattle.pp_prog.specs.declared.types.TypeTable.{TypeTable}
use Rattle.pp_prog.specs.declared.value.Value.{Value}
use Rattle.pp_prog.specs.declared.value.Value.TheVariants.{Int, Bool as Truth, Tree, outs-Tree}
use Rattle.pp_prog.specs.ExprSorts.{field_of_data, field_sort}
use Rattle.pp_prog.specs.Sorts.{has_sort, have_sorts}
use Rattle.pp_prog.specs.Table.{is_sort}
use Rattle.pp_prog.proofs.Fields.{fields_sorted, only_ctor}
use Rattle.pp_prog.proofs.Values.{ctor_same}
use Rattle.pp_prog.proofs.ValueSorts.{Has, Have, IsTree, have_at, int_has, tree_has_sort, tree_value, truth_has}
use Rattle.pp_eval.specs.Meaning.{field, field_in}
use Rattle.pp_eval.specs.Part.{found}
use Rattle.pp_steps.specs.declared.step.OpenCall.{OpenCall}
use Rattle.pp_steps.specs.declared.step.Step.{Step}
use Rattle.pp_steps.specs.declared.step.Step.TheVariants as steps
use Rattle.pp_steps.specs.Frames.{numbers, result_of}
use Rattle.pp_steps.specs.Guesses.{params_of}
use Rattle.pp_steps.specs.Meaning.{Missing, Values, answer_of, bit, ctor_field, ctor_field_in, value_or}
use Rattle.pp_steps.specs.Reads.{AllRead, Below, Reads}
use Rattle.pp_steps.specs.Sorted.{AllSorted, Constructs, IsSorted, Selects, SelectsOnly, Sorts}
use Rattle.pp_steps_exist.proofs.Solve.{answer_or, set, set_here, set_less, solved, value}
use Rattle.pp_guess_steps.specs.Laws.{AnswersHaveSorts, FieldsHaveSorts}
use Rattle.pp_guess_steps.proofs.Labels.{HasLabels, IsLabelled, Labelled}
use Rattle.pp_guess_steps.proofs.OperatorSorts.{applied_gives, unary_gives}

-- ---- the arguments

-- the values at their places have the sorts of their numbers
pub value_at_has : (types : TypeTable) (σ : Sorts) (ss : List Sort) (vs : List Value) (j k : ℕ) → map σ (numbers j ss)
    ≡ ss
    → have_sorts types.ctors vs ss ≡ true → k < length vs
    → Has types.ctors (σ (j + k)) (slice_index_or vs k (Truth false))
value_at_has types σ [] [] j k e h lt = absurd (omega (arith, lt))
value_at_has types σ [] (v ∷ vs) j k e h lt = absurd (cc)
value_at_has types σ (s ∷ ss) [] j k e h lt = absurd (omega (arith, lt))
value_at_has types σ (s ∷ ss) (v ∷ vs) j zero e h lt =
    let first : σ j ≡ s = cc in
    subst (λ i. Has types.ctors (σ i) v) (plus_none j)
    (subst (λ r. Has types.ctors r v) (sym first) (and_parts (has_sort types.ctors v s) _ h).0)
  where
    plus_none : (j : ℕ) → j ≡ j + 0
    plus_none j = omega arith
value_at_has types σ (s ∷ ss) (v ∷ vs) j (suc k) e h lt =
    let rest : map σ (numbers (suc j) ss) ≡ ss = cc in
    subst (λ i. Has types.ctors (σ i) (slice_index_or vs k (Truth false))) (plus_suc j k)
    (value_at_has types σ ss vs (suc j) k rest (and_parts (has_sort types.ctors v s) _ h).1 (less k (length vs) lt))
  where
    plus_suc : (j k : ℕ) → suc j + k ≡ j + suc k
    plus_suc j k = omega arith

    less : (k n : ℕ) → suc k < suc n → k < n
    less k n lt = omega (arith, lt)

-- values that have their sorts, by their numbers
pub all_have : (types : TypeTable) (σ : Sorts) (k : ℕ) (ns : List ℕ) (ρ : Values) → Below k ns
    → ((i : ℕ) → i < k → Has types.ctors (σ i) (ρ i)) → Have types.ctors (map σ ns) (map ρ ns)
all_have types σ k [] ρ b all = refl
all_have types σ k (n ∷ ns) ρ b all =
    and_from (has_sort types.ctors (ρ n) (σ n)) _ (all n b.0) (all_have types σ k ns ρ b.1 all)

module _ (types : TypeTable) (functions : List Function) (missing : Missing) (chosen : Values) (σ : Sorts)
    (fields : FieldsHaveSorts types missing) (answers : AnswersHaveSorts types functions missing)
    (choices : (k : ℕ) → is_sort types.datatypes (σ k) ≡ true → Has types.ctors (σ k) (chosen k)) where
  abbrev Of : Sort → Value → Type 0
  Of = Has types.ctors

  -- ---- fields

  ctor_field_has : (c : CtorId) (k : Ctor) (i : ℕ) (s : Sort) (v : Value) → slice_get types.ctors c.0 ≡ Some k
      → slice_get k.fields i ≡ Some s → Of (sort.Tree k.of) v → Of s (ctor_field missing c i v)
  ctor_field_has c k i s v entry place h = by (nat_eq c.0 t.ctor.0) refl
    where
      d : Value
      d = missing.field c i

      t : IsTree types.ctors k.of v
      t = tree_value types.ctors k.of v h

      by : (b : Bool) → nat_eq c.0 t.ctor.0 ≡ b → Of s (ctor_field missing c i v)
      by true e =
          let same = ctor_same c t.ctor (eqb-true c.0 t.ctor.0 e) in
          let is : v ≡ Tree c t.fields = t.is ∙ ap (λ x. Tree x t.fields) (sym same) in
          let f = have_at types.ctors k.fields t.fields i s (fields_sorted types.ctors c k k.of v t.fields entry h is)
          place in
          let read : ctor_field missing c i v ≡ f.0 =
          ap (ctor_field missing c i) is ∙ ap (ctor_field_in d c i) (outs-Tree c t.fields)
          ∙ ap (λ (b : Bool). if b then value_or d (found (slice_get t.fields i)) else d) (eq-eqb c.0 c.0 refl)
          ∙ ap (λ o. value_or d (found o)) f.1 in
          subst (Of s) (sym read) f.2
      by false e =
          let read : ctor_field missing c i v ≡ d =
          ap (ctor_field missing c i) t.is ∙ ap (ctor_field_in d c i) (outs-Tree t.ctor t.fields)
          ∙ ap (λ (b : Bool). if b then value_or d (found (slice_get t.fields i)) else d) e in
          subst (Of s) (sym read) (fields c k i s entry place)

  only_field_has : (d : DataId) (i : ℕ) (s : Sort) (v : Value) → field_sort types [] d i ≡ Some s → Of (sort.Tree d) v
      → Of s (value_or (Truth false) (field v i))
  only_field_has d i s v e h = by (slice_get types.datatypes d.0) refl e
    where
      by : (o : Option Datatype) → slice_get types.datatypes d.0 ≡ o → field_of_data types.ctors o i ≡ Some s
          → Of s (value_or (Truth false) (field v i))
      by None at g = cc
      by (Some t) at g =
          let only = only_ctor types t d i s at e in
          let tree = only.only v h in
          let f = have_at types.ctors only.entry.fields tree.0 i s
          (fields_sorted types.ctors t.first only.entry d v tree.0 only.at h tree.1) only.field in
          let read : value_or (Truth false) (field v i) ≡ f.0 =
          ap (λ w. value_or (Truth false) (field w i)) tree.1
          ∙ ap (λ o. value_or (Truth false) (field_in o i)) (outs-Tree t.first tree.0)
          ∙ ap (λ o. value_or (Truth false) (found o)) f.1 in
          subst (Of s) (sym read) f.2

  -- ---- one step

  truth : (k : ℕ) (b : Bool) → σ k ≡ sort.Bool → Of (σ k) (Truth b)
  truth k b e = subst (λ r. Of r (Truth b)) (sym e) (truth_has types.ctors b)

  answer_has : (k : ℕ) (c : OpenCall) (ρ : Values) → HasLabels functions c → map σ c.args ≡ c.params → σ k ≡ c.result
      → is_sort types.datatypes c.result ≡ true → Have types.ctors (map σ c.args) (map ρ c.args)
      → Of (σ k) (answer_or (chosen k) (answer_of missing ρ c))
  answer_has k c ρ labels params result sorted have = by (answer_of missing ρ c) refl
    where
      f : Option Function
      f = slice_get functions c.callee.0

      by : (o : Option Value) → answer_of missing ρ c ≡ o → Of (σ k) (answer_or (chosen k) o)
      by None e = choices k (ap (is_sort types.datatypes) result ∙ sorted)
      by (Some u) e =
          let is : missing.answer c.wait c.callee (params_of f) (result_of f) (map ρ c.args) ≡ Some u =
          ap (λ s. missing.answer c.wait c.callee (params_of f) s (map ρ c.args)) (sym labels.result)
          ∙ ap (λ ss. missing.answer c.wait c.callee ss c.result (map ρ c.args)) (sym labels.params) ∙ e in
          subst (λ s. Of s u) (sym (result ∙ labels.result))
          (answers c.wait c.callee (map ρ c.args) u is
          (subst (λ ss. Have types.ctors ss (map ρ c.args)) (params ∙ labels.params) have))

  value_has : (k : ℕ) (s : Step) (ρ : Values) → Reads k s → IsSorted types σ s (σ k) → IsLabelled functions s
      → ((i : ℕ) → i < k → Of (σ i) (ρ i)) → Of (σ k) (value types.ctors missing chosen ρ k s)
  value_has k (steps.Open s) ρ r h l all = choices k (ap (is_sort types.datatypes) h.0 ∙ h.1)
  value_has k (steps.Int n) ρ r h l all = subst (λ t. Of t (Int n)) (sym h.0) (int_has types.ctors n h.1)
  value_has k (steps.Bool b) ρ r h l all = truth k b h
  value_has k (steps.Not a) ρ r h l all = truth k _ h.1
  value_has k (steps.Both a b) ρ r h l all = truth k _ h.2
  value_has k (steps.Choose c a b) ρ r h l all = by (bit (ρ c))
    where
      by : (t : Bool) → Of (σ k) (if t then ρ a else ρ b)
      by true = subst (λ s. Of s (ρ a)) h.1 (all a r.1)
      by false = subst (λ s. Of s (ρ b)) h.2 (all b r.2)
  value_has k (steps.Unary op a) ρ r h l all = unary_gives types.ctors op (σ a) (σ k) (ρ a) (all a r) h
  value_has k (steps.Binary op a b) ρ r h l all =
      applied_gives types.ctors op (σ a) (σ b) (σ k) (ρ a) (ρ b) (all a r.0) (all b r.1) h
  value_has k (steps.Construct c ns) ρ r h l all =
      let made : Constructs types σ c ns (σ k) = h in
      subst (λ s. Of s (Tree c (map ρ ns))) (sym made.result)
      (tree_has_sort types.ctors c made.ctor (map ρ ns) made.stands
      (subst (λ ss. Have types.ctors ss (map ρ ns)) made.fields (all_have types σ k ns ρ r all)))
  value_has k (steps.IsCtor c n a) ρ r h l all = truth k _ h.1
  value_has k (steps.CtorField c i a) ρ r h l all =
      let made : Selects types σ c i a (σ k) = h in
      ctor_field_has c made.ctor i (σ k) (ρ a) made.stands made.field
      (subst (λ s. Of s (ρ a)) made.operand (all a r))
  value_has k (steps.Field a i) ρ r h l all =
      let made : SelectsOnly types σ a i (σ k) = h in
      only_field_has made.datatype i (σ k) (ρ a) made.field (subst (λ s. Of s (ρ a)) made.operand (all a r))
  value_has k (steps.IsAlike a b) ρ r h l all = truth k _ h.1
  value_has k (steps.GoesDown a b) ρ r h l all = truth k _ h.1
  value_has k (steps.HasAnswer c) ρ r h l all = truth k _ h.2
  value_has k (steps.Answer c) ρ r h l all = answer_has k c ρ l h.0 h.1 h.2 (all_have types σ k c.args ρ r.1 all)

  -- ---- all steps

  here_or : (i k : ℕ) → i < suc k → (i < k) ⊎ (i ≡ k)
  here_or i k lt = elim (cases_lt i k) [ inl h ↦ inl h | inr h ↦ inr (omega (arith, lt, h)) ]

  pub solved_have : (k : ℕ) (ss : List Step) (ρ : Values) → AllRead k ss → AllSorted types σ k ss
      → Labelled functions ss → ((i : ℕ) → i < k → Of (σ i) (ρ i))
      → (i : ℕ) → i < k + length ss → Of (σ i) (solved types.ctors missing chosen k ss ρ i)
  solved_have k [] ρ r h l all i lt = all i (omega (arith, lt))
  solved_have k (s ∷ ss) ρ r h l all i lt =
      let v = value types.ctors missing chosen ρ k s in
      solved_have (suc k) ss (set ρ k v) r.1 h.1 l.1
      (λ j less. now v (value_has k s ρ r.0 h.0 l.0 all) j (here_or j k less))
      i (omega (arith, lt))
    where
      now : (v : Value) → Of (σ k) v → (j : ℕ) → (j < k) ⊎ (j ≡ k) → Of (σ j) (set ρ k v j)
      now v is j (inl less) = subst (Of (σ j)) (sym (set_less ρ k v j less)) (all j less)
      now v is j (inr same) =
          subst (λ m. Of (σ m) (set ρ k v m)) (sym same) (subst (Of (σ k)) (sym (set_here ρ k v)) is)
