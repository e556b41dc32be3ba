-- What the steps of a round take is what they take by themselves, and what the estimate takes for their looks and
-- comparisons.
use Rattle.std.proofs.Common.{◌≡◌, ℕ, suc, ◌+◌, ◌*◌, ◌<◌, ◌≤◌, true, List, [], ◌∷◌}
use Rattle.std.proofs.Common.{◌++◌, length, Option, Some, None, refl, sym, ap, subst, arith}
use Rattle.std.proofs.lemmas.Option.{slice_get_within}
use Rattle.std.proofs.Math.Nat.{zero-add}
use Rattle.std.specs.Prelude.{slice_get}
use Rattle.pp_prog.specs.declared.expr.Function.{Function}
use Rattle.pp_prog.specs.declared.id.CtorId.{CtorId}
use Rattle.pp_prog.specs.declared.id.DataId.{DataId}
use Rattle.pp_prog.specs.declared.sort.Sort.{Sort}
use Rattle.pp_prog.specs.declared.sort.Sort.TheVariants as sort
use Rattle.pp_prog.specs.declared.types.Ctor.{Ctor}
use Rattle.pp_prog.specs.declared.types.Datatype.{Datatype}
use Rattle.pp_prog.specs.declared.types.TypeTable.{TypeTable}
use Rattle.pp_prog.specs.ExprSorts.{field_of_data, field_sort}
use Rattle.pp_prog.specs.Sizes.{by_sort}
use Rattle.pp_prog.specs.Table.{in_block_of}
use Rattle.pp_domain.specs.Allowance.{times}
use Rattle.pp_estimate.specs.Estimates.{all_looks, by_looks, by_pairs, flat_of, pairs, sum_below}
use Rattle.pp_estimate.specs.Events.{Event, compares, looks}
use Rattle.pp_estimate_laws.proofs.Numbers.{below_grows, le_same, le_then, plus_grows, times_grow}
use Rattle.pp_steps.specs.declared.step.Step.{Step}
use Rattle.pp_steps.specs.declared.step.Step.TheVariants as steps
use Rattle.pp_steps.specs.Sorted.{AllSorted, Constructs, Distinguishes, SelectsOnly, Sorts}
use Rattle.pp_steps_run.specs.Told.{AllOf}
use Rattle.pp_guess_gates.specs.Measure.{datatype_in, round_gates}
use Rattle.pp_guess_gates.proofs.Alone.{all_alone, compared_after, looked_after}
use Rattle.pp_guess_gates.proofs.Looks.{comparison_fits, data_number, look_fits, looks_worth, pairs_grow, sum_more}
use Rattle.pp_guess_gates.proofs.Looks.{times_here, times_more}

module _ (types : TypeTable) where
  abbrev count : ℕ
  count = length types.datatypes

  abbrev There : Sort → Type 0
  There s = (d : DataId) → s ≡ sort.Tree d → d.0 < count

  same_tree : (a b : DataId) → sort.Tree a ≡ sort.Tree b → a ≡ b
  same_tree a b e = cc

  -- ---- trees are of datatypes of the table

  block_there : (d c : ℕ) (o : Option Datatype) → slice_get types.datatypes d ≡ o → in_block_of o c ≡ true → d < count
  block_there d c None is h = cc
  block_there d c (Some t) is h = slice_get_within types.datatypes d t is

  ctor_there : (c : ℕ) (k : Ctor) → slice_get types.ctors c ≡ Some k → There (sort.Tree k.of)
  ctor_there c k is d e =
      let same = same_tree k.of d e in
      subst (λ (a : DataId). a.0 < count) same (block_there k.of.0 c _ refl (types.agree.stands c k is))

  data_there : (d i : ℕ) (s : Sort) (o : Option Datatype) → slice_get types.datatypes d ≡ o
      → field_of_data types.ctors o i ≡ Some s → d < count
  data_there d i s None is h = let no : None ≡ Some s = h in cc
  data_there d i s (Some t) is h = slice_get_within types.datatypes d t is

  field_there : (d : DataId) (i : ℕ) (s : Sort) → field_sort types [] d i ≡ Some s → There (sort.Tree d)
  field_there d i s h a e =
      subst (λ (b : DataId). b.0 < count) (same_tree d a e) (data_there d.0 i s _ refl h)

  abbrev pub Listed : List DataId → Type 0
  Listed = AllOf (λ (d : DataId). d.0 < count)

  sort_listed : (s : Sort) (looks : List DataId) → There s → Listed looks → Listed (datatype_in s ++ looks)
  sort_listed sort.Int looks there h = h
  sort_listed sort.Bool looks there h = h
  sort_listed (sort.Tree d) looks there h = (there d refl, h)

  -- as many looks as at all datatypes together
  listed_few : (looks : List DataId) → Listed looks → length looks ≤ sum_below count (λ d. times (data_number d) looks)
  listed_few [] h = omega arith
  listed_few (d ∷ looks) h =
      let rest = listed_few looks h.1 in
      let here = times_here d looks in
      let more = sum_more count (λ i. times (data_number i) looks) (λ i. times (data_number i) (d ∷ looks)) d.0 1 h.0
      (λ i. times_more i d looks) (omega arith) in
      omega arith

  -- ---- all steps

  module _ (σ : Sorts) where
    tree_there : (s t : Sort) → s ≡ t → There t → There s
    tree_there s t e h = subst There (sym e) h

    made_there : (k : ℕ) (c : CtorId) (fields : List ℕ) → Constructs types σ c fields (σ k) → There (σ k)
    made_there k c fields h = tree_there (σ k) (sort.Tree h.ctor.of) h.result (ctor_there c.0 h.ctor h.stands)

    tested_there : (c : CtorId) (n a : ℕ) → Distinguishes types σ c n a → There (σ a)
    tested_there c n a h = tree_there (σ a) (sort.Tree h.ctor.of) h.operand (ctor_there c.0 h.ctor h.stands)

    read_there : (a i : ℕ) (s : Sort) → SelectsOnly types σ a i s → There (σ a)
    read_there a i s h = tree_there (σ a) (sort.Tree h.datatype) h.operand (field_there h.datatype i s h.field)

    -- The steps take what they take by themselves, and what the estimate takes for their looks and comparisons; and
    -- they look at datatypes of the table alone.
    pub record AreCounted (k : ℕ) (ss : List Step) (looks : List DataId) (compares : ℕ) : Type 0 where
      pub few : round_gates types σ looks compares k ss + length ss + looks_worth types looks compares
          ≤ all_alone types σ k ss + looks_worth types (looked_after σ looks k ss) (compared_after σ compares ss)
      pub listed : Listed (looked_after σ looks k ss)

    -- a step that neither looks nor compares
    quiet_taken : (k : ℕ) (ss : List Step) (looks : List DataId) (compares : ℕ)
        → AreCounted (suc k) ss looks (0 + compares)
        → round_gates types σ looks (0 + compares) (suc k) ss + length ss + looks_worth types looks compares
        ≤ all_alone types σ (suc k) ss
        + looks_worth types (looked_after σ looks (suc k) ss) (compared_after σ (0 + compares) ss)
    quiet_taken k ss looks compares rest =
        let few = rest.few in let e = ap (looks_worth types looks) (zero-add compares) in omega arith

    pub all_taken : (k : ℕ) (ss : List Step) (looks : List DataId) (compares : ℕ) → AllSorted types σ k ss
        → Listed looks → AreCounted k ss looks compares
    all_taken k [] looks compares m h = record { few = omega arith; listed = h }
    all_taken k (steps.HasAnswer c ∷ ss) looks compares m h =
        let rest = all_taken (suc k) ss looks (0 + compares) m.1 h in
        let few = quiet_taken k ss looks compares rest in
        record { few = omega arith; listed = rest.listed }
    all_taken k (steps.Answer c ∷ ss) looks compares m h =
        let rest = all_taken (suc k) ss looks (0 + compares) m.1 h in
        let few = quiet_taken k ss looks compares rest in
        record { few = omega arith; listed = rest.listed }
    all_taken k (steps.Open s ∷ ss) looks compares m h =
        let rest = all_taken (suc k) ss looks (0 + compares) m.1 h in
        let few = quiet_taken k ss looks compares rest in
        record { few = omega arith; listed = rest.listed }
    all_taken k (steps.Int z ∷ ss) looks compares m h =
        let rest = all_taken (suc k) ss looks (0 + compares) m.1 h in
        let few = quiet_taken k ss looks compares rest in
        record { few = omega arith; listed = rest.listed }
    all_taken k (steps.Bool b ∷ ss) looks compares m h =
        let rest = all_taken (suc k) ss looks (0 + compares) m.1 h in
        let few = quiet_taken k ss looks compares rest in
        record { few = omega arith; listed = rest.listed }
    all_taken k (steps.Not a ∷ ss) looks compares m h =
        let rest = all_taken (suc k) ss looks (0 + compares) m.1 h in
        let few = quiet_taken k ss looks compares rest in
        record { few = omega arith; listed = rest.listed }
    all_taken k (steps.Both a b ∷ ss) looks compares m h =
        let rest = all_taken (suc k) ss looks (0 + compares) m.1 h in
        let few = quiet_taken k ss looks compares rest in
        record { few = omega arith; listed = rest.listed }
    all_taken k (steps.Choose c a b ∷ ss) looks compares m h =
        let rest = all_taken (suc k) ss looks (0 + compares) m.1 h in
        let few = quiet_taken k ss looks compares rest in
        record { few = omega arith; listed = rest.listed }
    all_taken k (steps.Unary op a ∷ ss) looks compares m h =
        let rest = all_taken (suc k) ss looks (0 + compares) m.1 h in
        let few = quiet_taken k ss looks compares rest in
        record { few = omega arith; listed = rest.listed }
    all_taken k (steps.Binary op a b ∷ ss) looks compares m h =
        let rest = all_taken (suc k) ss looks (0 + compares) m.1 h in
        let few = quiet_taken k ss looks compares rest in
        record { few = omega arith; listed = rest.listed }
    all_taken k (steps.CtorField c i a ∷ ss) looks compares m h =
        let rest = all_taken (suc k) ss looks (0 + compares) m.1 h in
        let few = quiet_taken k ss looks compares rest in
        record { few = omega arith; listed = rest.listed }
    all_taken k (steps.IsAlike a b ∷ ss) looks compares m h =
        let rest = all_taken (suc k) ss looks (0 + compares) m.1 h in
        let few = quiet_taken k ss looks compares rest in
        record { few = omega arith; listed = rest.listed }
    all_taken k (steps.Construct c fields ∷ ss) looks compares m h =
        let there = made_there k c fields m.0 in
        let more = datatype_in (σ k) ++ looks in
        let rest = all_taken (suc k) ss more (0 + compares) m.1 (sort_listed (σ k) looks there h) in
        let few = quiet_taken k ss more compares rest in
        let here = look_fits types (σ k) looks compares there in
        record { few = omega arith; listed = rest.listed }
    all_taken k (steps.IsCtor c n a ∷ ss) looks compares m h =
        let there = tested_there c n a m.0.0 in
        let more = datatype_in (σ a) ++ looks in
        let rest = all_taken (suc k) ss more (0 + compares) m.1 (sort_listed (σ a) looks there h) in
        let few = quiet_taken k ss more compares rest in
        let here = look_fits types (σ a) looks compares there in
        record { few = omega arith; listed = rest.listed }
    all_taken k (steps.Field a i ∷ ss) looks compares m h =
        let there = read_there a i (σ k) m.0 in
        let more = datatype_in (σ a) ++ looks in
        let rest = all_taken (suc k) ss more (0 + compares) m.1 (sort_listed (σ a) looks there h) in
        let few = quiet_taken k ss more compares rest in
        let here = look_fits types (σ a) looks compares there in
        record { few = omega arith; listed = rest.listed }
    all_taken k (steps.GoesDown a b ∷ ss) looks compares m h =
        let rest = all_taken (suc k) ss looks (by_sort 0 0 (λ d. 1) (σ a) + compares) m.1 h in
        let few = rest.few in
        let here = comparison_fits types (σ a) looks compares in
        record { few = omega arith; listed = rest.listed }

  -- ---- the estimate's looks

  -- where there are no more looks at any datatype, and no more comparisons, the estimate takes no less
  pub looks_fit : (functions : List Function) (looked : List DataId) (compared : ℕ) (es : List Event) → Listed looked
      → ((d : ℕ) → times (data_number d) looked ≤ looks es d) → compared ≤ compares es
      → looks_worth types looked compared
      ≤ by_looks types functions es + by_pairs types functions es + compares es * 128 * all_looks types functions es
  looks_fit functions looked compared es listed each le =
      let one = below_grows count (λ d. times (data_number d) looked * (256 + 8 * flat_of types d))
      (λ d. looks es d * (256 + 8 * flat_of types d))
      (λ d. times_grow _ _ _ _ (each d) (le_same (256 + 8 * flat_of types d))) in
      let two = below_grows count (λ d. pairs (times (data_number d) looked) * (64 + 4 * flat_of types d))
      (λ d. pairs (looks es d) * (64 + 4 * flat_of types d))
      (λ d. times_grow _ _ _ _ (pairs_grow _ _ (each d)) (le_same (64 + 4 * flat_of types d))) in
      let all = le_then _ _ _ (listed_few looked listed)
      (below_grows count (λ d. times (data_number d) looked) (looks es) each) in
      let three = times_grow _ _ _ _ (times_grow _ _ 128 128 le (le_same 128)) all in
      plus_grows _ _ _ _ (plus_grows _ _ _ _ one two) three
