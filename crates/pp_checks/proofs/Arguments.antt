-- How high the arguments of functions can be.
use Rattle.std.proofs.Common.{◌≡◌, ◌↔◌, ◌<◌, ◌≤◌, ◌+◌, ◌^◌, ℕ, zero, suc, Bool, true, List, [], ◌∷◌, ◌++◌, map, length}
use Rattle.std.proofs.Common.{Option, Some, None, slice_get, refl, sym, ap, ◌∙◌, subst, arith, inl, inr, Contains}
use Rattle.std.proofs.Common.{append_assoc}
use Rattle.std.proofs.Math.Bridge.{le_prop}
use Rattle.std.proofs.Math.Logic.{∥∥₁_elim}
use Rattle.std.proofs.lemmas.Bool.{and_parts, ltb-true}
use Rattle.std.specs.List.{list_all}
use Rattle.std.specs.Option.{option_map}
use Rattle.std.proofs.lemmas.List.{append-nil, length-map}
use Rattle.std.proofs.lemmas.Option.{slice_get_cases, slice_get-map}
use Rattle.pp_prog.specs.declared.expr.Function.{Function}
use Rattle.pp_prog.specs.declared.program.Program.{Program}
use Rattle.pp_prog.specs.declared.sort.Sort.{Sort}
use Rattle.pp_prog.specs.declared.sort.Sort.TheVariants as sort
use Rattle.pp_prog.specs.declared.types.Ctor.{Ctor}
use Rattle.pp_prog.specs.declared.types.TypeTable.{TypeTable}
use Rattle.pp_prog.specs.Sizes.{IsUpTo}
use Rattle.pp_prog.specs.Sorts.{param_sorts}
use Rattle.pp_prog.specs.Table.{is_sort}
use Rattle.pp_prog.specs.Valid.{is_in_range}
use Rattle.pp_prog.proofs.Sure.{is_valid, ⊥_prop}
use Rattle.pp_checks.specs.Closed.{AreUpTo, IsNesting, IsTallest}
use Rattle.pp_checks.specs.Plan.{AreOf, IsTallestOf}
use Rattle.pp_checks.specs.Tables.{field_table, greater, height_in, one_higher, tallest_in, tallest_params}
use Rattle.pp_checks.proofs.Tallest.{at_head, either_in, fields_size, high, left_in, low, none_low}
use Rattle.pp_checks.proofs.Tallest.{right_in, word_height}

-- the greatest height of a value of one sort, or none
abbrev IsHigh : List Ctor → Sort → Option ℕ → Type 0
IsHigh ctors s None = (h : ℕ) → IsUpTo ctors s h → ⊥
IsHigh ctors s (Some k) = (h : ℕ) → IsUpTo ctors s h ↔ (k ≤ h)

only_one : {A : Type 0} (s t : A) → Contains (s ∷ []) t → s ≡ t
only_one s t (zero, lt, is) = is
only_one s t (suc k, lt, is) = absurd (omega (arith, lt))

module _ (types : TypeTable) where
  up_split : (sorts : List Sort) (s : Sort) (h : ℕ) → AreUpTo types.ctors (sorts ++ s ∷ []) h
      → AreUpTo types.ctors sorts h × IsUpTo types.ctors s h
  up_split sorts s h up = (λ t c. up t (left_in sorts (s ∷ []) t c), up s (right_in sorts (s ∷ []) s (at_head s [])))

  up_join : (sorts : List Sort) (s : Sort) (h : ℕ) → AreUpTo types.ctors sorts h → IsUpTo types.ctors s h
      → AreUpTo types.ctors (sorts ++ s ∷ []) h
  up_join sorts s h all one t c = elim (either_in sorts (s ∷ []) t c) [
    | inl l ↦ all t l
    | inr r ↦ subst (λ z.
        IsUpTo types.ctors z h) (only_one s t r) one
  ]

  one_more : (sorts : List Sort) (s : Sort) (a b : Option ℕ) → IsTallest types.ctors sorts a
      → IsHigh types.ctors s b → IsTallest types.ctors (sorts ++ s ∷ []) (greater a b)
  one_more sorts s None b never q = λ h up. never h (up_split sorts s h up).0
  one_more sorts s (Some a) None p never = λ h up. never h (up_split sorts s h up).1
  one_more sorts s (Some a) (Some b) p q = λ h. (
    λ up. omega (arith, (p h).0 (up_split sorts s h up).0, (q h).0 (up_split sorts s h up).1),
    λ le. up_join sorts s h ((p h).1 (omega (arith, le))) ((q h).1 (omega (arith, le))),
  )

  tree_high : (d : ℕ) (o : Option ℕ) → d < length types.datatypes → IsNesting (field_table types) d o
      → IsHigh types.ctors (sort.Tree (record { 0 = d })) (one_higher (Some o))
  tree_high d None lt never = by
    where
      by : (h : ℕ) → IsUpTo types.ctors (sort.Tree (record { 0 = d })) h → ⊥
      by zero up = ∥∥₁_elim types.inhabited ⊥_prop (λ i. none_low types types.agree i d lt up)
      by (suc n) up = ∥∥₁_elim types.inhabited ⊥_prop (λ i. never n (high types types.agree i n d lt up))
  tree_high d (Some k) lt tells = λ h. (there h, back h)
    where
      there : (h : ℕ) → IsUpTo types.ctors (sort.Tree (record { 0 = d })) h → k + 1 ≤ h
      there zero up = absurd (∥∥₁_elim types.inhabited ⊥_prop (λ i. none_low types types.agree i d lt up))
      there (suc n) up =
          let le : k ≤ n = ∥∥₁_elim types.inhabited le_prop (λ i. (tells n).0 (high types types.agree i n d lt up))
          in omega arith

      back : (h : ℕ) → k + 1 ≤ h → IsUpTo types.ctors (sort.Tree (record { 0 = d })) h
      back zero le = absurd (omega arith)
      back (suc n) le = λ v hv. omega (arith, low types types.agree n d ((tells n).1 (omega arith)) v hv)

  module _ (depths : List (Option ℕ)) (known : AreOf (IsNesting (field_table types)) (length (field_table types))
      depths) where
    sort_high : (s : Sort) → is_sort types.datatypes s ≡ true → IsHigh types.ctors s (height_in depths s)
    sort_high sort.Int r = λ h. (
      λ up. omega arith,
      λ le v hv. omega (
        arith,
        word_height types.ctors v sort.Int
            (inl refl) hv,
      ),
    )
    sort_high sort.Bool r = λ h. (
      λ up. omega arith,
      λ le v hv. omega (
        arith,
        word_height types.ctors v sort.Bool
            (inr refl) hv,
      ),
    )
    sort_high (sort.Tree d) r = elim (slice_get_cases depths d.0).1 [
      | inl here ↦ subst (λ o. IsHigh types.ctors
          (sort.Tree d) (one_higher o)) (sym here.2) (tree_high d.0 here.0 (ltb-true d.0 (length types.datatypes) r)
          (known.each d.0 here.0 here.2))
      | inr past ↦ absurd (omega (
        arith,
        past.0,
        known.size,
        fields_size types
            (length types.datatypes),
        ltb-true d.0 (length types.datatypes) r,
      ))
    ]

    all_high : (before ss : List Sort) (most : Option ℕ) → list_all (is_sort types.datatypes) ss ≡ true
        → IsTallest types.ctors before most → IsTallest types.ctors (before ++ ss) (tallest_in depths most ss)
    all_high before [] most r p =
        subst (λ l. IsTallest types.ctors l most) (sym (append-nil before)) p
    all_high before (s ∷ ss) most r p =
        let q = and_parts (is_sort types.datatypes s) (list_all (is_sort types.datatypes) ss) r in
        subst (λ l. IsTallest types.ctors l (tallest_in depths (greater most (height_in depths s)) ss))
        (append_assoc before (s ∷ []) ss)
        (all_high (before ++ s ∷ []) ss (greater most (height_in depths s)) q.1 (one_more before s most (height_in
        depths s) p (sort_high s q.0)))

    none_high : IsTallest types.ctors [] (Some 0)
    none_high h = (λ up. omega arith, λ le s c. absurd (let lt = c.1 in omega arith))

    params_high : (f : Function) → list_all (is_sort types.datatypes) (param_sorts f.params) ≡ true
        → IsTallest types.ctors (param_sorts f.params) (tallest_params depths f)
    params_high f r = all_high [] (param_sorts f.params) (Some 0) r none_high

test_at : {A : Type 0} (p : A → Bool) (xs : List A) (i : ℕ) (x : A) → list_all p xs ≡ true
    → slice_get xs i ≡ Some x → p x ≡ true
test_at p [] i x all is = let no : None ≡ Some x = is in cc
test_at p (y ∷ xs) zero x all is =
    let e : y ≡ x = (let s : Some y ≡ Some x = is in cc) in ap p (sym e) ∙ (and_parts (p y) (list_all p xs) all).0
test_at p (y ∷ xs) (suc i) x all is = test_at p xs i x (and_parts (p y) (list_all p xs) all).1 is

-- the table of the greatest heights
pub heights_are : (program : Program) (depths : List (Option ℕ)) (heights : List (Option ℕ))
    → AreOf (IsNesting (field_table program.types)) (length (field_table program.types)) depths
    → heights ≡ map (tallest_params depths) program.functions → AreOf (IsTallestOf program) (length
    program.functions) heights
heights_are program depths heights known e = record {
  size = ap (length {A = Option ℕ}) e ∙ length-map program.functions (tallest_params depths);
  each = λ f o is function here. subst (IsTallest program.types.ctors (param_sorts function.params)) (same f o is
      function here) (params_high program.types depths known function (and_parts (list_all (is_sort
      program.types.datatypes) (param_sorts function.params)) (is_sort program.types.datatypes function.result)
      (test_at (is_in_range program.types.datatypes) program.functions f function (is_valid program).in_range
      here)).0);
}
  where
    same : (f : ℕ) (o : Option ℕ) → slice_get heights f ≡ Some o → (function : Function)
        → slice_get program.functions f ≡ Some function → tallest_params depths function ≡ o
    same f o is function here =
        let both_ : Some (tallest_params depths function) ≡ Some o = sym (ap (λ l. slice_get l f) e
        ∙ slice_get-map (tallest_params depths) program.functions f
        ∙ ap (option_map (tallest_params depths)) here) ∙ is in cc

-- there are fewer datatypes than numbers
pub few_fields : (types : TypeTable) (table : List (List ℕ)) → table ≡ field_table types → length table < 2 ^ 32
few_fields types table e = omega (
  arith,
  ap (length {A = List ℕ}) e,
  fields_size types (length types.datatypes),
  types.few_datatypes,
)
