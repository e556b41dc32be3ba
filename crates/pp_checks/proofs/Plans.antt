-- Plans of programs: what their tables tell, and what follows from the rules of measures.
use Rattle.std.proofs.Common.{◌≡◌, ◌↔◌, ◌⊎◌, ◌<◌, ◌+◌, ℕ, zero, suc, Bool, true, false, List, ◌++◌, length}
use Rattle.std.proofs.Common.{Option, Some, None, slice_get, refl, sym, ap, ◌∙◌, subst, arith, inl, inr, ⊎_elim}
use Rattle.std.proofs.Common.{Contains, IsTrue}
use Rattle.std.proofs.lemmas.Bool.Decides.{eqb_tells}
use Rattle.std.proofs.lemmas.Bool.{le-leb, leb-true}
use Rattle.std.proofs.lemmas.List.{length-map}
use Rattle.std.proofs.lemmas.Option.{slice_get_cases, slice_get_within}
use Rattle.pp_graph.specs.Reaches.{Reaches}
use Rattle.pp_graph.specs.Rows.{Tells, bit}
use Rattle.pp_graph.proofs.Paths.{across, back}
use Rattle.pp_prog.specs.declared.expr.Function.{Function}
use Rattle.pp_prog.specs.declared.program.Program.{Program}
use Rattle.pp_graph.proofs.Decided.{group_or_not}
use Rattle.pp_prog.specs.Calls.{OneGroup, call_table, calls, contract_calls, function_calls, post_calls}
use Rattle.pp_prog.specs.Valid.{has_measure, is_written}
use Rattle.pp_prog.specs.Cone.{InCone}
use Rattle.pp_prog.specs.Sorts.{param_sorts}
use Rattle.pp_checks.specs.Closed.{AreUpTo, Closed, IsNesting, IsTallest, Nests}
use Rattle.pp_checks.specs.Plan.{AreOf, IsPlanOf, IsTallestOf, Plan}
use Rattle.pp_checks.specs.Ranks.{CountBelow, IsRank}
use Rattle.pp_checks.specs.Rules.{IsFirstMeasured, measure_sorts}
use Rattle.pp_checks.specs.Tables.{IsRankIn, is_at_most}
use Rattle.pp_checks.proofs.Ruling.{calls_at}
use Rattle.pp_checks.proofs.Tallest.{left_in}
use Rattle.pp_checks.proofs.Cones.{nests_acyclic, lower_rank, rank_shown}

table_size : (functions : List Function) → length (call_table functions) ≡ length functions
table_size functions = length-map functions function_calls

-- the ranks that the rows show
pub ranks_are : (functions : List Function) (calls : List (List ℕ)) (rows : List (List Bool)) (ranks : List ℕ)
    → calls ≡ call_table functions → Tells calls (length calls) rows → AreOf (λ f r. IsRankIn rows f (length rows)
    r) (length rows) ranks → AreOf (IsRank functions) (length functions) ranks
ranks_are functions calls rows ranks is t a = record {
  size = a.size ∙ t.size ∙ ap (length {A = List ℕ}) is ∙ table_size functions;
  each = λ f r at. shown f r (slice_get_within ranks f r at) (a.each f r at);
}
  where
    shown : (f r : ℕ) → f < length ranks → IsRankIn rows f (length rows) r → IsRank functions f r
    shown f r lt count =
        let inside : f < length calls = omega (arith, lt, a.size, t.size) in
        subst (λ n. CountBelow (InCone functions f) n r) (table_size functions)
        (subst (λ (c : List (List ℕ)). CountBelow (λ g. (f ≡ g) ⊎ Reaches c f g) (length c) r) is (rank_shown calls
        rows f r inside t count))

pub rows_are : (functions : List Function) (calls : List (List ℕ)) (rows : List (List Bool))
    → calls ≡ call_table functions → Tells calls (length calls) rows → Tells (call_table functions) (length
    functions) rows
rows_are functions calls rows is t =
    subst (λ n. Tells (call_table functions) n rows) (table_size functions) (subst (λ (c : List (List ℕ)). Tells c
    (length c) rows) is t)

pub nestings_are : (functions : List Function) (calls : List (List ℕ)) (depths : List (Option ℕ))
    → calls ≡ call_table functions → AreOf (IsNesting calls) (length calls) depths
    → AreOf (IsNesting (call_table functions)) (length functions) depths
nestings_are functions calls depths is a =
    subst (λ n. AreOf (IsNesting (call_table functions)) n depths) (table_size functions) (subst (λ (c : List (List
    ℕ)). AreOf (IsNesting c) (length c) depths) is a)

-- what a table tells of a place
told : {A : Type 0} (Is : ℕ → A → Type 0) (n f : ℕ) (table : List A) → AreOf Is n table → f < n
    → (a : A) × (slice_get table f ≡ Some a) × Is f a
told Is n f table a lt = elim (slice_get_cases table f).1 [
  | inl here ↦ (here.0, here.2, a.each f here.0 here.2)
  | inr past ↦ absurd (omega (arith, past.0, a.size, lt))
]

module _ (plan : Plan) (program : Program) (p : IsPlanOf plan program) where
  pub rank_told : (f : ℕ) (r : ℕ) → f < length program.functions → slice_get plan.ranks f ≡ Some r
      → IsRank program.functions f r
  rank_told f r lt is = p.ranks.each f r is

  pub rank_there : (f : ℕ) → f < length program.functions → slice_get plan.ranks f ≡ None → ⊥
  rank_there f lt is =
      let t = told (IsRank program.functions) (length program.functions) f plan.ranks p.ranks lt in
      let no : None ≡ Some t.0 = sym is ∙ t.1 in cc

  pub cone_told : (f g : ℕ) → f < length program.functions → g < length program.functions
      → ((f ≡ g) ⊎ IsTrue (bit plan.rows f g)) ↔ InCone program.functions f g
  cone_told f g lf lg =
      let inside : g < length (call_table program.functions) = omega (arith, lg, table_size program.functions) in (
        λ c. ⊎_elim (λ e. inl e) (λ b. inr ((p.rows.tells f g lf inside).0 b)) c,
        λ c. ⊎_elim (λ e. inl e) (λ r. inr ((p.rows.tells f g lf inside).1 r)) c,
      )

  pub nested_told : (f n : ℕ) → f < length program.functions → (is_at_most (slice_get plan.nestings f) n ≡ true) ↔
      Nests (call_table program.functions) n f
  nested_told f n lt =
      let t = told (IsNesting (call_table program.functions)) (length program.functions) f plan.nestings p.nestings
      lt in
      by t.0 t.2 t.1
    where
      by : (o : Option ℕ) → IsNesting (call_table program.functions) f o → slice_get plan.nestings f ≡ Some o
          → (is_at_most (slice_get plan.nestings f) n ≡ true) ↔ Nests (call_table program.functions) n f
      by None never is = (
        λ e. let no : false ≡ true = sym (ap (λ o. is_at_most o n) is) ∙ e in cc,
        λ nests. absurd (never n nests),
      )
      by (Some k) tells is = (
        λ e. (tells n).1 (leb-true k n (sym (ap (λ o. is_at_most o n) is) ∙ e)),
        λ nests. ap (λ o. is_at_most o n) is ∙ le-leb k n ((tells n).0 nests),
      )

  low_told : (f d : ℕ) (function : Function) → slice_get program.functions f ≡ Some function
      → (is_at_most (slice_get plan.tallest f) d ≡ true) ↔ AreUpTo program.types.ctors (param_sorts function.params) d
  low_told f d function here =
      let t = told (IsTallestOf program) (length program.functions) f plan.tallest p.tallest (slice_get_within
      program.functions f function here) in
      by t.0 (t.2 function here) t.1
    where
      by : (o : Option ℕ) → IsTallest program.types.ctors (param_sorts function.params) o
          → slice_get plan.tallest f ≡ Some o → (is_at_most (slice_get plan.tallest f) d ≡ true) ↔ AreUpTo
          program.types.ctors (param_sorts function.params) d
      by None never is = (
        λ e. let no : false ≡ true = sym (ap (λ o. is_at_most o d) is) ∙ e in cc,
        λ up. absurd (never d up),
      )
      by (Some k) tells is = (
        λ e. (tells d).1 (leb-true k d (sym (ap (λ o. is_at_most o d) is) ∙ e)),
        λ up. ap (λ o. is_at_most o d) is ∙ le-leb k d ((tells d).0 up),
      )

  function_at : (f : ℕ) → f < length program.functions → (function : Function) × (slice_get program.functions f ≡
      Some function)
  function_at f lt = elim (slice_get_cases program.functions f).1 [
    | inl here ↦ (here.0, here.2)
    | inr past ↦ absurd
        (omega (arith, past.0, lt))
  ]

  -- the two tests tell whether the function is closed
  pub closed_told : (f n d : ℕ) → f < length program.functions → (is_at_most (slice_get plan.nestings f) n ≡ true)
      × (is_at_most (slice_get plan.tallest f) d ≡ true) ↔ Closed program.types program.functions f n d
  closed_told f n d lt =
      let at = function_at f lt in
      let nested = nested_told f n lt in
      let low = low_told f d at.0 at.1 in (
        λ b. record {
          acyclic = λ g c r. nests_acyclic (call_table program.functions) n f g (nested.0 b.0) c r;
          nested = nested.0 b.0;
          low = λ function is. subst (λ (k : Function). AreUpTo program.types.ctors (param_sorts k.params) d) (let
              same : Some at.0 ≡ Some function = sym at.1 ∙ is in let e : at.0 ≡ function = (cc) in e) (low.0 b.1);
        },
        λ c. (nested.1 c.nested, low.1 (c.low at.0 at.1)),
      )

-- what the precondition and the measure list call is called
contract_within : (function : Function) (g : ℕ) → Contains (contract_calls function) g
    → Contains (function_calls function) g
contract_within function g has =
    left_in (contract_calls function ++ calls function.body) (post_calls function.post) g (left_in (contract_calls
    function) (calls function.body) g has)

pub lower_called : (functions : List Function) (f g n m : ℕ) (function : Function)
    → slice_get functions f ≡ Some function → Contains (function_calls function) g → (OneGroup functions f g → ⊥)
    → IsRank functions f n → IsRank functions g m → m < n
lower_called functions f g n m function is has other a b =
    lower_rank (call_table functions) (length functions) f g n m (slice_get_within functions f function is) (subst
    (λ l. Contains l g) (sym (calls_at functions f function is)) has) other a b

pub lower_in_contract : (plan : Plan) (program : Program) (f g n m : ℕ) (function : Function)
    → IsPlanOf plan program → slice_get program.functions f ≡ Some function
    → Contains (contract_calls function) g → IsRank program.functions f n → IsRank program.functions g m → m < n
lower_in_contract plan program f g n m function p is has a b =
    lower_called program.functions f g n m function is (contract_within function g has) (λ same. (p.rules f
    function (slice_get_within program.functions f function is) is).layered (g, has, same)) a b

module _ (functions : List Function) (f : ℕ) where
  abbrev Measured : ℕ → Type 0
  Measured h = OneGroup functions f h × IsTrue (has_measure (slice_get functions h))

  bool_or_not : (b : Bool) → (b ≡ true) ⊎ (b ≡ true → ⊥)
  bool_or_not true = inl refl
  bool_or_not false = inr (λ e. let no : false ≡ true = e in cc)

  measured_or_not : (h : ℕ) → Measured h ⊎ (Measured h → ⊥)
  measured_or_not h = elim (group_or_not (call_table functions) f h) [
    | inl s ↦ elim (bool_or_not (has_measure
        (slice_get functions h))) [ inl e ↦ inl (s, e) | inr lacks ↦ inr (λ m. lacks m.1) ]
    | inr apart ↦ inr (λ m.
        apart m.0)
  ]

  first_from : (fuel k : ℕ) → f ≡ k + fuel → ((h : ℕ) → h < k → Measured h → ⊥) → Measured f
      → (g : ℕ) × IsFirstMeasured functions f g
  first_from zero k e none m =
      let same : f ≡ k = omega (arith, e) in (
        k,
        record {
          alike = subst (OneGroup functions f) same m.0;
          measured = subst (λ h. IsTrue (has_measure
              (slice_get functions h))) same m.1;
          first = λ h lt s w. none h lt (s, w);
        },
      )
  first_from (suc fuel) k e none m = by (measured_or_not k) (λ more. first_from fuel (suc k) (omega (arith, e))
      more m)
    where
      by : Measured k ⊎ (Measured k → ⊥) → (((h : ℕ) → h < suc k → Measured h → ⊥)
          → (g : ℕ) × IsFirstMeasured functions f g) → (g : ℕ) × IsFirstMeasured functions f g
      by (inl has) on = (k, record { alike = has.0; measured = has.1; first = λ h lt s w. none h lt (s, w) })
      by (inr lacks) on =
          on (λ h lt q. elim (eqb_tells h k) [
            | inl same ↦ lacks (subst Measured same.1 q)
            | inr other ↦ none h
                (omega (arith, other.1)) q
          ])

-- a function with a measure is there
measured_there : (functions : List Function) (g : ℕ) → has_measure (slice_get functions g) ≡ true
    → (function : Function) × (slice_get functions g ≡ Some function)
measured_there functions g m = by (slice_get functions g) refl m
  where
    by : (o : Option Function) → slice_get functions g ≡ o → has_measure o ≡ true
        → (function : Function) × (slice_get functions g ≡ Some function)
    by None e m = let no : false ≡ true = m in cc
    by (Some function) e m = (function, e)

pub shared_sorts : (plan : Plan) (program : Program) (f g : ℕ) (one other : Function) → IsPlanOf plan program
    → OneGroup program.functions f g → slice_get program.functions f ≡ Some one
    → slice_get program.functions g ≡ Some other → IsTrue (is_written one.measure)
    → IsTrue (is_written other.measure) → measure_sorts program.types program.functions one ≡ measure_sorts
    program.types program.functions other
shared_sorts plan program f g one other p same here there w v =
    let functions = program.functions in
    let graph = call_table functions in
    let first = first_from functions f f 0 (omega arith) (λ h lt m. absurd (omega (arith, lt))) (
      inl refl,
      ap
          has_measure here ∙ w,
    ) in
    let from_g : IsFirstMeasured functions g first.0 = record {
      alike = across graph g f first.0 (back graph f g same) first.1.alike;
      measured = first.1.measured;
      first = λ h lt s m. first.1.first h lt (across graph f g h same s) m;
    } in
    let at = measured_there functions first.0 first.1.measured in
    let mine = (p.rules f one (slice_get_within functions f one here) here).shaped.alike w first.0 at.0 first.1
    at.1 in
    let its = (p.rules g other (slice_get_within functions g other there) there).shaped.alike v first.0 at.0 from_g
    at.1 in
    mine ∙ sym its
