-- What it means that an expression doesn't fail a check that is carried by plain descents alone, and lists of
-- expressions and of cases.
use Rattle.std.proofs.Common.{◌≡◌, ◌⊎◌, ℕ, zero, suc, ◌+◌, ◌≤◌, Bool, true, List, [], ◌∷◌, ◌++◌, map, Option, Some}
use Rattle.std.proofs.Common.{None, Ok, length, slice_get, sym, ap, ◌∙◌, subst, arith, append_assoc, append-nil}
use Rattle.std.proofs.Common.{length-append}
use Rattle.pp_list.proofs.With.{With, elements}
use Rattle.pp_prog.specs.ExprSorts.{case_sorts}
use Rattle.pp_prog.specs.Listing.{sites_in_case, with_case_sites, with_sites}
use Rattle.pp_prog.specs.declared.expr.Case.{Case}
use Rattle.pp_prog.specs.declared.expr.Expr.{Expr}
use Rattle.pp_prog.specs.declared.expr.Function.{Function}
use Rattle.pp_prog.specs.declared.id.CheckId.{CheckId}
use Rattle.pp_prog.specs.declared.id.FunctionId.{FunctionId}
use Rattle.pp_prog.specs.declared.program.Program.{Program}
use Rattle.pp_prog.specs.declared.sort.Sort.{Sort}
use Rattle.pp_prog.specs.declared.value.Value.{Value}
use Rattle.pp_prog.specs.ExprSorts.{Sorting, sort_of, sorts_in}
use Rattle.pp_prog.specs.ExprSorts as sorts
use Rattle.pp_prog.specs.Listing.{CaseSites, Site, Sites, measure, precondition, sites}
use Rattle.pp_prog.specs.Listing.{sites_of_all, sites_of_cases}
use Rattle.pp_prog.specs.Sorts.{param_sorts}
use Rattle.pp_prog.specs.Values.{IsBelow, is_deeper, is_field}
use Rattle.pp_eval.specs.declared.outcome.Stop.TheVariants.{Fails}
use Rattle.pp_eval.specs.Meaning.{CallMeaning, Frame, Meaning, all_from, arm, attempt}
use Rattle.pp_eval.specs.Meaning.{first_case, meaning, or_next}
use Rattle.pp_eval.specs.Meaning as mean
use Rattle.pp_eval.specs.Part.{Part, failed, found}
use Rattle.pp_sound.proofs.Cases.{EachArm}
use Rattle.pp_prog.proofs.ValueSorts.{Has, Have, have_more, have_one}
use Rattle.pp_sound.proofs.Exprs.{AreGood, expr_sound}
use Rattle.pp_sound.proofs.Sites.{AreMet, IsMet, met_left, met_right}
use Rattle.pp_checks.specs.Marks.{CaseDescents, Seen, descents_in_case, first_param_of, in_all, in_cases, seen}
use Rattle.pp_run_laws.proofs.MeasureSorts.{told_value}
use Rattle.pp_run_laws.proofs.Stops.{failed_stops}
use Rattle.pp_guess_runs.proofs.Truth.{then_value}
use Rattle.pp_plain_laws.proofs.Counts.{count, count_append, places, places_append}
use Rattle.pp_plain_laws.proofs.Scope.{AreInScope, IsClean, IsOther, clean_then, clean_value, found_some, get_behind}
use Rattle.pp_plain_laws.proofs.Scope.{other_stuck, values_behind}

-- the argument for the first component of the called function's measure lies below the value
pub record GoesBelow (functions : List Function) (v0 : Value) (g : FunctionId) (args : List Value) : Type 0 where
  pub place : ℕ
  pub param : first_param_of (slice_get functions g.0) ≡ Some place
  pub value : Value
  pub there : slice_get args place ≡ Some value
  pub below : IsBelow value v0

-- a call fails the check only where it is the site's precondition check, or its measure check and no plain descent
pub record CallsClean (p : Program) (i : ℕ) (c : CheckId) (calls0 : CallMeaning) (old : Frame) (v0 : Value) : Type 0
  where
    pub clean : (g : FunctionId) (pre down : Option CheckId) (args : List Value) (h : Function)
        → slice_get p.functions g.0 ≡ Some h → Have p.types.ctors (param_sorts h.params) args
        → IsMet p i (precondition g pre) → IsMet p i (measure g down) → (pre ≡ Some c → ⊥)
        → (down ≡ Some c → GoesBelow p.functions v0 g args) → IsClean c (calls0 old g pre down args)

pub below_trans : (w v u : Value) → IsBelow w v → IsBelow v u → IsBelow w u
below_trans w v u b (is_field d fields e has) = is_deeper d fields e has b
below_trans w v u b (is_deeper {v = x} d fields e has q) = is_deeper d fields e has (below_trans w v x b q)

-- the check c of function number i that is looked at, the calls that are made from the frame `old`, and the parameter
-- number pp, which has the value v0
pub record Setting : Type 0 where
  pub p : Program
  pub i : ℕ
  pub c : CheckId
  pub calls0 : CallMeaning
  pub good : AreGood p (Unit {0}) i calls0
  pub old : Frame
  pub pp : ℕ
  pub v0 : Value
  pub calls_clean : CallsClean p i c calls0 old v0

module _ (x : Setting) where
  abbrev p : Program
  p = x.p

  abbrev i : ℕ
  i = x.i

  abbrev c : CheckId
  c = x.c

  abbrev calls0 : CallMeaning
  calls0 = x.calls0

  abbrev old : Frame
  old = x.old

  abbrev pp : ℕ
  pp = x.pp

  abbrev v0 : Value
  v0 = x.v0

  abbrev pub Sorted : Expr → Sorting
  Sorted = sort_of p.types p.functions

  abbrev pub Placed : Expr → Sites
  Placed = sites p.types p.functions

  abbrev pub Meant : Expr → Meaning
  Meant = meaning calls0

  abbrev pub Looked : Expr → Seen
  Looked = seen p.functions pp

  abbrev pub SortedArm : Case → sorts.Arm
  SortedArm = case_sorts p.types p.functions

  abbrev pub PlacedArm : Case → CaseSites
  PlacedArm = sites_in_case p.types p.functions

  abbrev pub MeantArm : Case → mean.Arm
  MeantArm = arm calls0

  abbrev pub LookedArm : Case → CaseDescents
  LookedArm = descents_in_case p.functions pp

  abbrev pub InScope : List Bool → List Value → Type 0
  InScope = AreInScope pp v0

  -- how often the check is among the descents, and carried by sites
  abbrev pub found_in : List ℕ → ℕ
  found_in = count c.0

  abbrev pub carried_by : List Site → ℕ
  carried_by = places c.0

  pub record IsExpr (e : Expr) : Type 0 where
    pub variable : (k : ℕ) → (Looked e).0 ≡ Some k → (env : List Value) → Meant e old env ≡ found (slice_get env k)
    pub few : (scope : List Sort) (s : Sort) → Sorted e scope ≡ Some s → (marks : List Bool)
        → found_in ((Looked e).1 marks) ≤ carried_by (Placed e scope)
    pub clean : (scope : List Sort) (s : Sort) → Sorted e scope ≡ Some s → AreMet p i (Placed e scope)
        → (env : List Value)
        → Have p.types.ctors scope env → (marks : List Bool) → InScope marks env
        → found_in ((Looked e).1 marks) ≡ carried_by (Placed e scope) → IsClean c (Meant e old env)

  -- the matched value is that of the parameter, or lies below it
  abbrev pub IsLive : Bool → Value → Type 0
  IsLive live v = live ≡ true → (v ≡ v0) ⊎ IsBelow v v0

  pub record IsCase (k : Case) : Type 0 where
    pub few : (s u : Sort) (scope : List Sort) → sorts.arm_sort p.types p.functions (SortedArm k) s scope ≡ Some u
        → (live : Bool) (marks : List Bool) → found_in (LookedArm k live marks) ≤ carried_by (PlacedArm k s scope)
    pub clean : (s u : Sort) (scope : List Sort) → sorts.arm_sort p.types p.functions (SortedArm k) s scope ≡ Some u
        → AreMet p i (PlacedArm k s scope) → (env : List Value) → Have p.types.ctors scope env → (live : Bool)
        → (marks : List Bool) → InScope marks env → found_in (LookedArm k live marks) ≡ carried_by (PlacedArm k s scope)
        → (v : Value) → Has p.types.ctors s v → IsLive live v → IsClean c (attempt (MeantArm k) v old env)

  -- the value of a sorted expression has its sort
  pub valued : (e : Expr) (scope : List Sort) (s : Sort) → Sorted e scope ≡ Some s → AreMet p i (Placed e scope)
      → (env : List Value) → Have p.types.ctors scope env → (v : Value) → Meant e old env ≡ Ok v → Has p.types.ctors s v
  valued e scope s is met env have v at =
      told_value (expr_sound p (Unit {0}) i calls0 x.good e scope s is met old env have) v at

  -- ---- several expressions

  pub list_few : (ys : List (With IsExpr)) (ts : List Sort) (scope : List Sort)
      → sorts_in scope (map Sorted (elements ys)) ≡ map Some ts
      → (marks : List Bool) → found_in (in_all (map Looked (elements ys)) marks) ≤ carried_by
      (sites_of_all (with_sites p.types p.functions (elements ys)) scope)
  list_few [] ts scope h marks = omega arith
  list_few (y ∷ ys) [] scope h marks = cc
  list_few (y ∷ ys) (t ∷ ts) scope h marks =
      let here : Sorted y.0 scope ≡ Some t = cc in
      let rest : sorts_in scope (map Sorted (elements ys)) ≡ map Some ts = cc in
      omega (
        arith,
        y.1.few scope t here marks,
        list_few ys ts scope rest marks,
        count_append c.0 ((Looked y.0).1 marks) (in_all (map Looked (elements ys)) marks),
        places_append c.0 (Placed y.0 scope) (sites_of_all (with_sites p.types p.functions (elements ys)) scope),
      )

  pub list_clean : (ys : List (With IsExpr)) (ts : List Sort) (scope : List Sort)
      → sorts_in scope (map Sorted (elements ys)) ≡ map Some ts
      → AreMet p i (sites_of_all (with_sites p.types p.functions (elements ys)) scope) → (env : List Value)
      → Have p.types.ctors scope env
      → (marks : List Bool) → InScope marks env
      → found_in (in_all (map Looked (elements ys)) marks) ≡ carried_by
      (sites_of_all (with_sites p.types p.functions (elements ys)) scope)
      → (done : List Value) → IsClean c (all_from done (map Meant (elements ys)) old env)
  list_clean [] ts scope h met env have marks inside tight done = clean_value
  list_clean (y ∷ ys) [] scope h met env have marks inside tight done = cc
  list_clean (y ∷ ys) (t ∷ ts) scope h met env have marks inside tight done =
      let here : Sorted y.0 scope ≡ Some t = cc in
      let rest : sorts_in scope (map Sorted (elements ys)) ≡ map Some ts = cc in
      let one = y.1.few scope t here marks in
      let more = list_few ys ts scope rest marks in
      let both = count_append c.0 ((Looked y.0).1 marks) (in_all (map Looked (elements ys)) marks) in
      let all = places_append c.0 (Placed y.0 scope)
      (sites_of_all (with_sites p.types p.functions (elements ys)) scope) in
      clean_then _ (y.1.clean scope t here (met_left _ _ met) env have marks inside
      (omega (arith, one, more, both, all, tight)))
      (λ v at. list_clean ys ts scope rest (met_right _ _ met) env have marks inside
      (omega (arith, one, more, both, all, tight)) (done ++ v ∷ []))

  pub list_sorted : (ys : List (With IsExpr)) (ts : List Sort) (scope : List Sort)
      → sorts_in scope (map Sorted (elements ys)) ≡ map Some ts
      → AreMet p i (sites_of_all (with_sites p.types p.functions (elements ys)) scope) → (env : List Value)
      → Have p.types.ctors scope env
      → (before : List Sort) (done : List Value) → Have p.types.ctors before done → (vs : List Value)
      → all_from done (map Meant (elements ys)) old env ≡ Ok vs → Have p.types.ctors (before ++ ts) vs
  list_sorted [] [] scope h met env have before done known vs e =
      let same : done ≡ vs = cc in
      subst (λ l. Have p.types.ctors l vs) (sym (append-nil before)) (subst (Have p.types.ctors before) same known)
  list_sorted [] (t ∷ ts) scope h met env have before done known vs e = cc
  list_sorted (y ∷ ys) [] scope h met env have before done known vs e = cc
  list_sorted (y ∷ ys) (t ∷ ts) scope h met env have before done known vs e =
      let here : Sorted y.0 scope ≡ Some t = cc in
      let rest : sorts_in scope (map Sorted (elements ys)) ≡ map Some ts = cc in
      let v = then_value (Meant y.0 old env) (λ v. all_from (done ++ v ∷ []) (map Meant (elements ys)) old env) vs e in
      let has = valued y.0 scope t here (met_left _ _ met) env have v.0 v.1 in
      subst (λ l. Have p.types.ctors l vs) (append_assoc before (t ∷ []) ts)
      (list_sorted ys ts scope rest (met_right _ _ met) env have (before ++ t ∷ []) (done ++ v.0 ∷ [])
      (have_more p.types.ctors before (t ∷ []) done (v.0 ∷ []) known (have_one p.types.ctors t v.0 has)) vs v.2)

  -- an argument that is a variable has its value
  pub variable_at : (ys : List (With IsExpr)) (q : ℕ) (sn : Seen) (k : ℕ)
      → slice_get (map Looked (elements ys)) q ≡ Some sn
      → sn.0 ≡ Some k
      → (env done vs : List Value) → all_from done (map Meant (elements ys)) old env ≡ Ok vs
      → (w : Value) × (slice_get env k ≡ Some w) × (slice_get vs (length done + q) ≡ Some w)
  variable_at [] q sn k is var env done vs e = cc
  variable_at (y ∷ ys) zero sn k is var env done vs e =
      let v = then_value (Meant y.0 old env) (λ v. all_from (done ++ v ∷ []) (map Meant (elements ys)) old env) vs e in
      let same : Looked y.0 ≡ sn = cc in
      let at : found (slice_get env k) ≡ Ok v.0 = sym (y.1.variable k (ap (λ (s : Seen). s.0) same ∙ var) env) ∙ v.1 in
      let more = values_behind (map Meant (elements ys)) (done ++ v.0 ∷ []) old env vs v.2 in
      let n : length done + 0 ≡ length done = omega arith in (
        v.0,
        found_some (slice_get env k) v.0 at,
        ap (λ l. slice_get l (length done + 0)) (more.1 ∙ append_assoc done (v.0 ∷ []) more.0)
            ∙ ap (slice_get (done ++ v.0 ∷ more.0)) n ∙ get_behind done v.0 more.0,
      )
  variable_at (y ∷ ys) (suc q) sn k is var env done vs e =
      let v = then_value (Meant y.0 old env) (λ v. all_from (done ++ v ∷ []) (map Meant (elements ys)) old env) vs e in
      let r = variable_at ys q sn k is var env (done ++ v.0 ∷ []) vs v.2 in
      let n : length (done ++ v.0 ∷ []) + q ≡ length done + suc q = omega (arith, length-append done (v.0 ∷ [])) in (
        r.0,
        r.1,
        sym (ap (slice_get vs) n) ∙ r.2,
      )

  -- ---- cases

  pub cases_few : (ys : List (With IsCase)) (s u : Sort) (scope : List Sort)
      → EachArm p s u scope (map SortedArm (elements ys))
      → (live : Bool) (marks : List Bool)
      → found_in (in_cases (map LookedArm (elements ys)) live marks) ≤ carried_by
      (sites_of_cases (with_case_sites p.types p.functions (elements ys)) s scope)
  cases_few [] s u scope each live marks = omega arith
  cases_few (y ∷ ys) s u scope each live marks =
      omega (
        arith,
        y.1.few s u scope each.0 live marks,
        cases_few ys s u scope each.1 live marks,
        count_append c.0 (LookedArm y.0 live marks) (in_cases (map LookedArm (elements ys)) live marks),
        places_append c.0 (PlacedArm y.0 s scope)
            (sites_of_cases (with_case_sites p.types p.functions (elements ys)) s scope),
      )

  pub next_clean : (o : Option Value) (next : Part Value) → IsClean c next → IsClean c (or_next o next)
  next_clean None next h = h
  next_clean (Some v) next h = clean_value

  -- a check that isn't the one that is looked at
  abbrev pub NotIt : Option CheckId → Type 0
  NotIt check = check ≡ Some c → ⊥

  pub other_fails : (check : Option CheckId) → NotIt check → (d : CheckId) → check ≡ Some d → IsOther c (Fails d)
  other_fails check other d is same = let one : d ≡ c = cc in other (is ∙ ap Some one)

  pub failed_clean : (check : Option CheckId) → NotIt check → IsClean c {A = Value} (failed check)
  failed_clean check other =
      record { told = failed_stops (IsOther c) (other_stuck c) Value check (other_fails check other) }

  pub cases_clean : (ys : List (With IsCase)) (s u : Sort) (scope : List Sort)
      → EachArm p s u scope (map SortedArm (elements ys))
      → AreMet p i (sites_of_cases (with_case_sites p.types p.functions (elements ys)) s scope) → (env : List Value)
      → Have p.types.ctors scope env → (live : Bool) (marks : List Bool) → InScope marks env
      → found_in (in_cases (map LookedArm (elements ys)) live marks) ≡ carried_by
      (sites_of_cases (with_case_sites p.types p.functions (elements ys)) s scope)
      → (v : Value) → Has p.types.ctors s v → IsLive live v → (check : Option CheckId) → NotIt check
      → IsClean c (first_case (map MeantArm (elements ys)) check v old env)
  cases_clean [] s u scope each met env have live marks inside tight v has lives check other = failed_clean check other
  cases_clean (y ∷ ys) s u scope each met env have live marks inside tight v has lives check other =
      let one = y.1.few s u scope each.0 live marks in
      let more = cases_few ys s u scope each.1 live marks in
      let both = count_append c.0 (LookedArm y.0 live marks) (in_cases (map LookedArm (elements ys)) live marks) in
      let all = places_append c.0 (PlacedArm y.0 s scope)
      (sites_of_cases (with_case_sites p.types p.functions (elements ys)) s scope) in
      clean_then _
      (y.1.clean s u scope each.0 (met_left _ _ met) env have live marks inside
      (omega (arith, one, more, both, all, tight)) v has lives)
      (λ o at. next_clean o _ (cases_clean ys s u scope each.1 (met_right _ _ met) env have live marks inside
      (omega (arith, one, more, both, all, tight)) v has lives check other))
