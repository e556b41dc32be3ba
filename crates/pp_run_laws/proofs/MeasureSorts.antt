-- The measure values of a frame have the sorts of the function's measure.
use Rattle.std.proofs.Common.{◌≡◌, ℕ, true, List, [], ◌∷◌, ◌++◌, map, Some, None, is_some, Ok, refl, sym, subst}
use Rattle.std.proofs.Common.{append_assoc, append-nil}
use Rattle.std.proofs.lemmas.Bool.{and_parts}
use Rattle.pp_prog.specs.declared.expr.Expr.{Expr}
use Rattle.pp_prog.specs.declared.program.Program.{Program}
use Rattle.pp_prog.specs.declared.sort.Sort.{Sort}
use Rattle.pp_prog.specs.declared.value.Value.{Value}
use Rattle.pp_prog.specs.ExprSorts.{is_sorted_measure, sort_of}
use Rattle.pp_prog.specs.Listing.{measure_sites}
use Rattle.pp_prog.specs.Results.{result_of}
use Rattle.pp_prog.specs.Sorts.{param_sorts}
use Rattle.pp_eval.specs.declared.outcome.Stop.{Stop}
use Rattle.pp_eval.specs.Invocation.{calls_to, frame_of, no_fuel}
use Rattle.pp_eval.specs.Meaning.{CallMeaning, Frame, all_from, meaning}
use Rattle.pp_eval.specs.Part.{Part}
use Rattle.pp_sound.proofs.Laws.{no_fuel_good}
use Rattle.pp_sound.proofs.Calls.{calls_good, whole}
use Rattle.pp_prog.proofs.ValueSorts.{Has, Have, have_more, have_one}
use Rattle.pp_sound.proofs.Exprs.{AreGood, expr_sound}
use Rattle.pp_sound.proofs.Parts.{IsFine, MayStop, fine_then, fine_value}
use Rattle.pp_sound.proofs.Sites.{AreMet, met_left, met_right}
use Rattle.pp_prog.proofs.PartSorts.{some_sort}
use Rattle.pp_checks.proofs.Called.{read_off}
use Rattle.pp_run_laws.specs.Laws.{MeasuresKeepSorts}

pub calls_to_good : (p : Program) (n i : ℕ) → AreGood p (Unit {0}) i (calls_to p.types.ctors p.functions n)
calls_to_good p n i = calls_good p (Unit {0}) no_fuel (no_fuel_good p) n i

module _ (p : Program) where
  -- the sorts of the components
  abbrev pub component_sorts : List Expr → List Sort → List Sort
  component_sorts es scope = map (λ (e : Expr). result_of p.types p.functions e scope) es

  -- the frame has values exactly where a measure list is written, and they have its sorts
  abbrev pub IsFrameOf : List Expr → List Sort → Frame → Type 0
  IsFrameOf es scope None = es ≡ []
  IsFrameOf es scope (Some values) = Have p.types.ctors (component_sorts es scope) values

module _ (p : Program) (D : Type 0) (i : ℕ) (calls : CallMeaning) (good : AreGood p D i calls) where
  components_sorted : (es : List Expr) (scope : List Sort) → is_sorted_measure p.types p.functions es scope ≡ true
      → AreMet p i (measure_sites p.types p.functions es scope) → (env : List Value) → Have p.types.ctors scope env
      → (before : List Sort) (done : List Value) → Have p.types.ctors before done
      → IsFine (MayStop p D i) (Have p.types.ctors (before ++ component_sorts p es scope))
      (all_from done (map (meaning calls) es) None env)
  components_sorted [] scope sorted met env have before done known =
      fine_value (subst (λ l. Have p.types.ctors l done) (sym (append-nil before)) known)
  components_sorted (e ∷ es) scope sorted met env have before done known =
      let h = and_parts (is_some (sort_of p.types p.functions e scope)) _ sorted in
      let s = some_sort (sort_of p.types p.functions e scope) h.0 in
      let first = result_of p.types p.functions e scope in
      let same : first ≡ s.0 = read_off p.types p.functions e scope s.0 s.1 in
      fine_then (expr_sound p D i calls good e scope s.0 s.1 (met_left _ _ met) None env have)
      (λ v has. subst (λ l. IsFine (MayStop p D i) (Have p.types.ctors l)
      (all_from (done ++ v ∷ []) (map (meaning calls) es) None env))
      (append_assoc before (first ∷ []) (component_sorts p es scope))
      (components_sorted es scope h.1 (met_right _ _ met) env have (before ++ first ∷ []) (done ++ v ∷ [])
      (have_more p.types.ctors before (first ∷ []) done (v ∷ []) known
      (have_one p.types.ctors first v (subst (λ t. Has p.types.ctors t v) (sym same) has)))))

  pub frame_sorted : (es : List Expr) (scope : List Sort) → is_sorted_measure p.types p.functions es scope ≡ true
      → AreMet p i (measure_sites p.types p.functions es scope) → (env : List Value) → Have p.types.ctors scope env
      → IsFine (MayStop p D i) (IsFrameOf p es scope) (frame_of calls es env)
  frame_sorted [] scope sorted met env have = fine_value refl
  frame_sorted (e ∷ es) scope sorted met env have =
      fine_then (components_sorted (e ∷ es) scope sorted met env have [] [] refl) (λ vs h. fine_value h)

pub told_value : {A : Type 0} {S : Stop → Type 0} {V : A → Type 0} {part : Part A} → IsFine S V part → (a : A)
    → part ≡ Ok a → V a
told_value {S = S} {V = V} h a e =
    let told : IsFine S V (Ok a) = subst (λ q. IsFine S V q) e h in told.told

pub measures_keep_sorts : MeasuresKeepSorts
measures_keep_sorts p i f args values called n e =
    let w = whole p i f called.function in
    let c = calls_to p.types.ctors p.functions n in
    told_value (frame_sorted p (Unit {0}) i c (calls_to_good p n i) f.measure (param_sorts f.params) w.measure_sorted
    w.measure_met args called.arguments) (Some values) e
