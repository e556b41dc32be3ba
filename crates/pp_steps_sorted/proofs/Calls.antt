-- The steps of calls are well sorted in a program that has a plan.
use Rattle.std.proofs.Common.{◌≡◌, ℕ, zero, suc, Bool, true, false, List, [], ◌∷◌, map, Option, Some, None, is_some}
use Rattle.std.proofs.Common.{slice_get, sym, ap, ◌∙◌, subst}
use Rattle.std.proofs.lemmas.Bool.{and_parts}
use Rattle.std.specs.List.{list_all}
use Rattle.pp_prog.specs.declared.expr.Expr.{Expr}
use Rattle.pp_prog.specs.declared.expr.Function.{Function}
use Rattle.pp_prog.specs.declared.id.CheckId.{CheckId}
use Rattle.pp_prog.specs.declared.id.FunctionId.{FunctionId}
use Rattle.pp_prog.specs.declared.program.Program.{Program}
use Rattle.pp_prog.specs.declared.sort.Sort.{Sort}
use Rattle.pp_prog.specs.declared.sort.Sort.TheVariants as sort
use Rattle.pp_prog.specs.ExprSorts.{is_of_sort, is_sorted_measure, is_sorted_pre, sort_of}
use Rattle.pp_prog.specs.Listing.{measure, measure_sites, pre_sites, sites}
use Rattle.pp_prog.specs.Results.{result_of}
use Rattle.pp_prog.specs.Sorts.{param_sorts}
use Rattle.pp_prog.specs.Table.{is_sort}
use Rattle.pp_prog.specs.Valid.{has_measure, is_in_range}
use Rattle.pp_prog.proofs.Sure.{is_valid}
use Rattle.pp_checks.specs.Plan.{IsPlanOf, Plan}
use Rattle.pp_checks.specs.Rules.{measure_sorts}
use Rattle.pp_checks.proofs.Called.{read_off}
use Rattle.pp_checks.proofs.Plans.{shared_sorts}
use Rattle.pp_sound.proofs.Calls.{whole}
use Rattle.pp_sound.proofs.Listed.{all_at}
use Rattle.pp_sound.proofs.Sites.{AreMet, IsMet, met_left, met_right}
use Rattle.pp_prog.proofs.PartSorts.{has_the_sort_is, some_sort}
use Rattle.pp_steps.specs.declared.step.Step.TheVariants as steps
use Rattle.pp_steps.specs.Compile.{Site, all, compile}
use Rattle.pp_steps.specs.Frames.{Frame, admitting, descending, entering, inlined, measuring, stopped}
use Rattle.pp_steps.specs.Piece.{asks, bind, demand}
use Rattle.pp_steps.specs.Sorted.{Sorts}
use Rattle.pp_steps_sorted.proofs.Exprs.{IsSiteSorted, expr_compiles}
use Rattle.pp_steps_sorted.proofs.Forms.{AllCompile, Compiles, all_sorted}
use Rattle.pp_steps_sorted.proofs.Measures.{FrameOf, descending_sorted}
use Rattle.pp_steps_sorted.proofs.Pieces.{AreOf, IsOf, WellSorted, demand_sorted, joined_sorted, none_sorted}
use Rattle.pp_steps_sorted.proofs.Pieces.{plain_sorted}

module _ (p : Program) (σ : Sorts) where
  -- the sorts of a list of measures, read off their forms
  abbrev pub component_sorts : List Sort → List Expr → List Sort
  component_sorts scope es = map (λ (e : Expr). result_of p.types p.functions e scope) es

  module _ (i : ℕ) (asked : Option CheckId) (site : Site) (its : IsSiteSorted p σ i site) where
    measures_compile : (es : List Expr) (scope : List Sort) → is_sorted_measure p.types p.functions es scope ≡ true
        → AreMet p i (measure_sites p.types p.functions es scope)
        → AllCompile p.types σ scope (map (compile asked site) es) (component_sorts scope es)
    measures_compile [] scope sorted met = tt
    measures_compile (e ∷ es) scope sorted met =
        let h = and_parts (is_some (sort_of p.types p.functions e scope)) _ sorted in
        let s = some_sort (sort_of p.types p.functions e scope) h.0 in (
          subst (λ t. Compiles p.types σ scope t (compile asked site e))
              (sym (read_off p.types p.functions e scope s.0 s.1))
              (expr_compiles p σ i asked site its e scope s.0 s.1 (met_left _ _ met)),
          measures_compile es scope h.1 (met_right _ _ met),
        )

    -- the measure values of a frame are of the sorts of its function's measures
    pub measuring_sorted : (es : List Expr) (scope : List Sort)
        → is_sorted_measure p.types p.functions es scope ≡ true
        → AreMet p i (measure_sites p.types p.functions es scope)
        → (k : ℕ) (args : List ℕ) (reach : ℕ) → AreOf p.types σ scope args → σ reach ≡ sort.Bool
        → WellSorted p.types σ (FrameOf p.types σ (component_sorts scope es)) k (measuring asked site es k args reach)
    measuring_sorted [] scope sorted met k args reach a r =
        none_sorted p.types σ {R = FrameOf p.types σ []} k None reach tt r
    measuring_sorted (e ∷ es) scope sorted met k args reach a r =
        let ms = map (compile asked site) (e ∷ es) in
        let ss = component_sorts scope (e ∷ es) in
        joined_sorted p.types σ k (all ms k args reach) _
        (all_sorted p.types σ ms scope ss (measures_compile (e ∷ es) scope sorted met) k args reach a r)
        (λ xs. none_sorted p.types σ {R = FrameOf p.types σ ss} _ (Some _) _ xs.out xs.alive)

    -- a condition that has to be true for a run to go on
    pub condition_sorted : (b : Bool) (e : Expr) (scope : List Sort)
        → is_of_sort p.types p.functions sort.Bool scope e ≡ true → AreMet p i (sites p.types p.functions e scope)
        → (k : ℕ) (env : List ℕ) (reach : ℕ) → AreOf p.types σ scope env → σ reach ≡ sort.Bool
        → WellSorted p.types σ (IsOf p.types σ sort.Bool) k
        (bind k (compile asked site e k env reach) (λ n x alive. demand b n alive x))
    condition_sorted b e scope sorted met k env reach a r =
        let is = has_the_sort_is p.types p.functions sort.Bool (sort_of p.types p.functions e scope) sorted in
        joined_sorted p.types σ k (compile asked site e k env reach) _
        (expr_compiles p σ i asked site its e scope sort.Bool is met k env reach a r)
        (λ x. demand_sorted p.types σ b _ _ _ x.alive x.out)

  pub admitting_sorted : (g : ℕ) (site : Site) → IsSiteSorted p σ g site → (o : Option Expr) (scope : List Sort)
      → is_sorted_pre p.types p.functions o scope ≡ true → AreMet p g (pre_sites p.types p.functions o scope)
      → (asked check : Option CheckId) (k : ℕ) (args : List ℕ) (reach : ℕ) → AreOf p.types σ scope args
      → σ reach ≡ sort.Bool
      → WellSorted p.types σ (IsOf p.types σ sort.Bool) k (admitting asked site o check k args reach)
  admitting_sorted g site its None scope sorted met asked check k args reach a r =
      none_sorted p.types σ {R = IsOf p.types σ sort.Bool} k reach reach r r
  admitting_sorted g site its (Some pre) scope sorted met asked check k args reach a r =
      condition_sorted g None site its (asks asked check) pre scope sorted met k args reach a r

  -- a call that isn't followed
  stopped_sorted : (g : ℕ) (f : Function) → slice_get p.functions g ≡ Some f → (k : ℕ)
      → WellSorted p.types σ (IsOf p.types σ f.result) k (stopped (Some f) k)
  stopped_sorted g f is k =
      let range = all_at (is_in_range p.types.datatypes) p.functions g f (is_valid p).in_range is in
      let result = (and_parts (list_all (is_sort p.types.datatypes) (param_sorts f.params)) _ range).1 in
      plain_sorted p.types σ {R = IsOf p.types σ f.result} k (steps.Open f.result ∷ steps.Bool false ∷ []) k (suc k)
      (λ all. (((all.0, result), (all.1.0, tt)), all.0, all.1.0))

  -- the sites of each function are sorted, whatever is asked, in each frame of its measures' sorts
  abbrev pub AllSites : (Option CheckId → Frame → Site) → Type 0
  AllSites calls =
      (i : ℕ) (caller : Function) → slice_get p.functions i ≡ Some caller
      → (asked : Option CheckId) (frame : Frame) → FrameOf p.types σ (measure_sorts p.types p.functions caller) frame
      → IsSiteSorted p σ i (calls asked frame)

  module _ (plan : Plan) (plans : IsPlanOf plan p) where
    -- where a site has a measure check, the measures of both functions have one list of sorts
    pub same_measures : (i : ℕ) (caller : Function) → slice_get p.functions i ≡ Some caller
        → (g : FunctionId) (f : Function) → slice_get p.functions g.0 ≡ Some f
        → (down : Option CheckId) → IsMet p i (measure g down)
        → (c : CheckId) → down ≡ Some c
        → measure_sorts p.types p.functions f ≡ measure_sorts p.types p.functions caller
    same_measures i caller here g f is down met c e =
        let both = met.carries.0 (ap is_some e) in
        sym (shared_sorts plan p i g.0 caller f plans both.0 here is (sym (ap has_measure here) ∙ both.1)
        (sym (ap has_measure is) ∙ both.2))

    entering_sorted : (calls : Option CheckId → Frame → Site) → AllSites calls
        → (i : ℕ) (caller : Function) → slice_get p.functions i ≡ Some caller → (asked : Option CheckId) (frame : Frame)
        → FrameOf p.types σ (measure_sorts p.types p.functions caller) frame
        → (g : FunctionId) (f : Function) → slice_get p.functions g.0 ≡ Some f
        → (k reach : ℕ) (pre down : Option CheckId) (args : List ℕ) → AreOf p.types σ (param_sorts f.params) args
        → IsMet p i (measure g down) → σ reach ≡ sort.Bool
        → WellSorted p.types σ (IsOf p.types σ f.result) k
        (entering (calls None) asked frame (Some f) k reach pre down args)
    entering_sorted calls its i caller here asked frame of g f is k reach pre down args a met r =
        let w = whole p g.0 f is in
        let scope = param_sorts f.params in
        let site = calls None None in
        let site_sorted = its g.0 f is None None tt in
        let olds = measure_sorts p.types p.functions caller in
        let news = measure_sorts p.types p.functions f in
        joined_sorted p.types σ k (admitting asked site f.pre pre k args reach) _
        (admitting_sorted g.0 site site_sorted f.pre scope w.pre_sorted w.pre_met asked pre k args reach a r)
        (λ x. joined_sorted p.types σ _ (measuring None site f.measure _ args _) _
        (measuring_sorted g.0 None site site_sorted f.measure scope w.measure_sorted w.measure_met _ args _ a x.alive)
        (λ y. joined_sorted p.types σ _ (descending asked down frame _ _ _) _
        (descending_sorted p.types σ asked down olds news frame _ _ _ (same_measures i caller here g f is down met) of
        y.out y.alive)
        (λ z. expr_compiles p σ g.0 None (calls None _) (its g.0 f is None _ y.out) f.body scope f.result w.body_sorted
        w.body_met _ args _ a z.alive)))

    -- so are those of calls that are followed
    pub inlined_sorted : (n : ℕ) → AllSites (inlined p.functions n)
    inlined_sorted zero i caller here asked frame of = record {
      call = λ k reach g pre down args f is a met r.
          subst (λ (o : Option Function). WellSorted p.types σ (IsOf p.types σ f.result) k (stopped o k)) (sym is)
          (stopped_sorted g.0 f is k);
    }
    inlined_sorted (suc n) i caller here asked frame of = record {
      call = λ k reach g pre down args f is a met r.
          let calls = inlined p.functions n in
          subst (λ (o : Option Function). WellSorted p.types σ (IsOf p.types σ f.result) k
          (entering (calls None) asked frame o k reach pre down args)) (sym is)
          (entering_sorted calls (inlined_sorted n) i caller here asked frame of g f is k reach pre down args a met r);
    }
