-- The steps of a run are well sorted where those of its calls are.
use Rattle.std.proofs.Common.{◌≡◌, ℕ, suc, true, false, List, [], ◌∷◌, ◌++◌, map, Option, Some, None, slice_get, refl}
use Rattle.std.proofs.Common.{sym, ap, ◌∙◌}
use Rattle.std.proofs.lemmas.Bool.{and_parts}
use Rattle.std.specs.List.{list_all}
use Rattle.pp_prog.specs.declared.expr.Expr.{Expr}
use Rattle.pp_prog.specs.declared.expr.Function.{Function}
use Rattle.pp_prog.specs.declared.id.CheckId.{CheckId}
use Rattle.pp_prog.specs.declared.program.Program.{Program}
use Rattle.pp_prog.specs.declared.sort.Sort.{Sort}
use Rattle.pp_prog.specs.declared.sort.Sort.TheVariants as sort
use Rattle.pp_prog.specs.declared.types.TypeTable.{TypeTable}
use Rattle.pp_prog.specs.ExprSorts.{is_sorted_post, is_sorted_pre}
use Rattle.pp_prog.specs.Listing.{post_sites, pre_sites}
use Rattle.pp_prog.specs.Sorts.{param_sorts}
use Rattle.pp_prog.specs.Table.{is_sort}
use Rattle.pp_checks.specs.Rules.{measure_sorts}
use Rattle.pp_sound.proofs.Calls.{whole}
use Rattle.pp_sound.proofs.Sites.{AreMet, met_left}
use Rattle.pp_steps.specs.declared.step.Step.TheVariants as steps
use Rattle.pp_steps.specs.Compile.{Site, compile}
use Rattle.pp_steps.specs.Frames.{Frame, allowing, any_of, arguments, finishing, measuring, numbers, open_step, running}
use Rattle.pp_steps.specs.Frames.{starting}
use Rattle.pp_steps.specs.Piece.{asks}
use Rattle.pp_steps.specs.Sorted.{AllSorted, Sorts}
use Rattle.pp_steps_sorted.proofs.Assigned.{AllAssigned, assigned_parts}
use Rattle.pp_steps_sorted.proofs.Calls.{AllSites, condition_sorted, measuring_sorted}
use Rattle.pp_steps_sorted.proofs.Exprs.{expr_compiles}
use Rattle.pp_steps_sorted.proofs.Measures.{FrameOf}
use Rattle.pp_steps_sorted.proofs.Pieces.{AreBool, AreOf, IsOf, WellSorted, joined_sorted, none_sorted, of_more}
use Rattle.pp_steps_sorted.proofs.Pieces.{one_sorted, sorted_join}

-- ---- the arguments

module _ (types : TypeTable) (σ : Sorts) where
  opens_sorted : (ss : List Sort) (k : ℕ) → list_all (is_sort types.datatypes) ss ≡ true
      → AllAssigned types σ k (map open_step ss)
      → AllSorted types σ k (map open_step ss) × AreOf types σ ss (numbers k ss)
  opens_sorted [] k h all = (tt, refl)
  opens_sorted (s ∷ ss) k h all =
      let both = and_parts (is_sort types.datatypes s) _ h in
      let rest = opens_sorted ss (suc k) both.1 all.1 in
      (((all.0, both.0), rest.0), ap (λ t. t ∷ map σ (numbers (suc k) ss)) all.0 ∙ ap (λ ts. s ∷ ts) rest.1)

  pub arguments_sorted : (ss : List Sort) → list_all (is_sort types.datatypes) ss ≡ true
      → WellSorted types σ (AreOf types σ ss) 0 (arguments ss)
  arguments_sorted ss h = record {
    given = λ all.
        let last = steps.Bool true ∷ [] in
        let both = assigned_parts types σ 0 (map open_step ss) last all in
        let opens = opens_sorted ss 0 h both.0 in
        record {
          sorted = sorted_join types σ 0 (map open_step ss) last opens.0 (both.1.0, tt);
          fails = tt;
          leaves = record { out = opens.1; alive = both.1.0 };
        };
  }

  -- ---- whether one of the numbers is true

  pub any_sorted : (ns : List ℕ) (k alive : ℕ) → AreBool types σ ns → σ alive ≡ sort.Bool
      → WellSorted types σ (IsOf types σ sort.Bool) k (any_of ns k alive)
  any_sorted [] k alive h a = one_sorted types σ (steps.Bool _) sort.Bool k alive (λ is. (is, is)) a
  any_sorted (x ∷ []) k alive h a = none_sorted types σ {R = IsOf types σ sort.Bool} k x alive h.0 a
  any_sorted (x ∷ y ∷ ns) k alive h a =
      joined_sorted types σ k (any_of (y ∷ ns) k alive) _ (any_sorted (y ∷ ns) k alive h.1 a)
      (λ z. one_sorted types σ (steps.Choose x x _) sort.Bool _ alive
      (λ is. ((h.0, sym is, z.out ∙ sym h.0 ∙ sym is), is ∙ h.0)) a)

-- ---- the run

module _ (p : Program) (σ : Sorts) (calls : Option CheckId → Frame → Site) (its : AllSites p σ calls) (i : ℕ)
    (f : Function) (is : slice_get p.functions i ≡ Some f) (asked : Option CheckId) where
  abbrev scope : List Sort
  scope = param_sorts f.params

  abbrev OfMeasures : Frame → Type 0
  OfMeasures frame = FrameOf p.types σ (measure_sorts p.types p.functions f) frame

  allowing_sorted : (o : Option Expr) → is_sorted_pre p.types p.functions o scope ≡ true
      → AreMet p i (pre_sites p.types p.functions o scope)
      → (k : ℕ) (args : List ℕ) (reach : ℕ) → AreOf p.types σ scope args → σ reach ≡ sort.Bool
      → WellSorted p.types σ (IsOf p.types σ sort.Bool) k (allowing asked (calls asked None) o k args reach)
  allowing_sorted None sorted met k args reach a r =
      none_sorted p.types σ {R = IsOf p.types σ sort.Bool} k reach reach r r
  allowing_sorted (Some pre) sorted met k args reach a r =
      condition_sorted p σ i asked (calls asked None) (its i f is asked None tt) false pre scope sorted met k args
      reach a r

  finishing_sorted : (o : Option (CheckId × Expr))
      → is_sorted_post p.types p.functions o (scope ++ f.result ∷ []) ≡ true
      → AreMet p i (post_sites p.types p.functions o f.result scope) → (frame : Frame) → OfMeasures frame
      → (k : ℕ) (values : List ℕ) (reach : ℕ) → AreOf p.types σ (scope ++ f.result ∷ []) values → σ reach ≡ sort.Bool
      → WellSorted p.types σ (IsOf p.types σ sort.Bool) k (finishing asked (calls asked frame) o k values reach)
  finishing_sorted None sorted met frame of k values reach a r =
      none_sorted p.types σ {R = IsOf p.types σ sort.Bool} k reach reach r r
  finishing_sorted (Some post) sorted met frame of k values reach a r =
      condition_sorted p σ i asked (calls asked frame) (its i f is asked frame of) (asks asked (Some post.0)) post.1
      (scope ++ f.result ∷ []) sorted (met_left _ _ met) k values reach a r

  starting_sorted : (k : ℕ) (args : List ℕ) (reach : ℕ) → AreOf p.types σ scope args → σ reach ≡ sort.Bool
      → WellSorted p.types σ (IsOf p.types σ sort.Bool) k (starting (calls asked) asked f k args reach)
  starting_sorted k args reach a r =
      let w = whole p i f is in
      joined_sorted p.types σ k (measuring asked (calls asked None) f.measure k args reach) _
      (measuring_sorted p σ i asked (calls asked None) (its i f is asked None tt) f.measure scope w.measure_sorted
      w.measure_met k args reach a r)
      (λ y. joined_sorted p.types σ _ (compile asked (calls asked _) f.body _ args _) _
      (expr_compiles p σ i asked (calls asked _) (its i f is asked _ y.out) f.body scope f.result w.body_sorted
      w.body_met _ args _ a y.alive)
      (λ v. finishing_sorted f.post w.post_sorted w.post_met _ y.out _ (args ++ _ ∷ []) _
      (of_more p.types σ scope f.result args _ a v.out) v.alive))

  pub running_sorted : (k : ℕ) (args : List ℕ) (reach : ℕ) → AreOf p.types σ scope args → σ reach ≡ sort.Bool
      → WellSorted p.types σ (IsOf p.types σ sort.Bool) k (running (calls asked) asked f k args reach)
  running_sorted k args reach a r =
      let w = whole p i f is in
      joined_sorted p.types σ k (allowing asked (calls asked None) f.pre k args reach) _
      (allowing_sorted f.pre w.pre_sorted w.pre_met k args reach a r)
      (λ x. starting_sorted _ args _ a x.alive)
