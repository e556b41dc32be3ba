-- Each round of a guess run is well sorted in a program that has a plan.
use Rattle.std.proofs.Common.{◌≡◌, ℕ, suc, Bool, true, false, List, [], ◌∷◌, ◌++◌, map, Option, Some, None, sym, ap}
use Rattle.std.proofs.Common.{◌∙◌, subst}
use Rattle.std.specs.Prelude.{slice_get}
use Rattle.std.specs.List.{list_all}
use Rattle.std.proofs.lemmas.Bool.{and_parts}
use Rattle.pp_tree.specs.declared.operator.BinaryOp.TheVariants.{Equal}
use Rattle.pp_prog.specs.declared.expr.Expr.{Expr}
use Rattle.pp_prog.specs.declared.expr.Function.{Function}
use Rattle.pp_prog.specs.declared.id.CheckId.{CheckId}
use Rattle.pp_prog.specs.declared.id.FunctionId.{FunctionId}
use Rattle.pp_prog.specs.declared.program.Program.{Program}
use Rattle.pp_prog.specs.declared.sort.Sort.TheVariants as sort
use Rattle.pp_prog.specs.ExprSorts.{is_sorted_post}
use Rattle.pp_prog.specs.Listing.{measure as measure_site, post_sites}
use Rattle.pp_prog.specs.Sorts.{param_sorts}
use Rattle.pp_prog.specs.Table.{is_sort}
use Rattle.pp_prog.specs.Valid.{is_in_range}
use Rattle.pp_prog.proofs.Sure.{is_valid}
use Rattle.pp_checks.specs.Plan.{IsPlanOf, Plan}
use Rattle.pp_checks.specs.Rules.{measure_sorts}
use Rattle.pp_sound.proofs.Calls.{whole}
use Rattle.pp_sound.proofs.Listed.{all_at}
use Rattle.pp_sound.proofs.Sites.{AreMet, IsMet, met_left}
use Rattle.pp_steps.specs.declared.step.Step.{Step}
use Rattle.pp_steps.specs.declared.step.Step.TheVariants as steps
use Rattle.pp_steps.specs.Compile.{compile}
use Rattle.pp_steps.specs.Frames.{Frame, admitting, measuring, result_of}
use Rattle.pp_steps.specs.Guesses.{Standing, asking, comparing, comparing_if, guessing, holding, implying, open_call}
use Rattle.pp_steps.specs.Guesses.{own_call, params_of, standing, unfolded_of}
use Rattle.pp_steps.specs.Piece.{asks, demand, plain}
use Rattle.pp_steps.specs.Sorted.{AllSorted, Sorts}
use Rattle.pp_steps_run.specs.Told.{AllOf}
use Rattle.pp_steps_sorted.proofs.Calls.{AllSites, admitting_sorted, condition_sorted, measuring_sorted, same_measures}
use Rattle.pp_steps_sorted.proofs.Exprs.{IsSiteSorted, expr_compiles}
use Rattle.pp_steps_sorted.proofs.Measures.{FrameOf, descending_sorted}
use Rattle.pp_steps_sorted.proofs.Pieces.{AreOf, IsOf, WellSorted, demand_sorted, joined_sorted, none_sorted, of_more}
use Rattle.pp_steps_sorted.proofs.Pieces.{one_sorted, plain_sorted}
use Rattle.pp_steps_sorted.proofs.Steps.{equal_makes}
use Rattle.pp_guess_steps.proofs.Labels.{HasLabels, Labelled}
use Rattle.pp_guess_steps.proofs.Rounds.{Paired}

module _ (p : Program) (σ : Sorts) where
  abbrev Bools : ℕ → Type 0
  Bools = IsOf p.types σ sort.Bool

  -- ---- calls

  pub asking_sorted : (wait i : ℕ) → IsSiteSorted p σ i (asking p.functions wait)
  asking_sorted wait i = record {
    call = λ k reach g pre down args f is a met r.
        let c = open_call p.functions wait reach g args in
        let params = a ∙ sym (ap params_of is) in
        let range = all_at (is_in_range p.types.datatypes) p.functions g.0 f (is_valid p).in_range is in
        let result = (and_parts (list_all (is_sort p.types.datatypes) (param_sorts f.params)) _ range).1 in
        plain_sorted p.types σ {R = IsOf p.types σ f.result} k
        (steps.HasAnswer c ∷ steps.Answer c ∷ steps.Both reach k ∷ []) (suc k) (suc (suc k))
        (λ all. (
          (
            (r, params, all.0),
            (
              (params, all.1.0, ap (λ o. is_sort p.types.datatypes (result_of o)) is ∙ result),
              ((r, all.0, all.1.1.0), tt),
            ),
          ),
          all.1.0 ∙ ap result_of is,
          all.1.1.0,
        ));
  }

  module _ (plan : Plan) (plans : IsPlanOf plan p) (i : ℕ) (caller : Function)
      (here : slice_get p.functions i ≡ Some caller) (asked : Option CheckId) (frame : Frame)
      (of : FrameOf p.types σ (measure_sorts p.types p.functions caller) frame) (g : FunctionId) (f : Function)
      (is : slice_get p.functions g.0 ≡ Some f) (down : Option CheckId) (met : IsMet p i (measure_site g down)) where
    comparing_sorted : (b : Bool) (k : ℕ) (args : List ℕ) (reach : ℕ) → AreOf p.types σ (param_sorts f.params) args
        → σ reach ≡ sort.Bool
        → WellSorted p.types σ Bools k (comparing_if b asked (asking p.functions 1) frame f.measure down k args reach)
    comparing_sorted false k args reach a r = none_sorted p.types σ {R = Bools} k reach reach r r
    comparing_sorted true k args reach a r =
        let w = whole p g.0 f is in
        let site = asking p.functions 1 in
        joined_sorted p.types σ k (measuring None site f.measure k args reach) _
        (measuring_sorted p σ g.0 None site (asking_sorted 1 g.0) f.measure (param_sorts f.params) w.measure_sorted
        w.measure_met k args reach a r)
        (λ y. descending_sorted p.types σ asked down (measure_sorts p.types p.functions caller)
        (measure_sorts p.types p.functions f) frame _ _ _ (same_measures p σ plan plans i caller here g f is down met)
        of
        y.out y.alive)

    own_sorted : (k reach : ℕ) (pre : Option CheckId) (args : List ℕ) → AreOf p.types σ (param_sorts f.params) args
        → σ reach ≡ sort.Bool
        → WellSorted p.types σ (IsOf p.types σ f.result) k
        (own_call p.functions asked frame (Some f) k reach g pre down args)
    own_sorted k reach pre args a r =
        let w = whole p g.0 f is in
        let site = asking p.functions 1 in
        joined_sorted p.types σ k (admitting asked site f.pre pre k args reach) _
        (admitting_sorted p σ g.0 site (asking_sorted 1 g.0) f.pre (param_sorts f.params) w.pre_sorted w.pre_met asked
        pre k args reach a r)
        (λ x. joined_sorted p.types σ _ (comparing asked site frame f.measure down _ args _) _
        (comparing_sorted (asks asked down) _ args _ a x.alive)
        (λ y. (asking_sorted 0 i).call _ _ g pre down args f is a met y.alive))

  pub guessing_sorted : (plan : Plan) → IsPlanOf plan p → AllSites p σ (guessing p.functions)
  guessing_sorted plan plans i caller here asked frame of = record {
    call = λ k reach g pre down args f is a met r.
        subst (λ (o : Option Function). WellSorted p.types σ (IsOf p.types σ f.result) k
        (own_call p.functions asked frame o k reach g pre down args)) (sym is)
        (own_sorted plan plans i caller here asked frame of g f is down met k reach pre args a r);
  }

  -- ---- calls that stand

  -- the sorts of a call that stands
  pub record IsCallSorted (c : Standing) : Type 0 where
    pub reach : σ c.call.reach ≡ sort.Bool
    pub args : map σ c.call.args ≡ c.call.params
    pub has : σ c.has ≡ sort.Bool
    pub result : σ c.result ≡ c.call.result
    pub labels : HasLabels p.functions c.call

  pub standing_sorted : (k : ℕ) (ss : List Step) → AllSorted p.types σ k ss → Paired ss → Labelled p.functions ss
      → AllOf IsCallSorted (standing k ss)
  standing_sorted k [] h q l = tt
  standing_sorted k (steps.HasAnswer c ∷ []) h q l = absurd q
  standing_sorted k (steps.HasAnswer c ∷ steps.Answer d ∷ ss) h q l = (
    record {
      reach = h.0.0;
      args = h.0.1;
      has = h.0.2;
      result = h.1.0.1 ∙ ap (λ z. z.result) (sym q.0);
      labels = l.0;
    },
    standing_sorted (suc (suc k)) ss h.1.1 q.1 l.1.1,
  )
  standing_sorted k (steps.HasAnswer c ∷ steps.HasAnswer d ∷ ss) h q l = absurd q
  standing_sorted k (steps.HasAnswer d ∷ steps.Open t ∷ ss) h q l = absurd q
  standing_sorted k (steps.HasAnswer d ∷ steps.Int z ∷ ss) h q l = absurd q
  standing_sorted k (steps.HasAnswer d ∷ steps.Bool b ∷ ss) h q l = absurd q
  standing_sorted k (steps.HasAnswer d ∷ steps.Not a ∷ ss) h q l = absurd q
  standing_sorted k (steps.HasAnswer d ∷ steps.Both a b ∷ ss) h q l = absurd q
  standing_sorted k (steps.HasAnswer d ∷ steps.Choose e a b ∷ ss) h q l = absurd q
  standing_sorted k (steps.HasAnswer d ∷ steps.Unary op a ∷ ss) h q l = absurd q
  standing_sorted k (steps.HasAnswer d ∷ steps.Binary op a b ∷ ss) h q l = absurd q
  standing_sorted k (steps.HasAnswer d ∷ steps.Construct e fields ∷ ss) h q l = absurd q
  standing_sorted k (steps.HasAnswer d ∷ steps.IsCtor e w a ∷ ss) h q l = absurd q
  standing_sorted k (steps.HasAnswer d ∷ steps.CtorField e i a ∷ ss) h q l = absurd q
  standing_sorted k (steps.HasAnswer d ∷ steps.Field a i ∷ ss) h q l = absurd q
  standing_sorted k (steps.HasAnswer d ∷ steps.IsAlike a b ∷ ss) h q l = absurd q
  standing_sorted k (steps.HasAnswer d ∷ steps.GoesDown a b ∷ ss) h q l = absurd q
  standing_sorted k (steps.Answer c ∷ ss) h q l = absurd q
  standing_sorted k (steps.Open t ∷ ss) h q l = standing_sorted (suc k) ss h.1 q l.1
  standing_sorted k (steps.Int z ∷ ss) h q l = standing_sorted (suc k) ss h.1 q l.1
  standing_sorted k (steps.Bool b ∷ ss) h q l = standing_sorted (suc k) ss h.1 q l.1
  standing_sorted k (steps.Not a ∷ ss) h q l = standing_sorted (suc k) ss h.1 q l.1
  standing_sorted k (steps.Both a b ∷ ss) h q l = standing_sorted (suc k) ss h.1 q l.1
  standing_sorted k (steps.Choose e a b ∷ ss) h q l = standing_sorted (suc k) ss h.1 q l.1
  standing_sorted k (steps.Unary op a ∷ ss) h q l = standing_sorted (suc k) ss h.1 q l.1
  standing_sorted k (steps.Binary op a b ∷ ss) h q l = standing_sorted (suc k) ss h.1 q l.1
  standing_sorted k (steps.Construct e fields ∷ ss) h q l = standing_sorted (suc k) ss h.1 q l.1
  standing_sorted k (steps.IsCtor e w a ∷ ss) h q l = standing_sorted (suc k) ss h.1 q l.1
  standing_sorted k (steps.CtorField e i a ∷ ss) h q l = standing_sorted (suc k) ss h.1 q l.1
  standing_sorted k (steps.Field a i ∷ ss) h q l = standing_sorted (suc k) ss h.1 q l.1
  standing_sorted k (steps.IsAlike a b ∷ ss) h q l = standing_sorted (suc k) ss h.1 q l.1
  standing_sorted k (steps.GoesDown a b ∷ ss) h q l = standing_sorted (suc k) ss h.1 q l.1

  -- ---- what is supposed of a call that is unfolded

  pub implying_sorted : (k a b : ℕ) → σ a ≡ sort.Bool → σ b ≡ sort.Bool → WellSorted p.types σ Bools k (implying k a b)
  implying_sorted k a b x y =
      plain_sorted p.types σ {R = Bools} k (steps.Not b ∷ steps.Both a k ∷ steps.Not (suc k) ∷ []) (suc (suc k)) a
      (λ all. (((y, all.0), ((x, all.0, all.1.0), ((all.1.0, all.1.1.0), tt))), all.1.1.0, x))

  pub holding_sorted : (wait g : ℕ) (f : Function) → slice_get p.functions g ≡ Some f → (o : Option (CheckId × Expr))
      → is_sorted_post p.types p.functions o (param_sorts f.params ++ f.result ∷ []) ≡ true
      → AreMet p g (post_sites p.types p.functions o f.result (param_sorts f.params))
      → (k : ℕ) (values : List ℕ) (reach : ℕ) → AreOf p.types σ (param_sorts f.params ++ f.result ∷ []) values
      → σ reach ≡ sort.Bool → WellSorted p.types σ Bools k (holding (asking p.functions wait) o k values reach)
  holding_sorted wait g f is None sorted met k values reach a r = none_sorted p.types σ {R = Bools} k reach reach r r
  holding_sorted wait g f is (Some post) sorted met k values reach a r =
      condition_sorted p σ g None (asking p.functions wait) (asking_sorted wait g) false post.1
      (param_sorts f.params ++ f.result ∷ []) sorted (met_left _ _ met) k values reach a r

  pub unfolded_sorted : (c : Standing) → IsCallSorted c → (o : Option Function)
      → slice_get p.functions c.call.callee.0 ≡ o → (k : ℕ) → WellSorted p.types σ Bools k
      (unfolded_of p.functions o k c)
  unfolded_sorted c s None here k =
      plain_sorted p.types σ {R = Bools} k (steps.Both c.call.reach c.has ∷ steps.Not k ∷ []) (suc k) k
      (λ all. (((s.reach, s.has, all.0), ((all.0, all.1.0), tt)), all.1.0, all.0))
  unfolded_sorted c s (Some f) here k =
      let g = c.call.callee.0 in
      let w = whole p g f here in
      let scope = param_sorts f.params in
      let site = asking p.functions (suc c.call.wait) in
      let its = asking_sorted (suc c.call.wait) g in
      let args = s.args ∙ s.labels.params ∙ ap params_of here in
      let result = s.result ∙ s.labels.result ∙ ap result_of here in
      joined_sorted p.types σ k (plain (steps.Both c.call.reach c.has ∷ []) k k) _
      (plain_sorted p.types σ {R = Bools} k (steps.Both c.call.reach c.has ∷ []) k k
      (λ all. (((s.reach, s.has, all.0), tt), all.0, all.0)))
      (λ done. joined_sorted p.types σ _ (compile None site f.body _ c.call.args k) _
      (expr_compiles p σ g None site its f.body scope f.result w.body_sorted w.body_met _ c.call.args k args done.out)
      (λ v. joined_sorted p.types σ _ (plain (steps.Binary Equal _ c.result ∷ []) _ _) _
      (one_sorted p.types σ (steps.Binary Equal _ c.result) sort.Bool _ _
      (equal_makes p.types σ _ c.result _ (v.out ∙ sym result)) v.alive)
      (λ same. joined_sorted p.types σ _ (demand false _ _ _) _
      (demand_sorted p.types σ false _ _ _ v.alive same.out)
      (λ agreed. joined_sorted p.types σ _ (holding site f.post _ (c.call.args ++ c.result ∷ []) _) _
      (holding_sorted (suc c.call.wait) g f here f.post w.post_sorted w.post_met _ (c.call.args ++ c.result ∷ []) _
      (of_more p.types σ scope f.result c.call.args c.result args result) agreed.alive)
      (λ ends. implying_sorted _ k _ done.out ends.alive)))))
