-- Each call of a function of the cone is known: by induction on the rank of the function, and inside a group on its
-- measure.
use Rattle.std.proofs.Common.{◌≡◌, ◌⊎◌, ◌==◌, ◌<◌, ℕ, zero, suc, Bool, true, false, List, Some, None, Contains, length}
use Rattle.std.proofs.Common.{slice_get, refl, sym, ap, ◌∙◌, subst, arith, inl, inr}
use Rattle.std.proofs.lemmas.Bool.Decides.{eqb_tells}
use Rattle.std.proofs.lemmas.Option.{slice_get_within}
use Rattle.pp_graph.proofs.Decided.{group_or_not}
use Rattle.pp_prog.specs.declared.expr.Function.{Function}
use Rattle.pp_prog.specs.declared.id.FunctionId.{FunctionId}
use Rattle.pp_prog.specs.declared.program.Program.{Program}
use Rattle.pp_prog.specs.declared.value.Value.{Value}
use Rattle.pp_prog.specs.Calls.{OneGroup, call_table, function_calls}
use Rattle.pp_prog.specs.Cone.{InCone}
use Rattle.pp_prog.specs.Sorts.{param_sorts}
use Rattle.pp_prog.specs.Valid.{has_measure, is_written}
use Rattle.pp_eval.specs.declared.outcome.Outcome.TheVariants.{Done, Outside}
use Rattle.pp_eval.specs.Invocation.{allowed, calls_to}
use Rattle.pp_eval.specs.Meaning.{Frame}
use Rattle.pp_eval.specs.Measure.{is_below}
use Rattle.pp_eval.specs.Runs.{IsGood, run}
use Rattle.pp_sound.specs.Sound.{IsCalled}
use Rattle.pp_prog.proofs.ValueSorts.{Have}
use Rattle.pp_checks.specs.Plan.{IsPlanOf, Plan}
use Rattle.pp_checks.specs.Ranks.{IsRank}
use Rattle.pp_checks.proofs.Cones.{one_rank}
use Rattle.pp_checks.proofs.Plans.{lower_called, lower_in_contract}
use Rattle.pp_run_laws.proofs.Follows.{Comes}
use Rattle.pp_run_laws.proofs.Descent.{by_measure}
use Rattle.pp_run_laws.proofs.Parts.{outside_run}
use Rattle.pp_induction.specs.Ends.{AreSettled, SettledAreGood}
use Rattle.pp_induction.proofs.CallSettles.{call_settles}
use Rattle.pp_induction.proofs.Callees.{AreKnown, Fated, IsEnough}
use Rattle.pp_induction.proofs.Contracts.{Contracts, Enters, contracts_settle}
use Rattle.pp_induction.proofs.Fates.{Fate, IsTold, reaches, refused}
use Rattle.pp_induction.proofs.Groups.{callee_measured, cone_step, contract_within, measured, rank_of}
use Rattle.pp_induction.proofs.Views.{View, calls_in, in_called, in_run}

-- the value is known of a call that isn't refused
abbrev IsFull : Fate → Type 0
IsFull refused = Unit {0}
IsFull (reaches new None) = ⊥
IsFull (reaches new (Some v)) = Unit {0}

module _ (plan : Plan) (p : Program) (is_plan : IsPlanOf plan p) (start : ℕ) (settled : AreSettled p start) where
  -- what a call of h comes to, which has the number g
  record Known (g : FunctionId) (h : Function) (args : List Value) : Type 0 where
    fate : Fate
    told : IsTold p.types.ctors p.functions g h args fate
    full : IsFull fate

  -- h is function number g, and in the cone
  record IsMember (g : FunctionId) (h : Function) : Type 0 where
    is : slice_get p.functions g.0 ≡ Some h
    cone : InCone p.functions start g.0

  abbrev Fit : Function → List Value → Type 0
  Fit h args = Have p.types.ctors (param_sorts h.params) args

  -- each call of a function of the cone whose rank is below r
  abbrev AllBelow : ℕ → Type 0
  AllBelow r =
      (g : FunctionId) (h : Function) → IsMember g h → (m : ℕ) → IsRank p.functions g.0 m → m < r → (args : List Value)
      → Fit h args → Known g h args

  enough : (i : ℕ) (old : Frame) (g : FunctionId) (h : Function) (args : List Value) → Known g h args
      → Fated p i old g h args
  enough i old g h args k = record { fate = k.fate; told = k.told; enough = by k.fate k.full }
    where
      by : (fate : Fate) → IsFull fate → IsEnough p i old g fate
      by refused full = tt
      by (reaches new None) full = absurd full
      by (reaches new (Some v)) full = tt

  called_is : (g : FunctionId) (h : Function) → IsMember g h → (args : List Value) → Fit h args → IsCalled p g.0 h args
  called_is g h member args fit = record { function = member.is; arguments = fit }

  callee : (g : FunctionId) (h : Function) → IsMember g h → (k : FunctionId) (hk : Function)
      → Contains (function_calls h) k.0 → slice_get p.functions k.0 ≡ Some hk → IsMember k hk
  callee g h member k hk has is =
      record { is = is; cone = cone_step p.functions start g.0 k.0 h member.cone member.is has }

  refused_told : (g : FunctionId) (h : Function) (args : List Value)
      → ((v : View) → Comes (λ m. allowed (calls_in p.types.ctors p.functions v m) h.pre args) false)
      → IsTold p.types.ctors p.functions g h args refused
  refused_told g h args comes = record { run = comes in_run; called = λ n. comes (in_called n) }

  reached_told : (g : FunctionId) (h : Function) (args : List Value) (new : Frame) → Enters p g.0 h args new
      → IsTold p.types.ctors p.functions g h args (reaches new None)
  reached_told g h args new enters = record {
    allowed = record { run = enters.allowed in_run; called = λ n. enters.allowed (in_called n) };
    measured = record { run = enters.measured in_run; called = λ n. enters.measured (in_called n) };
    value = tt;
  }

  -- a call that enters its body, where the calls of the body are known
  entered : (g : FunctionId) (h : Function) → IsMember g h → (args : List Value) → Fit h args → (new : Frame)
      → Enters p g.0 h args new → AreKnown p g.0 new (function_calls h) → Known g h args
  entered g h member args fit new enters known =
      let v = call_settles p g h args (called_is g h member args fit)
      (λ c is. settled g.0 c (slice_get_within p.functions g.0 h member.is) member.cone is) new enters known in
      record {
        fate = reaches new (Some v.0);
        told = record {
          allowed = record { run = enters.allowed in_run; called = λ n. enters.allowed (in_called n) };
          measured = record { run = enters.measured in_run; called = λ n. enters.measured (in_called n) };
          value = v.1;
        };
        full = tt;
      }

  module _ (r : ℕ) (below : AllBelow r) where
    -- a callee of another group
    lower : (g : FunctionId) (h : Function) → IsMember g h → IsRank p.functions g.0 r
        → (k : FunctionId) (hk : Function) → Contains (function_calls h) k.0 → slice_get p.functions k.0 ≡ Some hk
        → (OneGroup p.functions g.0 k.0 → ⊥) → (args : List Value) → Fit hk args → Known k hk args
    lower g h member rank k hk has is other args fit =
        let m = rank_of plan p is_plan k.0 hk is in
        below k hk (callee g h member k hk has is) m.0 m.1 (lower_called p.functions g.0 k.0 r m.0 h member.is has
        other rank m.1) args fit

    contracts : (g : FunctionId) (h : Function) → IsMember g h → IsRank p.functions g.0 r → (args : List Value)
        → Fit h args → Contracts p g.0 h args
    contracts g h member rank args fit =
        contracts_settle p g.0 h args (called_is g h member args fit)
        (λ c is. settled g.0 c (slice_get_within p.functions g.0 h member.is) member.cone is)
        (λ k has hk is vs fits.
        let m = rank_of plan p is_plan k.0 hk is in
        let within = contract_within h k.0 has in
        enough g.0 None k hk vs
        (below k hk (callee g h member k hk within is) m.0 m.1 (lower_in_contract plan p g.0 k.0 r m.0 h is_plan
        member.is has rank m.1) vs fits))

    -- each call whose measure values are these
    abbrev AllAt : List Value → Type 0
    AllAt vs =
        (g : FunctionId) (h : Function) → IsMember g h → IsRank p.functions g.0 r → (args : List Value) → Fit h args →
        Enters p g.0 h args (Some vs) → Known g h args

    -- a callee of the group, where what has lower measure values is known
    module _ (vs : List Value) (lower_known : (ws : List Value) → is_below p.types.ctors ws vs ≡ true → AllAt ws)
        (g : FunctionId) (h : Function) (member : IsMember g h) (rank : IsRank p.functions g.0 r)
        (k : FunctionId) (hk : Function) (has : Contains (function_calls h) k.0)
        (is : slice_get p.functions k.0 ≡ Some hk) (same : OneGroup p.functions g.0 k.0) (args : List Value)
        (fit : Fit hk args) where
      its : is_written hk.measure ≡ true
      its = callee_measured plan p is_plan g.0 k.0 h hk member.is is has same

      its_rank : IsRank p.functions k.0 r
      its_rank =
          let m = rank_of plan p is_plan k.0 hk is in
          subst (IsRank p.functions k.0) (sym (one_rank (call_table p.functions) (length p.functions) g.0 k.0 r m.0
          same rank m.1)) m.1

      compared : (ws : List Value) (t : Bool) → is_below p.types.ctors ws vs ≡ t → Enters p k.0 hk args (Some ws)
          → Fated p g.0 (Some vs) k hk args
      compared ws true e enters =
          enough g.0 (Some vs) k hk args (lower_known ws e k hk (callee g h member k hk has is) its_rank args fit
          enters)
      compared ws false e enters = record {
        fate = reaches (Some ws) None;
        told = reached_told k hk args (Some ws) enters;
        enough = record {
          group = same;
          mine = ap has_measure member.is ∙ measured plan p is_plan g.0 k.0 h member.is has same;
          its = ap has_measure is ∙ its;
          olds = vs;
          news = ws;
          old_is = refl;
          new_is = refl;
          apart = e;
        };
      }

      inside_group : Fated p g.0 (Some vs) k hk args
      inside_group = by (contracts k hk (callee g h member k hk has is) its_rank args fit)
        where
          by : Contracts p k.0 hk args → Fated p g.0 (Some vs) k hk args
          by (inl comes) = record { fate = refused; told = refused_told k hk args comes; enough = tt }
          by (inr (None, enters)) = let no : false ≡ true = sym (ap is_written enters.sorted) ∙ its in cc
          by (inr (Some ws, enters)) = compared ws (is_below p.types.ctors ws vs) refl enters

    all_at : (vs : List Value) → AllAt vs
    all_at = by_measure p.types.ctors AllAt (λ vs lower_known g h member rank args fit enters.
        entered g h member args fit (Some vs) enters (λ k has hk is ks fits. elim
        (group_or_not (call_table p.functions) g.0 k.0) [
          | inl same ↦ inside_group vs lower_known g h member rank k hk has is same ks fits
          | inr other ↦ enough g.0 (Some vs) k hk ks (lower g h member rank k hk has is other ks fits)
        ]))

    -- each call of a function of this rank is known
    known_at : (g : FunctionId) (h : Function) → IsMember g h → IsRank p.functions g.0 r → (args : List Value)
        → Fit h args → Known g h args
    known_at g h member rank args fit = by (contracts g h member rank args fit)
      where
        by : Contracts p g.0 h args → Known g h args
        by (inl comes) = record { fate = refused; told = refused_told g h args comes; full = tt }
        by (inr (Some vs, enters)) = all_at vs g h member rank args fit enters
        by (inr (None, enters)) =
            entered g h member args fit None enters (λ k has hk is ks fits. elim
            (group_or_not (call_table p.functions) g.0 k.0) [
              | inl same ↦ (let no : false ≡ true = sym (ap is_written enters.sorted) ∙ measured plan p is_plan g.0
                  k.0 h member.is has same in cc)
              | inr other ↦ enough g.0 None k hk ks (lower g h member rank k hk has is other ks fits)
            ])

  all_below : (r : ℕ) → AllBelow r
  all_below zero g h member m rank lt args fit = absurd (omega (arith, lt))
  all_below (suc r) g h member m rank lt args fit = by (eqb_tells m r) (all_below r)
    where
      by : ((m == r) ≡ true) × (m ≡ r) ⊎ ((m == r) ≡ false) × (m ≡ r → ⊥) → AllBelow r → Known g h args
      by (inl e) below = known_at r below g h member (subst (IsRank p.functions g.0) e.1 rank) args fit
      by (inr e) below = below g h member m rank (omega (arith, lt, e.1)) args fit

  good : (g : ℕ) (h : Function) → InCone p.functions start g → slice_get p.functions g ≡ Some h
      → IsGood p.types.ctors p.functions h
  good g h cone is args fit =
      let id : FunctionId = record { 0 = g } in
      let m = rank_of plan p is_plan g h is in
      let k = all_below (suc m.0) id h (record { is = is; cone = cone }) m.0 m.1 (omega arith) args fit in
      by id k.fate k.told k.full
    where
      by : (id : FunctionId) (fate : Fate) → IsTold p.types.ctors p.functions id h args fate → IsFull fate
          → (n : ℕ) × ((run p.types.ctors p.functions h args n ≡ Outside) ⊎
          ((v : Value) × (run p.types.ctors p.functions h args n ≡ Done v)))
      by id refused told full =
          let n = told.run.from in (
            n,
            inl (outside_run (calls_to p.types.ctors p.functions n) h args
                (told.run.holds n (omega arith))),
          )
      by id (reaches new None) told full = absurd full
      by id (reaches new (Some v)) told full =
          let n = told.value.done.from in (n, inr (v, told.value.done.holds n (omega arith)))

pub settled_are_good : SettledAreGood
settled_are_good plan p is_plan f settled g h cone is = good plan p is_plan f settled g h cone is
