-- What is known of the calls of a function: the fate of each, on arguments of the parameters' sorts.
use Rattle.std.proofs.Common.{◌≡◌, ◌⊎◌, ℕ, true, false, List, Option, Some, None, Ok, Err, is_some, IsTrue, Contains}
use Rattle.std.proofs.Common.{slice_get, refl, sym, ap, ◌∙◌, subst, inl, inr, arith}
use Rattle.std.specs.Prelude.{⊤}
use Rattle.pp_prog.specs.declared.expr.Expr.{Expr}
use Rattle.pp_prog.specs.declared.expr.Function.{Function}
use Rattle.pp_prog.specs.declared.id.CheckId.{CheckId}
use Rattle.pp_prog.specs.declared.id.FunctionId.{FunctionId}
use Rattle.pp_prog.specs.declared.program.Program.{Program}
use Rattle.pp_prog.specs.declared.sort.Sort.{Sort}
use Rattle.pp_prog.specs.declared.value.Value.{Value}
use Rattle.pp_prog.specs.Calls.{OneGroup}
use Rattle.pp_prog.specs.Listing.{measure, precondition}
use Rattle.pp_prog.specs.Sorts.{param_sorts}
use Rattle.pp_prog.specs.Valid.{has_measure, has_precondition}
use Rattle.pp_eval.specs.declared.outcome.Stop.TheVariants.{Fails}
use Rattle.pp_eval.specs.Invocation.{allowed, calls_to, descends}
use Rattle.pp_eval.specs.Meaning.{CallMeaning, Frame}
use Rattle.pp_eval.specs.Measure.{is_below}
use Rattle.pp_eval.specs.Part.{Part, and_then, either, failed}
use Rattle.pp_sound.specs.Sound.{AnswersSorted}
use Rattle.pp_prog.proofs.ValueSorts.{Have}
use Rattle.pp_sound.proofs.Exprs.{AreGood}
use Rattle.pp_sound.proofs.Laws.{keep_sorts}
use Rattle.pp_sound.proofs.Parts.{IsAny, IsFine, IsOwn, IsSorted, MayStop, fine_failed, fine_stop, fine_then}
use Rattle.pp_sound.proofs.Parts.{fine_value}
use Rattle.pp_sound.proofs.Sites.{IsMet}
use Rattle.pp_run_laws.specs.Laws.{SameAt}
use Rattle.pp_sound.proofs.Laws.{answers_good}
use Rattle.pp_run_laws.proofs.Known.{contains_or_not}
use Rattle.pp_guess_runs.specs.Guess.{or_deep}
use Rattle.pp_induction.proofs.Fates.{Fate, FailsDescent, IsContract, IsTold, IsToldCall, descent, fate_part, reaches}
use Rattle.pp_induction.proofs.Fates.{refused}
use Rattle.pp_induction.proofs.Ready.{IsReady, ready, ready_there}

module _ (p : Program) (i : ℕ) (old : Frame) where
  -- the measure of a call inside the group isn't below that of the frame
  pub record IsNotBelow (g : FunctionId) (new : Frame) : Type 0 where
    pub group : OneGroup p.functions i g.0
    pub mine : IsTrue (has_measure (slice_get p.functions i))
    pub its : IsTrue (has_measure (slice_get p.functions g.0))
    pub olds : List Value
    pub news : List Value
    pub old_is : old ≡ Some olds
    pub new_is : new ≡ Some news
    pub apart : is_below p.types.ctors news olds ≡ false

  -- enough is known: that the call is refused, its value, or that the site's measure check fails
  abbrev pub IsEnough : FunctionId → Fate → Type 0
  IsEnough g refused = Unit {0}
  IsEnough g (reaches new None) = IsNotBelow g new
  IsEnough g (reaches new (Some v)) = Unit {0}

  -- the fate of a call of h, which has the number g
  pub record Fated (g : FunctionId) (h : Function) (args : List Value) : Type 0 where
    pub fate : Fate
    pub told : IsTold p.types.ctors p.functions g h args fate
    pub enough : IsEnough g fate

  -- each call of these functions is known
  abbrev pub AreKnown : List ℕ → Type 0
  AreKnown gs =
      (g : FunctionId) → Contains gs g.0 → (h : Function) → slice_get p.functions g.0 ≡ Some h → (args : List Value)
      → Have p.types.ctors (param_sorts h.params) args → Fated g h args

  module _ (gs : List ℕ) (known : AreKnown gs) where
    abbrev fate_of : (g : FunctionId) (args : List Value) → Option (IsReady p.types.ctors p.functions gs g args)
        → Option Fate
    fate_of g args None = None
    fate_of g args (Some r) = Some (known g r.near r.callee r.is args r.have).fate

    told_of : (g : FunctionId) (args : List Value) (o : Option (IsReady p.types.ctors p.functions gs g args))
        → IsToldCall p.types.ctors p.functions g args (fate_of g args o)
    told_of g args None = tt
    told_of g args (Some r) = (r.callee, r.is, (known g r.near r.callee r.is args r.have).told)

    abbrev pub fate_at : FunctionId → List Value → Option Fate
    fate_at g args = fate_of g args (ready p.types.ctors p.functions gs g args)

    pub told_at : (g : FunctionId) (args : List Value) → IsToldCall p.types.ctors p.functions g args (fate_at g args)
    told_at g args = told_of g args (ready p.types.ctors p.functions gs g args)

    -- calls that do what is known of them; what isn't known is Deep
    abbrev pub known_calls : CallMeaning
    known_calls frame g pre down args = fate_part p.types.ctors old (fate_at g args) pre down

    -- ---- what these calls come to is fine

    module _ (D : Type 0) where
      refused_fine : (g : FunctionId) (h : Function) (args : List Value) (pre : Option CheckId) (s : Sort)
          → slice_get p.functions g.0 ≡ Some h
          → IsContract p.types.ctors p.functions (λ c. allowed c h.pre args) false → IsMet p i (precondition g pre)
          → IsSorted p D i s (failed pre)
      refused_fine g h args pre s is told met =
          fine_failed p D i pre (met.carries ∙ ap has_precondition is ∙ written h.pre
          (told.run.holds told.run.from (omega arith))) met.own
        where
          written : (o : Option Expr) → allowed (calls_to p.types.ctors p.functions told.run.from) o args ≡ Ok false
              → is_some o ≡ true
          written None e = cc
          written (Some e) h = refl

      descends_fine : (down : Option CheckId) (new : Frame) → IsOwn p i down
          → IsFine (MayStop p D i) (IsAny {A = ⊤}) (descends p.types.ctors down old new)
      descends_fine down new own = by (descent p.types.ctors p.functions down old new)
        where
          by : (descends p.types.ctors down old new ≡ Ok tt) ⊎ FailsDescent p.types.ctors p.functions down old new
              → IsFine (MayStop p D i) (IsAny {A = ⊤}) (descends p.types.ctors down old new)
          by (inl e) = subst (IsFine (MayStop p D i) (IsAny {A = ⊤})) (sym e) (fine_value tt)
          by (inr f) =
              subst (IsFine (MayStop p D i) (IsAny {A = ⊤})) (sym f.part) (fine_stop (subst (IsOwn p i) f.site own))

      not_below_fine : (g : FunctionId) (new : Frame) (down : Option CheckId) (s : Sort) → IsNotBelow g new
          → IsMet p i (measure g down) → IsSorted p D i s (and_then (descends p.types.ctors down old new)
          (λ _. or_deep None))
      not_below_fine g new down s not met = by down (met.carries.1 (not.group, not.mine, not.its)) met.own
        where
          by : (check : Option CheckId) → is_some check ≡ true → IsOwn p i check
              → IsSorted p D i s (and_then (descends p.types.ctors check old new) (λ _. or_deep None))
          by None some own = cc
          by (Some c) some own =
              subst (λ (o : Frame). IsSorted p D i s (and_then (descends p.types.ctors (Some c) o new)
              (λ _. or_deep None))) (sym not.old_is)
              (subst (λ (o : Frame). IsSorted p D i s (and_then (descends p.types.ctors (Some c) (Some not.olds) o)
              (λ _. or_deep None))) (sym not.new_is)
              (subst (λ t. IsSorted p D i s (and_then (either t (Ok tt) (Err (Fails c))) (λ _. or_deep None)))
              (sym not.apart) (fine_stop own)))

      fate_fine : (frame : Frame) (g : FunctionId) (pre down : Option CheckId) (args : List Value) (h : Function)
          → slice_get p.functions g.0 ≡ Some h → Have p.types.ctors (param_sorts h.params) args
          → IsMet p i (precondition g pre) → IsMet p i (measure g down) → (fate : Fate)
          → IsTold p.types.ctors p.functions g h args fate → IsEnough g fate
          → IsSorted p D i h.result (fate_part p.types.ctors old (Some fate) pre down)
      fate_fine frame g pre down args h is have met_pre met_down refused told enough =
          refused_fine g h args pre h.result is told met_pre
      fate_fine frame g pre down args h is have met_pre met_down (reaches new None) told enough =
          not_below_fine g new down h.result enough met_down
      fate_fine frame g pre down args h is have met_pre met_down (reaches new (Some v)) told enough =
          let n = told.value.done.from in
          fine_then (descends_fine down new met_down.own) (λ _ _. fine_value
          (keep_sorts p g.0 h args (record { function = is; arguments = have }) n v
          (told.value.done.holds n (omega arith))))

      -- a call that is known is fine
      known_fine : (frame : Frame) (g : FunctionId) (pre down : Option CheckId) (args : List Value) (h : Function)
          → Contains gs g.0 → slice_get p.functions g.0 ≡ Some h → Have p.types.ctors (param_sorts h.params) args
          → IsMet p i (precondition g pre) → IsMet p i (measure g down)
          → IsSorted p D i h.result (known_calls frame g pre down args)
      known_fine frame g pre down args h near is have met_pre met_down =
          let r = ready_there p.types.ctors p.functions gs g args (record
          { near = near; callee = h; is = is; have = have }) in
          let same : r.0.callee ≡ h = (let both : Some r.0.callee ≡ Some h = sym r.0.is ∙ is in cc) in
          let k = known g r.0.near r.0.callee r.0.is args r.0.have in
          subst (λ (f : Function). IsSorted p D i f.result (known_calls frame g pre down args)) same
          (subst (λ o. IsSorted p D i r.0.callee.result (fate_part p.types.ctors old (fate_of g args o) pre down))
          (sym r.1)
          (fate_fine frame g pre down args r.0.callee r.0.is r.0.have met_pre met_down k.fate k.told k.enough))

      -- what isn't known does something else
      else_calls : CallMeaning → (g : FunctionId) → Contains gs g.0 ⊎ (Contains gs g.0 → ⊥) → Frame → Option CheckId
          → Option CheckId → List Value → Part Value
      else_calls deeper g (inl near) frame pre down args = known_calls frame g pre down args
      else_calls deeper g (inr never) frame pre down args = deeper frame g pre down args

      mixed : CallMeaning → CallMeaning
      mixed deeper frame g pre down args = else_calls deeper g (contains_or_not gs g.0) frame pre down args

      mixed_good : (deeper : CallMeaning) → AreGood p D i deeper → AreGood p D i (mixed deeper)
      unfolding mixed else_calls
      mixed_good deeper good =
          record {
            part = λ frame g pre down args h is have met_pre met_down. by g (contains_or_not gs g.0) frame pre
                down args h is have met_pre met_down;
          }
        where
          by : (g : FunctionId) (n : Contains gs g.0 ⊎ (Contains gs g.0
              → ⊥)) (frame : Frame) (pre down : Option CheckId)
              (args : List Value) (h : Function) → slice_get p.functions g.0 ≡ Some h
              → Have p.types.ctors (param_sorts h.params) args → IsMet p i (precondition g pre)
              → IsMet p i (measure g down)
              → IsSorted p D i h.result (else_calls deeper g n frame pre down args)
          by g (inl near) frame pre down args h is have met_pre met_down =
              known_fine frame g pre down args h near is have met_pre met_down
          by g (inr never) frame pre down args h is have met_pre met_down =
              good.part frame g pre down args h is have met_pre met_down

      mixed_same : (deeper : CallMeaning) → SameAt gs known_calls (mixed deeper)
      unfolding mixed else_calls
      mixed_same deeper frame g has pre down args = by (contains_or_not gs g.0)
        where
          by : (n : Contains gs g.0 ⊎ (Contains gs g.0 → ⊥))
              → known_calls frame g pre down args ≡ else_calls deeper g n frame pre down args
          by (inl near) = refl
          by (inr never) = absurd (never has)

    -- what isn't known may be Deep
    pub known_good : AreGood p (Unit {0}) i known_calls
    known_good = record {
      part =
          λ frame g pre down args h is have met_pre met_down. by g args pre down h (contains_or_not gs g.0)
          (known_fine (Unit {0}) frame g pre down args h) is have met_pre met_down;
    }
      where
        unknown : (g : FunctionId) (args : List Value) (pre down : Option CheckId) (s : Sort) → (Contains gs g.0 → ⊥)
            → (o : Option (IsReady p.types.ctors p.functions gs g args))
            → IsSorted p (Unit {0}) i s (fate_part p.types.ctors old (fate_of g args o) pre down)
        unknown g args pre down s never None = fine_stop tt
        unknown g args pre down s never (Some r) = absurd (never r.near)

        by : (g : FunctionId) (args : List Value) (pre down : Option CheckId) (h : Function)
            → Contains gs g.0 ⊎ (Contains gs g.0 → ⊥)
            → (Contains gs g.0 → slice_get p.functions g.0 ≡ Some h → Have p.types.ctors (param_sorts h.params) args
            → IsMet p i (precondition g pre) → IsMet p i (measure g down)
            → IsSorted p (Unit {0}) i h.result (fate_part p.types.ctors old (fate_at g args) pre down))
            → slice_get p.functions g.0 ≡ Some h → Have p.types.ctors (param_sorts h.params) args
            → IsMet p i (precondition g pre) → IsMet p i (measure g down)
            → IsSorted p (Unit {0}) i h.result (fate_part p.types.ctors old (fate_at g args) pre down)
        by g args pre down h (inl near) fine is have met_pre met_down = fine near is have met_pre met_down
        by g args pre down h (inr never) fine is have met_pre met_down =
            unknown g args pre down h.result never (ready p.types.ctors p.functions gs g args)

    -- calls of these functions that are known, and others that are answered by values of the sorts, so that none is
    -- Deep
    pub record Completed (calls : CallMeaning) : Type 0 where
      pub same : SameAt gs known_calls calls
      pub good : AreGood p ⊥ i calls

    pub complete : (deeper : CallMeaning) → AnswersSorted p deeper → (calls : CallMeaning) × Completed calls
    complete deeper answers = (
      mixed ⊥ deeper,
      record {
        same = mixed_same ⊥ deeper;
        good = mixed_good ⊥ deeper
            (answers_good p deeper answers i);
      },
    )
