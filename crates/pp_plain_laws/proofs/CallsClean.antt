-- Calls of runs and of guess runs fail the check only where it is the site's, and where it is a plain descent not at
-- all.
use Rattle.std.proofs.Common.{◌≡◌, ◌⊎◌, ℕ, zero, suc, true, List, ◌∷◌, Option, Some, None, is_some, IsTrue, Ok, Err}
use Rattle.std.proofs.Common.{slice_get, refl, sym, ap, ◌∙◌, subst, inl, inr}
use Rattle.std.specs.Prelude.{⊤}
use Rattle.pp_prog.specs.declared.expr.Expr.{Expr}
use Rattle.pp_prog.specs.declared.expr.Function.{Function}
use Rattle.pp_prog.specs.declared.id.CheckId.{CheckId}
use Rattle.pp_prog.specs.declared.id.FunctionId.{FunctionId}
use Rattle.pp_prog.specs.declared.program.Program.{Program}
use Rattle.pp_prog.specs.declared.value.Value.{Value}
use Rattle.pp_prog.specs.Calls.{OneGroup}
use Rattle.pp_prog.specs.Listing.{measure}
use Rattle.pp_prog.specs.Sorts.{param_sorts}
use Rattle.pp_prog.specs.Valid.{has_measure, is_written}
use Rattle.pp_eval.specs.declared.outcome.Stop.TheVariants.{Deep, Fails, Inner, Stuck}
use Rattle.pp_eval.specs.Invocation.{admits, calls_to, descends, enters, frame_of}
use Rattle.pp_eval.specs.Meaning.{CallMeaning, Frame, meaning}
use Rattle.pp_eval.specs.Operators.{truth}
use Rattle.pp_eval.specs.Part.{Part, and_then, either, inside}
use Rattle.pp_sound.proofs.Calls.{whole}
use Rattle.pp_prog.proofs.ValueSorts.{Have}
use Rattle.pp_sound.proofs.Exprs.{AreGood}
use Rattle.pp_sound.proofs.Sites.{IsMet}
use Rattle.pp_checks.specs.Marks.{first_param_of}
use Rattle.pp_checks.specs.Plan.{IsPlanOf, Plan}
use Rattle.pp_checks.specs.Rules.{measure_sorts}
use Rattle.pp_checks.proofs.Plans.{shared_sorts}
use Rattle.pp_run_laws.proofs.MeasureSorts.{calls_to_good, component_sorts, frame_sorted, told_value}
use Rattle.pp_run_laws.proofs.Stops.{failed_stops}
use Rattle.pp_guess_runs.specs.Answers.{Answering, IsAnswering, answers_of}
use Rattle.pp_guess_runs.specs.Guess.{called, compared, is_check, one_less, or_deep, own, own_call, unfolded}
use Rattle.pp_guess_runs.proofs.Truth.{inside_value}
use Rattle.pp_induction.proofs.Fates.{FailsDescent, descent}
use Rattle.pp_plain_laws.proofs.Setting.{CallsClean, GoesBelow}
use Rattle.pp_plain_laws.proofs.Comparing.{below_first, first_value}
use Rattle.pp_guess_runs.proofs.Sorted.{called_good}
use Rattle.pp_plain_laws.proofs.Scope.{IsClean, IsOther, clean_either, clean_stop, clean_then, clean_value, other_deep}
use Rattle.pp_plain_laws.proofs.Scope.{other_stuck}

-- what happens inside another frame is no failure of the own one
inside_clean : {A : Type 0} (c : CheckId) (g : FunctionId) (part : Part A) → IsClean c (inside g part)
inside_clean c g (Ok a) = clean_value
inside_clean c g (Err (Fails d)) = clean_stop (λ e. cc)
inside_clean c g (Err (Inner h d)) = clean_stop (λ e. cc)
inside_clean c g (Err Deep) = clean_stop (λ e. cc)
inside_clean c g (Err Stuck) = clean_stop (λ e. cc)

module _ (plan : Plan) (p : Program) (is_plan : IsPlanOf plan p) (i : ℕ) (f : Function)
    (function : slice_get p.functions i ≡ Some f) (c : CheckId) (v0 : Value) where
  -- the frame has no measure values, or those of the function, the first of which is the value
  abbrev pub IsOld : Frame → Type 0
  IsOld None = Unit {0}
  IsOld (Some olds) =
      (rest : List Value) × (olds ≡ v0 ∷ rest) × Have p.types.ctors (component_sorts p f.measure
      (param_sorts f.params)) olds

  written : (j : ℕ) (h : Function) → slice_get p.functions j ≡ Some h → has_measure (slice_get p.functions j) ≡ true
      → is_written h.measure ≡ true
  written j h is has = sym (ap has_measure is) ∙ has

  module _ (old : Frame) (is_old : IsOld old) (g : FunctionId) (h : Function) (is : slice_get p.functions g.0 ≡ Some h)
      (args : List Value) (have : Have p.types.ctors (param_sorts h.params) args) (down : Option CheckId)
      (met : IsMet p i (measure g down)) where
    -- the measure of a plain descent goes down
    passes : (calls : CallMeaning) → AreGood p (Unit {0}) g.0 calls → (new : Frame)
        → frame_of calls h.measure args ≡ Ok new
        → down ≡ Some c → GoesBelow p.functions v0 g args → descends p.types.ctors down old new ≡ Ok tt
    passes calls good new e it below = ap (λ d. descends p.types.ctors d old new) it ∙ by old is_old new e
      where
        sorted : (ws : List Value) → frame_of calls h.measure args ≡ Ok (Some ws)
            → Have p.types.ctors (component_sorts p h.measure (param_sorts h.params)) ws
        sorted ws e =
            let w = whole p g.0 h is in
            told_value (frame_sorted p (Unit {0}) g.0 calls good h.measure (param_sorts h.params) w.measure_sorted
            w.measure_met args have) (Some ws) e

        group : OneGroup p.functions i g.0 × IsTrue (has_measure (slice_get p.functions i)) × IsTrue
            (has_measure (slice_get p.functions g.0))
        group = met.carries.0 (ap is_some it)

        same_sorts : measure_sorts p.types p.functions f ≡ measure_sorts p.types p.functions h
        same_sorts =
            shared_sorts plan p i g.0 f h is_plan group.0 function is (written i f function group.1)
            (written g.0 h is group.2)

        by : (o : Frame) → IsOld o → (n : Frame) → frame_of calls h.measure args ≡ Ok n
            → descends p.types.ctors (Some c) o n ≡ Ok tt
        by None is_o n e = refl
        by (Some olds) is_o None e = refl
        by (Some olds) is_o (Some news) e =
            let x = first_value calls h below.place (sym (ap first_param_of is) ∙ below.param) args below.value
            below.there news e in
            let k = subst (λ l. Have p.types.ctors (component_sorts p h.measure (param_sorts h.params)) l) x.1
            (sorted news e) in
            let o = subst (λ ss. Have p.types.ctors ss (v0 ∷ is_o.0)) same_sorts
            (subst (Have p.types.ctors (component_sorts p f.measure (param_sorts f.params))) is_o.1 is_o.2) in
            let d = below_first p.types.ctors (component_sorts p h.measure (param_sorts h.params)) below.value v0 x.0
            is_o.0 k o below.below in
            ap (λ l. descends p.types.ctors (Some c) (Some l) (Some news)) is_o.1
            ∙ ap (λ l. descends p.types.ctors (Some c) (Some (v0 ∷ is_o.0)) (Some l)) x.1
            ∙ ap (λ t. either t (Ok tt) (Err (Fails c))) d

    descends_clean : (new : Frame) → (down ≡ Some c → descends p.types.ctors down old new ≡ Ok tt)
        → IsClean c (descends p.types.ctors down old new)
    descends_clean new pass = by (descent p.types.ctors p.functions down old new)
      where
        by : (descends p.types.ctors down old new ≡ Ok tt) ⊎ FailsDescent p.types.ctors p.functions down old new
            → IsClean c (descends p.types.ctors down old new)
        by (inl e) = subst (IsClean c) (sym e) clean_value
        by (inr fails) = subst (IsClean c) (sym fails.part) (clean_stop (λ e.
            let one : fails.check ≡ c = cc in
            let no : Ok tt ≡ Err (Fails fails.check) = sym (pass (fails.site ∙ ap Some one)) ∙ fails.part in cc))

    admits_clean : (calls : CallMeaning) (pre : Option Expr) (check : Option CheckId) → (check ≡ Some c → ⊥)
        → IsClean c (admits calls g pre check args)
    admits_clean calls None check other = clean_value
    admits_clean calls (Some pre) check other =
        clean_then _ (inside_clean c g (and_then (meaning calls pre None args) truth))
        (λ t at. clean_either t clean_value
        (record {
          told = failed_stops (IsOther c) (other_stuck c) ⊤ check
              (λ d is same. let one : d ≡ c = cc in other (is ∙ ap Some one));
        }))

    enters_clean : (calls : CallMeaning) → AreGood p (Unit {0}) g.0 calls → (pre : Option CheckId) → (pre ≡ Some c → ⊥)
        → (down ≡ Some c → GoesBelow p.functions v0 g args)
        → IsClean c (enters calls p.types.ctors (Some h) old g pre down args)
    enters_clean calls good pre other below =
        clean_then _ (admits_clean calls h.pre pre other) (λ u at. clean_then _
        (inside_clean c g (frame_of calls h.measure args)) (λ new is_new.
        clean_then _ (descends_clean new (λ it. passes calls good new (inside_value g _ new is_new) it (below it)))
        (λ w ok. inside_clean c g (meaning calls h.body new args))))

    compared_clean : (contracts : CallMeaning) → AreGood p (Unit {0}) g.0 contracts
        → (down ≡ Some c → GoesBelow p.functions v0 g args)
        → IsClean c (compared p.types.ctors c contracts h.measure g down old args)
    compared_clean contracts good below =
        clean_either (is_check c down) (clean_then _ (inside_clean c g (frame_of contracts h.measure args))
        (λ new is_new.
        descends_clean new (λ it. passes contracts good new (inside_value g _ new is_new) it (below it)))) clean_value

  -- ---- calls of runs

  pub run_calls_clean : (n : ℕ) (old : Frame) → IsOld old
      → CallsClean p i c (calls_to p.types.ctors p.functions n) old v0
  run_calls_clean zero old is_old =
      record { clean = λ g pre down args h is have met_pre met_down other below. clean_stop (other_deep c) }
  run_calls_clean (suc n) old is_old = record {
    clean = λ g pre down args h is have met_pre met_down other below.
        let calls = calls_to p.types.ctors p.functions n in
        subst (λ o. IsClean c (enters calls p.types.ctors o old g pre down args)) (sym is)
        (enters_clean old is_old g h is args have down met_down calls (calls_to_good p n g.0) pre other below);
  }

  -- ---- calls of guess runs

  module _ (W : Answering) (answering : IsAnswering p W) where
    called_clean : (n : ℕ) (frame : Frame) (g : FunctionId) (pre down : Option CheckId) (args : List Value)
        → IsClean c (called p.functions (answers_of p.types.ctors p.functions W) n frame g pre down args)
    called_clean zero frame g pre down args = by (answers_of p.types.ctors p.functions W g args)
      where
        by : (o : Option Value) → IsClean c (or_deep o)
        by None = clean_stop (other_deep c)
        by (Some v) = clean_value
    called_clean (suc n) frame g pre down args = by (slice_get p.functions g.0)
      where
        by : (o : Option Function) → IsClean c (unfolded (called p.functions (answers_of p.types.ctors p.functions W) n)
            (answers_of p.types.ctors p.functions W g args) o g args)
        by None = clean_stop (other_deep c)
        by (Some h) = inside_clean c g _

    pub own_calls_clean : (n : ℕ) (old : Frame) → IsOld old
        → CallsClean p i c (own p.types.ctors p.functions (answers_of p.types.ctors p.functions W) c n) old v0
    own_calls_clean n old is_old = record {
      clean = λ g pre down args h is have met_pre met_down other below.
          let contracts = called p.functions (answers_of p.types.ctors p.functions W) (one_less n) in
          let outer = called p.functions (answers_of p.types.ctors p.functions W) n in
          subst (λ o. IsClean c (own_call p.types.ctors c contracts outer o old g pre down args)) (sym is)
          (clean_then _ (admits_clean old is_old g h is args have down met_down contracts h.pre pre other) (λ u at.
          clean_then _ (compared_clean old is_old g h is args have down met_down contracts
          (called_good p W answering (one_less n) g.0) below)
          (λ w ok. called_clean n old g pre down args)));
    }
