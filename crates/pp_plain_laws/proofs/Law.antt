-- The law on plain descents.
use Rattle.std.proofs.Common.{◌≡◌, ℕ, zero, suc, ◌≤◌, nat_eq, Bool, true, false, List, [], ◌∷◌, Option, Some, None, Ok}
use Rattle.std.proofs.Common.{Err, slice_get, refl, sym, ap, ◌∙◌, subst, arith, Contains, eqb-true}
use Rattle.std.specs.Prelude.{if◌then◌else◌}
use Rattle.std.specs.Option.{option_map}
use Rattle.std.proofs.lemmas.Option.{slice_get-map}
use Rattle.pp_prog.specs.declared.check.Check.{Check}
use Rattle.pp_prog.specs.declared.check.CheckKind.{CheckKind}
use Rattle.pp_prog.specs.declared.check.CheckKind.TheVariants as kind
use Rattle.pp_prog.specs.declared.expr.Function.{Function}
use Rattle.pp_prog.specs.declared.expr.Param.{Param}
use Rattle.pp_prog.specs.declared.id.CheckId.{CheckId}
use Rattle.pp_prog.specs.declared.program.Program.{Program}
use Rattle.pp_prog.specs.declared.value.Value.{Value}
use Rattle.pp_prog.specs.Listing.{Site, as_kind, assertion, carried, division, function_sites, matching, measure, plain}
use Rattle.pp_prog.specs.Listing.{postcondition, precondition}
use Rattle.pp_prog.specs.Sorts.{param_sorts, sort_of_param}
use Rattle.pp_eval.specs.declared.outcome.Outcome.{Outcome}
use Rattle.pp_eval.specs.declared.outcome.Outcome.TheVariants as outcome
use Rattle.pp_eval.specs.declared.outcome.Stop.TheVariants as stop
use Rattle.pp_eval.specs.Invocation.{calls_to, frame_of}
use Rattle.pp_eval.specs.Meaning.{CallMeaning, Frame}
use Rattle.pp_eval.specs.Part.{Part}
use Rattle.pp_eval.specs.Runs as runs
use Rattle.pp_eval.specs.Runs.{run_with}
use Rattle.pp_sound.specs.Sound.{IsCalled, IsCheckOf}
use Rattle.pp_sound.proofs.Calls.{whole}
use Rattle.pp_prog.proofs.ValueSorts.{have_at}
use Rattle.pp_sound.proofs.Exprs.{AreGood}
use Rattle.pp_sound.proofs.Listed.{function_met}
use Rattle.pp_sound.proofs.Parts.{IsOwn}
use Rattle.pp_sound.proofs.Runs.{IsEnd, run_fine}
use Rattle.pp_sound.proofs.Sites.{AreMet, IsMet, met_head, met_tail}
use Rattle.pp_checks.specs.Marks.{descents_from, first_param}
use Rattle.pp_checks.specs.Plain.{HasDescent, IsPlain}
use Rattle.pp_checks.specs.Plan.{IsPlanOf, Plan}
use Rattle.pp_checks.proofs.Measured.{first_param_is}
use Rattle.pp_checks.proofs.PlainDescents.{descent_listed}
use Rattle.pp_run_laws.proofs.MeasureSorts.{calls_to_good, frame_sorted, told_value}
use Rattle.pp_guess_runs.specs.Answers.{Answering, IsAnswering, answers_of}
use Rattle.pp_guess_runs.specs.Guess.{fails, guessed, own, skip}
use Rattle.pp_plain_laws.specs.Laws.{PlainNeverFail}
use Rattle.pp_plain_laws.proofs.CallsClean.{IsOld, own_calls_clean, run_calls_clean}
use Rattle.pp_plain_laws.proofs.Comparing.{first_value}
use Rattle.pp_plain_laws.proofs.Counts.{count, count_has, ids, one_if, places}
use Rattle.pp_guess_runs.proofs.Sorted.{own_good}
use Rattle.pp_plain_laws.proofs.Plain.{run_clean}
use Rattle.pp_plain_laws.proofs.Scope.{IsClean, never_fails}
use Rattle.pp_plain_laws.proofs.Tight.{all_few}

-- ---- whose check a plain descent is

module _ (p : Program) (j : ℕ) (c : CheckId) where
  -- a check that is counted is there
  counted : (k : CheckKind) (check : Option CheckId) → 1 ≤ count c.0 (ids c.0 (as_kind k check)) → check ≡ Some c
  counted k None h = absurd (omega (arith, h))
  counted k (Some d) h = by (nat_eq d.0 c.0) refl
    where
      by : (t : Bool) → nat_eq d.0 c.0 ≡ t → Some d ≡ Some c
      by true e = let mk : ℕ → CheckId = λ n. record { 0 = n } in ap (λ n. Some (mk n)) (eqb-true d.0 c.0 e)
      by false e = absurd (omega (arith, ap one_if e, h))

  own_check : (site : Site) → IsMet p j site → 1 ≤ count c.0 (ids c.0 (carried site)) → IsCheckOf p j c.0
  own_check (plain check) met h = absurd (omega (arith, h))
  own_check (division check) met h = subst (IsOwn p j) (counted kind.Division check h) met.own
  own_check (assertion d) met h = subst (IsOwn p j) (counted kind.Assertion (Some d) h) met.own
  own_check (precondition g check) met h = subst (IsOwn p j) (counted kind.Precondition check h) met.own
  own_check (measure g check) met h = subst (IsOwn p j) (counted kind.Measure check h) met.own
  own_check (matching s patterns check) met h = subst (IsOwn p j) (counted kind.Match check h) met.own
  own_check (postcondition d) met h = subst (IsOwn p j) (counted kind.Postcondition (Some d) h) met.own

  owner : (sites : List Site) → AreMet p j sites → 1 ≤ places c.0 sites → IsCheckOf p j c.0
  owner [] met h = absurd (omega (arith, h))
  owner (s ∷ ss) met h = by (count c.0 (ids c.0 (carried s))) refl (owner ss (met_tail met))
    where
      by : (n : ℕ) → count c.0 (ids c.0 (carried s)) ≡ n → (1 ≤ places c.0 ss → IsCheckOf p j c.0) → IsCheckOf p j c.0
      by zero e rest = rest (omega (arith, e, h))
      by (suc n) e rest = own_check s (met_head met) (omega (arith, e))

  -- the parameter that a plain descent goes down in
  record GoesDownIn (f : Function) : Type 0 where
    param : ℕ
    first : first_param f ≡ Some param
    there : (q : Param) × (slice_get f.params param ≡ Some q)
    here : Contains (descents_from p.functions param f) c.0

  goes_down_in : (f : Function) → HasDescent p.functions f c.0 → GoesDownIn f
  goes_down_in f d = record {
    param = d.param;
    first = first_param_is f d.param d.begins;
    there = (d.datatype.0, d.datatype.2);
    here = descent_listed p.functions f c.0 d;
  }

module _ (plan : Plan) (p : Program) (is_plan : IsPlanOf plan p) (i : ℕ) (c : CheckId) (is_check : IsCheckOf p i c.0)
    (is_plain : IsPlain p.functions c.0) where
  -- the function whose plain descent it is owns the check
  plain_owner : is_plain.0 ≡ i
  plain_owner =
      let j = is_plain.0 in
      let f = is_plain.1 in
      let g = goes_down_in p j c f is_plain.3 in
      let has = count_has c.0 (descents_from p.functions g.param f) g.here in
      let few = all_few p j f is_plain.2 c g.param in
      let mine = owner p j c (function_sites p.types p.functions f) (function_met p j f is_plain.2)
      (omega (arith, has, few)) in
      let both : Some mine.check ≡ Some is_check.check = sym mine.listed ∙ is_check.listed in
      let same : mine.check ≡ is_check.check = cc in
      sym mine.owner ∙ ap (λ (k : Check). k.function.0) same ∙ is_check.owner

  module _ (f : Function) (args : List Value) (called : IsCalled p i f args) where
    descent : GoesDownIn p i c f
    descent =
        let same : is_plain.1 ≡ f = (let both : Some is_plain.1 ≡ Some f = sym is_plain.2 ∙ ap (slice_get p.functions)
        plain_owner ∙ called.function in cc) in
        goes_down_in p i c f (subst (λ (h : Function). HasDescent p.functions h c.0) same is_plain.3)

    value : (v : Value) × (slice_get args descent.param ≡ Some v)
    value =
        let s : slice_get (param_sorts f.params) descent.param ≡ Some (sort_of_param descent.there.0) =
        slice_get-map sort_of_param f.params descent.param ∙ ap (option_map sort_of_param) descent.there.1 in
        let v = have_at p.types.ctors (param_sorts f.params) args descent.param (sort_of_param descent.there.0)
        called.arguments s in
        (v.0, v.1)

    -- the frame of the function
    is_old : (calls : CallMeaning) → AreGood p (Unit {0}) i calls → (frame : Frame)
        → frame_of calls f.measure args ≡ Ok frame
        → IsOld plan p is_plan i f called.function c value.0 frame
    is_old calls good None e = tt
    is_old calls good (Some vs) e =
        let w = whole p i f called.function in
        let x = first_value calls f descent.param descent.first args value.0 value.1 vs e in (
          x.0,
          x.1,
          told_value (frame_sorted p (Unit {0}) i calls good f.measure (param_sorts f.params)
              w.measure_sorted w.measure_met args called.arguments) (Some vs) e,
        )

    runs_clean : (n : ℕ) → IsClean c (run_with (calls_to p.types.ctors p.functions n) f args)
    runs_clean n =
        let calls = calls_to p.types.ctors p.functions n in
        run_clean p i f args called c descent.param value.0 value.1 descent.here calls (calls_to_good p n i)
        (run_calls_clean plan p is_plan i f called.function c value.0 n None tt)
        (λ frame framed. run_calls_clean plan p is_plan i f called.function c value.0 n frame
        (is_old calls (calls_to_good p n i) frame framed))

    guesses_clean : (n : ℕ) (W : Answering) → IsAnswering p W
        → IsClean c (run_with (own p.types.ctors p.functions (answers_of p.types.ctors p.functions W) c n) f args)
    guesses_clean n W answering =
        let calls = own p.types.ctors p.functions (answers_of p.types.ctors p.functions W) c n in
        let good = own_good p W answering c n i in
        run_clean p i f args called c descent.param value.0 value.1 descent.here calls good
        (own_calls_clean plan p is_plan i f called.function c value.0 W answering n None tt)
        (λ frame framed. own_calls_clean plan p is_plan i f called.function c value.0 W answering n frame
        (is_old calls good frame framed))

-- how a run stops that fails the check, and a guess run
run_stops : (c : CheckId) (part : Part Outcome) → IsClean c part
    → ((o : Outcome) → part ≡ Ok o → o ≡ outcome.Fails c → ⊥)
    → runs.outcome part ≡ outcome.Fails c → ⊥
run_stops c (Ok o) clean never e = never o refl e
run_stops c (Err (stop.Fails d)) clean never e =
    let same : d ≡ c = cc in never_fails clean (ap (λ x. Err (stop.Fails x)) same)
run_stops c (Err (stop.Inner g d)) clean never e = cc
run_stops c (Err stop.Deep) clean never e = cc
run_stops c (Err stop.Stuck) clean never e = cc

guess_stops : (c : CheckId) (part : Part Outcome) → IsClean c part → guessed c part ≡ fails → ⊥
guess_stops c (Ok (outcome.Done v)) clean e = cc
guess_stops c (Ok outcome.Outside) clean e = cc
guess_stops c (Ok (outcome.Fails d)) clean e = cc
guess_stops c (Ok (outcome.Inner g d)) clean e = cc
guess_stops c (Ok outcome.Deep) clean e = cc
guess_stops c (Err (stop.Fails d)) clean e = by (nat_eq d.0 c.0) refl e
  where
    by : (t : Bool) → nat_eq d.0 c.0 ≡ t → (if t then fails else skip) ≡ fails → ⊥
    by true is e =
        let mk : ℕ → CheckId = λ n. record { 0 = n } in never_fails clean
        (ap (λ n. Err (stop.Fails (mk n))) (eqb-true d.0 c.0 is))
    by false is e = cc
guess_stops c (Err (stop.Inner g d)) clean e = cc
guess_stops c (Err stop.Deep) clean e = cc
guess_stops c (Err stop.Stuck) clean e = cc

pub plain_never_fail : PlainNeverFail
plain_never_fail = record {
  runs = λ plan p is_plan i c is_check is_plain n f args called e.
      let calls = calls_to p.types.ctors p.functions n in
      run_stops c (run_with calls f args) (runs_clean plan p is_plan i c is_check is_plain f args called n)
      (λ o is same. subst (IsEnd p f.result) same
      (told_value (run_fine p (Unit {0}) i calls (calls_to_good p n i) f called.function args called.arguments) o is))
      e;
  guesses = λ plan p is_plan i c is_check is_plain n f args called W answering e.
      guess_stops c (run_with (own p.types.ctors p.functions (answers_of p.types.ctors p.functions W) c n) f args)
      (guesses_clean plan p is_plan i c is_check is_plain f args called n W answering) e;
}
