-- A run is sound as far as those calls are answered that it can make.
use Rattle.std.proofs.Common.{◌≡◌, ◌⊎◌, ◌==◌, ℕ, List, Option, Some, None, Ok, Err, Contains}
use Rattle.std.proofs.Common.{slice_get, refl, sym, subst, inl, inr}
use Rattle.std.proofs.lemmas.Bool.Decides.{Decides-eqb}
use Rattle.std.proofs.lemmas.Map.Made.{is_member-Decides}
use Rattle.std.proofs.Math.Logic.{∥∥₁_elim}
use Rattle.std.specs.Set.{is_member}
use Rattle.pp_prog.specs.declared.expr.Function.{Function}
use Rattle.pp_prog.specs.declared.id.CheckId.{CheckId}
use Rattle.pp_prog.specs.declared.id.FunctionId.{FunctionId}
use Rattle.pp_prog.specs.declared.program.Program.{Program}
use Rattle.pp_prog.specs.declared.sort.Sort.{Sort}
use Rattle.pp_prog.specs.declared.value.Value.{Value}
use Rattle.pp_prog.specs.Calls.{function_calls}
use Rattle.pp_prog.specs.Listing.{measure, precondition}
use Rattle.pp_prog.specs.Sorts.{param_sorts}
use Rattle.pp_eval.specs.declared.outcome.Outcome.{Outcome}
use Rattle.pp_eval.specs.declared.outcome.Outcome.TheVariants.{Done, Outside, Fails, Inner, Deep}
use Rattle.pp_eval.specs.declared.outcome.Stop.TheVariants as stop
use Rattle.pp_eval.specs.Invocation.{no_fuel}
use Rattle.pp_eval.specs.Meaning.{CallMeaning, Frame}
use Rattle.pp_eval.specs.Part.{Part}
use Rattle.pp_eval.specs.Runs.{outcome, run_with}
use Rattle.pp_sound.specs.Sound.{AnswersSorted, IsCalled}
use Rattle.pp_sound.proofs.Answered.{can_answer_sorted}
use Rattle.pp_prog.proofs.ValueSorts.{Have}
use Rattle.pp_sound.proofs.Exprs.{AreGood}
use Rattle.pp_sound.proofs.Laws.{answers_good, no_fuel_good}
use Rattle.pp_sound.proofs.Parts.{IsFine, IsOwn, IsSorted, MayStop}
use Rattle.pp_sound.proofs.Runs.{IsEnd, run_fine}
use Rattle.pp_sound.proofs.Sites.{IsMet}
use Rattle.pp_run_laws.specs.Laws.{AnsweredCallsSuffice, CallsAnswered, IsAnswered, IsAnsweredRun, IsOwnCheck, SameAt}
use Rattle.pp_run_laws.proofs.Depends.{run_same}
use Rattle.pp_graph.proofs.Decided.{or_not}

pub contains_or_not : (gs : List ℕ) (g : ℕ) → Contains gs g ⊎ (Contains gs g → ⊥)
contains_or_not gs g = or_not (is_member (λ x y. x == y) gs g) (is_member-Decides Decides-eqb gs g)

module _ (p : Program) (i : ℕ) (f : Function) (calls : CallMeaning) (answered : CallsAnswered p i f calls) where
  own_check : (check : Option CheckId) → IsOwn p i check → IsOwnCheck p i check
  own_check None h = tt
  own_check (Some c) h = h

  as_fine : (D : Type 0) (s : Sort) (part : Part Value) → IsAnswered p i s part → IsSorted p D i s part
  as_fine D s (Ok v) h = record { told = h }
  as_fine D s (Err (stop.Fails c)) h = record { told = h }
  as_fine D s (Err (stop.Inner g c)) h = record { told = h }
  as_fine D s (Err stop.Deep) h = absurd h
  as_fine D s (Err stop.Stuck) h = absurd h

  -- calls that f can't make do something else
  abbrev else_calls : CallMeaning → (g : FunctionId)
      → Contains (function_calls f) g.0 ⊎ (Contains (function_calls f) g.0 → ⊥) → Frame
      → Option CheckId → Option CheckId → List Value → Part Value
  else_calls deeper g (inl has) frame pre down args = calls frame g pre down args
  else_calls deeper g (inr never) frame pre down args = deeper frame g pre down args

  abbrev mixed : CallMeaning → CallMeaning
  mixed deeper frame g pre down args = else_calls deeper g (contains_or_not (function_calls f) g.0) frame pre down args

  mixed_good : (D : Type 0) (deeper : CallMeaning) → AreGood p D i deeper → AreGood p D i (mixed deeper)
  mixed_good D deeper good = record {
    part = λ frame g pre down args h is have met_pre met_down.
        by frame g pre down args h is have met_pre met_down (contains_or_not (function_calls f) g.0);
  }
    where
      by : (frame : Frame) (g : FunctionId) (pre down : Option CheckId) (args : List Value) (h : Function)
          → slice_get p.functions g.0 ≡ Some h → Have p.types.ctors (param_sorts h.params) args
          → IsMet p i (precondition g pre) → IsMet p i (measure g down)
          → (n : Contains (function_calls f) g.0 ⊎ (Contains (function_calls f) g.0 → ⊥))
          → IsSorted p D i h.result (else_calls deeper g n frame pre down args)
      by frame g pre down args h is have met_pre met_down (inl has) =
          as_fine D h.result (calls frame g pre down args)
          (answered.each frame g pre down args h has is have met_pre.carries met_down.carries
          (own_check pre met_pre.own) (own_check down met_down.own))
      by frame g pre down args h is have met_pre met_down (inr never) =
          good.part frame g pre down args h is have met_pre met_down

  mixed_same : (deeper : CallMeaning) → SameAt (function_calls f) calls (mixed deeper)
  mixed_same deeper frame g has pre down args = by (contains_or_not (function_calls f) g.0)
    where
      by : (n : Contains (function_calls f) g.0 ⊎ (Contains (function_calls f) g.0 → ⊥))
          → calls frame g pre down args ≡ else_calls deeper g n frame pre down args
      by (inl h) = refl
      by (inr never) = absurd (never has)

  module _ (args : List Value) (called : IsCalled p i f args) where
    -- the run is fine, where the calls that f can't make are
    fine_with : (D : Type 0) (deeper : CallMeaning) → AreGood p D i deeper
        → IsFine (MayStop p D i) (IsEnd p f.result) (run_with calls f args)
    fine_with D deeper good =
        subst (IsFine (MayStop p D i) (IsEnd p f.result)) (sym (run_same calls (mixed deeper) f (mixed_same deeper)
        args))
        (run_fine p D i (mixed deeper) (mixed_good D deeper good) f called.function args called.arguments)

    answered_run : (part : Part Outcome) → IsFine (MayStop p (Unit {0}) i) (IsEnd p f.result) part
        → ((deeper : CallMeaning) → AnswersSorted p deeper → IsFine (MayStop p ⊥ i) (IsEnd p f.result) part)
        → IsAnsweredRun p i f.result (outcome part)
    answered_run (Ok (Done v)) h never = h.told
    answered_run (Ok Outside) h never = tt
    answered_run (Ok (Fails c)) h never = absurd h.told
    answered_run (Ok (Inner g c)) h never = absurd h.told
    answered_run (Ok Deep) h never = absurd h.told
    answered_run (Err (stop.Fails c)) h never = h.told
    answered_run (Err (stop.Inner g c)) h never = h.told
    answered_run (Err stop.Stuck) h never = absurd h.told
    answered_run (Err stop.Deep) h never = ∥∥₁_elim (can_answer_sorted p) ⊥_prop (λ k. (never k.0 k.1).told)
      where
        ⊥_prop : IsProp ⊥
        ⊥_prop = hlevel

pub answered_calls_suffice : AnsweredCallsSuffice
answered_calls_suffice p i f args called calls answered =
    answered_run p i f calls answered args called (run_with calls f args)
    (fine_with p i f calls answered args called (Unit {0}) no_fuel (no_fuel_good p i))
    (λ deeper answers. fine_with p i f calls answered args called ⊥ deeper (answers_good p deeper answers i))
