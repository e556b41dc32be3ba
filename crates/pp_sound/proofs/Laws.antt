-- The laws of runs.
use Rattle.std.proofs.Common.{◌≡◌, ℕ, ◌<◌, List, Ok, Err, length, sym, subst}
use Rattle.pp_prog.specs.declared.expr.Function.{Function}
use Rattle.pp_prog.specs.declared.id.CheckId.{CheckId}
use Rattle.pp_prog.specs.declared.id.FunctionId.{FunctionId}
use Rattle.pp_prog.specs.declared.program.Program.{Program}
use Rattle.pp_prog.specs.declared.sort.Sort.{Sort}
use Rattle.pp_prog.specs.declared.value.Value.{Value}
use Rattle.pp_eval.specs.declared.outcome.Outcome.{Outcome}
use Rattle.pp_eval.specs.declared.outcome.Outcome.TheVariants.{Done, Outside, Fails, Inner, Deep}
use Rattle.pp_eval.specs.declared.outcome.Stop.TheVariants as stop
use Rattle.pp_eval.specs.Invocation.{calls_over, calls_to, no_fuel}
use Rattle.pp_eval.specs.Meaning.{CallMeaning}
use Rattle.pp_eval.specs.Part.{Part}
use Rattle.pp_eval.specs.Runs.{outcome, run_with}
use Rattle.pp_sound.specs.Sound.{AnswersSorted, DeepByFuelAlone, FailListedChecks, IsCalled, IsCheckOf, KeepSorts}
use Rattle.pp_sound.specs.Sound.{NeverStuck}
use Rattle.pp_sound.proofs.Calls.{calls_good}
use Rattle.pp_prog.proofs.ValueSorts.{Has}
use Rattle.pp_sound.proofs.Exprs.{AreGood}
use Rattle.pp_sound.proofs.Parts.{IsFine, IsSorted, MayStop, fine_stop, fine_value}
use Rattle.pp_sound.proofs.Runs.{IsEnd, run_fine}

-- calls of values of the sorts are good, so that none is Deep
pub answers_good : (p : Program) (deeper : CallMeaning) → AnswersSorted p deeper → (i : ℕ) → AreGood p ⊥ i deeper
answers_good p deeper answers i = record {
  part = λ frame g pre down args f is have met_pre met_down.
      let v = answers.answers frame g pre down args f is have in
      subst (IsSorted p ⊥ i f.result) (sym v.1) (fine_value v.2);
}

-- calls with no fuel left are Deep, which is all that is asked of them
pub no_fuel_good : (p : Program) (i : ℕ) → AreGood p (Unit {0}) i no_fuel
no_fuel_good p i = record {
  part = λ frame g pre down args f is have met_pre met_down. fine_stop tt;
}

never_deep : (p : Program) (i : ℕ) (s : Sort) (r : Part Outcome) → IsFine (MayStop p ⊥ i) (IsEnd p s) r
    → outcome r ≡ Deep → ⊥
never_deep p i s (Ok (Done v)) h e = cc
never_deep p i s (Ok Outside) h e = cc
never_deep p i s (Ok (Fails c)) h e = h.told
never_deep p i s (Ok (Inner g c)) h e = h.told
never_deep p i s (Ok Deep) h e = h.told
never_deep p i s (Err (stop.Fails c)) h e = cc
never_deep p i s (Err (stop.Inner g c)) h e = cc
never_deep p i s (Err stop.Deep) h e = h.told
never_deep p i s (Err stop.Stuck) h e = h.told

module _ (p : Program) (D : Type 0) (i : ℕ) (s : Sort) where
  done_sorted : (r : Part Outcome) → IsFine (MayStop p D i) (IsEnd p s) r → (v : Value) → outcome r ≡ Done v
      → Has p.types.ctors s v
  done_sorted (Ok (Done w)) h v e = let same : w ≡ v = cc in subst (Has p.types.ctors s) same h.told
  done_sorted (Ok Outside) h v e = cc
  done_sorted (Ok (Fails c)) h v e = absurd h.told
  done_sorted (Ok (Inner g c)) h v e = absurd h.told
  done_sorted (Ok Deep) h v e = absurd h.told
  done_sorted (Err (stop.Fails c)) h v e = cc
  done_sorted (Err (stop.Inner g c)) h v e = cc
  done_sorted (Err stop.Deep) h v e = cc
  done_sorted (Err stop.Stuck) h v e = cc

  fails_own : (r : Part Outcome) → IsFine (MayStop p D i) (IsEnd p s) r → (c : CheckId) → outcome r ≡ Fails c
      → IsCheckOf p i c.0
  fails_own (Ok (Done w)) h c e = cc
  fails_own (Ok Outside) h c e = cc
  fails_own (Ok (Fails d)) h c e = absurd h.told
  fails_own (Ok (Inner g d)) h c e = absurd h.told
  fails_own (Ok Deep) h c e = absurd h.told
  fails_own (Err (stop.Fails d)) h c e = let same : d ≡ c = cc in subst (λ (k : CheckId). IsCheckOf p i k.0) same h.told
  fails_own (Err (stop.Inner g d)) h c e = cc
  fails_own (Err stop.Deep) h c e = cc
  fails_own (Err stop.Stuck) h c e = cc

  fails_inner : (r : Part Outcome) → IsFine (MayStop p D i) (IsEnd p s) r → (g : FunctionId) (c : CheckId)
      → outcome r ≡ Inner g c → (g.0 < length p.functions) × IsCheckOf p g.0 c.0
  fails_inner (Ok (Done w)) h g c e = cc
  fails_inner (Ok Outside) h g c e = cc
  fails_inner (Ok (Fails d)) h g c e = absurd h.told
  fails_inner (Ok (Inner f d)) h g c e = absurd h.told
  fails_inner (Ok Deep) h g c e = absurd h.told
  fails_inner (Err (stop.Fails d)) h g c e = cc
  fails_inner (Err (stop.Inner f d)) h g c e =
      let one : f ≡ g = cc in
      let two : d ≡ c = cc in
      subst (λ (k : FunctionId). (k.0 < length p.functions) × IsCheckOf p k.0 c.0) one
      (subst (λ (k : CheckId). (f.0 < length p.functions) × IsCheckOf p f.0 k.0) two h.told)
  fails_inner (Err stop.Deep) h g c e = cc
  fails_inner (Err stop.Stuck) h g c e = cc

pub deep_by_fuel_alone : DeepByFuelAlone
deep_by_fuel_alone p deeper answers i f args called n =
    let calls = calls_over deeper p.types.ctors p.functions n in
    never_deep p i f.result (run_with calls f args) (run_fine p ⊥ i calls
    (calls_good p ⊥ deeper (answers_good p deeper answers) n i) f called.function args called.arguments)

-- a run with fuel n
run_with_fuel : (p : Program) (i : ℕ) (f : Function) (args : List Value) → IsCalled p i f args → (n : ℕ)
    → IsFine (MayStop p (Unit {0}) i) (IsEnd p f.result) (run_with (calls_to p.types.ctors p.functions n) f args)
run_with_fuel p i f args called n =
    run_fine p (Unit {0}) i (calls_to p.types.ctors p.functions n)
    (calls_good p (Unit {0}) no_fuel (no_fuel_good p) n i) f called.function args called.arguments

stuck_refused : (p : Program) (D : Type 0) (i : ℕ) (s : Sort) (r : Part Outcome) → IsFine (MayStop p D i) (IsEnd p s) r
    → r ≡ Err stop.Stuck → ⊥
stuck_refused p D i s r h e =
    let stuck : IsFine (MayStop p D i) (IsEnd p s) (Err stop.Stuck) = subst (IsFine (MayStop p D i) (IsEnd p s)) e h in
    stuck.told

pub never_stuck : NeverStuck
never_stuck p i f args called n e =
    stuck_refused p (Unit {0}) i f.result (run_with (calls_to p.types.ctors p.functions n) f args)
    (run_with_fuel p i f args called n) e

pub keep_sorts : KeepSorts
keep_sorts p i f args called n v e =
    done_sorted p (Unit {0}) i f.result (run_with (calls_to p.types.ctors p.functions n) f args)
    (run_with_fuel p i f args called n) v e

pub fail_listed_checks : FailListedChecks
fail_listed_checks = record {
  own = λ p i f args called n c e. fails_own p (Unit {0}) i f.result
      (run_with (calls_to p.types.ctors p.functions n) f args) (run_with_fuel p i f args called n) c e;
  inner = λ p i f args called n g c e. fails_inner p (Unit {0}) i f.result
      (run_with (calls_to p.types.ctors p.functions n) f args) (run_with_fuel p i f args called n) g c e;
}
