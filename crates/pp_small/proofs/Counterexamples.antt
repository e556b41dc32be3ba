-- Arguments that fail a check: as counterexamples, and as runs.
use Rattle.std.proofs.Common.{◌≡◌, ◌∙◌, ◌<◌, ℕ, IsTrue, List, Option, Some, None, refl, sym, ap, subst, slice_get}
use Rattle.std.specs.Prelude.{IfSome}
use Rattle.pp_prog.specs.declared.expr.Function.{Function}
use Rattle.pp_prog.specs.declared.expr.Param.{Param}
use Rattle.pp_prog.specs.declared.id.CheckId.{CheckId}
use Rattle.pp_prog.specs.declared.program.Program.{Program}
use Rattle.pp_prog.specs.declared.types.Ctor.{Ctor}
use Rattle.pp_prog.specs.declared.value.Value.{Value}
use Rattle.pp_prog.specs.Sorts.{have_sorts, param_sorts}
use Rattle.pp_eval.specs.declared.outcome.Outcome.{Outcome}
use Rattle.pp_eval.specs.declared.outcome.Outcome.TheVariants.{Fails}
use Rattle.pp_eval.specs.Runs.{AreArguments, run_at, run_in}
use Rattle.pp_sound.specs.Counterexample.{AreLow, IsCounterexample}
use Rattle.pp_sound.specs.Sound.{IsCheckOf}
use Rattle.pp_small.specs.Failing.{FailWith, IsFailure, IsLeastFuel}

-- values that have the sorts of the parameters of function number g are its arguments
pub have_arguments : (p : Program) (g : ℕ) (f : Function) (ctors : List Ctor) (params : List Param) (args : List Value)
    → slice_get p.functions g ≡ Some f → ctors ≡ p.types.ctors → params ≡ f.params
    → IsTrue (have_sorts ctors args (param_sorts params))
    → AreArguments p.types.ctors (slice_get p.functions g) args
have_arguments p g f ctors params args at same_ctors same_params have =
    subst (λ (o : Option Function). AreArguments p.types.ctors o args) (sym at)
    (subst (λ (cs : List Ctor). IsTrue (have_sorts cs args (param_sorts f.params))) same_ctors
    (subst (λ (ps : List Param). IsTrue (have_sorts ctors args (param_sorts ps))) same_params have))

module _ (p : Program) (i : ℕ) (c : CheckId) (n d : ℕ) (args : List Value) where
  -- low arguments whose run fails a check are a counterexample
  pub counterexample : AreLow d args → AreArguments p.types.ctors (slice_get p.functions i) args
      → FailWith p i c args n → IsCounterexample p i c n d args
  counterexample low sorted fails = by (slice_get p.functions i) refl sorted fails
    where
      by : (o : Option Function) → slice_get p.functions i ≡ o → AreArguments p.types.ctors o args
          → run_at p.types.ctors p.functions o args n ≡ Fails c → IsCounterexample p i c n d args
      by None at sorted fails = absurd sorted
      by (Some f) at sorted fails = record {
        function = f;
        called = record { function = at; arguments = sorted };
        low = low;
        fails = fails;
      }

  -- and a counterexample has such a run
  pub sorted : IsCounterexample p i c n d args → AreArguments p.types.ctors (slice_get p.functions i) args
  sorted x =
      subst (λ (o : Option Function). AreArguments p.types.ctors o args) (sym x.called.function) x.called.arguments

  pub fail_with : IsCounterexample p i c n d args → FailWith p i c args n
  fail_with x = ap (λ (o : Option Function). run_at p.types.ctors p.functions o args n) x.called.function ∙ x.fails

-- the least fuel with which a counterexample's arguments fail the check makes a counterexample of them, and none less
-- does
pub least_counterexample : (p : Program) (i : ℕ) (c : CheckId) (more n d : ℕ) (args : List Value)
    → IsCounterexample p i c more d args → IsLeastFuel p i c args n
    → IsCounterexample p i c n d args × ((k : ℕ) → k < n → IsCounterexample p i c k d args → ⊥)
least_counterexample p i c more n d args x h = (
  counterexample p i c n d args x.low (sorted p i c more d args x) h.fails,
  λ k lt less. h.least k lt (fail_with p i c k d args less),
)

-- where the run of a function on low arguments fails a check of its own, they are a failure of it
pub own_fails : (p : Program) (i n d : ℕ) (args : List Value) (outcome : Outcome) (found : Option CheckId)
    → AreLow d args → AreArguments p.types.ctors (slice_get p.functions i) args → run_in p i args n ≡ outcome
    → IfSome found (λ c. outcome ≡ Fails c) → IfSome found (λ c. IsCheckOf p i c.0)
    → IfSome found (λ c. IsFailure p i n d (record { check = c; args = args }))
own_fails p i n d args outcome None low sorted ran fails own = tt
own_fails p i n d args outcome (Some c) low sorted ran fails own = record {
  own = own;
  fails = counterexample p i c n d args low sorted (ran ∙ fails);
}
