-- Calls of a guess run by their values alone: a failing check of the own frame is kept.
use Rattle.std.proofs.Common.{◌≡◌, ℕ, zero, suc, List, Option, Some, None, Ok, Err, refl}
use Rattle.std.specs.Prelude.{slice_get}
use Rattle.pp_prog.specs.declared.expr.Expr.{Expr}
use Rattle.pp_prog.specs.declared.expr.Function.{Function}
use Rattle.pp_prog.specs.declared.id.CheckId.{CheckId}
use Rattle.pp_prog.specs.declared.id.FunctionId.{FunctionId}
use Rattle.pp_prog.specs.declared.value.Value.{Value}
use Rattle.pp_eval.specs.declared.outcome.Stop.{Stop}
use Rattle.pp_eval.specs.declared.outcome.Stop.TheVariants as stop
use Rattle.pp_eval.specs.Meaning.{CallMeaning, Frame, meaning}
use Rattle.pp_eval.specs.Part.{Part, inside}
use Rattle.pp_run_laws.proofs.ExprFollows.{expr_follows}
use Rattle.pp_run_laws.proofs.Follows.{Follows, Kept}
use Rattle.pp_guess_runs.specs.Answers.{Answers}
use Rattle.pp_guess_runs.specs.Guess.{called, or_deep, unfolded}
use Rattle.pp_guess_steps.proofs.FuelsAgree.{AnyStop, any_closed}

-- a failing check of the frame itself
abbrev pub OwnStop : Stop → Type 0
OwnStop (stop.Fails c) = Unit {0}
OwnStop (stop.Inner g c) = ⊥
OwnStop stop.Deep = ⊥
OwnStop stop.Stuck = ⊥

pub own_inner : (g : FunctionId) (c : CheckId) → OwnStop (stop.Inner g c) → OwnStop (stop.Fails c)
own_inner g c h = tt

abbrev pub value_only : Part Value → Part Value
value_only (Ok v) = Ok v
value_only (Err s) = Err stop.Deep

abbrev pub by_value : CallMeaning → CallMeaning
by_value c frame g pre down args = value_only (c frame g pre down args)

inside_never : {A : Type 0} (g : FunctionId) (part : Part A) (c : CheckId) → inside g part ≡ Err (stop.Fails c) → ⊥
inside_never g (Ok a) c e = cc
inside_never g (Err (stop.Fails d)) c e = cc
inside_never g (Err (stop.Inner f d)) c e = cc
inside_never g (Err stop.Deep) c e = cc
inside_never g (Err stop.Stuck) c e = cc

module _ (fs : List Function) (W : Answers) where
  pub called_never : (n : ℕ) (frame : Frame) (g : FunctionId) (pre down : Option CheckId) (args : List Value)
      (c : CheckId) → called fs W n frame g pre down args ≡ Err (stop.Fails c) → ⊥
  called_never zero frame g pre down args c e = by (W g args) e
    where
      by : (o : Option Value) → or_deep o ≡ Err (stop.Fails c) → ⊥
      by None e = cc
      by (Some v) e = cc
  called_never (suc n) frame g pre down args c e = by (slice_get fs g.0) e
    where
      by : (o : Option Function) → unfolded (called fs W n) (W g args) o g args ≡ Err (stop.Fails c) → ⊥
      by None e = cc
      by (Some f) e = inside_never g _ c e

  value_kept : (p : Part Value) → ((c : CheckId) → p ≡ Err (stop.Fails c) → ⊥) → Kept AnyStop OwnStop p (value_only p)
  value_kept (Ok v) h = refl
  value_kept (Err (stop.Fails c)) h = absurd (h c refl)
  value_kept (Err (stop.Inner g c)) h = (tt, λ n. absurd n)
  value_kept (Err stop.Deep) h = (tt, λ n. absurd n)
  value_kept (Err stop.Stuck) h = (tt, λ n. absurd n)

  -- what an expression comes to, and which own check fails, hangs on the values of its calls
  pub expr_by_value : (n : ℕ) (e : Expr) (frame : Frame) (env : List Value)
      → Follows AnyStop OwnStop (meaning (called fs W n) e frame env)
      (λ m. meaning (by_value (called fs W n)) e frame env)
  expr_by_value n e frame env = expr_follows AnyStop OwnStop any_closed (called fs W n)
      (λ m. by_value (called fs W n)) frame frame e
      (λ g has pre down args. record {
        from = 0;
        kept = λ m le. value_kept (called fs W n frame g pre down args)
            (λ c. called_never n frame g pre down args c);
      }) env
