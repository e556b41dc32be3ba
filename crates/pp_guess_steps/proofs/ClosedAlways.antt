-- Closed predicates that ask nothing of the expressions that steps come from.
use Rattle.std.proofs.Common.{◌≡◌, ℕ, suc, List, [], ◌∷◌, ◌++◌, Option, Some, None}
use Rattle.std.specs.Prelude.{slice_get}
use Rattle.pp_prog.specs.declared.expr.Case.{Case}
use Rattle.pp_prog.specs.declared.expr.Expr.{Expr}
use Rattle.pp_prog.specs.declared.expr.Expr.TheOpen as layer
use Rattle.pp_prog.specs.declared.expr.Function.{Function}
use Rattle.pp_prog.specs.declared.expr.Pattern.{Pattern}
use Rattle.pp_prog.specs.declared.id.CheckId.{CheckId}
use Rattle.pp_prog.specs.declared.id.FunctionId.{FunctionId}
use Rattle.pp_prog.specs.Sorts.{param_sorts}
use Rattle.pp_steps.specs.declared.step.Step.{Step}
use Rattle.pp_steps.specs.Frames.{any_of, arguments, running}
use Rattle.pp_steps.specs.Guesses.{Standing, all_agreeing, all_unfolded, asking, guess_steps, guessing, standing}
use Rattle.pp_steps.specs.Patterns.{fitting}
use Rattle.pp_steps.specs.Piece.{after}
use Rattle.pp_steps_run.specs.Told.{AllOf}
use Rattle.pp_guess_steps.proofs.Conditions.{Conditions, FunctionHolds, MaybeOf, PartsHold, PostHolds}
use Rattle.pp_guess_steps.proofs.ClosedExprs.{IsSimpleOf}
use Rattle.pp_guess_steps.proofs.ClosedRounds as rounds

-- nothing is asked of it
abbrev pub AnyOf : {A : Type 0} → A → Type 0
AnyOf x = Unit {0}

pub all_any : {A : Type 0} (xs : List A) → AllOf AnyOf xs
all_any [] = tt
all_any (x ∷ xs) = (tt, all_any xs)

pub maybe_any : {A : Type 0} (o : Option A) → MaybeOf AnyOf o
maybe_any None = tt
maybe_any (Some x) = tt

pub any_parts : (y : layer.Expr-F Expr Case) → PartsHold AnyOf AnyOf AnyOf AnyOf y
any_parts (layer.Int n) = tt
any_parts (layer.Bool b) = tt
any_parts (layer.Var i) = tt
any_parts (layer.Unary op a) = tt
any_parts (layer.Binary op a b check) = (tt, tt)
any_parts (layer.Construct c args) = (tt, all_any args)
any_parts (layer.Field e i) = tt
any_parts (layer.If c a b) = (tt, tt, tt)
any_parts (layer.Match e arms check) = (tt, all_any arms)
any_parts (layer.Val bound rest) = (tt, tt)
any_parts (layer.Assert check c rest) = (tt, tt)
any_parts (layer.Call g args pre down) = (tt, all_any args)

-- the condition that each expression satisfies
abbrev pub Always : Conditions
Always = record {
  Makes = λ c. Unit {0};
  Meets = λ g. Unit {0};
  Opens = λ s. Unit {0};
  Holds = λ e. Unit {0};
  Suits = λ c. Unit {0};
  parts = λ y h. any_parts y;
  case_parts = λ y h. (maybe_any y.guard, tt);
}

any_post : (o : Option (CheckId × Expr)) → PostHolds Always o
any_post None = tt
any_post (Some post) = tt

pub any_function : (f : Function) → FunctionHolds Always f
any_function f =
    record { pre = maybe_any f.pre; measure = all_any f.measure; body = tt; post = any_post f.post }

-- neither a call nor a field of a pattern's constructor
abbrev pub IsSimple : Step → Type 0
IsSimple = IsSimpleOf Always

module _ (P : List Step → Type 0) (join : (xs ys : List Step) → P xs → P ys → P (xs ++ ys)) (none : P [])
    (simple : (s : Step) → IsSimple s → P (s ∷ [])) where
  pub pairs_closed : (cs : List Standing) (k : ℕ) (olds : List Standing) (true_one : ℕ)
      → P (all_agreeing k olds cs true_one).steps
  pairs_closed = rounds.pairs_closed Always P join none simple

module _ (P : List Step → Type 0) (join : (xs ys : List Step) → P xs → P ys → P (xs ++ ys)) (none : P [])
    (simple : (s : Step) → IsSimple s → P (s ∷ [])) (pats : (p : Pattern) (k t : ℕ) → P (fitting p k t).steps)
    (functions : List Function) (Fit : ℕ → Type 0)
    (left_open : (w : ℕ) → Fit w → (k reach : ℕ) (g : FunctionId) (pre down : Option CheckId) (args : List ℕ)
    → P (asking functions w k reach g pre down args).steps) where
  within : (g : FunctionId) (f : Function) → Unit {0} → slice_get functions g.0 ≡ Some f → FunctionHolds Always f
  within g f met is = any_function f

  asks_closed : (w : ℕ) → Fit w → (k reach : ℕ) (g : FunctionId) (pre down : Option CheckId) (args : List ℕ)
      → Unit {0} → P (asking functions w k reach g pre down args).steps
  asks_closed w fit k reach g pre down args met = left_open w fit k reach g pre down args

  -- the steps of calls that are unfolded
  pub unfolding_closed : (wait : ℕ) → Fit (suc wait) → (k : ℕ) (cs : List Standing)
      → P (all_unfolded functions wait k cs).steps
  unfolding_closed wait fit k cs =
      rounds.unfolding_closed Always P join none simple pats functions within Fit asks_closed wait fit k cs
      (all_any cs)

  module _ (at_zero : Fit 0) (at_one : Fit 1) where
    -- those of the own frame
    pub base_closed : (f : Function) (c : CheckId) → let a = arguments (param_sorts f.params) in
        let n = after 0 a in
        let r = running (guessing functions (Some c)) (Some c) f n a.out a.alive in
        P (a.steps ++ (r.steps ++ (any_of r.fails (after n r) a.alive).steps))
    base_closed f =
        rounds.base_closed Always P join none simple pats functions within Fit asks_closed at_zero at_one tt f
        (any_function f) (all_any (param_sorts f.params))

    -- those of each round
    pub guess_closed : ((w : ℕ) → Fit w) → (f : Function) (c : CheckId) (n : ℕ) → P (guess_steps functions f c n).steps
    guess_closed all f =
        rounds.guess_closed Always P join none simple pats functions within Fit asks_closed at_zero at_one tt f
        (any_function f) (all_any (param_sorts f.params)) all (λ k ss h. all_any (standing k ss))
