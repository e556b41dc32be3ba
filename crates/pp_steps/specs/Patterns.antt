-- The steps that tell whether a value fits a pattern. Source: own.
use Rattle.std.specs.Prelude.{ℕ, suc, ◌+◌, List, [], ◌∷◌, ◌++◌, length}
use Rattle.pp_tree.specs.declared.operator.BinaryOp.TheVariants.{Equal}
use Rattle.pp_prog.specs.declared.expr.Pattern.{Pattern}
use Rattle.pp_prog.specs.declared.expr.Pattern.TheFolds.{fold-Pattern}
use Rattle.pp_prog.specs.declared.expr.Pattern.TheOpen as layer
use Rattle.pp_prog.specs.declared.id.CtorId.{CtorId}
use Rattle.pp_steps.specs.declared.step.Step.{Step}
use Rattle.pp_steps.specs.declared.step.Step.TheVariants as steps

-- the steps; the numbers that are all true exactly where the value fits; and the numbers of the values that are bound
pub record Fitting : Type 0 where
  pub steps : List Step
  pub tests : List ℕ
  pub bound : List ℕ

-- what a pattern is: from the next number, and the number of the value that it is matched with
abbrev pub Matching : Type 0
Matching = ℕ → ℕ → Fitting

-- whether the value equals what the first step makes
abbrev pub equals : Step → Matching
equals s k t = record { steps = s ∷ steps.Binary Equal k t ∷ []; tests = suc k ∷ []; bound = [] }

-- the fields of a constructor from this place on
abbrev pub fit_fields : CtorId → ℕ → List Matching → Matching
fit_fields c j [] k t = record { steps = []; tests = []; bound = [] }
fit_fields c j (p ∷ ps) k t =
    let x = p (suc k) k in
    let y = fit_fields c (suc j) ps (suc k + length x.steps) t in
    record {
      steps = steps.CtorField c j t ∷
          (x.steps ++ y.steps);
      tests = x.tests ++ y.tests;
      bound = x.bound ++ y.bound;
    }

abbrev pub fitting_step : layer.Pattern-F Matching → Matching
fitting_step layer.Any k t = record { steps = []; tests = []; bound = [] }
fitting_step (layer.Bind inner) k t =
    let x = inner k t in record { steps = x.steps; tests = x.tests; bound = t ∷ x.bound }
fitting_step (layer.Int n) k t = equals (steps.Int n) k t
fitting_step (layer.Bool b) k t = equals (steps.Bool b) k t
fitting_step (layer.Ctor c patterns) k t =
    let x = fit_fields c 0 patterns (suc k) t in
    record { steps = steps.IsCtor c (length patterns) t ∷ x.steps; tests = k ∷ x.tests; bound = x.bound }

-- the steps of a pattern
abbrev pub fitting : Pattern → Matching
fitting = fold-Pattern Matching fitting_step
