-- The steps of a pattern satisfy a predicate that joins and is true of constants, comparisons, looks at a constructor
-- and fields of constructors.
use Rattle.std.proofs.Common.{ℕ, suc, ◌+◌, List, [], ◌∷◌, ◌++◌, length, sym, subst}
use Rattle.pp_list.proofs.With.{With}
use Rattle.pp_prog.proofs.Induction.{each_pattern, pattern_under}
use Rattle.pp_tree.specs.declared.operator.BinaryOp.TheVariants.{Equal}
use Rattle.pp_prog.specs.declared.expr.Pattern.{Pattern}
use Rattle.pp_prog.specs.declared.expr.Pattern.TheFolds.{fold-roll-Pattern, map-Pattern}
use Rattle.pp_prog.specs.declared.expr.Pattern.TheOpen as pattern
use Rattle.pp_prog.specs.declared.expr.Pattern.TheViews.{roll-Pattern}
use Rattle.pp_prog.specs.declared.id.CtorId.{CtorId}
use Rattle.pp_steps.specs.declared.step.Step.{Step}
use Rattle.pp_steps.specs.declared.step.Step.TheVariants as steps
use Rattle.pp_steps.specs.Patterns.{Matching, fit_fields, fitting, fitting_step}
use Rattle.pp_steps_exist.proofs.Matches.{inner_of}

-- a step that a pattern may leave
abbrev pub IsPatternStep : Step → Type 0
IsPatternStep (steps.Int n) = Unit {0}
IsPatternStep (steps.Bool b) = Unit {0}
IsPatternStep (steps.Binary op a b) = Unit {0}
IsPatternStep (steps.IsCtor c n a) = Unit {0}
IsPatternStep (steps.CtorField c i a) = Unit {0}
IsPatternStep s = ⊥

module _ (P : List Step → Type 0) (join : (xs ys : List Step) → P xs → P ys → P (xs ++ ys)) (none : P [])
    (one : (s : Step) → IsPatternStep s → P (s ∷ [])) where
  abbrev Fits : Pattern → Type 0
  Fits p = (k t : ℕ) → P (fitting p k t).steps

  fields_fit : (c : CtorId) (ps : List (With Fits)) (j k t : ℕ) → P (fit_fields c j (inner_of ps) k t).steps
  fields_fit c [] j k t = none
  fields_fit c (p ∷ ps) j k t =
      let x = fitting p.0 (suc k) k in
      join (steps.CtorField c j t ∷ []) _ (one (steps.CtorField c j t) tt)
      (join x.steps _ (p.1 (suc k) k) (fields_fit c ps (suc j) (suc k + length x.steps) t))

  level : (y : pattern.Pattern-F (With Fits)) (k t : ℕ)
      → P (fitting_step (map-Pattern Pattern Matching fitting (pattern_under y)) k t).steps
  level pattern.Any k t = none
  level (pattern.Bind inner) k t = inner.1 k t
  level (pattern.Int n) k t =
      join (steps.Int n ∷ []) _ (one (steps.Int n) tt) (one (steps.Binary Equal k t) tt)
  level (pattern.Bool b) k t =
      join (steps.Bool b ∷ []) _ (one (steps.Bool b) tt) (one (steps.Binary Equal k t) tt)
  level (pattern.Ctor c ps) k t =
      join (steps.IsCtor c (length (inner_of ps)) t ∷ []) _ (one (steps.IsCtor c (length (inner_of ps)) t) tt)
      (fields_fit c ps 0 (suc k) t)

  at_level : (y : pattern.Pattern-F (With Fits)) → Fits (roll-Pattern (pattern_under y))
  at_level y = subst (λ (f : Matching). (k t : ℕ) → P (f k t).steps)
      (sym (fold-roll-Pattern Matching fitting_step (pattern_under y))) (level y)

  pub pattern_closed : (p : Pattern) → Fits p
  pattern_closed = each_pattern Fits at_level
