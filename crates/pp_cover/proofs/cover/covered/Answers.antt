use Rattle.std.proofs.Common.{ℕ, ◌+◌, ◌<◌, ◌++◌, ◌∷◌, [], List, Contains, length, refl, sym, ap, ◌∙◌, subst, arith}
use Rattle.pp_cover.specs.declared.constraint.Constraint.{Constraint}
use Rattle.pp_cover.specs.declared.matrix.Matrix.{Matrix}
use Rattle.pp_cover.specs.Matrix.{any_mentions}
use Rattle.pp_cover.specs.Split.{parts}
use Rattle.pp_cover.proofs.Coverage.{Invariant, column_inside, empty_covered, sorts_in_range, split_smaller}
use Rattle.pp_cover.proofs.Coverage.{invariant_without_covered, none_left_covers, invariant_after_split}
use Rattle.pp_cover.proofs.Coverage.{invariant_starts, uncovered_refutes}
use Rattle.pp_cover.proofs.Weight.{score, score_dropped}
use Rattle.pp_cover.proofs.cover.covered.Goals.{in-Covered, in-Split+in_ok-split-in-Split+in_ok-append-in-Split}
use Rattle.pp_cover.proofs.cover.covered.Goals as goal

pub loop-matrix-init : goal.loop-matrix-init
loop-matrix-init c =
    let first = c.in_ok-push.ensures.ok
    ∙ ap (λ (l : List Matrix). l ++ c.in_ok-matrix_of.field-0 ∷ []) c.new-pending.ensures
    ∙ ap (λ (m : Matrix). m ∷ []) c.in_ok-matrix_of.ensures in
    subst (λ (l : List Matrix). Invariant c.args.table.now c.args.sort c.args.patterns.now l) (sym first)
    (invariant_starts c.args.table.now c.args.sort c.args.patterns.now c.requires.in_range c.requires.few)

pub returns-in-Uncovered : goal.returns-in-Uncovered
returns-in-Uncovered c =
    let invariant = subst
    (λ (l : List Matrix). Invariant c.args.table.now c.args.sort c.args.patterns.now l) c.in-Some.ensures
    c.loop-matrix.invariant in (
      λ no. cc,
      λ covers. absurd (uncovered_refutes c.args.table.now c.args.sort c.args.patterns.now c.pop.new.self
          c.in-Some.matrix invariant (sym c.as_slice.ensures ∙ c.in-Uncovered.ensures) covers),
    )

pub split-requires-clause-inside : goal.split-requires-clause-inside
split-requires-clause-inside c =
    let invariant = subst
    (λ (l : List Matrix). Invariant c.args.table.now c.args.sort c.args.patterns.now l) c.in-Some.ensures
    c.loop-matrix.invariant in
    let mentioned = ap (any_mentions c.in-Split.column) (sym c.as_slice.ensures) ∙ c.in-Split.ensures in
    column_inside c.args.table.now c.args.sort c.args.patterns.now c.pop.new.self c.in-Some.matrix invariant
    c.in-Split.column mentioned

pub split-requires-clause-in_range : goal.split-requires-clause-in_range
split-requires-clause-in_range c =
    let invariant = subst
    (λ (l : List Matrix). Invariant c.args.table.now c.args.sort c.args.patterns.now l) c.in-Some.ensures
    c.loop-matrix.invariant in
    let mentioned = ap (any_mentions c.in-Split.column) (sym c.as_slice.ensures) ∙ c.in-Split.ensures in
    sorts_in_range c.args.table.now c.args.sort c.args.patterns.now c.pop.new.self c.in-Some.matrix invariant
    c.in-Split.column mentioned

pub loop-matrix-smaller : goal.loop-matrix-smaller
loop-matrix-smaller c =
    let table = c.args.table.now in
    let base = length table.ctors + 3 in
    let ms = c.pop.new.self in
    let m = c.in-Some.matrix in
    let invariant = subst
    (λ (l : List Matrix). Invariant table c.args.sort c.args.patterns.now l) c.in-Some.ensures
    c.loop-matrix.invariant in
    let from = ap (score base) c.in-Some.ensures in
    elim c.match-next_step.branch [
      | in-Covered w ↦
          subst (λ (l : List Matrix). score base l < score base c.loop-matrix.pending) (sym w.pending-is)
          (subst (λ (n : ℕ). score base ms < n) (sym from) (score_dropped base ms m (omega arith)))
      | in-Split+in_ok-split-in-Split+in_ok-append-in-Split w ↦
          let mentioned = ap (any_mentions w.in-Split.column) (sym c.as_slice.ensures) ∙ w.in-Split.ensures in
          let to = w.pending-is ∙ w.in_ok-append-in-Split.ensures
          ∙ ap (λ (l : List Matrix). ms ++ l) w.in_ok-split-in-Split.ensures in
          subst (λ (l : List Matrix). score base l < score base c.loop-matrix.pending) (sym to)
          (subst (λ (n : ℕ). score base (ms ++ parts table m w.in-Split.column) < n) (sym from)
          (split_smaller table c.args.sort c.args.patterns.now ms m invariant w.in-Split.column mentioned))
    ]

pub loop-matrix-preserved : goal.loop-matrix-preserved
loop-matrix-preserved c =
    let table = c.args.table.now in
    let patterns = c.args.patterns.now in
    let ms = c.pop.new.self in
    let m = c.in-Some.matrix in
    let invariant = subst
    (λ (l : List Matrix). Invariant table c.args.sort patterns l) c.in-Some.ensures c.loop-matrix.invariant in
    elim c.match-next_step.branch [
      | in-Covered w ↦
          let empty = subst (λ (rows : List
          (List Constraint)). Contains rows []) c.as_slice.ensures w.in-Covered.ensures in
          subst (λ (l : List Matrix). Invariant table c.args.sort patterns l) (sym w.pending-is)
          (invariant_without_covered table c.args.sort patterns ms m invariant (empty_covered table m empty))
      | in-Split+in_ok-split-in-Split+in_ok-append-in-Split w ↦
          let mentioned = ap (any_mentions w.in-Split.column) (sym c.as_slice.ensures) ∙ w.in-Split.ensures in
          let to = w.pending-is ∙ w.in_ok-append-in-Split.ensures
          ∙ ap (λ (l : List Matrix). ms ++ l) w.in_ok-split-in-Split.ensures in
          subst (λ (l : List Matrix). Invariant table c.args.sort patterns l) (sym to)
          (invariant_after_split table c.args.sort patterns ms m invariant w.in-Split.column mentioned)
    ]

pub returns : goal.returns
returns c =
    let none = c.in_default.ensures in
    let invariant = subst
    (λ (l : List Matrix). Invariant c.args.table.now c.args.sort c.args.patterns.now l) none.0
    c.loop-matrix.invariant in
    (λ yes. none_left_covers c.args.table.now c.args.sort c.args.patterns.now invariant, λ covers. refl)
