use Rattle.std.proofs.Common.{◌+◌, ◌∙◌, List, Option, ℕ, sym, ap, subst}
use Rattle.std.specs.List.{list_all}
use Rattle.pp_graph.specs.Reaches.{calls_of}
use Rattle.pp_checks.specs.Tables.{AreSettledTo, is_before, is_unknown}
use Rattle.pp_checks.proofs.Settling.{settled_known, settled_left, settled_set}
use Rattle.pp_checks.proofs.nesting.settle_one.Goals as goal

pub returns-then-not-is_unknown : goal.returns-then-not-is_unknown
returns-then-not-is_unknown c =
    settled_known c.args.calls.now c.args.depth c.args.f c.args.depths.now c.requires.settled
    (ap (λ (l : List (Option ℕ)). is_unknown l c.args.f) (sym c.as_slice.ensures) ∙ sym c.is_unknown.ensures
    ∙ c.if-not-is_unknown.true)

pub returns-else-are_before : goal.returns-else-are_before
returns-else-are_before c =
    settled_left c.args.calls.now c.args.depth c.args.f c.args.depths.now c.requires.settled
    (ap (λ (l : List (Option ℕ)). is_unknown l c.args.f) (sym c.as_slice.ensures) ∙ sym c.is_unknown.ensures
    ∙ c.if-not-is_unknown.false)
    (ap (λ (l : List (Option ℕ)). list_all (is_before l c.args.depth) (calls_of c.args.calls.now c.args.f)) (sym
    c.as_slice-2.ensures) ∙ ap (list_all (is_before c.as_slice-2.result.now c.args.depth)) (sym
    c.called.ensures) ∙ sym c.are_before.ensures ∙ c.if-are_before.false)

pub returns-then-are_before : goal.returns-then-are_before
returns-then-are_before c =
    subst (AreSettledTo c.args.calls.now c.args.depth (c.args.f + 1)) (sym c.set.ensures)
    (settled_set c.args.calls.now c.args.depth c.args.f c.args.depths.now c.requires.settled
    (ap (λ (l : List (Option ℕ)). is_unknown l c.args.f) (sym c.as_slice.ensures) ∙ sym c.is_unknown.ensures
    ∙ c.if-not-is_unknown.false)
    (ap (λ (l : List (Option ℕ)). list_all (is_before l c.args.depth) (calls_of c.args.calls.now c.args.f)) (sym
    c.as_slice-2.ensures) ∙ ap (list_all (is_before c.as_slice-2.result.now c.args.depth)) (sym
    c.called.ensures) ∙ sym c.are_before.ensures ∙ c.if-are_before.true))
