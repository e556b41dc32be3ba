use Rattle.std.proofs.Common.{◌≡◌, [], List, Bool, ℕ, ◌+◌, sym, subst, arith}
use Rattle.pp_graph.specs.declared.Front.{Front}
use Rattle.pp_graph.specs.Fronts.{IsFront}
use Rattle.pp_graph.proofs.Marks.{Unset, unset_none, unset_push, front_none}
use Rattle.pp_graph.proofs.unmarked.Goals as goal

pub loop-i-init : goal.loop-i-init
loop-i-init c = subst (λ l. Unset 0 l) (sym c.new-marks.ensures) unset_none

pub loop-i-preserved : goal.loop-i-preserved
loop-i-preserved c = subst (λ l. Unset (c.loop-i.i + 1) l) (sym c.in_ok-push.ensures.ok)
    (unset_push c.loop-i.i c.loop-i.marks c.loop-i.invariant)

at_end : (n i : ℕ) (marks : List Bool) (found : List ℕ) → i ≡ n → found ≡ [] → Unset i marks
    → IsFront n (record { marks = marks; found = found })
at_end n i marks found e none u =
    let mk : List ℕ → Front = λ l. record { marks = marks; found = l } in
    subst (λ l. IsFront n (mk l)) (sym none) (front_none n marks (subst (λ k. Unset k marks) e u))

pub returns-clause-is : goal.returns-clause-is
returns-clause-is c = at_end c.args.n c.loop-i.i c.loop-i.marks c.new.result
    (omega (arith, c.loop-i-test.false, c.loop-i.auto.i-end)) c.new.ensures c.loop-i.invariant
