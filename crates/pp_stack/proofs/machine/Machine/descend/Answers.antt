use Rattle.std.proofs.Common.{◌∙◌, Some, sym, ap, drop, length, ℕ}
use Rattle.std.specs.Prelude.{⊤}
use Rattle.pp_eval.specs.Part.{Part}
use Rattle.pp_stack.specs.Left.{go_on, in_body, left}
use Rattle.pp_stack.specs.State.{State, state_of, with_measure}
use Rattle.pp_stack.proofs.Steps.{comes_same}
use Rattle.pp_stack.proofs.machine.Machine.descend.Goals as goal

pub returns : goal.returns
returns c =
    let m = c.args.self.now in
    let k = left c.args.code m.todo in
    let s = state_of m.stacks in
    let first = c.args.first in
    comes_same c.args.code c.body.result c.body.new.self _ _ _ _
    (ap (λ (t : State). t.here.called) c.in_ok-count.ensures.state)
    (ap (in_body c.args.code c.args.site (Some c.in_ok-count.count) k) c.in_ok-count.ensures.state
    ∙ ap (λ (n : ℕ). in_body c.args.code c.args.site (Some n) k (with_measure first s)) c.in_ok-count.ensures.count
    ∙ sym (ap (λ (p : Part ⊤). go_on s.here p (λ _. in_body c.args.code c.args.site (Some (length
    (drop first s.temps))) k (with_measure first s))) c.in_ok-compare.ensures))
    c.body.ensures
