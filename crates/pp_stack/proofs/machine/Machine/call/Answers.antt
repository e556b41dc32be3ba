use Rattle.std.proofs.Common.{◌≡◌, ◌∙◌, ◌-◌, suc, sym, ap, arith}
use Rattle.pp_stack.specs.declared.todo.Site.{Site}
use Rattle.pp_stack.specs.Left.{enter, left}
use Rattle.pp_stack.specs.State.{State, state_of}
use Rattle.pp_stack.proofs.Calls.{call_enters}
use Rattle.pp_stack.proofs.Steps.{comes_same}
use Rattle.pp_stack.proofs.machine.Machine.call.Goals as goal

pub returns-in_ok-count-in-Some : goal.returns-in_ok-count-in-Some
returns-in_ok-count-in-Some c =
    let m = c.args.self.now in
    let k = left c.args.code m.todo in
    let s = state_of m.stacks in
    let some : s.here.fuel ≡ suc (s.here.fuel - 1) = omega arith in
    let site : Site = record {
      function = c.in-Some.function;
      callee = c.args.callee;
      count = c.in_ok-count-in-Some.count;
      pre = c.args.pre;
      measure = c.args.measure;
    } in
    comes_same c.args.code c.enter.result c.enter.new.self _ _ _ _
    (ap (λ (t : State). t.here.called) c.in_ok-count-in-Some.ensures.state)
    (ap (enter c.args.code site k) c.in_ok-count-in-Some.ensures.state
    ∙ sym (call_enters c.args.code k s site c.args.first (s.here.fuel - 1) some (sym c.in-Some.ensures)
    c.in_ok-count-in-Some.ensures.count))
    c.enter.ensures
