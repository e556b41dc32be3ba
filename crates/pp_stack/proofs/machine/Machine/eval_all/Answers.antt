use Rattle.std.proofs.Common.{◌∙◌, List, ◌-◌, sym, ap, drop, length, take}
use Rattle.pp_prog.specs.declared.expr.Expr.{Expr}
use Rattle.pp_stack.specs.Left.{evaluate_all, left}
use Rattle.pp_stack.specs.State.{state_of}
use Rattle.pp_stack.proofs.Evals.{first_and_others}
use Rattle.pp_stack.proofs.Plans.{first_of_all}
use Rattle.pp_stack.proofs.Steps.{comes_push2}
use Rattle.pp_stack.proofs.machine.Machine.eval_all.Goals as goal

pub returns-in_ok-push-2 : goal.returns-in_ok-push-2
returns-in_ok-push-2 c =
    let m = c.args.self.now in
    let k = left c.args.code m.todo in
    let s = state_of m.stacks in
    let es = c.args.exprs.now in
    comes_push2 c.args.code s.here m.todo c.push.new.self c.push-in-len1-up.new.self _ _ m.stacks _ c.requires
    c.in_ok-push.ensures.ok c.in_ok-push-2.ensures.ok
    (sym (ap (λ (fs : List Expr). evaluate_all c.args.code fs k s)
    (first_and_others es c.e-item.result c.in-len1-up.len_at_least c.e-item.is)
    ∙ first_of_all c.args.code k s c.e-item.result (take (length es - 1) (drop 1 es))))
