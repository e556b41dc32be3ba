use Rattle.std.proofs.Common.{◌∙◌, List, sym, ap}
use Rattle.pp_prog.specs.declared.expr.Case.{Case}
use Rattle.pp_store.specs.Values.{value_of}
use Rattle.pp_stack.specs.declared.todo.Here.{Here}
use Rattle.pp_stack.specs.Left.{chosen, left}
use Rattle.pp_stack.specs.State.{state_of}
use Rattle.pp_stack.proofs.Conditions.{top_goes}
use Rattle.pp_stack.proofs.Evals.{first_and_others}
use Rattle.pp_stack.proofs.Steps.{comes_same}
use Rattle.pp_stack.proofs.Tops.{popped_here}
use Rattle.pp_stack.proofs.machine.Machine.choose.Goals as goal

pub returns-in-len1-up : goal.returns-in-len1-up
returns-in-len1-up c =
    let m = c.args.self.now in
    let k = left c.args.code m.todo in
    let s = state_of m.stacks in
    let st = state_of c.pop.new.self in
    let cs = c.args.cases.now in
    let v = value_of c.pop.new.self.store c.in_ok-held.held in
    comes_same c.args.code c.attempt.result c.attempt.new.self _ _ _ _
    (ap (λ (h : Here). h.called) (popped_here s st v c.in_ok-held.ensures.2))
    (ap (λ (ds : List Case). chosen c.args.code ds c.args.check k v st)
    (sym (first_and_others cs c.case-item.result c.in-len1-up.len_at_least c.case-item.is))
    ∙ top_goes s.here s st v (λ p. chosen c.args.code cs c.args.check k p.0 p.1) c.in_ok-held.ensures.2)
    c.attempt.ensures
