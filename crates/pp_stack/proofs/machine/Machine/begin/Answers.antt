use Rattle.std.proofs.Common.{◌∙◌, sym}
use Rattle.std.proofs.lemmas.List.{length-map}
use Rattle.pp_store.specs.Values.{value_of}
use Rattle.pp_stack.specs.Left.{left}
use Rattle.pp_stack.specs.State.{state_of}
use Rattle.pp_stack.proofs.Calls.{begin_measured}
use Rattle.pp_stack.proofs.Steps.{comes_push3}
use Rattle.pp_stack.proofs.machine.Machine.begin.Goals as goal

pub returns : goal.returns
returns c =
    let m = c.args.self.now in
    let k = left c.args.code m.todo in
    let s = state_of m.stacks in
    comes_push3 c.args.code s.here m.todo c.push.new.self c.push-2.new.self c.push-3.new.self _ _ _
    (record m.stacks { here = c.inner-self.result }) _
    (record { temps = c.requires.temps; env = c.requires.env; measures = c.requires.measures })
    c.in_ok-push.ensures.ok c.in_ok-push-2.ensures.ok c.in_ok-push-3.ensures.ok
    (begin_measured c.args.code k s c.args.site c.as_slice-measure.result.now c.len-first.result c.inner-self.result
    c.as_slice-measure.ensures c.if-is_empty.ensures
    (c.len-first.ensures ∙ sym (length-map m.stacks.temps (value_of m.stacks.store))) c.inner-self.ensures)
