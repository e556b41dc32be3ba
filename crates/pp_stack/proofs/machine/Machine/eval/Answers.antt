use Rattle.std.proofs.Common.{◌∙◌, sym}
use Rattle.std.proofs.lemmas.List.{length-map}
use Rattle.pp_store.specs.Values.{value_of}
use Rattle.pp_stack.specs.Left.{left}
use Rattle.pp_stack.specs.State.{state_of}
use Rattle.pp_stack.proofs.Evals.{evaluates_plan}
use Rattle.pp_stack.proofs.machine.Machine.eval.Goals as goal

pub returns-in_ok-expand-in_default : goal.returns-in_ok-expand-in_default
returns-in_ok-expand-in_default c =
    let m = c.args.self.now in (
      c.requires,
      evaluates_plan c.args.code (left c.args.code m.todo) (state_of m.stacks) c.args.e.now c.len-first.result
          (left c.args.code c.expand.new.todo)
          (length-map m.stacks.temps (value_of m.stacks.store) ∙ sym c.len-first.ensures)
          c.in_ok-expand-in_default.ensures,
    )
