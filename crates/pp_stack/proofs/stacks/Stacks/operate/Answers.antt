use Rattle.std.proofs.Common.{◌∙◌, ap, subst, sym}
use Rattle.pp_eval.specs.Operators.{operated}
use Rattle.pp_eval.specs.Part.{Part}
use Rattle.pp_store.specs.Values.{value_of}
use Rattle.pp_stack.specs.declared.stacks.Stacks.{Stacks}
use Rattle.pp_stack.specs.Moves.{Moves}
use Rattle.pp_stack.specs.State.{State, operated_on, put, state_of}
use Rattle.pp_stack.proofs.Stacking.{operated_popped, put_stops}
use Rattle.pp_stack.proofs.stacks.Stacks.operate.Goals as goal

pub returns-in-Ok : goal.returns-in-Ok
returns-in-Ok c =
    let s = c.args.self.now in
    let below : Stacks = record s { temps = c.pop-2.new.self } in
    subst (λ (p : Part State). Moves c.push_value.result c.push_value.new.self p)
    (sym (operated_popped s c.pop.new.self c.pop-2.new.self c.in-Some-Some.x c.in-Some-Some.y c.requires
    c.in-Some-Some.ensures c.in-Some-Some.ensures' c.args.op c.args.check
    ∙ ap (put (state_of below)) c.in-Ok.ensures))
    c.push_value.ensures

pub returns-in-Err : goal.returns-in-Err
returns-in-Err c =
    let s = c.args.self.now in
    let below : Stacks = record s { temps = c.pop-2.new.self } in
    put_stops c.in-Err.halt below (state_of below)
    (operated c.args.op c.args.check (value_of s.store c.in-Some-Some.x) (value_of s.store c.in-Some-Some.y))
    (operated_on c.args.op c.args.check (state_of s)) c.in-Err.ensures
    (operated_popped s c.pop.new.self c.pop-2.new.self c.in-Some-Some.x c.in-Some-Some.y c.requires
    c.in-Some-Some.ensures c.in-Some-Some.ensures' c.args.op c.args.check)
