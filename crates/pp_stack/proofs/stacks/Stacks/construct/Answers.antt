use Rattle.std.proofs.Common.{◌∙◌, ap, drop, subst}
use Rattle.pp_store.specs.Values.{values_of}
use Rattle.pp_prog.specs.declared.value.Value.TheVariants.{Tree}
use Rattle.pp_eval.specs.Part.{Part}
use Rattle.pp_stack.specs.Moves.{Moves}
use Rattle.pp_stack.specs.State.{State}
use Rattle.pp_stack.proofs.Stacking.{constructed_grown}
use Rattle.pp_stack.proofs.stacks.Stacks.construct.Goals as goal

pub returns : goal.returns
returns c =
    subst (λ (p : Part State). Moves c.push.result c.push.new.self p)
    (constructed_grown c.args.self.now c.make.new.self c.make.ensures.extends c.requires c.args.ctor c.args.first
    c.truncate.new.helds c.in_ok-held.held c.truncate.ensures
    (c.in_ok-held.ensures.made.value
    ∙ ap (λ hs. Tree c.args.ctor (values_of c.args.self.now.store hs))
    (c.behind.ensures ∙ ap (drop c.args.first) c.as_slice.ensures)))
    c.push.ensures.moved
