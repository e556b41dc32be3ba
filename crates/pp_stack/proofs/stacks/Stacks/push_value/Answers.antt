use Rattle.std.proofs.Common.{subst}
use Rattle.pp_eval.specs.Part.{Part}
use Rattle.pp_stack.specs.Moves.{Moves}
use Rattle.pp_stack.specs.State.{State}
use Rattle.pp_stack.proofs.Stacking.{pushed_grown}
use Rattle.pp_stack.proofs.stacks.Stacks.push_value.Goals as goal

pub returns : goal.returns
returns c =
    subst (λ (p : Part State). Moves c.push.result c.push.new.self p)
    (pushed_grown c.args.self.now c.load.new.self c.load.ensures.extends c.requires c.in_ok-held.held c.args.value.now
    c.in_ok-held.ensures.loaded.value)
    c.push.ensures.moved
