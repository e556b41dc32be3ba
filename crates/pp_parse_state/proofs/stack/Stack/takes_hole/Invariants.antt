use Rattle.std.proofs.Common.{◌≡◌, ◌≤◌, length, take, []}
use Rattle.pp_grammar.specs.Joining.{takes_hole}
use Rattle.pp_parse_state.specs.Joining.{hole_in}
use Rattle.pp_parse_state.specs.Shown.{frames}
use Rattle.pp_parse_state.specs.Values.{stacked}
use Rattle.pp_parse_state.proofs.stack.Stack.takes_hole.Given as goal

abbrev pub invariant-loop-depth : goal.invariant-loop-depth
invariant-loop-depth l = record {
  within : l.depth ≤ length l.self.frames.items;
  same : takes_hole (frames l.self) ≡ hole_in (stacked (λ f. f) (take l.depth l.self.frames.items) []);
}

abbrev pub decreases-loop-depth : goal.decreases-loop-depth
decreases-loop-depth l = l.depth
