use Rattle.std.proofs.Common.{◌∙◌, ◌+◌, List, length, ap}
use Rattle.std.proofs.lemmas.List.{length_push}
use Rattle.pp_list.proofs.Lists.{nothing}
use Rattle.pp_verify.specs.declared.shared.Shared.{Shared}
use Rattle.pp_turns.proofs.FirstTurns.{one_more_shared}
use Rattle.pp_turns.proofs.starting.nothing_shared.Goals as goal

pub loop-function-init : goal.loop-function-init
loop-function-init c = record {
  size = ap (λ (l : List Shared). length l) c.new-shared.ensures.items;
  shared = λ limits i s at. nothing c.new-shared.result.items i s c.new-shared.ensures.items at;
}

pub loop-function-preserved : goal.loop-function-preserved
loop-function-preserved c = record {
  size = ap (λ (l : List Shared). length l) c.in_ok-push.ensures.items
      ∙ length_push c.loop-function.shared.items c.new.result
      ∙ ap (λ k. k + 1) c.loop-function.invariant.size;
  shared = λ limits.
      one_more_shared c.args.program.now limits c.loop-function.shared.items c.push.new.self.items c.new.result
      (c.loop-function.invariant.shared limits) (λ i. c.new.ensures c.args.program.now limits i)
      c.in_ok-push.ensures.items;
}
