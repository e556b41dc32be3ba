use Rattle.std.proofs.Common.{IsSorted, rules, subst, sym}
use Rattle.std.proofs.lemmas.List.Sorted.{answers_always}
use Rattle.pp_order.specs.Instances.{instance_cmp}
use Rattle.pp_order.proofs.Sorted.{instance_order, is_before}
use Rattle.pp_order.proofs.in_order.Goals as goal

pub returns-clause-sorted : goal.returns-clause-sorted
returns-clause-sorted c =
    subst (IsSorted instance_cmp) (sym c.from_vec.ensures)
    (c.sort_unstable_by.ensures.sorted is_before instance_order (answers_always _ _ _ (λ f a r g k. search rules)))
