use Rattle.std.proofs.Common.{◌∷◌, [], ap, sym, ◌∙◌}
use Rattle.pp_instances.specs.Uses.{types_in, types_of, root_at}
use Rattle.pp_instances.proofs.Mentioned.{types_int, types_bool, types_param, types_root, nothing_more}
use Rattle.pp_list.proofs.Joined.{one_more, two_parts}
use Rattle.pp_instances.proofs.mentions.+types.Goals as goal

pub add_types-returns-in-Int : goal.add_types-returns-in-Int
add_types-returns-in-Int t c = nothing_more c.args.found.now c.args.sort.now (ap types_in c.in-Int.is ∙ types_int)

pub add_types-returns-in-Bool : goal.add_types-returns-in-Bool
add_types-returns-in-Bool t c = nothing_more c.args.found.now c.args.sort.now (ap types_in c.in-Bool.is ∙ types_bool)

pub add_types-returns-in-Param : goal.add_types-returns-in-Param
add_types-returns-in-Param t c =
    nothing_more c.args.found.now c.args.sort.now (ap types_in c.in-Param.is ∙ types_param c.in-Param.field-0)

pub add_all_types-loop-sort-preserved : goal.add_all_types-loop-sort-preserved
add_all_types-loop-sort-preserved t c =
    one_more types_in c.args.sorts.now c.loop-sort.sort-index c.sort-item.result c.args.found.now c.loop-sort-test.true
    c.sort-item.is c.loop-sort.invariant c.in_ok-add_types.ensures

pub add_types-returns-in_ok-add_all_types-in-Root : goal.add_types-returns-in_ok-add_all_types-in-Root
add_types-returns-in_ok-add_all_types-in-Root t c =
    let parts = c.as_slice-parts.result.now in
    two_parts c.args.found.now (root_at c.in-Root.r parts ∷ []) (types_of parts) c.in_ok-add_member-in-Root.ensures
    c.in_ok-add_all_types-in-Root.ensures
    (ap types_in c.in-Root.is ∙ types_root c.in-Root.r c.in-Root.parts
    ∙ ap (λ l. root_at c.in-Root.r l ∷ types_of l) (sym c.as_slice-parts.ensures))
