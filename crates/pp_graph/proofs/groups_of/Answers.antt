use Rattle.std.proofs.Common.{subst, length, List, Bool}
use Rattle.pp_graph.specs.Rows.{Grouped}
use Rattle.pp_graph.proofs.Groups.{are_groups}
use Rattle.pp_graph.proofs.groups_of.Goals as goal

pub returns : goal.returns
returns c =
    are_groups c.args.calls.now c.in_ok-rows.rows c.in_ok-rows.ensures c.in_ok-groups.groups
    (subst (λ (l : List (List Bool)). Grouped l (length l) c.in_ok-groups.groups) c.as_slice.ensures
    c.in_ok-groups.ensures)
