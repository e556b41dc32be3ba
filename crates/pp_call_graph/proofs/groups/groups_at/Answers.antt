use Rattle.std.proofs.Common.{List, ℕ, length, ap, ◌∙◌, subst, arith}
use Rattle.pp_graph.specs.Reaches.{AreGroups}
use Rattle.pp_call_graph.proofs.Table.{few_calls, groups_are}
use Rattle.pp_call_graph.proofs.groups.groups_at.Goals as goal

pub groups_of-requires : goal.groups_of-requires
groups_of-requires c =
    let few = few_calls c.args.typed.now c.args.numbers.now.functions c.args.functions.now in
    let same = ap length (c.as_slice.ensures ∙ c.in_ok-calls.ensures) in
    let most = c.requires.few in
    omega arith

pub returns : goal.returns
returns c =
    groups_are c.args.typed.now c.args.numbers.now.functions c.args.functions.now c.in_ok-groups.groups
    (subst (λ (l : List (List ℕ)). AreGroups l c.in_ok-groups.groups) (c.as_slice.ensures ∙ c.in_ok-calls.ensures)
    c.in_ok-groups.ensures)
