use Rattle.std.proofs.Common.{◌+◌, ◌++◌, ◌∷◌, [], ℕ, arith, sym, ap, ◌∙◌, subst}
use Rattle.pp_graph.specs.Rows.{Grouped}
use Rattle.pp_graph.proofs.Groups.{group_least}
use Rattle.pp_graph.proofs.Tables.{grouped_push}
use Rattle.pp_graph.proofs.groups_in.Goals as goal

pub overflow_cast-group_of : goal.overflow_cast-group_of
overflow_cast-group_of c =
    omega (arith, group_least c.args.rows.now c.loop-f.f, c.group_of.ensures, c.loop-f-test.true, c.requires)

pub loop-f-preserved : goal.loop-f-preserved
loop-f-preserved c =
    let rows = c.args.rows.now in
    let f = c.loop-f.f in
    let old = c.loop-f.groups in
    let e = c.in_ok-push.ensures.ok ∙ ap (λ (n : ℕ). old ++ n ∷ []) c.group_of.ensures in
    subst (λ l. Grouped rows (f + 1) l) (sym e) (grouped_push rows f old c.loop-f.invariant)
