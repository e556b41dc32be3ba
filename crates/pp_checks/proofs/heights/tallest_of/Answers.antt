use Rattle.std.proofs.Common.{◌≡◌, ◌∙◌, List, Option, ℕ, ap, subst, length, map}
use Rattle.pp_prog.specs.declared.expr.Function.{Function}
use Rattle.pp_checks.specs.Closed.{IsNesting}
use Rattle.pp_checks.specs.Plan.{AreOf}
use Rattle.pp_checks.specs.Tables.{field_table, tallest_params}
use Rattle.pp_checks.proofs.Arguments.{few_fields, heights_are}
use Rattle.pp_checks.proofs.heights.tallest_of.Goals as goal

pub nestings_of-requires : goal.nestings_of-requires
nestings_of-requires c =
    few_fields c.args.program.now.types c.as_slice.result.now (c.as_slice.ensures ∙ c.in_ok-table.ensures
    ∙ ap field_table c.types.ensures)

pub returns : goal.returns
returns c =
    let table : c.as_slice.result.now ≡ field_table c.args.program.now.types = c.as_slice.ensures
    ∙ c.in_ok-table.ensures ∙ ap field_table c.types.ensures in
    heights_are c.args.program.now c.in_ok-depths.depths c.in_ok-heights.heights
    (subst (λ (t : List (List ℕ)). AreOf (IsNesting t) (length t) c.in_ok-depths.depths) table c.in_ok-depths.ensures)
    (c.in_ok-heights.ensures ∙ ap (λ (d : List (Option ℕ)). map (tallest_params d) c.as_slice-3.result.now)
    c.as_slice-2.ensures ∙ ap (λ (l : List Function). map (tallest_params c.in_ok-depths.depths) l)
    c.as_slice-3.ensures)
