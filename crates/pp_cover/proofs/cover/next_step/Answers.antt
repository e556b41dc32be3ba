use Rattle.std.proofs.Common.{sym, ap, ◌∙◌}
use Rattle.pp_cover.specs.Cover.{first_column}
use Rattle.pp_cover.proofs.Coverage.{first_mentioned}
use Rattle.pp_cover.proofs.cover.next_step.Goals as goal

pub returns-in-Some : goal.returns-in-Some
returns-in-Some c =
    first_mentioned c.args.rows.now c.shortest.result c.index-rows-shortest.result c.in-Some.column c.shortest.ensures
    c.index-rows-shortest.is
    (ap first_column (sym c.as_slice.ensures) ∙ sym c.first_column.ensures ∙ c.in-Some.is)
