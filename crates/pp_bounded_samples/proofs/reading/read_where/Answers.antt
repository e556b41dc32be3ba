use Rattle.std.proofs.Common.{sym, ◌∙◌, ap}
use Rattle.pp_clause.specs.Assignment.{assigned}
use Rattle.pp_clause.specs.Literal.{lit_value}
use Rattle.pp_bounded_samples.proofs.reading.read_where.Goals as goal

pub read-requires : goal.read-requires
read-requires c =
    c.requires
    (ap (lit_value (assigned c.args.assignment.now)) (sym c.ok.ensures) ∙ sym c.is_true.ensures
    ∙ c.if-not-is_true.false)
    (sym c.is_true-2.ensures ∙ c.if-not-is_true-2.false)
