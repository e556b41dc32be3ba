use Rattle.std.proofs.Common.{rules, sym, ◌∙◌}
use denote.Enum.Bare.{same_true}
use Rattle.pp_tree.specs.contracts.operator.UnaryOp.{the_type}
use Rattle.pp_closure.proofs.operators.is_one_unary.Goals as goal

pub returns : goal.returns
returns c is = same_true the_type (search rules) _ _ (sym c.eq.ensures ∙ is)
