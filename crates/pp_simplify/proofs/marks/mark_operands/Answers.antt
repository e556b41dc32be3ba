use Rattle.std.proofs.Common.{◌∷◌, [], ap, sym, subst}
use Rattle.pp_simplify.specs.Marks.{Marks}
use Rattle.pp_simplify.specs.Operands.{operands}
use Rattle.pp_simplify.proofs.Marking.{marks_more}
use Rattle.pp_simplify.proofs.marks.mark_operands.Goals as goal

pub returns-in-Choose : goal.returns-in-Choose
returns-in-Choose c =
    subst (Marks _ _) (sym (ap operands c.in-Choose.is))
    (marks_more _ _ _ (_ ∷ []) (_ ∷ _ ∷ []) c.mark-in-Choose.ensures c.mark_two-in-Choose.ensures)
