use Rattle.std.proofs.Common.{◌∷◌, []}
use Rattle.pp_simplify.proofs.Marking.{marks_more}
use Rattle.pp_simplify.proofs.marks.mark_two.Goals as goal

pub returns : goal.returns
returns c = marks_more _ _ _ (c.args.left ∷ []) (c.args.right ∷ []) c.mark.ensures c.mark-2.ensures
