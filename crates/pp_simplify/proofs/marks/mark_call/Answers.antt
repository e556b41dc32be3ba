use Rattle.std.proofs.Common.{◌∷◌, [], subst}
use Rattle.pp_simplify.specs.Marks.{Marks}
use Rattle.pp_simplify.proofs.Marking.{marks_more}
use Rattle.pp_simplify.proofs.marks.mark_call.Goals as goal

pub returns : goal.returns
returns c =
    subst (λ ns. Marks c.args.marks.now.items c.mark_all.new.marks.items (c.args.call.now.reach ∷ ns))
    c.as_slice.ensures
    (marks_more _ _ _ (_ ∷ []) _ c.mark.ensures c.mark_all.ensures)
