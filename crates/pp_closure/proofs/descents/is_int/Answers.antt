use Rattle.std.proofs.Common.{refl, sym, ◌∙◌}
use Rattle.pp_closure.proofs.GoingDown.{int_sort}
use Rattle.pp_closure.proofs.descents.is_int.Goals as goal

pub returns : goal.returns
returns c v is = int_sort _ v c.args.number _ refl (sym c.int_in.ensures ∙ is)
