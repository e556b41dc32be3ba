use Rattle.std.proofs.Common.{sym, ◌∙◌, refl}
use Rattle.pp_closure.proofs.Equals.{truth_sort}
use Rattle.pp_closure.proofs.equality.is_truth.Goals as goal

pub returns : goal.returns
returns c v is = truth_sort _ v c.args.number _ refl (sym c.truth_in.ensures ∙ is)
