use Rattle.std.proofs.Common.{refl, subst, sym}
use Rattle.pp_closure.specs.Sums.{MayAdd}
use Rattle.pp_closure.proofs.AddedNumbers.{adds_at}
use Rattle.pp_closure.proofs.additions.addition_at.Goals as goal

pub returns : goal.returns
returns c v = subst (MayAdd v.values) (sym c.addition_in.ensures) (adds_at _ v c.args.number _ refl)
