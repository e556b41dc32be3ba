use Rattle.std.proofs.Common.{sym, ◌∙◌, refl}
use Rattle.pp_closure.proofs.Values.{each_item, field_in_is}
use Rattle.pp_closure.proofs.trees.field_at.Goals as goal

pub returns : goal.returns
returns c v =
    each_item _ c.field_in.result
    (λ f is. field_in_is _ v c.args.ctor c.args.place c.args.maker f _ refl (sym c.field_in.ensures ∙ is))
