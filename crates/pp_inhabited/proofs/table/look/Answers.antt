use Rattle.std.proofs.Common.{◌∙◌, ◌+◌, ◌*◌, ap, unwrap_or, false, Option, Bool}
use Rattle.std.proofs.lemmas.Option.{unwrap_or-slice_get}
use Rattle.pp_inhabited.proofs.table.look.Goals as goal

pub returns-in-None : goal.returns-in-None
returns-in-None c =
    ap (λ (o : Option Bool). unwrap_or o false) c.in-None.ensures
    ∙ unwrap_or-slice_get c.args.rows.now (16 * c.args.root + c.args.mask) false
