use Rattle.std.proofs.Common.{rules}
use Rattle.std.specs.Int.{w32}
use Rattle.std.specs.Int.RustNames.{FitsSigned}
use Rattle.pp_closure.proofs.AddedNumbers.{back_sum, if_iff}
use Rattle.pp_closure.proofs.LinkedOrders.{if_some}
use Rattle.pp_closure.proofs.amounts.plus.Goals as goal

pub returns : goal.returns
returns c =
    let f : FitsSigned w32 c.args.a = search rules in
    let g : FitsSigned w32 c.args.b = search rules in
    if_some c.checked_add.result _ _ (λ m e. back_sum m c.args.a c.args.b f g e) (if_iff _ _ _ c.checked_add.ensures)
