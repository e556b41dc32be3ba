use Rattle.std.proofs.Common.{◌≡◌, Some, rules}
use Rattle.std.specs.Int.{w32}
use Rattle.std.specs.Int.RustNames.{FitsSigned}
use Rattle.pp_closure.proofs.AddedNumbers.{back_sum}
use Rattle.pp_closure.proofs.LinkedOrders.{if_some}
use Rattle.pp_closure.proofs.chains.both.Goals as goal

pub returns-in-Some-Some : goal.returns-in-Some-Some
returns-in-Some-Some c =
    let one = c.in-Some-Some.one in
    let other = c.in-Some-Some.other in
    let e : c.args.one ≡ Some one = search rules in
    let f : c.args.other ≡ Some other = search rules in
    let g : FitsSigned w32 one = search rules in
    let h : FitsSigned w32 other = search rules in
    if_some c.plus.result _ _ (λ n is. (one, other, e, f, back_sum n one other g h is)) c.plus.ensures
