use Rattle.std.proofs.Common.{◌≡◌, ◌≤◌, ◌<◌, List, length, IfOk, sym, ap, ◌∙◌, subst, arith}
use Rattle.pp_prog.specs.declared.expr.Expr.{Expr}
use Rattle.pp_translation.specs.Functions.{as_one}
use Rattle.pp_translation.proofs.Conditions.{pairs_as_one, pairs_less}
use Rattle.pp_translate.proofs.conditions.+as_one.Goals as goal

pub as_one-requires : goal.as_one-requires
as_one-requires t c =
    let es : List Expr = c.args.conditions in
    let some : 2 ≤ length es = omega (arith, c.if-len-lt2.false, c.len.ensures) in
    let fewer : length c.in_ok-pairs.pairs < length es =
    subst (λ (l : List Expr). length l < length es) (sym c.in_ok-pairs.ensures) (pairs_less es some) in
    let falls : length c.in_ok-pairs.pairs < t = omega (arith, fewer, c.decreases) in (falls, tt)

pub returns : goal.returns
returns t c =
    subst (λ o. IfOk c.as_one.result (λ x. x ≡ o)) (ap as_one c.in_ok-pairs.ensures ∙ pairs_as_one c.args.conditions)
    c.as_one.ensures
