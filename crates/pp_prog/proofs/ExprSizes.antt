-- How large expressions and cases are, beside their parts.
use Rattle.std.proofs.Common.{◌≡◌, ℕ, ◌<◌, ◌≤◌, List, length, get_or, Option, Some, None, arith, ap}
use Rattle.pp_prog.specs.declared.expr.Case.{Case, size-Case}
use Rattle.pp_prog.specs.declared.expr.Expr.{Expr, size-Expr}
use Rattle.pp_prog.specs.declared.expr.Expr.TheVariants.{Construct, Match, Call}
use Rattle.pp_prog.specs.declared.expr.Expr.TheViews.{sized-Construct, sized-Match, sized-Call, size_is-Case}
use Rattle.pp_prog.specs.declared.expr.Pattern.{Pattern}
use Rattle.pp_prog.specs.declared.id.CheckId.{CheckId}
use Rattle.pp_prog.specs.declared.id.CtorId.{CtorId}
use Rattle.pp_prog.specs.declared.id.FunctionId.{FunctionId}
use denote.Param.Weighed.{most, at_most}

abbrev pub option_size : Option Expr → ℕ
option_size None = 0
option_size (Some e) = size-Expr e

abbrev pub most_size : List Expr → ℕ
most_size = most size-Expr

abbrev pub most_case : List Case → ℕ
most_case = most size-Case

case_of_parts : (p : Pattern) (g : Option Expr) (b : Expr) → let c : Case =
    record { pattern = p; guard = g; body = b } in (option_size g < size-Case c) × (size-Expr b < size-Case c)
case_of_parts p None b = let e = size_is-Case (record { pattern = p; guard = None; body = b }) in
    (omega (arith, e), omega (arith, e))
case_of_parts p (Some g) b = let e = size_is-Case (record { pattern = p; guard = Some g; body = b }) in
    (omega (arith, e), omega (arith, e))

-- a case is deeper than its guard and its body
pub case_deeper : (c : Case) → (option_size c.guard < size-Case c) × (size-Expr c.body < size-Case c)
case_deeper c = case_of_parts c.pattern c.guard c.body

pub item_size : (es : List Expr) (i : ℕ) (e : Expr) → i < length es → e ≡ get_or es i e → size-Expr e ≤ most_size es
item_size es i e lt is = omega (arith, at_most size-Expr es i e lt, ap size-Expr is)

pub item_case : (cs : List Case) (i : ℕ) (c : Case) → i < length cs → c ≡ get_or cs i c → size-Case c ≤ most_case cs
item_case cs i c lt is = omega (arith, at_most size-Case cs i c lt, ap size-Case is)

pub args_of_construct : (e : Expr) (c : CtorId) (es : List Expr) → e ≡ Construct c es → most_size es < size-Expr e
args_of_construct e c es is = omega (arith, ap size-Expr is, sized-Construct c es)

pub args_of_call : (e : Expr) (g : FunctionId) (es : List Expr) (p m : Option CheckId) → e ≡ Call g es p m
    → most_size es < size-Expr e
args_of_call e g es p m is = omega (arith, ap size-Expr is, sized-Call g es p m)

pub cases_of_match : (e s : Expr) (cs : List Case) (check : Option CheckId) → e ≡ Match s cs check
    → most_case cs < size-Expr e
cases_of_match e s cs check is = omega (arith, ap size-Expr is, sized-Match s cs check)
