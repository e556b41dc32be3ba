-- What each form of an expression calls.
use Rattle.std.proofs.Common.{◌≡◌, ℕ, ℤ, Bool, List, [], ◌∷◌, ◌++◌, map, Option, Some, None, refl, sym, ap, ◌∙◌}
use Rattle.pp_prog.specs.Parts.{case_parts}
use Rattle.pp_list.specs.Joined.{joined}
use Rattle.pp_prog.specs.Calls.{calls, calls_in_case, calls_step, pre_calls}
use Rattle.pp_tree.specs.declared.operator.BinaryOp.{BinaryOp}
use Rattle.pp_prog.specs.declared.expr.Case.{Case}
use Rattle.pp_prog.specs.declared.expr.Expr.{Expr}
use Rattle.pp_prog.specs.declared.expr.Expr.TheFolds.{fold-roll-Expr, fold_out-Case, map-Case}
use Rattle.pp_prog.specs.declared.expr.Expr.TheOpen as layer
use Rattle.pp_prog.specs.declared.expr.Expr.TheVariants as prog
use Rattle.pp_prog.specs.declared.expr.Pattern.{Pattern}
use Rattle.pp_tree.specs.declared.operator.UnaryOp.{UnaryOp}
use Rattle.pp_prog.specs.declared.id.CheckId.{CheckId}
use Rattle.pp_prog.specs.declared.id.CtorId.{CtorId}
use Rattle.pp_prog.specs.declared.id.FunctionId.{FunctionId}

abbrev Ns : Type 0
Ns = List ℕ

pub calls_of_int : (n : ℤ) → calls (prog.Int n) ≡ []
calls_of_int n = ap calls (sym (prog.rolls-Int n)) ∙ fold-roll-Expr Ns Ns calls_step case_parts (layer.Int n)

pub calls_of_bool : (b : Bool) → calls (prog.Bool b) ≡ []
calls_of_bool b = ap calls (sym (prog.rolls-Bool b)) ∙ fold-roll-Expr Ns Ns calls_step case_parts (layer.Bool b)

pub calls_of_var : (i : ℕ) → calls (prog.Var i) ≡ []
calls_of_var i = ap calls (sym (prog.rolls-Var i)) ∙ fold-roll-Expr Ns Ns calls_step case_parts (layer.Var i)

pub calls_of_unary : (op : UnaryOp) (a : Expr) → calls (prog.Unary op a) ≡ calls a
calls_of_unary op a =
    ap calls (sym (prog.rolls-Unary op a)) ∙ fold-roll-Expr Ns Ns calls_step case_parts (layer.Unary op a)

pub calls_of_binary : (op : BinaryOp) (a b : Expr) (check : Option CheckId)
    → calls (prog.Binary op a b check) ≡ calls a ++ calls b
calls_of_binary op a b check =
    ap calls (sym (prog.rolls-Binary op a b check))
    ∙ fold-roll-Expr Ns Ns calls_step case_parts (layer.Binary op a b check)

pub calls_of_construct : (c : CtorId) (args : List Expr) → calls (prog.Construct c args) ≡ joined (map calls args)
calls_of_construct c args =
    ap calls (sym (prog.rolls-Construct c args)) ∙ fold-roll-Expr Ns Ns calls_step case_parts (layer.Construct c args)

pub calls_of_field : (e : Expr) (k : ℕ) → calls (prog.Field e k) ≡ calls e
calls_of_field e k =
    ap calls (sym (prog.rolls-Field e k)) ∙ fold-roll-Expr Ns Ns calls_step case_parts (layer.Field e k)

pub calls_of_if : (c a b : Expr) → calls (prog.If c a b) ≡ calls c ++ calls a ++ calls b
calls_of_if c a b = ap calls (sym (prog.rolls-If c a b)) ∙ fold-roll-Expr Ns Ns calls_step case_parts (layer.If c a b)

pub calls_of_match : (e : Expr) (cases : List Case) (check : Option CheckId)
    → calls (prog.Match e cases check) ≡ calls e ++ joined (map calls_in_case cases)
calls_of_match e cases check =
    ap calls (sym (prog.rolls-Match e cases check))
    ∙ fold-roll-Expr Ns Ns calls_step case_parts (layer.Match e cases check)

pub calls_of_val : (bound rest : Expr) → calls (prog.Val bound rest) ≡ calls bound ++ calls rest
calls_of_val bound rest =
    ap calls (sym (prog.rolls-Val bound rest))
    ∙ fold-roll-Expr Ns Ns calls_step case_parts (layer.Val bound rest)

pub calls_of_assert : (check : CheckId) (c rest : Expr) → calls (prog.Assert check c rest) ≡ calls c ++ calls rest
calls_of_assert check c rest =
    ap calls (sym (prog.rolls-Assert check c rest))
    ∙ fold-roll-Expr Ns Ns calls_step case_parts (layer.Assert check c rest)

pub calls_of_call : (g : FunctionId) (args : List Expr) (pre down : Option CheckId)
    → calls (prog.Call g args pre down) ≡ joined (map calls args) ++ g.0 ∷ []
calls_of_call g args pre down =
    ap calls (sym (prog.rolls-Call g args pre down))
    ∙ fold-roll-Expr Ns Ns calls_step case_parts (layer.Call g args pre down)

case_is : (p : Pattern) (guard : Option Expr) (body : Expr)
    → case_parts (map-Case Expr Case Ns Ns calls calls_in_case
    (record { pattern = p; guard = guard; body = body })) ≡ pre_calls guard ++ calls body
case_is p None body = refl
case_is p (Some e) body = refl

pub calls_of_case : (c : Case) → calls_in_case c ≡ pre_calls c.guard ++ calls c.body
calls_of_case c =
    fold_out-Case Ns Ns calls_step case_parts c ∙ case_is c.pattern c.guard c.body
