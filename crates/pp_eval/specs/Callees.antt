-- What calls, expressions and cases mean, of what the evaluator is given. Source: own.
use Rattle.pp_prog.specs.declared.expr.Case.{Case}
use Rattle.pp_prog.specs.declared.expr.Expr.{Expr}
use Rattle.pp_eval.specs.declared.invocation.Callees.{Callees}
use Rattle.pp_eval.specs.Invocation.{calls_to}
use Rattle.pp_eval.specs.Meaning.{Arm, CallMeaning, Meaning, arm, meaning}

-- a call of one of these functions, in a program of these constructors, with this fuel
abbrev pub call_meaning : Callees → CallMeaning
call_meaning callees = calls_to callees.ctors.now callees.functions.now callees.fuel

-- an expression, where its calls are these
abbrev pub expr_meaning : Callees → Expr → Meaning
expr_meaning callees = meaning (call_meaning callees)

-- a case, where its calls are these
abbrev pub case_meaning : Callees → Case → Arm
case_meaning callees = arm (call_meaning callees)
