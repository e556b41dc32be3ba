-- What the parts of an expression have, one after another in the order in which they are written. Source: own.
use Rattle.std.specs.Prelude.{List, [], ◌++◌}
use Rattle.pp_list.specs.Joined.{joined, or_none}
use Rattle.pp_prog.specs.declared.expr.Expr.TheOpen as layer

module _ {A : Type 0} where
  -- one level, with what the parts have in their place
  abbrev pub parts : layer.Expr-F (List A) (List A) → List A
  parts (layer.Int n) = []
  parts (layer.Bool b) = []
  parts (layer.Var i) = []
  parts (layer.Unary op a) = a
  parts (layer.Binary op a b check) = a ++ b
  parts (layer.Construct c args) = joined args
  parts (layer.Field e k) = e
  parts (layer.If c a b) = c ++ a ++ b
  parts (layer.Match e cases check) = e ++ joined cases
  parts (layer.Val bound rest) = bound ++ rest
  parts (layer.Assert check c rest) = c ++ rest
  parts (layer.Call g args pre measure) = joined args

  -- a case: its guard and its body
  abbrev pub case_parts : layer.Case-F (List A) (List A) → List A
  case_parts c = or_none c.guard ++ c.body
