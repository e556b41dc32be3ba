-- What the parts of a typed expression have, one after another in the order in which they are written. Source: own.
use Rattle.std.specs.Prelude.{List, [], ◌++◌}
use Rattle.pp_list.specs.Joined.{joined, or_none}
use Rattle.pp_typed.specs.declared.expr.TypedKind.TheOpen as layer

module _ {A : Type 0} where
  -- one level, with what the parts have in their place
  abbrev pub kind_parts : layer.TypedKind-F (List A) (List A) (List A) → List A
  kind_parts (layer.Int n) = []
  kind_parts (layer.Bool b) = []
  kind_parts (layer.Local i) = []
  kind_parts (layer.Call f sorts args) = joined args
  kind_parts (layer.Construct c sorts args) = joined args
  kind_parts (layer.Field e j) = e
  kind_parts (layer.Unary op a) = a
  kind_parts (layer.Binary op a b) = a ++ b
  kind_parts (layer.If c a b) = c ++ a ++ b
  kind_parts (layer.Match e cases) = e ++ joined cases
  kind_parts (layer.Val bound rest) = bound ++ rest
  kind_parts (layer.Assert c rest) = c ++ rest

  -- a case: its guard and its body
  abbrev pub case_parts : layer.TypedCase-F (List A) (List A) (List A) → List A
  case_parts c = or_none c.guard ++ c.body
