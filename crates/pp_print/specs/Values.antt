-- How values print, and the arguments of a function. Source: Scala Language Specification 6.1 for a literal and 6.6 for
-- an application; the empty name of a constructor that isn't there is own.
use Rattle.std.specs.Prelude.{ℕ, Bool, true, false, List, [], ◌∷◌, ◌++◌, Option, Some, None, map, codes, slice_get}
use Rattle.std.specs.Prelude.{cond}
use Rattle.std.specs.Fmt.{signed_decimal}
use Rattle.std.specs.List.{concat, zip}
use Rattle.pp_prog.specs.declared.expr.Param.{Param}
use Rattle.pp_prog.specs.declared.types.Ctor.{Ctor}
use Rattle.pp_prog.specs.declared.value.Value.{Value}
use Rattle.pp_prog.specs.declared.value.Value.TheOpen as layer
use Rattle.pp_prog.specs.declared.value.Value.TheFolds.{fold-Value}

-- the bytes of a text
abbrev pub Text : Type 0
Text = List ℕ

abbrev pub bool_text : Bool → Text
bool_text true = codes "true"
bool_text false = codes "false"

abbrev pub after_comma : Text → Text
after_comma text = codes ", " ++ text

-- the texts with a comma between two
abbrev pub joined : List Text → Text
joined [] = []
joined (text ∷ texts) = text ++ concat (map after_comma texts)

abbrev pub in_brackets : List Text → Text
in_brackets fields = codes "(" ++ (joined fields ++ codes ")")

-- a constructor with its fields, as `Cons(3, Nil())`; the bare name of a case object
abbrev pub tree_text : Option Ctor → List Text → Text
tree_text None fields = in_brackets fields
tree_text (Some ctor) fields = cond ctor.object ctor.name (ctor.name ++ in_brackets fields)

module _ (ctors : List Ctor) where
  -- one level, with the texts of the fields in their place
  abbrev pub value_step : layer.Value-F Text → Text
  value_step (layer.Int n) = signed_decimal n
  value_step (layer.Bool b) = bool_text b
  value_step (layer.Tree c fields) = tree_text (slice_get ctors c.0) fields

  -- a decimal number, a truth value, or a constructor with its fields
  abbrev pub value_text : Value → Text
  value_text = fold-Value Text value_step

  -- `, x = V`
  abbrev pub argument_text : Param × Value → Text
  argument_text argument = codes ", " ++ (argument.0.name ++ (codes " = " ++ value_text argument.1))

  -- `, x = V, y = W`: each parameter with its value, in order
  abbrev pub arguments_text : List Param → List Value → Text
  arguments_text params values = concat (map argument_text (zip params values))
