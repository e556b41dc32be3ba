-- The lines on a run, each with the newline that ends it. Source: own.
use Rattle.std.specs.Prelude.{ℕ, List, ◌++◌, codes, decimal}
use Rattle.pp_prog.specs.declared.check.CheckKind.{CheckKind}
use Rattle.pp_prog.specs.declared.place.Place.{Place}
use Rattle.pp_prog.specs.declared.types.Ctor.{Ctor}
use Rattle.pp_prog.specs.declared.value.Value.{Value}
use Rattle.pp_print.specs.Lines.{check_text}
use Rattle.pp_print.specs.Values.{Text, value_text}

-- `NAME = V`: the run ends with this value
abbrev pub done_text : List Ctor → Text → Value → Text
done_text ctors name value = name ++ (codes " = " ++ (value_text ctors value ++ codes "\n"))

-- `NAME fails KIND at S:L:C`: the function itself fails the check
abbrev pub fails_text : Text → CheckKind → Place → Text
fails_text name kind place = name ++ (codes " fails " ++ (check_text kind place ++ codes "\n"))

-- `NAME fails inside OTHER, KIND at S:L:C`: a called function fails a check of its own
abbrev pub inner_text : Text → Text → CheckKind → Place → Text
inner_text name other kind place = name ++
    (codes " fails inside " ++ (other ++ (codes ", " ++ (check_text kind place ++ codes "\n"))))

-- `NAME is outside its precondition`
abbrev pub outside_text : Text → Text
outside_text name = name ++ codes " is outside its precondition\n"

-- `NAME needs more than N nested calls`
abbrev pub deep_text : Text → ℕ → Text
deep_text name fuel = name ++ (codes " needs more than " ++ (decimal fuel ++ codes " nested calls\n"))
