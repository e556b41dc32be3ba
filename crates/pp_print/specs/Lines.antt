-- The lines on the verdicts, each with the newline that ends it. Source: own.
use Rattle.std.specs.Prelude.{ℕ, List, ◌++◌, Option, None, Some, codes, decimal}
use Rattle.pp_prog.specs.declared.check.CheckKind.{CheckKind}
use Rattle.pp_prog.specs.declared.check.CheckKind.TheVariants as kind
use Rattle.pp_prog.specs.declared.expr.Param.{Param}
use Rattle.pp_prog.specs.declared.place.Place.{Place}
use Rattle.pp_prog.specs.declared.types.Ctor.{Ctor}
use Rattle.pp_prog.specs.declared.value.Value.{Value}
use Rattle.pp_print.specs.Values.{Text, arguments_text}
use Rattle.pp_print.specs.declared.line.Reason.{Reason}
use Rattle.pp_print.specs.declared.line.Reason.TheVariants as reason

abbrev pub kind_text : CheckKind → Text
kind_text kind.Precondition = codes "precondition"
kind_text kind.Postcondition = codes "postcondition"
kind_text kind.Match = codes "match"
kind_text kind.Division = codes "division"
kind_text kind.Measure = codes "measure"
kind_text kind.Assertion = codes "assertion"

-- `S:L:C`
abbrev pub place_text : Place → Text
place_text p = decimal p.source ++ (codes ":" ++ (decimal p.line ++ (codes ":" ++ decimal p.column)))

-- `KIND at S:L:C`
abbrev pub check_text : CheckKind → Place → Text
check_text kind place = kind_text kind ++ (codes " at " ++ place_text place)

-- `NAME: valid, K checks`
abbrev pub valid_text : Text → ℕ → Text
valid_text name checks = name ++ (codes ": valid, " ++ (decimal checks ++ codes " checks\n"))

-- `NAME: depends on OTHER, K checks`
abbrev pub depends_text : Text → Text → ℕ → Text
depends_text name other checks =
    name ++ (codes ": depends on " ++ (other ++ (codes ", " ++ (decimal checks ++ codes " checks\n"))))

-- `NAME: invalid, KIND at S:L:C, x = V, y = W`
abbrev pub invalid_text : List Ctor → Text → CheckKind → Place → List Param → List Value → Text
invalid_text ctors name kind place params values =
    name ++ (codes ": invalid, " ++ (check_text kind place ++ (arguments_text ctors params values ++ codes "\n")))

-- why a check is left open
abbrev pub reason_text : Reason → Text
reason_text reason.Rounds = codes "rounds"
reason_text reason.Lemmas = codes "lemmas"
reason_text reason.Size = codes "size"

-- `at round N`, the last round that was searched, or `before round 0`
abbrev pub round_text : Option ℕ → Text
round_text None = codes "before round 0"
round_text (Some n) = codes "at round " ++ decimal n

-- `NAME: open at round N, KIND at S:L:C, WHY`, or `NAME: open before round 0, KIND at S:L:C, WHY`
abbrev pub open_text : Text → Option ℕ → CheckKind → Place → Reason → Text
open_text name searched kind place why =
    name ++ (codes ": open " ++ (round_text searched ++
    (codes ", " ++ (check_text kind place ++ (codes ", " ++ (reason_text why ++ codes "\n"))))))

-- `V valid, I invalid, O open, D depending`
abbrev pub summary_text : ℕ → ℕ → ℕ → ℕ → Text
summary_text valid invalid undecided depending =
    decimal valid ++ (codes " valid, " ++
    (decimal invalid ++ (codes " invalid, " ++
    (decimal undecided ++ (codes " open, " ++ (decimal depending ++ codes " depending\n"))))))
