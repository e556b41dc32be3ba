-- The lines of a list of checks, each with the newline that ends it. Source: own.
use Rattle.std.specs.Prelude.{ℕ, ◌++◌, codes, decimal}
use Rattle.pp_prog.specs.declared.check.CheckKind.{CheckKind}
use Rattle.pp_prog.specs.declared.place.Place.{Place}
use Rattle.pp_print.specs.Lines.{check_text}
use Rattle.pp_print.specs.Values.{Text}

-- `NAME: K checks`
abbrev pub count_text : Text → ℕ → Text
count_text name checks = name ++ (codes ": " ++ (decimal checks ++ codes " checks\n"))

-- `  KIND at S:L:C, estimate E`
abbrev pub estimate_text : CheckKind → Place → ℕ → Text
estimate_text kind place estimate = codes "  " ++
    (check_text kind place ++ (codes ", estimate " ++ (decimal estimate ++ codes "\n")))
