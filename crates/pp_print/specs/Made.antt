-- The line on functions that were made, with the newline that ends it. Source: own.
use Rattle.std.specs.Prelude.{ℕ, ◌++◌, codes, decimal}
use Rattle.pp_print.specs.Values.{Text}

-- `made N functions`
abbrev pub made_text : ℕ → Text
made_text functions = codes "made " ++ (decimal functions ++ codes " functions\n")
