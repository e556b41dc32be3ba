-- Lemmas of the crates below that answers cite.
use Rattle.std.proofs.Common.{◌≡◌, ◌+◌, ℕ, List, [], ◌∷◌, ◌++◌, Some, Bool}
use Rattle.pp_graph.specs.Rows.{IsRow, Tells}
use Rattle.pp_graph.proofs.Tables.{tells_none, tells_push}
use Rattle.pp_prog.specs.declared.expr.Expr.{Expr}
use Rattle.pp_prog.specs.declared.expr.Function.{Function}
use Rattle.pp_prog.specs.declared.sort.Sort.{Sort}
use Rattle.pp_prog.specs.declared.types.TypeTable.{TypeTable}
use Rattle.pp_prog.specs.ExprSorts.{sort_of}
use Rattle.pp_prog.specs.Results.{result_of}
use Rattle.pp_prog.proofs.Results.{result_is}

pub no_rows : (calls : List (List ℕ)) → Tells calls 0 []
no_rows = tells_none

pub one_more_row : (calls : List (List ℕ)) (n : ℕ) (rows : List (List Bool)) (row : List Bool)
    → Tells calls n rows → IsRow calls n row → Tells calls (n + 1) (rows ++ row ∷ [])
one_more_row = tells_push

pub read_off : (types : TypeTable) (functions : List Function) (e : Expr) (scope : List Sort) (s : Sort)
    → sort_of types functions e scope ≡ Some s → result_of types functions e scope ≡ s
read_off = result_is
