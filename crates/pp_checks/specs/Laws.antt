-- What follows from a program's having a plan. Source: own.
use Rattle.std.specs.Prelude.{◌≡◌, ◌<◌, ℕ, List, Some, slice_get, Contains, IsTrue}
use Rattle.pp_prog.specs.declared.expr.Expr.{Expr}
use Rattle.pp_prog.specs.declared.expr.Function.{Function}
use Rattle.pp_prog.specs.declared.program.Program.{Program}
use Rattle.pp_prog.specs.declared.sort.Sort.{Sort}
use Rattle.pp_prog.specs.declared.types.TypeTable.{TypeTable}
use Rattle.pp_prog.specs.Calls.{OneGroup, contract_calls, function_calls}
use Rattle.pp_prog.specs.ExprSorts.{sort_of}
use Rattle.pp_prog.specs.Results.{result_of}
use Rattle.pp_prog.specs.Valid.{is_written}
use Rattle.pp_checks.specs.Plan.{IsPlanOf, Plan}
use Rattle.pp_checks.specs.Ranks.{IsRank}
use Rattle.pp_checks.specs.Rules.{measure_sorts}

-- functions of one group have one rank
abbrev pub ShareRanks : Type 0
ShareRanks =
    (functions : List Function) (f g n m : ℕ) → OneGroup functions f g → IsRank functions f n
    → IsRank functions g m → n ≡ m

-- a function of another group that f calls, contracts included, has a lower rank
abbrev pub CallLowerRanks : Type 0
CallLowerRanks =
    (functions : List Function) (f g n m : ℕ) (function : Function) → slice_get functions f ≡ Some function
    → Contains (function_calls function) g → (OneGroup functions f g → ⊥) → IsRank functions f n
    → IsRank functions g m → m < n

-- in a program that has a plan, preconditions and measure lists call functions of lower ranks alone
abbrev pub ContractsCallLowerRanks : Type 0
ContractsCallLowerRanks =
    (plan : Plan) (program : Program) (f g n m : ℕ) (function : Function) → IsPlanOf plan program
    → slice_get program.functions f ≡ Some function → Contains (contract_calls function) g
    → IsRank program.functions f n → IsRank program.functions g m → m < n

-- in a program that has a plan, the measure lists of a group have one list of sorts
abbrev pub MeasuresShareSorts : Type 0
MeasuresShareSorts =
    (plan : Plan) (program : Program) (f g : ℕ) (one other : Function) → IsPlanOf plan program
    → OneGroup program.functions f g
    → slice_get program.functions f ≡ Some one → slice_get program.functions g ≡ Some other
    → IsTrue (is_written one.measure) → IsTrue (is_written other.measure)
    → measure_sorts program.types program.functions one ≡ measure_sorts program.types program.functions other

-- where an expression has a sort, it is the one that the rules of measures read off its form
abbrev pub ReadSorts : Type 0
ReadSorts =
    (types : TypeTable) (functions : List Function) (e : Expr) (scope : List Sort) (s : Sort)
    → sort_of types functions e scope ≡ Some s → result_of types functions e scope ≡ s
