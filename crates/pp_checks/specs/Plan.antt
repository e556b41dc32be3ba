-- What contracts see of a plan, and what it means that it is that of a program. Callers take it as one word: `plan`
-- gives it, and the calls on a plan say their meanings under it. Source: own.
use Rattle.std.specs.Prelude.{◌≡◌, ◌↔◌, ◌<◌, ℕ, Bool, List, Option, Some, length, slice_get, IsTrue}
use Rattle.pp_graph.specs.Rows.{Tells, marked}
use Rattle.pp_prog.specs.declared.check.Check.{Check}
use Rattle.pp_prog.specs.declared.expr.Function.{Function}
use Rattle.pp_prog.specs.declared.program.Program.{Program}
use Rattle.pp_prog.specs.Calls.{call_table}
use Rattle.pp_prog.specs.Sorts.{param_sorts}
use Rattle.pp_prog.specs.Cone.{InCone}
use Rattle.pp_checks.specs.Closed.{Closed, IsNesting, IsTallest}
use Rattle.pp_checks.specs.Plain.{IsPlain}
use Rattle.pp_checks.specs.Ranks.{IsRank}
use Rattle.pp_checks.specs.Rules.{KeepRules}

-- a plan, as its tables
pub record Plan : Type 0 where
  -- the checks of the program, in the order of their numbers
  pub checks : List Check
  -- at each function's place, a mark for each function, whether it is reached
  pub rows : List (List Bool)
  -- at each function's place, how many functions its cone has
  pub ranks : List ℕ
  -- at each function's place, the depth of its call tree, or none where it has no end
  pub nestings : List (Option ℕ)
  -- at each function's place, the greatest height of an argument, or none where there is no greatest
  pub tallest : List (Option ℕ)
  -- at each check's place, whether it is a plain descent
  pub plains : List Bool

-- the table has at each function's place what the relation says of it
pub record AreOf {A : Type 0} (Is : ℕ → A → Type 0) (n : ℕ) (table : List A) : Type 0 where
  pub size : length table ≡ n
  pub each : (f : ℕ) (a : A) → slice_get table f ≡ Some a → Is f a

-- the greatest height of an argument of the function
abbrev pub IsTallestOf : Program → ℕ → Option ℕ → Type 0
IsTallestOf program f tallest =
    (function : Function) → slice_get program.functions f ≡ Some function
    → IsTallest program.types.ctors (param_sorts function.params) tallest

-- the plan is that of the program
pub record IsPlanOf (plan : Plan) (program : Program) : Type 0 where
  -- it lists the program's checks
  pub checks : plan.checks ≡ program.checks
  -- its tables tell what each function reaches, its rank, the depth of its call tree, and how high its arguments can
  -- be
  pub rows : Tells (call_table program.functions) (length program.functions) plan.rows
  pub ranks : AreOf (IsRank program.functions) (length program.functions) plan.ranks
  pub nestings : AreOf (IsNesting (call_table program.functions)) (length program.functions) plan.nestings
  pub tallest : AreOf (IsTallestOf program) (length program.functions) plan.tallest
  -- it marks the checks that are plain descents
  pub plains : (c : ℕ) → c < length program.checks → IsTrue (marked plan.plains c) ↔ IsPlain program.functions c
  -- each function keeps the rules of measures
  pub rules : KeepRules program.types program.functions (length program.functions)

-- what a call on a plan tells, of each program of which it is the plan: the rank of f, whether g is in the cone of f,
-- whether f is closed, and whether check c is a plain descent
abbrev pub TellsRank : Plan → ℕ → ℕ → Type 0
TellsRank plan f r =
    (program : Program) → IsPlanOf plan program → f < length program.functions → IsRank program.functions f r

abbrev pub TellsCone : Plan → ℕ → ℕ → Bool → Type 0
TellsCone plan f g b =
    (program : Program) → IsPlanOf plan program → f < length program.functions → g < length program.functions
    → IsTrue b ↔ InCone program.functions f g

abbrev pub TellsClosed : Plan → ℕ → ℕ → ℕ → Bool → Type 0
TellsClosed plan f n d b =
    (program : Program) → IsPlanOf plan program → f < length program.functions
    → IsTrue b ↔ Closed program.types program.functions f n d

abbrev pub TellsPlain : Plan → ℕ → Bool → Type 0
TellsPlain plan c b =
    (program : Program) → IsPlanOf plan program → c < length program.checks → IsTrue b ↔ IsPlain program.functions c
