-- A part of a run: it has a value, or the run stops there. Source: own.
use Rattle.std.specs.Prelude.{◌≡◌, Bool, true, false, Option, Some, None, Result, Ok, Err}
use Rattle.pp_prog.specs.declared.id.CheckId.{CheckId}
use Rattle.pp_prog.specs.declared.id.FunctionId.{FunctionId}
use Rattle.pp_eval.specs.declared.outcome.Halt.{Halt}
use Rattle.pp_eval.specs.declared.outcome.Halt.TheVariants.{Memory, Stopped}
use Rattle.pp_eval.specs.declared.outcome.Stop.{Stop}
use Rattle.pp_eval.specs.declared.outcome.Stop.TheVariants.{Fails, Inner, Deep, Stuck}

-- a part of a run: its value, or how the run stops there
abbrev pub Part : Type 0 → Type 0
Part A = Result A Stop

-- what a call that may be out of memory says of a part
abbrev pub Tells : {A : Type 0} → Result A Halt → Part A → Type 0
Tells (Ok a) part = part ≡ Ok a
Tells (Err Memory) part = Unit {0}
Tells (Err (Stopped s)) part = part ≡ Err s

-- the first part whose outcome isn't a value gives the outcome
abbrev pub and_then : {A B : Type 0} → Part A → (A → Part B) → Part B
and_then (Ok a) go = go a
and_then (Err s) go = Err s

-- the one part or the other
abbrev pub either : {A : Type 0} → Bool → Part A → Part A → Part A
either true a b = a
either false a b = b

-- the failure of a site's check. In a valid program each site that can fail carries one.
abbrev pub failed : {A : Type 0} → Option CheckId → Part A
failed (Some c) = Err (Fails c)
failed None = Err Stuck

-- an item that has to be there
abbrev pub found : {A : Type 0} → Option A → Part A
found (Some a) = Ok a
found None = Err Stuck

-- how a stop inside a frame of g is seen from outside: a failing check is g's
abbrev pub raised : FunctionId → Stop → Stop
raised g (Fails c) = Inner g c
raised g (Inner h c) = Inner h c
raised g Deep = Deep
raised g Stuck = Stuck

-- a part inside a frame of g, seen from outside
abbrev pub inside : {A : Type 0} → FunctionId → Part A → Part A
inside g (Ok a) = Ok a
inside g (Err s) = Err (raised g s)
