-- Parts of runs that are fine: their value has a property, or they stop in a way that is allowed.
use Rattle.std.proofs.Common.{◌≡◌, ◌<◌, ℕ, Bool, true, false, Option, Some, None, is_some, Ok, Err, length}
use Rattle.pp_prog.specs.declared.id.CheckId.{CheckId}
use Rattle.pp_prog.specs.declared.id.FunctionId.{FunctionId}
use Rattle.pp_prog.specs.declared.program.Program.{Program}
use Rattle.pp_prog.specs.declared.sort.Sort.{Sort}
use Rattle.pp_prog.specs.declared.value.Value.{Value}
use Rattle.pp_eval.specs.declared.outcome.Stop.{Stop}
use Rattle.pp_eval.specs.declared.outcome.Stop.TheVariants.{Deep, Fails, Inner, Stuck}
use Rattle.pp_eval.specs.Part.{Part, and_then, either, failed, inside}
use Rattle.pp_sound.specs.Sound.{IsCheckOf}
use Rattle.pp_prog.proofs.ValueSorts.{Has}

-- by cases on the part: V holds of its value, or S of its stop
abbrev pub Told : {A : Type 0} → (Stop → Type 0) → (A → Type 0) → Part A → Type 0
Told S V (Ok a) = V a
Told S V (Err s) = S s

-- V holds of the part's value, or S of its stop
pub record IsFine {A : Type 0} (S : Stop → Type 0) (V : A → Type 0) (part : Part A) : Type 0 where
  pub told : Told S V part

-- nothing is asked of a value
abbrev pub IsAny : {A : Type 0} → A → Type 0
IsAny a = Unit {0}

pub fine_value : {A : Type 0} {S : Stop → Type 0} {V : A → Type 0} {a : A} → V a → IsFine S V (Ok a)
fine_value h = record { told = h }

pub fine_stop : {A : Type 0} {S : Stop → Type 0} {V : A → Type 0} {s : Stop} → S s → IsFine S V (Err s)
fine_stop h = record { told = h }

-- what goes on from a part that is fine
pub fine_then : {A B : Type 0} {S : Stop → Type 0} {V : A → Type 0} {W : B → Type 0} {part : Part A} {go : A → Part B}
    → IsFine S V part → ((a : A) → V a → IsFine S W (go a)) → IsFine S W (and_then part go)
fine_then {part = Ok a} h k = k a h.told
fine_then {part = Err s} h k = record { told = h.told }

pub fine_either : {A : Type 0} {S : Stop → Type 0} {V : A → Type 0} {a b : Part A} (t : Bool) → IsFine S V a
    → IsFine S V b → IsFine S V (either t a b)
fine_either true h k = h
fine_either false h k = k

-- the check, where there is one, is one of function number i
abbrev pub IsOwn : Program → ℕ → Option CheckId → Type 0
IsOwn p i None = Unit {0}
IsOwn p i (Some c) = IsCheckOf p i c.0

-- D is what has to hold for a run to be Deep: ⊥ where it never may be, and Unit where it always may
module _ (p : Program) (D : Type 0) (i : ℕ) where
  -- how a frame of function number i may stop: at a check of its own, inside another frame at a check of that one's
  -- function, and where D holds too deep
  abbrev pub MayStop : Stop → Type 0
  MayStop (Fails c) = IsCheckOf p i c.0
  MayStop (Inner g c) = (g.0 < length p.functions) × IsCheckOf p g.0 c.0
  MayStop Deep = D
  MayStop Stuck = ⊥

  -- the part has a value of the sort, or stops as it may
  abbrev pub IsSorted : Sort → Part Value → Type 0
  IsSorted s part = IsFine MayStop (Has p.types.ctors s) part

  pub fine_failed : {A : Type 0} {V : A → Type 0} (check : Option CheckId) → is_some check ≡ true → IsOwn p i check
      → IsFine MayStop V (failed check)
  fine_failed None some own = cc
  fine_failed (Some c) some own = fine_stop own

module _ (p : Program) (D : Type 0) (i : ℕ) where
  -- what is fine in a frame of g is fine for the frame that calls it
  pub fine_inside : {A : Type 0} {V : A → Type 0} (g : FunctionId) {part : Part A} → g.0 < length p.functions
      → IsFine (MayStop p D g.0) V part → IsFine (MayStop p D i) V (inside g part)
  fine_inside g {part = Ok a} within h = record { told = h.told }
  fine_inside g {part = Err (Fails c)} within h = record { told = (within, h.told) }
  fine_inside g {part = Err (Inner f c)} within h = record { told = h.told }
  fine_inside g {part = Err Deep} within h = record { told = h.told }
  fine_inside g {part = Err Stuck} within h = record { told = h.told }
