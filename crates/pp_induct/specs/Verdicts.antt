-- The table of verdicts: of each function, the first row that applies. Source: own.
use Rattle.std.specs.Prelude.{◌≡◌, ◌⊎◌, ◌<◌, ℕ, List, Option, Some, length, slice_get}
use Rattle.pp_prog.specs.declared.check.Check.{Check}
use Rattle.pp_prog.specs.declared.expr.Function.{Function}
use Rattle.pp_prog.specs.declared.program.Program.{Program}
use Rattle.pp_prog.specs.declared.value.Value.{Value}
use Rattle.pp_prog.specs.Cone.{InCone}
use Rattle.pp_eval.specs.Runs.{IsGood}
use Rattle.pp_induct.specs.declared.ends.CheckEnd.{CheckEnd}
use Rattle.pp_induct.specs.declared.ends.CheckEnd.TheVariants as end
use Rattle.pp_induct.specs.declared.ends.Why.{Why}
use Rattle.pp_induct.specs.declared.verdict.Verdict.{Verdict}
use Rattle.pp_induct.specs.declared.verdict.Verdict.TheVariants.{Valid, Depends, Invalid, Open}

-- the check ended Invalid
abbrev pub IsInvalidEnd : CheckEnd → Type 0
IsInvalidEnd e = (args : List Value) × (n : ℕ) × (e ≡ end.Invalid args n)

-- the check ended Open
abbrev pub IsOpenEnd : CheckEnd → Type 0
IsOpenEnd e = (searched : Option ℕ) × (why : Why) × (e ≡ end.Open searched why)

-- the check ended Proved or Exhausted
abbrev pub IsProvedOrExhausted : CheckEnd → Type 0
IsProvedOrExhausted e = ((n : ℕ) × (e ≡ end.Proved n)) ⊎ ((n : ℕ) × (e ≡ end.Exhausted n))

-- the check ended neither Proved nor Exhausted
abbrev pub IsUndone : CheckEnd → Type 0
IsUndone e = IsProvedOrExhausted e → ⊥

-- no number has the property
abbrev pub Never : (ℕ → Type 0) → Type 0
Never P = (n : ℕ) → P n → ⊥

-- n is the first number that has the property
pub record IsFirst (P : ℕ → Type 0) (n : ℕ) : Type 0 where
  pub has : P n
  pub first : (m : ℕ) → m < n → P m → ⊥

-- check number c is one of function number f, and ended as `So` says
pub record Ended (checks : List Check) (ends : List CheckEnd) (So : CheckEnd → Type 0) (f c : ℕ) : Type 0 where
  pub check : Check
  pub listed : slice_get checks c ≡ Some check
  pub owner : check.function.0 ≡ f
  pub how : CheckEnd
  pub at : slice_get ends c ≡ Some how
  pub so : So how

-- function number f has a check that ended neither Proved nor Exhausted
abbrev pub HasUndone : List Check → List CheckEnd → ℕ → Type 0
HasUndone checks ends f = (c : ℕ) × Ended checks ends IsUndone f c

-- g is a function of the cone of f
abbrev pub IsInCone : Program → ℕ → ℕ → Type 0
IsInCone p f g = (g < length p.functions) × InCone p.functions f g

module _ (p : Program) (ends : List CheckEnd) where
  -- a check of function number f ended so
  abbrev pub EndedSo : (CheckEnd → Type 0) → ℕ → ℕ → Type 0
  EndedSo So = Ended p.checks ends So

  -- g is a function of the cone of f that has a check which ended neither Proved nor Exhausted
  abbrev pub IsUndoneIn : ℕ → ℕ → Type 0
  IsUndoneIn f g = IsInCone p f g × HasUndone p.checks ends g

  -- every check of the cone of f ended Proved or Exhausted
  abbrev pub AreDone : ℕ → Type 0
  AreDone f =
      (g c : ℕ) (check : Check) (e : CheckEnd) → IsInCone p f g → slice_get p.checks c ≡ Some check
      → check.function.0 ≡ g → slice_get ends c ≡ Some e → IsProvedOrExhausted e

  -- the rows, in order: a check of f ended Invalid, and the first such is named; one ended Open, and the first such is
  -- named; a function of the cone has a check that ended neither Proved nor Exhausted, and the first such in program
  -- order is named; every check of the cone ended Proved or Exhausted
  abbrev pub IsVerdict : ℕ → Verdict → Type 0
  IsVerdict f (Invalid c) = IsFirst (EndedSo IsInvalidEnd f) c.0
  IsVerdict f (Open c) = Never (EndedSo IsInvalidEnd f) × IsFirst (EndedSo IsOpenEnd f) c.0
  IsVerdict f (Depends g) =
      Never (EndedSo IsInvalidEnd f) × Never (EndedSo IsOpenEnd f) × IsFirst (IsUndoneIn f) g.0
  IsVerdict f Valid = AreDone f

  -- there is one verdict for each function, in program order
  pub record AreVerdicts (verdicts : List Verdict) : Type 0 where
    pub size : length verdicts ≡ length p.functions
    pub each : (f : ℕ) (v : Verdict) → slice_get verdicts f ≡ Some v → IsVerdict f v

-- where a function is valid, each function of its cone is good
abbrev pub ValidAreGood : Program → List Verdict → Type 0
ValidAreGood p verdicts =
    (f : ℕ) → slice_get verdicts f ≡ Some Valid → (g : ℕ) (function : Function) → InCone p.functions f g
    → slice_get p.functions g ≡ Some function → IsGood p.types.ctors p.functions function
