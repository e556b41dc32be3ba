-- What it means that facts hold of the values of steps. Source: own; classes of equal terms are those of congruence
-- closure (Nelson, Oppen: Fast Decision Procedures Based on Congruence Closure, JACM 1980).
use Rattle.std.specs.Prelude.{◌≡◌, ◌≤ℤ◌, ℕ, ℤ, suc, Bool, false, true, Option, Some, None, List, [], ◌∷◌}
use Rattle.pp_prog.specs.declared.value.Value.{Value}
use Rattle.pp_prog.specs.declared.value.Value.TheVariants.{Tree}
use Rattle.pp_steps.specs.Meaning.{Values, bit, has_ctor}
use Rattle.pp_closure.specs.Sums.{whole}
use Rattle.pp_closure.specs.declared.class.Class.{Class}
use Rattle.pp_closure.specs.declared.class.Shape.{Shape}
use Rattle.pp_closure.specs.declared.facts.Facts.{Facts}

-- nothing is known of the step's value
abbrev pub unknown : ℕ → Class
unknown k = record {
  name = k;
  truth = None;
  shape = None;
  maker = None;
  low = None;
  high = None;
  moves = 0;
  next = k;
}

-- the value is true or false, as is said
abbrev pub HasTruth : Option Bool → Value → Type 0
HasTruth None v = Unit {0}
HasTruth (Some b) v = bit v ≡ b

-- the truth value is the one that is said
abbrev pub IsAnswer : Option Bool → Bool → Type 0
IsAnswer None b = Unit {0}
IsAnswer (Some t) b = b ≡ t

-- the value has the constructor that is said
abbrev pub HasShape : Option Shape → Value → Type 0
HasShape None v = Unit {0}
HasShape (Some s) v = has_ctor s.ctor s.fields v ≡ true

-- the value is the constructor that is said, which has no fields
abbrev pub IsConstant : Option ℕ → Value → Type 0
IsConstant None v = Unit {0}
IsConstant (Some c) v = v ≡ Tree (record { 0 = c }) []

-- the step that is said has the value
abbrev pub HasMaker : Values → Option ℕ → Value → Type 0
HasMaker ρ None v = Unit {0}
HasMaker ρ (Some j) v = ρ j ≡ v

-- the number that the value is is at least the one that is said
abbrev pub HasLow : Option ℤ → Value → Type 0
HasLow None v = Unit {0}
HasLow (Some n) v = n ≤ℤ whole v

-- and at most
abbrev pub HasHigh : Option ℤ → Value → Type 0
HasHigh None v = Unit {0}
HasHigh (Some n) v = whole v ≤ℤ n

-- what the class says is so of the value
pub record Tells (ρ : Values) (c : Class) (v : Value) : Type 0 where
  pub name : ρ c.name ≡ v
  pub truth : HasTruth c.truth v
  pub shape : HasShape c.shape v
  pub maker : HasMaker ρ c.maker v
  pub low : HasLow c.low v
  pub high : HasHigh c.high v

-- each class tells of its step's value, where the first step has the number k
abbrev pub AllTell : Values → ℕ → List Class → Type 0
AllTell ρ k [] = Unit {0}
AllTell ρ k (c ∷ cs) = Tells ρ c (ρ k) × AllTell ρ (suc k) cs

-- all classes do, and no contradiction was found
pub record Holds (ρ : Values) (f : Facts) : Type 0 where
  pub classes : AllTell ρ 0 f.classes
  pub possible : f.refuted ≡ false
