-- Which instances a program has, and when they are too many. Source: own.
use Rattle.std.specs.Prelude.{◌≡◌, ◌↔◌, ◌<◌, ℕ, ◌+◌, List, [], ◌∷◌, ◌++◌, Some, length, slice_get, Contains}
use Rattle.pp_instances.specs.Uses.{uses, start, at_ints}
use Rattle.pp_instances.specs.declared.fault.InstancesFault.{InstancesFault}
use Rattle.pp_instances.specs.declared.fault.InstancesFault.TheVariants.{TooManyInstances, Memory}
use Rattle.pp_instances.specs.declared.member.Decl.TheVariants.{Function}
use Rattle.pp_instances.specs.declared.member.Member.{Member}
use Rattle.pp_typed.specs.declared.typed.Typed.{Typed}
use Rattle.pp_typed.specs.declared.typed.TypedDef.{TypedDef}

-- no member stands there twice
abbrev pub Distinct : List Member → Type 0
Distinct [] = Unit {0}
Distinct (m ∷ ms) = (Contains ms m → ⊥) × Distinct ms

module _ (typed : Typed) where
  -- the least set with the seeds that has all that its members use
  pub data Used (seeds : List Member) : Member → Type 0 where
    at_start : (m : Member) → Contains seeds m → Used seeds m
    by_use : (m n : Member) → Used seeds m → Contains (uses typed m) n → Used seeds n

  -- the list has exactly the members of the least set, each once
  pub record IsClosure (seeds ms : List Member) : Type 0 where
    pub once : Distinct ms
    pub members : (m : Member) → Contains ms m ↔ Used seeds m

  -- the least set has more members than this
  pub record HasMore (limit : ℕ) (seeds : List Member) : Type 0 where
    pub some : List Member
    pub once : Distinct some
    pub many : limit < length some
    pub used : (m : Member) → Contains some m → Used seeds m

  -- a member of the least set is an instance of function f
  abbrev pub HasInstance : List Member → ℕ → Type 0
  HasInstance seeds f = (m : Member) × Used seeds m × (m.of ≡ Function f)

  -- The seeds after the first functions have been looked at, in program order: where one has no instance in the closure
  -- of the seeds so far, it is added with every type parameter `Int`.
  pub data Filled : ℕ → List Member → Type 0 where
    at_first : Filled 0 (start typed)
    has_some : (f : ℕ) (seeds : List Member) → Filled f seeds → HasInstance seeds f → Filled (f + 1) seeds
    has_none : (f : ℕ) (seeds : List Member) (d : TypedDef) → Filled f seeds → (HasInstance seeds f → ⊥)
        → slice_get typed.defs f ≡ Some d → Filled (f + 1) (seeds ++ at_ints f d ∷ [])

  -- the instances: the closure of the seeds after all functions have been looked at
  pub record AreInstances (ms : List Member) : Type 0 where
    pub seeds : List Member
    pub filled : Filled (length typed.defs) seeds
    pub closure : IsClosure seeds ms

  -- some closure on the way has more members than this
  pub record FillsOver (limit : ℕ) : Type 0 where
    pub seeds : List Member
    pub looked : ℕ
    pub filled : Filled looked seeds
    pub over : HasMore limit seeds

-- why there are no instances; want of memory has no cause in the typed units
abbrev pub IsCause : Typed → InstancesFault → Type 0
IsCause typed TooManyInstances = FillsOver typed 512
IsCause typed Memory = Unit {0}
