-- How a list of members grows towards a closure. Source: own.
use Rattle.std.specs.Prelude.{◌≡◌, ◌⊎◌, ◌<◌, ◌≤◌, ℕ, List, ◌++◌, take, length, Contains}
use Rattle.pp_instances.specs.Closure.{Distinct, Used}
use Rattle.pp_instances.specs.Uses.{uses}
use Rattle.pp_instances.specs.declared.fault.InstancesFault.{InstancesFault}
use Rattle.pp_instances.specs.declared.fault.InstancesFault.TheVariants.{TooManyInstances, Memory}
use Rattle.pp_instances.specs.declared.member.Decl.TheVariants.{Function}
use Rattle.pp_instances.specs.declared.member.Member.{Member}
use Rattle.pp_typed.specs.declared.typed.Typed.{Typed}

-- the list was extended by new ones, of which none is left out
pub record Gains (old news ms : List Member) : Type 0 where
  pub more : List Member
  pub is : ms ≡ old ++ more
  pub once : Distinct ms
  pub all : (m : Member) → Contains news m → Contains ms m
  pub only : (m : Member) → Contains ms m → Contains old m ⊎ Contains news m

-- the old and the new are together more than this
pub record Bursts (limit : ℕ) (old news : List Member) : Type 0 where
  pub some : List Member
  pub once : Distinct some
  pub many : limit < length some
  pub only : (m : Member) → Contains some m → Contains old m ⊎ Contains news m

-- after the first members have been looked at
pub record Stage (typed : Typed) (seeds : List Member) (looked : ℕ) (ms : List Member) : Type 0 where
  pub once : Distinct ms
  pub within : looked ≤ length ms
  pub used : (m : Member) → Contains ms m → Used typed seeds m
  pub started : (m : Member) → Contains seeds m → Contains ms m
  pub closed : (m n : Member) → Contains (take looked ms) m → Contains (uses typed m) n → Contains ms n

-- the cause, where members are too many
abbrev pub WhyNot : Type 0 → InstancesFault → Type 0
WhyNot P TooManyInstances = P
WhyNot P Memory = Unit {0}

-- one of the members is an instance of the function
abbrev pub HasFunction : List Member → ℕ → Type 0
HasFunction ms f = (m : Member) × Contains ms m × (m.of ≡ Function f)
