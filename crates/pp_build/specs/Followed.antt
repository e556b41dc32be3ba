-- What a performed step leaves over a domain that isn't exact: where each register stands for its step's value, dead
-- ones too, a good assignment goes on to one under which the new register does. Source: own.
use Rattle.std.specs.Prelude.{◌≡◌, ℕ, ◌<◌, ◌≤◌, suc, Bool, true, false, List, Some, length, slice_get}
use Rattle.pp_prog.specs.declared.sort.Sort.{Sort}
use Rattle.pp_prog.specs.declared.types.TypeTable.{TypeTable}
use Rattle.pp_prog.specs.declared.value.Value.{Value}
use Rattle.pp_prog.specs.Sorts.{has_sort}
use Rattle.pp_gate.specs.declared.gate.Gate.{Gate}
use Rattle.pp_domain.specs.declared.symbol.Symbol.{Symbol}
use Rattle.pp_domain.specs.Naming.{Naming, Names, NamesFields, IsDefault}
use Rattle.pp_domain.specs.Sense.{Sense, Good, Extended}
use Rattle.pp_domain.specs.Symbols.{SymbolStands}
use Rattle.pp_build_operators.specs.Operated.{IsCompared}
use Rattle.pp_steps.specs.declared.step.Step.{Step}
use Rattle.pp_steps.specs.declared.step.Step.TheVariants as steps
use Rattle.pp_steps.specs.Meaning.{Does, Missing, Values}
use Rattle.pp_steps.specs.Sorted.{Sorts}

-- the naming names the fields of the value, and what stands for a field that it hasn't is the default of the sort
pub record IsRead (types : TypeTable) (n : Naming) (v : Value) (s : Sort) (missing : Value) : Type 0 where
  pub fields : NamesFields types n v
  pub default : IsDefault n s missing

-- where step number k looks at a tree, the naming names the fields of the tree's value; and what stands for a missing
-- field that the step reads is the default of its sort
abbrev pub LooksNamed : TypeTable → Naming → Sorts → Values → Missing → ℕ → Step → Type 0
LooksNamed types n σ ρ missing k (steps.IsCtor c m a) = NamesFields types n (ρ a)
LooksNamed types n σ ρ missing k (steps.CtorField c i a) = IsRead types n (ρ a) (σ k) (missing.field c i)
LooksNamed types n σ ρ missing k (steps.Field a i) = NamesFields types n (ρ a)
LooksNamed types n σ ρ missing k s = Unit {0}

-- the values of the first steps have their sorts, and the naming names them
pub record AreNamed (types : TypeTable) (n : Naming) (σ : Sorts) (ρ : Values) (many : ℕ) : Type 0 where
  pub sorted : (k : ℕ) → k < many → has_sort types.ctors (ρ k) (σ k) ≡ true
  pub named : (k : ℕ) → k < many → Names types n (ρ k)

module _ {D T : Type 0} (m : Sense D T) (types : TypeTable) where
  -- each register stands for its step's value
  abbrev pub AllStand : D → (ℕ → Bool) → Naming → Values → List (Symbol T) → Type 0
  AllStand d a n ρ rs = (k : ℕ) (x : Symbol T) → slice_get rs k ≡ Some x → SymbolStands m d a n x (ρ k)

  -- what is supposed of the values, in front of a step
  pub record CanFollow (d : D) (gs : List Gate) (rs : List (Symbol T)) (step : Step) (σ : Sorts) (n : Naming)
      (a : ℕ → Bool) (ρ : Values) (missing : Missing) : Type 0 where
    pub good : Good m types d gs n a
    pub stand : AllStand d a n ρ rs
    pub are : AreNamed types n σ ρ (suc (length rs))
    pub looked : LooksNamed types n σ ρ missing (length rs) step
    pub does : Does types.ctors missing ρ step (ρ (length rs))

  -- what is supposed of the values, in front of the steps behind those that have registers
  pub record CanFollowAll (d : D) (gs : List Gate) (qs : List (Symbol T)) (steps : List Step) (σ : Sorts) (n : Naming)
      (a : ℕ → Bool) (ρ : Values) (missing : Missing) : Type 0 where
    pub good : Good m types d gs n a
    pub stand : AllStand d a n ρ qs
    pub are : AreNamed types n σ ρ (length steps)
    pub looked : (k : ℕ) (s : Step) → length qs ≤ k → slice_get steps k ≡ Some s
        → LooksNamed types n σ ρ missing k s
    pub does : (k : ℕ) (s : Step) → length qs ≤ k → slice_get steps k ≡ Some s
        → Does types.ctors missing ρ s (ρ k)

  -- a good assignment that goes on from `a`, under which each symbol stands for its step's value
  abbrev pub GoesAll : List Gate → Naming → (ℕ → Bool) → D → List Gate → Values → List (Symbol T) → Type 0
  GoesAll gs n a e hs ρ rs = (x : Extended m types gs n a e hs) × AllStand e x.next n ρ rs

  -- a good assignment that goes on from `a`, under which the symbol stands for the value
  abbrev pub Goes : List Gate → Naming → (ℕ → Bool) → D → List Gate → Symbol T → Value → Type 0
  Goes gs n a e hs r v = (x : Extended m types gs n a e hs) × SymbolStands m e x.next n r v

  -- what follows of a performed step
  abbrev pub Follows : D → List Gate → List (Symbol T) → Step → Sorts → D → List Gate → Symbol T → Type 0
  Follows d gs rs step σ e hs r = m.exact ≡ false → (n : Naming) (a : ℕ → Bool) (ρ : Values) (missing : Missing)
      → CanFollow d gs rs step σ n a ρ missing → Goes gs n a e hs r (ρ (length rs))

  -- what the step compares it compares well: trees in an exact domain alone
  abbrev pub Compares : Sorts → Step → Type 0
  Compares σ (steps.GoesDown a b) = IsCompared m types (σ a)
  Compares σ s = Unit {0}
