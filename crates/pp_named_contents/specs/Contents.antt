-- Symbols of inputs that are blank where a literal is false. (own)
use Rattle.std.specs.Prelude.{◌≡◌, ◌⊎◌, ℕ, ◌+◌, ℤ, Bool, true, false, List, [], ◌∷◌, All, Some, length}
use Rattle.std.specs.Prelude.{slice_get}
use Rattle.std.specs.Int.{w32}
use Rattle.std.specs.Int.RustNames.{FitsSigned}
use Rattle.pp_prog.specs.declared.id.CtorId.{CtorId}
use Rattle.pp_prog.specs.declared.id.DataId.{DataId}
use Rattle.pp_prog.specs.declared.sort.Sort.{Sort}
use Rattle.pp_prog.specs.declared.sort.Sort.TheVariants as sort
use Rattle.pp_prog.specs.declared.value.Value.{Value}
use Rattle.pp_prog.specs.declared.value.Value.TheVariants as value
use Rattle.pp_prog.specs.Sizes.{by_sort}
use Rattle.pp_clause.specs.Literal.{Literal, lit_value}
use Rattle.pp_gate.specs.declared.gate.Gate.{Gate}
use Rattle.pp_gate.specs.Circuit.{Gives, IsOf}
use Rattle.pp_gate.specs.Laws.{AgreeUpTo}
use Rattle.pp_domain.specs.declared.symbol.Symbol.{Symbol}
use Rattle.pp_domain.specs.Naming.{Naming, HasCtor}
use Rattle.pp_domain.specs.Short.{IsShort}
use Rattle.pp_named_trees.specs.declared.arena.Alternative.{Alternative}
use Rattle.pp_named_trees.specs.declared.arena.NamedTree.{NamedTree}
use Rattle.pp_named_trees.specs.Arena.{IsBlank}
use Rattle.pp_named_trees.specs.Parts.{PartFits, PartsFit}
use Rattle.pp_named_trees.specs.Holding.{AlternativesHold, SymbolHolds, SymbolsHold}

-- a number of the value that is short enough for a name
pub record HasShortNumber (low : ℕ) (n : Naming) (d : DataId) (v : Value) : Type 0 where
  pub number : ℕ
  pub is : n d number ≡ Some v
  pub short : IsShort low number

-- a symbol of this sort can hold the value
abbrev pub CanHold : ℕ → Naming → Sort → Value → Type 0
CanHold low n sort.Int v = (z : ℤ) × (v ≡ value.Int z) × FitsSigned w32 z
CanHold low n sort.Bool v = (b : Bool) × (v ≡ value.Bool b)
CanHold low n (sort.Tree d) v = HasShortNumber low n d v

pub record ChosenSymbol (gs hs : List Gate) (lit : Literal) (a : ℕ → Bool) (n : Naming) (x : Symbol NamedTree)
    (v : Value) : Type 0 where
  pub next : ℕ → Bool
  pub gives : Gives next hs
  pub keeps : AgreeUpTo (length gs) a next
  pub holds : lit_value a lit ≡ true → SymbolHolds next n x v

pub record IsGuarded (gs hs : List Gate) (low : ℕ) (lit : Literal) (s : Sort) (x : Symbol NamedTree) : Type 0 where
  pub fits : PartFits hs s x
  pub blank : (a : ℕ → Bool) → Gives a hs → lit_value a lit ≡ false → IsBlank a x
  pub chosen : (a : ℕ → Bool) (n : Naming) (v : Value) → Gives a gs → CanHold low n s v → ChosenSymbol gs hs lit a n x v

-- the gates and inputs of a field
abbrev pub part_gates : Sort → ℕ
part_gates s = by_sort 64 2 (λ d. 64) s

abbrev pub CanHolds : ℕ → Naming → List Sort → List Value → Type 0
CanHolds low n [] [] = Unit {0}
CanHolds low n (s ∷ ss) (v ∷ vs) = CanHold low n s v × CanHolds low n ss vs
CanHolds low n _ _ = ⊥

pub record ChosenSymbols (gs hs : List Gate) (lit : Literal) (a : ℕ → Bool) (n : Naming) (xs : List (Symbol NamedTree))
    (vs : List Value) : Type 0 where
  pub next : ℕ → Bool
  pub gives : Gives next hs
  pub keeps : AgreeUpTo (length gs) a next
  pub holds : lit_value a lit ≡ true → SymbolsHold next n xs vs

pub record AreGuarded (gs hs : List Gate) (low : ℕ) (lit : Literal) (ss : List Sort) (xs : List (Symbol NamedTree)) :
    Type 0 where
  pub fits : PartsFit hs ss xs
  pub blank : (a : ℕ → Bool) → Gives a hs → lit_value a lit ≡ false → All (IsBlank a) xs
  pub chosen : (a : ℕ → Bool) (n : Naming) (vs : List Value) → Gives a gs → CanHolds low n ss vs
      → ChosenSymbols gs hs lit a n xs vs

-- the gates and inputs of fields of these sorts
abbrev pub parts_gates : List Sort → ℕ
parts_gates [] = 0
parts_gates (s ∷ ss) = part_gates s + parts_gates ss

-- the literal and the value go together: it is true where the value has the constructor, whose fields can then be held,
-- and false where it has another one
pub record GoesWith (low : ℕ) (a : ℕ → Bool) (n : Naming) (v : Value) (c : CtorId) (ss : List Sort) (l : Literal)
    : Type 0 where
  pub own : (vs : List Value) → v ≡ value.Tree c vs → (lit_value a l ≡ true) × CanHolds low n ss vs
  pub other : (HasCtor c v → ⊥) → lit_value a l ≡ false
  pub either : (HasCtor c v) ⊎ (HasCtor c v → ⊥)

-- the alternative, with fields of these sorts that came in
pub record PartFitsAt (gs : List Gate) (c : CtorId) (ss : List Sort) (x : Alternative) : Type 0 where
  pub ctor : x.ctor ≡ c
  pub lit : IsOf gs x.lit
  pub fields : PartsFit gs ss x.fields
  pub blank : (a : ℕ → Bool) → Gives a gs → lit_value a x.lit ≡ false → All (IsBlank a) x.fields

pub record ChosenContents (gs hs : List Gate) (a : ℕ → Bool) (n : Naming) (v : Value) (xs : List Alternative) : Type 0
  where
    pub next : ℕ → Bool
    pub gives : Gives next hs
    pub keeps : AgreeUpTo (length gs) a next
    pub holds : AlternativesHold next n v xs

-- alternatives of constructors `ctor j` with fields of sorts `sorts j`, which can hold each value that goes with their
-- literals
pub record AreContents (gs hs : List Gate) (low : ℕ) (ctor : ℕ → CtorId) (sorts : ℕ → List Sort)
    (xs : List Alternative) : Type 0
  where
    pub each : (j : ℕ) (x : Alternative) → slice_get xs j ≡ Some x → PartFitsAt hs (ctor j) (sorts j) x
    pub lits : (j : ℕ) (x : Alternative) → slice_get xs j ≡ Some x → IsOf gs x.lit
    pub chosen : (a : ℕ → Bool) (n : Naming) (v : Value) → Gives a gs
        → ((j : ℕ) (x : Alternative) → slice_get xs j ≡ Some x → GoesWith low a n v (ctor j) (sorts j) x.lit)
        → ChosenContents gs hs a n v xs
