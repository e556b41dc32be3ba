-- Tests of the order: each field of a tree, of the tree's group of datatypes and of the constructor that the tree has,
-- comes before the tree. (own)
use Rattle.std.specs.Prelude.{◌≡◌, ◌↔◌, ℕ, ◌+◌, ◌<◌, ◌^◌, nat_eq, if◌then◌else◌, Bool, true, List, [], ◌∷◌, Some}
use Rattle.std.specs.Prelude.{slice_get}
use Rattle.pp_prog.specs.declared.id.DataId.{DataId}
use Rattle.pp_clause.specs.Literal.{Literal, lit_value}
use Rattle.pp_gate.specs.declared.gate.Gate.{Gate}
use Rattle.pp_gate.specs.Circuit.{Gives, IsOf}
use Rattle.pp_bits.specs.Number.{nat_of}
use Rattle.pp_domain.specs.declared.symbol.Symbol.{Symbol}
use Rattle.pp_domain.specs.declared.symbol.Symbol.TheVariants as symbol
use Rattle.pp_bounded_trees.specs.Possible.{total}
use Rattle.pp_named_order.specs.Order.{OneGroup, place}
use Rattle.pp_named_trees.specs.declared.arena.Alternative.{Alternative}
use Rattle.pp_named_trees.specs.declared.arena.Expansion.{Expansion}
use Rattle.pp_named_trees.specs.declared.arena.Level.{Level}
use Rattle.pp_named_trees.specs.declared.arena.NamedTree.{NamedTree}
use Rattle.pp_named_trees.specs.Arena.{IsName}

-- the level of a datatype: the word that was made for it, and 2^31 where none was
abbrev pub level_value : (ℕ → Bool) → List Level → DataId → ℕ
level_value a [] d = 2 ^ 31
level_value a (z ∷ zs) d = if nat_eq z.of.0 d.0 then nat_of a z.word else level_value a zs d

-- a word for it
pub record IsLevelWord (gs : List Gate) (levels : List Level) (d : DataId) (w : List Literal) : Type 0 where
  pub name : IsName gs w
  pub value : (a : ℕ → Bool) → Gives a gs → nat_of a w ≡ level_value a levels d

-- literals of the place where the number of the name stands
pub record IsPlace (gs : List Gate) (levels : List Level) (d : DataId) (name p : List Literal) : Type 0 where
  pub digits : IsName gs p
  pub value : (a : ℕ → Bool) → Gives a gs → nat_of a p ≡ place (level_value a levels d) (nat_of a name)

-- the words of the levels have 32 literals of the circuit
abbrev pub AreLevels : List Gate → List Level → Type 0
AreLevels gs levels = (i : ℕ) (z : Level) → slice_get levels i ≡ Some z → IsName gs z.word

-- the trees among the fields have names of the circuit
abbrev pub IsField : List Gate → Symbol NamedTree → Type 0
IsField gs (symbol.Word w) = Unit {0}
IsField gs (symbol.Bit l) = Unit {0}
IsField gs (symbol.Tree t) = IsName gs t.name

abbrev pub AreFields : List Gate → List (Symbol NamedTree) → Type 0
AreFields gs xs = (p : ℕ) (x : Symbol NamedTree) → slice_get xs p ≡ Some x → IsField gs x

-- so do those of the constructors, whose literals are of the circuit
pub record AreCtors (gs : List Gate) (ys : List Alternative) : Type 0 where
  pub lits : (j : ℕ) (y : Alternative) → slice_get ys j ≡ Some y → IsOf gs y.lit
  pub fields : (j : ℕ) (y : Alternative) → slice_get ys j ≡ Some y → AreFields gs y.fields

-- the gates of the place of a tree, and of a field that is compared with it
abbrev pub place_gates : ℕ
place_gates = 96

abbrev pub before_gates : Symbol NamedTree → ℕ
before_gates (symbol.Word w) = 0
before_gates (symbol.Bit l) = 0
before_gates (symbol.Tree t) = 130

abbrev pub fields_before_gates : Alternative → ℕ
fields_before_gates x = total before_gates x.fields

abbrev pub order_gates : Expansion → ℕ
order_gates y = place_gates + total fields_before_gates y.alternatives

module _ (a : ℕ → Bool) (groups : List ℕ) (levels : List Level) (d : DataId) (tree : ℕ) where
  -- the field stands before the place of the tree, if the literal is true
  abbrev pub IsBefore : Literal → Symbol NamedTree → Type 0
  IsBefore lit (symbol.Word w) = Unit {0}
  IsBefore lit (symbol.Bit l) = Unit {0}
  IsBefore lit (symbol.Tree t) =
      OneGroup groups d t.of → lit_value a lit ≡ true → place (level_value a levels t.of) (nat_of a t.name) < tree

  -- so does each field of the list
  abbrev pub AreBefore : Literal → List (Symbol NamedTree) → Type 0
  AreBefore lit xs = (p : ℕ) (x : Symbol NamedTree) → slice_get xs p ≡ Some x → IsBefore lit x

  -- and each field of the constructors, where their literals are true
  abbrev pub AllBefore : List Alternative → Type 0
  AllBefore ys = (j : ℕ) (y : Alternative) → slice_get ys j ≡ Some y → AreBefore y.lit y.fields

module _ (hs : List Gate) (groups : List ℕ) (levels : List Level) (d : DataId) (tree : List Literal) where
  -- true where this literal is and the field comes before the tree
  pub record IsBeforeTest (all : Literal) (lit : Literal) (x : Symbol NamedTree) (l : Literal) : Type 0 where
    pub of : IsOf hs l
    pub means : (a : ℕ → Bool) → Gives a hs → (lit_value a l ≡ true)
        ↔ ((lit_value a all ≡ true) × IsBefore a groups levels d (nat_of a tree) lit x)

  pub record AreBeforeTest (all : Literal) (lit : Literal) (xs : List (Symbol NamedTree)) (l : Literal) : Type 0 where
    pub of : IsOf hs l
    pub means : (a : ℕ → Bool) → Gives a hs → (lit_value a l ≡ true)
        ↔ ((lit_value a all ≡ true) × AreBefore a groups levels d (nat_of a tree) lit xs)

  pub record AllBeforeTest (ys : List Alternative) (l : Literal) : Type 0 where
    pub of : IsOf hs l
    pub means : (a : ℕ → Bool) → Gives a hs → (lit_value a l ≡ true)
        ↔ AllBefore a groups levels d (nat_of a tree) ys

-- true where the tree comes after its fields
pub record IsOrderTest (hs : List Gate) (groups : List ℕ) (levels : List Level) (y : Expansion) (l : Literal) : Type 0
  where
    pub of : IsOf hs l
    pub means : (a : ℕ → Bool) → Gives a hs → (lit_value a l ≡ true)
        ↔ AllBefore a groups levels y.of (place (level_value a levels y.of) (nat_of a y.name)) y.alternatives
