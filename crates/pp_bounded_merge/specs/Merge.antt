-- Symbols, fields and constructors that are chosen from two sides, and the gates that the choice adds. (own)
use Rattle.std.specs.Prelude.{◌≡◌, ℕ, zero, suc, ◌+◌, ◌≤◌, ◌<◌, max, Bool, false, if◌then◌else◌, List, [], ◌∷◌, Option}
use Rattle.std.specs.Prelude.{Some, None, length, slice_get}
use Rattle.pp_prog.specs.declared.id.CtorId.{CtorId}
use Rattle.pp_prog.specs.declared.id.DataId.{DataId}
use Rattle.pp_prog.specs.declared.sort.Sort.{Sort}
use Rattle.pp_prog.specs.declared.sort.Sort.TheVariants as sort
use Rattle.pp_prog.specs.declared.types.Ctor.{Ctor}
use Rattle.pp_prog.specs.declared.types.TypeTable.{TypeTable}
use Rattle.pp_prog.specs.declared.value.Value.{Value}
use Rattle.pp_prog.specs.Sizes.{bits}
use Rattle.pp_clause.specs.Literal.{Literal, lit_value}
use Rattle.pp_gate.specs.declared.gate.Gate.{Gate}
use Rattle.pp_gate.specs.Circuit.{Gives, StandsFor}
use Rattle.pp_domain.specs.declared.symbol.Symbol.{Symbol}
use Rattle.pp_domain.specs.declared.symbol.Symbol.TheVariants as symbol
use Rattle.pp_domain.specs.Moves.{Moves, Steady}
use Rattle.pp_domain.specs.Symbols.{AreSymbols, IsSymbol}
use Rattle.pp_bounded_trees.specs.declared.arena.Alternative.{Alternative}
use Rattle.pp_bounded_trees.specs.declared.arena.Trees.{Trees}
use Rattle.pp_bounded_trees.specs.declared.arena.BoundedTree.{BoundedTree}
use Rattle.pp_bounded_trees.specs.Alternatives.{found}
use Rattle.pp_bounded_trees.specs.Arena.{AlternativeFits, height_of}
use Rattle.pp_bounded_trees.specs.Meaning.{bounded_sense}
use Rattle.pp_bounded_trees.specs.Values.{field_values, symbol_value, values_of}

-- what a call leaves that adds gates and nodes: no input came in, and no condition
pub record Adds (types : TypeTable) (d : Trees) (gs : List Gate) (e : Trees) (hs : List Gate) (n : ℕ) : Type 0 where
  pub moves : Moves bounded_sense types d gs e hs n
  pub steady : Steady bounded_sense d gs e hs

-- the gates of a choice: of two symbols, of two lists of them, of one constructor, and of the n constructors from the
-- first on
abbrev pub pair_bits : TypeTable → Symbol BoundedTree → Symbol BoundedTree → ℕ
pair_bits types (symbol.Word v) (symbol.Word w) = 32
pair_bits types (symbol.Bit l) (symbol.Bit m) = 1
pair_bits types (symbol.Tree t) (symbol.Tree u) = bits types (max t.height u.height) (sort.Tree t.of)
pair_bits types _ _ = 0

abbrev pub pairs_bits : TypeTable → List (Symbol BoundedTree) → List (Symbol BoundedTree) → ℕ
pairs_bits types [] ys = 0
pairs_bits types (x ∷ xs) [] = 0
pairs_bits types (x ∷ xs) (y ∷ ys) = pair_bits types x y + pairs_bits types xs ys

abbrev pub joined_bits : TypeTable → Option Alternative → Option Alternative → ℕ
joined_bits types None None = 0
joined_bits types None (Some y) = 1
joined_bits types (Some x) None = 1
joined_bits types (Some x) (Some y) = 1 + pairs_bits types x.fields y.fields

abbrev pub merged_bits : TypeTable → List Alternative → List Alternative → ℕ → ℕ → ℕ
merged_bits types xs ys first zero = 0
merged_bits types xs ys first (suc n) =
    merged_bits types xs ys first n + joined_bits types (found (first + n) xs) (found (first + n) ys)

-- each symbol is at most this high
abbrev pub AreLow : ℕ → List (Symbol BoundedTree) → Type 0
AreLow h xs = (j : ℕ) (x : Symbol BoundedTree) → slice_get xs j ≡ Some x → height_of x ≤ h

-- whether the constructor is there and its literal is true
abbrev pub is_true : (ℕ → Bool) → Option Alternative → Bool
is_true a None = false
is_true a (Some y) = lit_value a y.lit

-- the symbol has the value of the left one where the choice is true, and else that of the right one
pub record IsChosen (e : Trees) (hs : List Gate) (choice : Literal) (s : Sort) (x y r : Symbol BoundedTree) : Type 0
  where
    pub of : IsSymbol bounded_sense e hs s r
    pub height : height_of r ≡ max (height_of x) (height_of y)
    pub means : (a : ℕ → Bool) (b : Bool) (v : Value) → Gives a hs → lit_value a choice ≡ b
        → symbol_value a (values_of a e.nodes) (if b then x else y) ≡ Some v
        → symbol_value a (values_of a e.nodes) r ≡ Some v

-- so have the symbols
pub record AreChosen (e : Trees) (hs : List Gate) (choice : Literal) (ss : List Sort)
    (xs ys rs : List (Symbol BoundedTree)) : Type 0 where
  pub of : AreSymbols bounded_sense e hs ss rs
  pub heights : (h : ℕ) → AreLow h xs → AreLow h ys → AreLow h rs
  pub means : (a : ℕ → Bool) (b : Bool) (vs : List Value) → Gives a hs → lit_value a choice ≡ b
      → field_values a (values_of a e.nodes) (if b then xs else ys) ≡ Some vs
      → field_values a (values_of a e.nodes) rs ≡ Some vs

-- constructors of the datatype whose fields are lower than h
abbrev pub AreAlternatives : TypeTable → Trees → List Gate → DataId → ℕ → List Alternative → Type 0
AreAlternatives types d gs of h xs = (j : ℕ) (y : Alternative) → slice_get xs j ≡ Some y
    → AlternativeFits gs d.nodes types (length d.nodes) of h y

-- the constructors of one datatype
pub record OneSide (types : TypeTable) (d : Trees) (gs : List Gate) (xs : List Alternative) : Type 0 where
  pub of : DataId
  pub h : ℕ
  pub all : AreAlternatives types d gs of (suc h) xs

-- the two lists are of one datatype and height
pub record TwoSides (types : TypeTable) (d : Trees) (gs : List Gate) (xs ys : List Alternative) : Type 0 where
  pub of : DataId
  pub h : ℕ
  pub left : AreAlternatives types d gs of (suc h) xs
  pub right : AreAlternatives types d gs of (suc h) ys

-- the two lists of symbols are of the same sorts
pub record AreOfSorts (d : Trees) (gs : List Gate) (xs ys : List (Symbol BoundedTree)) : Type 0 where
  pub sorts : List Sort
  pub left : AreSymbols bounded_sense d gs sorts xs
  pub right : AreSymbols bounded_sense d gs sorts ys

-- the constructor that one side has or both have: its literal is that of the chosen side, and so are its fields
pub record IsMerged (types : TypeTable) (e : Trees) (hs : List Gate) (choice : Literal) (of : DataId) (h : ℕ)
    (xs ys : List Alternative) (z : Alternative) : Type 0 where
  pub lit : StandsFor hs z.lit (λ a. if lit_value a choice then is_true a (found z.ctor.0 xs)
      else is_true a (found z.ctor.0 ys))
  pub entry : Ctor
  pub at : slice_get types.ctors z.ctor.0 ≡ Some entry
  pub data_of : entry.of ≡ of
  pub symbols : AreSymbols bounded_sense e hs entry.fields z.fields
  pub low : AreLow h z.fields
  pub sides : (b : Bool) (y : Alternative) → found z.ctor.0 (if b then xs else ys) ≡ Some y
      → AreSymbols bounded_sense e hs entry.fields y.fields
  pub means : (a : ℕ → Bool) (b : Bool) (y : Alternative) (vs : List Value) → Gives a hs → lit_value a choice ≡ b
      → found z.ctor.0 (if b then xs else ys) ≡ Some y → field_values a (values_of a e.nodes) y.fields ≡ Some vs
      → field_values a (values_of a e.nodes) z.fields ≡ Some vs

-- the constructor of this number, or neither side has it
pub record IsMergedCtor (types : TypeTable) (e : Trees) (hs : List Gate) (choice : Literal) (of : DataId) (h : ℕ)
    (xs ys : List Alternative) (c : CtorId) (o : Option Alternative) : Type 0 where
  pub absent : o ≡ None → (found c.0 xs ≡ None) × (found c.0 ys ≡ None)
  pub there : (z : Alternative) → o ≡ Some z → (z.ctor ≡ c) × IsMerged types e hs choice of h xs ys z

-- those of the first i constructors that one side has, in order of their numbers
pub record MergedBefore (types : TypeTable) (e : Trees) (hs : List Gate) (choice : Literal) (of : DataId) (h : ℕ)
    (xs ys : List Alternative) (first i : ℕ) (zs : List Alternative) : Type 0 where
  pub each : (j : ℕ) (z : Alternative) → slice_get zs j ≡ Some z → IsMerged types e hs choice of h xs ys z
  pub low : (j : ℕ) (z : Alternative) → slice_get zs j ≡ Some z → z.ctor.0 < first + i
  pub order : (m j : ℕ) (y z : Alternative) → m < j → slice_get zs m ≡ Some y → slice_get zs j ≡ Some z
      → y.ctor.0 < z.ctor.0
  pub all : (b : Bool) (c j : ℕ) (y : Alternative) → j < i → c ≡ first + j
      → found c (if b then xs else ys) ≡ Some y → (p : ℕ) × (z : Alternative) × (slice_get zs p ≡ Some z)
      × (z.ctor.0 ≡ c)
