-- Tests of sameness: of fields, of contents, and whether two trees that were looked at agree. (own)
use Rattle.std.specs.Prelude.{◌≡◌, ◌↔◌, ℕ, ◌+◌, nat_eq, if◌then◌else◌, Bool, true, List, [], ◌∷◌, length, Some}
use Rattle.std.specs.Prelude.{slice_get}
use Rattle.pp_prog.specs.declared.sort.Sort.{Sort}
use Rattle.pp_clause.specs.Literal.{Literal, lit_value}
use Rattle.pp_gate.specs.declared.gate.Gate.{Gate}
use Rattle.pp_gate.specs.Circuit.{Gives, IsOf}
use Rattle.pp_domain.specs.declared.symbol.Symbol.{Symbol}
use Rattle.pp_domain.specs.declared.symbol.Symbol.TheVariants as symbol
use Rattle.pp_bounded_trees.specs.Possible.{total}
use Rattle.pp_named_trees.specs.declared.arena.Alternative.{Alternative}
use Rattle.pp_named_trees.specs.declared.arena.Expansion.{Expansion}
use Rattle.pp_named_trees.specs.declared.arena.NamedTree.{NamedTree}
use Rattle.pp_named_trees.specs.Arena.{IsName}
use Rattle.pp_named_trees.specs.Parts.{PartFits, PartsFit}
use Rattle.pp_named_trees.specs.Instances.{Agrees, SameAlternatives, SameSymbol, SameSymbols}

-- the gates of a comparison of two fields
abbrev pub same_gates : Symbol NamedTree → ℕ
same_gates (symbol.Word w) = 64
same_gates (symbol.Bit l) = 1
same_gates (symbol.Tree t) = 64

-- of all fields of two constructors, one after another
abbrev pub all_same_gates : List (Symbol NamedTree) → ℕ
all_same_gates [] = 0
all_same_gates (x ∷ xs) = same_gates x + 1 + all_same_gates xs

-- of the literals and fields of a constructor of two trees
abbrev pub ctor_same_gates : Alternative → ℕ
ctor_same_gates x = 2 + all_same_gates x.fields

-- of two contents
abbrev pub contents_same_gates : List Alternative → ℕ
contents_same_gates xs = total ctor_same_gates xs

-- of two names and contents, and whether both are the same or neither is
abbrev pub agreement_gates : Expansion → ℕ
agreement_gates y = 65 + contents_same_gates y.alternatives

-- of a tree with another one, if that is of its datatype
abbrev pub agreement_gates_if : Expansion → Expansion → ℕ
agreement_gates_if y z = if nat_eq z.of.0 y.of.0 then agreement_gates y + 1 else 0

-- with each of these that is
abbrev pub agreements_gates : Expansion → List Expansion → ℕ
agreements_gates y zs = total (agreement_gates_if y) zs

module _ (gs : List Gate) where
  -- two symbols of one sort
  pub record AreParts (x y : Symbol NamedTree) : Type 0 where
    pub sort : Sort
    pub first : PartFits gs sort x
    pub second : PartFits gs sort y

  -- two lists of symbols of the same sorts
  pub record AreAllParts (xs ys : List (Symbol NamedTree)) : Type 0 where
    pub sorts : List Sort
    pub first : PartsFit gs sorts xs
    pub second : PartsFit gs sorts ys

  -- one constructor of two trees
  pub record AreOfOneCtor (x y : Alternative) : Type 0 where
    pub first : IsOf gs x.lit
    pub second : IsOf gs y.lit
    pub fields : AreAllParts x.fields y.fields

  -- the contents of two trees of one datatype
  pub record AreOfOneData (xs ys : List Alternative) : Type 0 where
    pub many : length xs ≡ length ys
    pub each : (j : ℕ) (x y : Alternative) → slice_get xs j ≡ Some x → slice_get ys j ≡ Some y → AreOfOneCtor x y

  -- the second can be compared with the first
  pub record IsLookLike (y z : Expansion) : Type 0 where
    pub name : IsName gs z.name
    pub contents : AreOfOneData y.alternatives z.alternatives

  -- so can those of the list that are of the tree's datatype
  pub record AreLooks (y : Expansion) (zs : List Expansion) : Type 0 where
    pub own : IsName gs y.name
    pub each : (i : ℕ) (z : Expansion) → slice_get zs i ≡ Some z → z.of.0 ≡ y.of.0 → IsLookLike y z

module _ (hs : List Gate) where
  -- true where the two symbols have one number
  pub record IsSameTest (x y : Symbol NamedTree) (l : Literal) : Type 0 where
    pub of : IsOf hs l
    pub means : (a : ℕ → Bool) → Gives a hs → (lit_value a l ≡ true) ↔ SameSymbol a x y

  -- true where this literal is and the fields are the same
  pub record AreSameTest (both : Literal) (xs ys : List (Symbol NamedTree)) (l : Literal) : Type 0 where
    pub of : IsOf hs l
    pub means : (a : ℕ → Bool) → Gives a hs
        → (lit_value a l ≡ true) ↔ ((lit_value a both ≡ true) × SameSymbols a xs ys)

  -- true where this literal is, and the constructor's literals and fields are the same
  pub record IsCtorTest (both : Literal) (x y : Alternative) (l : Literal) : Type 0 where
    pub of : IsOf hs l
    pub means : (a : ℕ → Bool) → Gives a hs → (lit_value a l ≡ true)
        ↔ ((lit_value a both ≡ true) × (lit_value a x.lit ≡ lit_value a y.lit) × SameSymbols a x.fields y.fields)

  -- true where the contents are the same
  pub record IsContentsTest (xs ys : List Alternative) (l : Literal) : Type 0 where
    pub of : IsOf hs l
    pub means : (a : ℕ → Bool) → Gives a hs → (lit_value a l ≡ true) ↔ SameAlternatives a xs ys

  -- true where the two trees have one name exactly if they have one content
  pub record IsAgreement (y z : Expansion) (l : Literal) : Type 0 where
    pub of : IsOf hs l
    pub means : (a : ℕ → Bool) → Gives a hs → (lit_value a l ≡ true) ↔ Agrees a y z

  -- true where this literal is, and the two trees agree if they are of one datatype
  pub record IsAgreementIf (all : Literal) (y z : Expansion) (l : Literal) : Type 0 where
    pub of : IsOf hs l
    pub means : (a : ℕ → Bool) → Gives a hs
        → (lit_value a l ≡ true) ↔ ((lit_value a all ≡ true) × (z.of ≡ y.of → Agrees a y z))

-- the tree agrees with each of the list that is of its datatype
abbrev pub AgreesWith : (ℕ → Bool) → Expansion → List Expansion → Type 0
AgreesWith a y zs = (i : ℕ) (z : Expansion) → slice_get zs i ≡ Some z → z.of ≡ y.of → Agrees a y z

-- true where it does
pub record IsAgreementTest (hs : List Gate) (y : Expansion) (zs : List Expansion) (l : Literal) : Type 0 where
  pub of : IsOf hs l
  pub means : (a : ℕ → Bool) → Gives a hs → (lit_value a l ≡ true) ↔ AgreesWith a y zs
