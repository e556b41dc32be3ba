-- Which arenas fit a table and a circuit: what a node may hold, and which trees name it. (own)
use Rattle.std.specs.Prelude.{◌≡◌, ◌⊎◌, ℕ, ◌+◌, ◌<◌, ◌≤◌, ◌^◌, Bool, List, [], ◌∷◌, All, length, Some, slice_get}
use Rattle.pp_prog.specs.declared.id.DataId.{DataId}
use Rattle.pp_prog.specs.declared.sort.Sort.{Sort}
use Rattle.pp_prog.specs.declared.sort.Sort.TheVariants as sort
use Rattle.pp_prog.specs.declared.types.Ctor.{Ctor}
use Rattle.pp_prog.specs.declared.types.TypeTable.{TypeTable}
use Rattle.pp_gate.specs.declared.gate.Gate.{Gate}
use Rattle.pp_gate.specs.Circuit.{Gives, IsOf}
use Rattle.pp_bits.specs.Number.{lit_bit}
use Rattle.pp_domain.specs.declared.symbol.Symbol.{Symbol}
use Rattle.pp_domain.specs.declared.symbol.Symbol.TheVariants as symbol
use Rattle.pp_bounded_trees.specs.declared.arena.Alternative.{Alternative}
use Rattle.pp_bounded_trees.specs.declared.arena.BoundedTree.{BoundedTree}
use Rattle.pp_bounded_trees.specs.declared.arena.Node.{Node}

-- the height of a symbol: that of its tree, and 0 of a word and a literal
abbrev pub height_of : Symbol BoundedTree → ℕ
height_of (symbol.Word w) = 0
height_of (symbol.Bit l) = 0
height_of (symbol.Tree t) = t.height

-- how many of the literals are true
abbrev pub true_among : (ℕ → Bool) → List Alternative → ℕ
true_among a [] = 0
true_among a (x ∷ xs) = lit_bit a x.lit + true_among a xs

-- the tree names one of the first k nodes, which is of its datatype and no higher
pub record TreeFits (nodes : List Node) (k : ℕ) (t : BoundedTree) : Type 0 where
  pub node : Node
  pub at : slice_get nodes t.number ≡ Some node
  pub before : t.number < k
  pub data_of : node.of ≡ t.of
  pub height : node.height ≤ t.height
  pub most : t.height ≤ 2 ^ 32 + length nodes

module _ (gs : List Gate) (nodes : List Node) where
  -- the symbol is of the circuit, of this sort, and lower than h where it is a tree
  abbrev pub FieldFits : ℕ → ℕ → Sort → Symbol BoundedTree → Type 0
  FieldFits k h sort.Int (symbol.Word w) = (length w ≡ 32) × All (IsOf gs) w
  FieldFits k h sort.Bool (symbol.Bit l) = IsOf gs l
  FieldFits k h (sort.Tree of) (symbol.Tree t) = TreeFits nodes k t × (t.of ≡ of) × (t.height < h)
  FieldFits k h _ _ = ⊥

  abbrev pub FieldsFit : ℕ → ℕ → List Sort → List (Symbol BoundedTree) → Type 0
  FieldsFit k h [] [] = Unit {0}
  FieldsFit k h (s ∷ ss) (x ∷ xs) = FieldFits k h s x × FieldsFit k h ss xs
  FieldsFit k h _ _ = ⊥

  -- a constructor of the datatype, with a field of each of its sorts. Only a node of the height 0 has none
  pub record AlternativeFits (types : TypeTable) (k : ℕ) (of : DataId) (h : ℕ) (x : Alternative) : Type 0 where
    pub low : 1 ≤ h
    pub lit_of : IsOf gs x.lit
    pub entry : Ctor
    pub at : slice_get types.ctors x.ctor.0 ≡ Some entry
    pub data_of : entry.of ≡ of
    pub fields : FieldsFit k h entry.fields x.fields

  -- the k-th node: its constructors stand in order of their numbers, and exactly one literal is true, if there is one
  -- at all
  pub record NodeFits (types : TypeTable) (k : ℕ) (x : Node) : Type 0 where
    pub each : (j : ℕ) (y : Alternative) → slice_get x.alternatives j ≡ Some y → AlternativeFits types k x.of x.height y
    pub order : (i j : ℕ) (y z : Alternative) → i < j → slice_get x.alternatives i ≡ Some y
        → slice_get x.alternatives j ≡ Some z → y.ctor.0 < z.ctor.0
    pub one : (x.alternatives ≡ []) ⊎ ((a : ℕ → Bool) → Gives a gs → true_among a x.alternatives ≡ 1)

-- each node fits
pub record ArenaFits (types : TypeTable) (gs : List Gate) (nodes : List Node) : Type 0 where
  pub each : (k : ℕ) (x : Node) → slice_get nodes k ≡ Some x → NodeFits gs nodes types k x
