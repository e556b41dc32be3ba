-- What every call of a domain leaves, also where it ends in want of memory. (own)
use Rattle.std.specs.Prelude.{◌≡◌, ◌↔◌, ◌⊎◌, ◌≤◌, ℕ, ◌+◌, Bool, false, List, ◌∷◌, length}
use Rattle.pp_prog.specs.declared.id.DataId.{DataId}
use Rattle.pp_prog.specs.declared.types.TypeTable.{TypeTable}
use Rattle.pp_prog.specs.declared.value.Value.{Value}
use Rattle.pp_gate.specs.declared.gate.Gate.{Gate}
use Rattle.pp_gate.specs.Circuit.{IsInput}
use Rattle.pp_gate.specs.Growth.{Grows}
use Rattle.pp_gate.specs.Laws.{AgreeUpTo}
use Rattle.pp_domain.specs.Naming.{Naming}
use Rattle.pp_domain.specs.Sense.{Sense, Good}

module _ {D T : Type 0} (m : Sense D T) where
  -- the tree is kept, with its datatype and its height, and stays expanded
  pub record KeepsNode (d e : D) (t : T) : Type 0 where
    pub node : m.Node e t
    pub data_of : m.data_of e t ≡ m.data_of d t
    pub height : m.height e t ≡ m.height d t
    pub expanded : m.Expanded d t → m.Expanded e t

  -- the old gates stay and at most so many come after them; what stands fits; old trees are kept and stand for what
  -- they stood for; and an assignment that is good now was good before
  pub record Moves (types : TypeTable) (d : D) (gs : List Gate) (e : D) (hs : List Gate) (most : ℕ) : Type 0 where
    pub grows : Grows gs hs most
    pub fits : m.Fits types e hs
    pub nodes : (t : T) → m.Node d t → KeepsNode d e t
    pub stands : (n : Naming) (a b : ℕ → Bool) (t : T) (v : Value) → m.Node d t → AgreeUpTo (length gs) a b
        → m.Stands d a n t v ↔ m.Stands e b n t v
    pub back : (n : Naming) (a : ℕ → Bool) → Good m types e hs n a → Good m types d gs n a

  -- no input came in, and no condition; in an exact domain each call but `unknown` leaves that
  pub record Steady (d : D) (gs : List Gate) (e : D) (hs : List Gate) : Type 0 where
    pub ok : m.ok e ≡ m.ok d
    pub inputs : (x : ℕ) → IsInput hs x → IsInput gs x

  -- no tree was expanded
  pub record SameLooks (d e : D) : Type 0 where
    pub looks : m.looks e ≡ m.looks d
    pub compares : m.compares e ≡ m.compares d

  -- no tree was expanded, and at most one comparison more is counted
  pub record OneComparison (d e : D) : Type 0 where
    pub looks : m.looks e ≡ m.looks d
    pub compares : m.compares e ≤ 1 + m.compares d

  -- a tree of this datatype was expanded for the first time
  pub record FirstLook (d e : D) (t : T) (of : DataId) : Type 0 where
    pub inexact : m.exact ≡ false
    pub before : m.Expanded d t → ⊥
    pub looks : m.looks e ≡ of ∷ m.looks d
    pub compares : m.compares e ≡ m.compares d

  -- the tree, of this datatype, is expanded: for the first time, or the call added nothing
  pub record LooksAt (d : D) (gs : List Gate) (e : D) (hs : List Gate) (t : T) (of : DataId) : Type 0 where
    pub expanded : m.Expanded e t
    pub once : (SameLooks d e × (hs ≡ gs)) ⊎ FirstLook d e t of
