-- What a domain means, all in one record: which circuits fit it, what its trees are and which values they stand for.
-- (own)
use Rattle.std.specs.Prelude.{◌≡◌, ℕ, Bool, true, false, List, length}
use Rattle.pp_prog.specs.declared.id.DataId.{DataId}
use Rattle.pp_prog.specs.declared.types.TypeTable.{TypeTable}
use Rattle.pp_prog.specs.declared.value.Value.{Value}
use Rattle.pp_clause.specs.Literal.{Literal, lit_value}
use Rattle.pp_gate.specs.declared.gate.Gate.{Gate}
use Rattle.pp_gate.specs.Circuit.{Gives}
use Rattle.pp_gate.specs.Laws.{AgreeUpTo}
use Rattle.pp_domain.specs.Naming.{Naming}

-- the meanings of a domain D whose trees are named by T
pub record Sense (D T : Type 0) : Type 1 where
  -- whether a good assignment by itself tells what a tree stands for
  pub exact : Bool
  -- the circuit fits the domain
  pub Fits : TypeTable → D → List Gate → Type 0
  -- the domain keeps this tree, which has this datatype and this height
  pub Node : D → T → Type 0
  pub data_of : D → T → DataId
  pub height : D → T → ℕ
  -- the tree has its literals and fields from now on, so that a look at it adds nothing
  pub Expanded : D → T → Type 0
  -- the datatypes of the trees that were expanded, the last one first
  pub looks : D → List DataId
  -- how many comparisons by `below` are counted, to each of which a later look may add. No domain counts one: of
  -- bounded and of named trees it is 0, since their comparisons are whole when the call ends
  pub compares : D → ℕ
  -- true where all conditions hold that the domain has put on its inputs
  pub ok : D → Literal
  -- how many values names can tell apart: each list of fewer has a naming that the domain's names reach
  pub limit : D → ℕ
  -- each number of the naming can be that of a name
  pub Reaches : D → Naming → Type 0
  -- the naming is one of those that the domain works with
  pub Admits : TypeTable → Naming → Type 0
  -- the assignment fits the naming
  pub Matches : D → (ℕ → Bool) → Naming → Type 0
  -- under the assignment and the naming the tree stands for the value
  pub Stands : D → (ℕ → Bool) → Naming → T → Value → Type 0

module _ {D T : Type 0} (m : Sense D T) where
  -- an assignment that is good for an admitted naming: it gives each gate its value, makes `ok` true and fits the
  -- naming
  pub record Good (types : TypeTable) (d : D) (gs : List Gate) (n : Naming) (a : ℕ → Bool) : Type 0 where
    pub gates : Gives a gs
    pub ok : lit_value a (m.ok d) ≡ true
    pub matches : m.Matches d a n
    pub admitted : m.Admits types n

  -- a good assignment for the new domain and circuit, which agrees with `a` on the old variables
  pub record Extended (types : TypeTable) (gs : List Gate) (n : Naming) (a : ℕ → Bool) (e : D) (hs : List Gate)
      : Type 0 where
    pub next : ℕ → Bool
    pub agree : AgreeUpTo (length gs) a next
    pub good : Good types e hs n next

  -- what is asked of a domain that isn't exact alone
  abbrev pub Inexact : Type 0 → Type 0
  Inexact P = m.exact ≡ false → P
