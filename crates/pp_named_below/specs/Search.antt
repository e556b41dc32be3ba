-- A search for a tree below another: what each step does to the list of trees and to the circuit. (own; breadth-first
-- search)
use Rattle.std.specs.Prelude.{◌≡◌, ◌↔◌, ◌⊎◌, ℕ, ◌+◌, ◌-◌, ◌*◌, ◌≤◌, ◌&&◌, Bool, true, false, List, [], ◌∷◌, ◌++◌}
use Rattle.std.specs.Prelude.{Some, length, slice_get}
use Rattle.pp_clause.specs.Literal.{Literal, lit_value}
use Rattle.pp_gate.specs.declared.gate.Gate.{Gate}
use Rattle.pp_gate.specs.Circuit.{Gives, IsOf, StandsFor}
use Rattle.pp_gate.specs.Growth.{AddsGates}
use Rattle.pp_bits.specs.Number.{nat_of}
use Rattle.pp_named_trees.specs.declared.arena.NamedTree.{NamedTree}
use Rattle.pp_named_trees.specs.Arena.{IsName}
use Rattle.pp_named_below.specs.declared.fields.TreeField.{TreeField}
use Rattle.pp_named_below.specs.declared.search.Search.{Search}
use Rattle.pp_named_below.specs.declared.search.TheConstants.{FIELD_GATES}
use Rattle.pp_named_below.specs.declared.search.Visit.{Visit}

-- the field's tree has a name of the circuit, and its literal is of the circuit
pub record IsTreeField (gs : List Gate) (f : TreeField) : Type 0 where
  pub lit : IsOf gs f.lit
  pub name : IsName gs f.tree.name

abbrev pub HaveNames : List Gate → List TreeField → Type 0
HaveNames gs fs = (k : ℕ) (f : TreeField) → slice_get fs k ≡ Some f → IsTreeField gs f

-- the two trees are of one datatype and have one name
pub record IsSame (a : ℕ → Bool) (new t : NamedTree) : Type 0 where
  pub of : t.of.0 ≡ new.of.0
  pub name : nat_of a t.name ≡ nat_of a new.name

-- true where this literal is, and where the path is true and the tree is the same as the new one
pub record IsSameOr (hs : List Gate) (new t : NamedTree) (path any l : Literal) : Type 0 where
  pub of : IsOf hs l
  pub means : (a : ℕ → Bool) → Gives a hs
      → (lit_value a l ≡ true) ↔ ((lit_value a any ≡ true) ⊎ ((lit_value a path ≡ true) × IsSame a new t))

-- as many gates came in as the fields may add that were taken up
pub record Spends (gs hs : List Gate) (s t : Search) : Type 0 where
  pub left : t.left ≤ s.left
  pub adds : AddsGates gs hs (FIELD_GATES * (s.left - t.left))

-- the tree on the list is the field's, and its path goes on from `path` by the field's constructor
pub record IsStep (hs : List Gate) (path : Literal) (f : TreeField) (x : Visit) : Type 0 where
  pub tree : x.tree ≡ f.tree
  pub reaches : StandsFor hs x.path (λ a. lit_value a path && lit_value a f.lit)

-- a field, of a tree with this path, was left out, since no field was left to be taken up or its literal is never true;
-- or it was taken up: compared with the new tree, and put on the list
pub data IsTaken (hs : List Gate) (new : NamedTree) (path : Literal) (f : TreeField) (s t : Search) : Type 0 where
  none_left : s.left ≡ 0 → t ≡ s → IsTaken hs new path f s t
  never_there : StandsFor hs f.lit (λ a. false) → t ≡ s → IsTaken hs new path f s t
  taken_up : (x : Visit) → IsStep hs path f x → t.visits ≡ s.visits ++ x ∷ []
      → IsSameOr hs new f.tree x.path s.any t.any → t.left + 1 ≡ s.left → IsTaken hs new path f s t

-- the path and the literal of one of the fields are true, and that field is the same tree as the new one
pub record IsAmong (a : ℕ → Bool) (new : NamedTree) (path : Literal) (fs : List TreeField) : Type 0 where
  pub place : ℕ
  pub field : TreeField
  pub at : slice_get fs place ≡ Some field
  pub path_on : lit_value a path ≡ true
  pub lit_on : lit_value a field.lit ≡ true
  pub same : IsSame a new field.tree

-- the tree on the list is one of the fields
pub record IsNext (hs : List Gate) (path : Literal) (fs : List TreeField) (x : Visit) : Type 0 where
  pub place : ℕ
  pub field : TreeField
  pub at : slice_get fs place ≡ Some field
  pub step : IsStep hs path field x

-- fields of a tree with this path were taken up: what came onto the list are some of them, one for each that is no
-- longer left, and the literal is true only where it was, or where one of them is the same tree as the new one
pub record AreTaken (hs : List Gate) (new : NamedTree) (path : Literal) (fs : List TreeField) (s t : Search) : Type 0
  where
    pub count : t.left + length t.visits ≡ s.left + length s.visits
    pub of : IsOf hs t.any
    pub found : (a : ℕ → Bool) → Gives a hs → lit_value a t.any ≡ true
        → (lit_value a s.any ≡ true) ⊎ IsAmong a new path fs
    pub visits : (i : ℕ) (x : Visit) → slice_get t.visits i ≡ Some x
        → (slice_get s.visits i ≡ Some x) ⊎ IsNext hs path fs x

-- a search after so many looks, with this tree alone on the list: nothing was found, and the fields that may be taken
-- up add at most as many gates as a comparison may
pub record IsStart (gs : List Gate) (looks : ℕ) (old : NamedTree) (s : Search) : Type 0 where
  pub path : Literal
  pub path_on : StandsFor gs path (λ a. true)
  pub visits : s.visits ≡ record { tree = old; path = path } ∷ []
  pub any : StandsFor gs s.any (λ a. false)
  pub left : FIELD_GATES * s.left ≤ 192 + 128 * looks
