-- What a search for a tree below another knows: which values its trees stand for, and where its literal is true. (own)
use Rattle.std.specs.Prelude.{◌≡◌, ◌⊎◌, ℕ, Bool, true, List, Some, slice_get}
use Rattle.pp_prog.specs.declared.types.TypeTable.{TypeTable}
use Rattle.pp_prog.specs.declared.value.Value.{Value}
use Rattle.pp_prog.specs.Values.{IsBelow}
use Rattle.pp_clause.specs.Literal.{Literal, lit_value}
use Rattle.pp_gate.specs.declared.gate.Gate.{Gate}
use Rattle.pp_gate.specs.Circuit.{IsOf}
use Rattle.pp_bits.specs.Number.{nat_of}
use Rattle.pp_domain.specs.Naming.{Naming}
use Rattle.pp_domain.specs.Sense.{Good}
use Rattle.pp_named_trees.specs.declared.arena.NamedTree.{NamedTree}
use Rattle.pp_named_trees.specs.declared.arena.NamedTrees.{NamedTrees}
use Rattle.pp_named_trees.specs.Meaning.{named_sense}
use Rattle.pp_named_below.specs.declared.search.Search.{Search}
use Rattle.pp_named_below.specs.declared.search.Visit.{Visit}

-- the tree stands for w or for a proper subtree of it
pub record IsUnder (a : ℕ → Bool) (n : Naming) (t : NamedTree) (w : Value) : Type 0 where
  pub value : Value
  pub stands : n t.of (nat_of a t.name) ≡ Some value
  pub under : (value ≡ w) ⊎ IsBelow value w

-- the tree stands for a proper subtree of w
pub record LiesBelow (a : ℕ → Bool) (n : Naming) (t : NamedTree) (w : Value) : Type 0 where
  pub value : Value
  pub stands : n t.of (nat_of a t.name) ≡ Some value
  pub below : IsBelow value w

module _ (types : TypeTable) (d : NamedTrees) (hs : List Gate) where
  -- where its path is true, the tree stands for the value of the old tree or for a proper subtree of it
  pub record IsVisit (old : NamedTree) (x : Visit) : Type 0 where
    pub of : IsOf hs x.path
    pub under : (n : Naming) (a : ℕ → Bool) (w : Value) → Good named_sense types d hs n a
        → n old.of (nat_of a old.name) ≡ Some w → lit_value a x.path ≡ true → IsUnder a n x.tree w

  -- where the literal is true, the value of the new tree is a proper subtree of that of the old one
  pub record IsFound (new old : NamedTree) (l : Literal) : Type 0 where
    pub of : IsOf hs l
    pub sound : (n : Naming) (a : ℕ → Bool) (v w : Value) → Good named_sense types d hs n a
        → n new.of (nat_of a new.name) ≡ Some v → n old.of (nat_of a old.name) ≡ Some w → lit_value a l ≡ true
        → IsBelow v w

  -- so it is for the literal of the search and for each tree on its list
  pub record IsSearch (new old : NamedTree) (s : Search) : Type 0 where
    pub any : IsFound new old s.any
    pub visits : (i : ℕ) (x : Visit) → slice_get s.visits i ≡ Some x → IsVisit old x
