-- The constructors and fields of a tree that was looked at. (own)
use Rattle.std.specs.Prelude.{◌≡◌, ℕ, List, Some, slice_get}
use Rattle.pp_prog.specs.declared.id.CtorId.{CtorId}
use Rattle.pp_named_trees.specs.declared.arena.Alternative.{Alternative}
use Rattle.pp_named_trees.specs.declared.arena.Expansion.{Expansion}
use Rattle.pp_named_trees.specs.declared.arena.NamedTree.{NamedTree}

-- the constructor c of a tree that was looked at
pub record IsCtorIn (ys : List Expansion) (t : NamedTree) (c : CtorId) (x : Alternative) : Type 0 where
  pub number : ℕ
  pub expansion : Expansion
  pub at : slice_get ys number ≡ Some expansion
  pub of : expansion.of ≡ t.of
  pub name : expansion.name ≡ t.name
  pub place : ℕ
  pub to : slice_get expansion.alternatives place ≡ Some x
  pub ctor : x.ctor ≡ c
