-- The groups of datatypes are worked out before the first look. (own)
use Rattle.std.specs.Prelude.{◌≡◌, ℕ, Bool, List}
use Rattle.pp_prog.specs.declared.types.TypeTable.{TypeTable}
use Rattle.pp_gate.specs.declared.gate.Gate.{Gate}
use Rattle.pp_domain.specs.Moves.{Moves}
use Rattle.pp_domain.specs.Naming.{Naming}
use Rattle.pp_domain.specs.Sense.{Good}
use Rattle.pp_named_trees.specs.declared.arena.NamedTrees.{NamedTrees}
use Rattle.pp_named_trees.specs.Meaning.{named_sense}

-- nothing but the groups changed, and a good assignment stays good
pub record IsTouched (types : TypeTable) (d : NamedTrees) (gs : List Gate) (e : NamedTrees) : Type 0 where
  pub moves : Moves named_sense types d gs e gs 0
  pub groups : List ℕ
  pub is : e ≡ record d { groups = groups }
  pub good : (n : Naming) (a : ℕ → Bool) → Good named_sense types d gs n a → Good named_sense types e gs n a
