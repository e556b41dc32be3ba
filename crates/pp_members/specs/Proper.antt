-- Which instances are proper. Source: own.
use Rattle.std.specs.Prelude.{◌≡◌, ℕ, List, Some, length, slice_get}
use Rattle.pp_instances.specs.Uses.{function_at, root_at}
use Rattle.pp_instances.specs.declared.member.Member.{Member}
use Rattle.pp_typed.specs.InRange.{AreInRange}
use Rattle.pp_typed.specs.declared.sort.GenericSort.{GenericSort}
use Rattle.pp_typed.specs.declared.typed.Typed.{Typed}
use Rattle.pp_typed.specs.declared.typed.TypedDef.{TypedDef}
use Rattle.pp_typed.specs.declared.typed.TypedRoot.{TypedRoot}

-- the instance is one of a declaration, at as many sorts as that has type parameters; the sorts have no parameters
pub data IsProper (typed : Typed) : Member → Type 0 where
  of_function : {m : Member} (f : ℕ) (d : TypedDef) (args : List GenericSort) → m ≡ function_at f args
      → slice_get typed.defs f ≡ Some d → length args ≡ d.type_params → AreInRange typed.roots 0 args → IsProper typed m
  of_root : {m : Member} (r : ℕ) (root : TypedRoot) (args : List GenericSort) → m ≡ root_at r args
      → slice_get typed.roots r ≡ Some root → length args ≡ root.type_params → AreInRange typed.roots 0 args
      → IsProper typed m
