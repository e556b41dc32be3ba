-- The printed names of instances: `name[T, U]`, with types printed as `Int`, `Boolean`, `List[Int]`. Source: own.
use Rattle.std.specs.Prelude.{ℕ, List, [], ◌∷◌, ◌++◌, map, Option, Some, None, slice_get}
use Rattle.pp_list.specs.Joined.{joined}
use Rattle.pp_instances.specs.declared.member.Decl.{Decl}
use Rattle.pp_instances.specs.declared.member.Decl.TheVariants.{Function, Root}
use Rattle.pp_instances.specs.declared.member.Member.{Member}
use Rattle.pp_typed.specs.WellSorted.{int_name, boolean_name}
use Rattle.pp_typed.specs.declared.sort.GenericSort.{GenericSort}
use Rattle.pp_typed.specs.declared.sort.GenericSort.TheFolds.{fold-GenericSort}
use Rattle.pp_typed.specs.declared.sort.GenericSort.TheOpen as layer
use Rattle.pp_typed.specs.declared.typed.Typed.{Typed}
use Rattle.pp_typed.specs.declared.typed.TypedDef.{TypedDef}
use Rattle.pp_typed.specs.declared.typed.TypedRoot.{TypedRoot}

-- a name after `, `
abbrev pub after_comma : List ℕ → List ℕ
after_comma name = 44 ∷ 32 ∷ name

-- names in brackets, with `, ` between them; nothing where there is none
abbrev pub bracketed : List (List ℕ) → List ℕ
bracketed [] = []
bracketed (name ∷ names) = (91 ∷ name) ++ (joined (map after_comma names) ++ 93 ∷ [])

abbrev pub root_name : Option TypedRoot → List ℕ
root_name None = []
root_name (Some root) = root.name

abbrev pub def_name : Option TypedDef → List ℕ
def_name None = []
def_name (Some d) = d.name

module _ (typed : Typed) where
  -- a type parameter has no printed name: no instance has one
  abbrev pub print_step : layer.GenericSort-F (List ℕ) → List ℕ
  print_step layer.Int = int_name
  print_step layer.Bool = boolean_name
  print_step (layer.Param i) = []
  print_step (layer.Root r parts) = root_name (slice_get typed.roots r) ++ bracketed parts

  -- the printed name of a sort
  abbrev pub printed_sort : GenericSort → List ℕ
  printed_sort = fold-GenericSort (List ℕ) print_step

  -- the printed name of a sort that isn't the first of a list
  abbrev pub printed_later : GenericSort → List ℕ
  printed_later s = after_comma (printed_sort s)

  abbrev pub decl_name : Decl → List ℕ
  decl_name (Function f) = def_name (slice_get typed.defs f)
  decl_name (Root r) = root_name (slice_get typed.roots r)

  -- the printed name of a member
  abbrev pub printed : Member → List ℕ
  printed m = decl_name m.of ++ bracketed (map printed_sort m.args)
