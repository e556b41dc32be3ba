-- Written types where an expression stands. Source: own.
use Rattle.std.specs.Prelude.{List}
use Rattle.pp_fault.specs.Part.{Part}
use Rattle.pp_sorts.specs.IsSort.{IsSort, AreSorts}
use Rattle.pp_sorts.specs.SortOf.{sort_of, sorts_from}
use Rattle.pp_tree.specs.Plain.{TypeTree, TypeTrees}
use Rattle.pp_typed.specs.declared.sort.GenericSort.{GenericSort}
use Rattle.pp_rules.specs.Scope.{Env}

module _ (env : Env) where
  -- the sort of a written type, or the first fault in it
  abbrev pub written : TypeTree → Part GenericSort
  written = sort_of env.declared.roots env.type_params env.source

  -- these sorts, and then those of the written types
  abbrev pub written_from : List GenericSort → TypeTrees → Part (List GenericSort)
  written_from = sorts_from env.declared.roots env.type_params env.source

  -- the written type is this sort
  abbrev pub IsWritten : TypeTree → GenericSort → Type 0
  IsWritten = IsSort env.declared.roots env.type_params

  -- the written types are these sorts
  abbrev pub AreWritten : TypeTrees → List GenericSort → Type 0
  AreWritten = AreSorts env.declared.roots env.type_params
