-- The sort of a written type, or the first fault in it. Source: own.
use Rattle.std.specs.Prelude.{ℕ, nat_eq, if◌then◌else◌, List, [], ◌∷◌, ◌++◌, Option, Some, None, Ok}
use Rattle.pp_fault.specs.Part.{Part, and_then, fault}
use Rattle.pp_fault.specs.declared.Rule.TheVariants.{Unknown, Arity}
use Rattle.pp_names.specs.Places.{Word}
use Rattle.pp_sorts.specs.IsSort.{count, arity, sort_with, head_of}
use Rattle.pp_sorts.specs.declared.head.Head.{Head}
use Rattle.pp_tree.specs.Plain.{TypeTree, type_text, TypeTrees, no_types, more_types}
use Rattle.pp_typed.specs.declared.sort.GenericSort.{GenericSort}
use Rattle.pp_typed.specs.declared.typed.TypedRoot.{TypedRoot}

module _ (roots : List TypedRoot) (params : List Word) (source : ℕ) where
  -- the sort of a type at this offset with this name, which stands for this, with so many arguments, of these sorts
  abbrev pub applied : ℕ → Word → Option Head → ℕ → Part (List GenericSort) → Part GenericSort
  applied at w None n args = fault Unknown w source at
  applied at w (Some h) n args = if nat_eq n (arity h) then and_then args (λ ss. Ok (sort_with h ss))
      else fault Arity w source at

  abbrev mutual
    -- the sort of a written type
    pub sort_of : TypeTree → Part GenericSort
    sort_of (type_text at w ts) = applied at w (head_of roots params w) (count ts) (sorts_from [] ts)

    -- these sorts, and then those of the written types
    pub sorts_from : List GenericSort → TypeTrees → Part (List GenericSort)
    sorts_from done no_types = Ok done
    sorts_from done (more_types t ts) = and_then (sort_of t) (λ s. sorts_from (done ++ s ∷ []) ts)
