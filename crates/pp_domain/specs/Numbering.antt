-- A naming for a list of values: those of each datatype, each once, numbered in the order of their first places. (own)
use Rattle.std.specs.Prelude.{◌<◌, ◌^◌, if◌then◌else◌, List, [], ◌∷◌, length, slice_get}
use Rattle.pp_prog.specs.declared.id.DataId.{DataId}
use Rattle.pp_prog.specs.declared.sort.Sort.TheVariants as sort
use Rattle.pp_prog.specs.declared.types.TypeTable.{TypeTable}
use Rattle.pp_prog.specs.declared.value.Value.{Value}
use Rattle.pp_prog.specs.Sorts.{has_sort}
use Rattle.pp_eval.specs.Equality.{equal}
use Rattle.pp_domain.specs.Naming.{Naming, IsNaming, NamesAll}

-- the list without this value
abbrev pub without : Value → List Value → List Value
without v [] = []
without v (w ∷ ws) = if equal v w then without v ws else w ∷ without v ws

-- the values of the datatype, each once
abbrev pub distinct : TypeTable → DataId → List Value → List Value
distinct types d [] = []
distinct types d (v ∷ vs) =
    if has_sort types.ctors v (sort.Tree d) then v ∷ without v (distinct types d vs) else distinct types d vs

-- each of them has its place as its number
abbrev pub numbering : TypeTable → List Value → Naming
numbering types vs d k = slice_get (distinct types d vs) k

-- each list of fewer than 2^30 values has a naming that names its values
abbrev pub ListsAreNamed : Type 0
ListsAreNamed = (types : TypeTable) (vs : List Value) → length vs < 2 ^ 30
    → (n : Naming) × IsNaming types n × NamesAll types n vs
