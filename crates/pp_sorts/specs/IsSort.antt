-- Which sort a written type is. Source: own; the types are those of the language: Int, Boolean, the type parameters in
-- scope, and roots with all their arguments.
use Rattle.std.specs.Prelude.{◌≡◌, ◌≢◌, ℕ, suc, if◌then◌else◌, List, [], ◌∷◌, Option, Some, None, codes, slice_get}
use Rattle.std.specs.Str.{bytes_eq}
use Rattle.pp_fault.specs.declared.Rule.{Rule}
use Rattle.pp_fault.specs.declared.Rule.TheVariants.{Unknown, Arity}
use Rattle.pp_names.specs.Find.{names_of}
use Rattle.pp_names.specs.Places.{Word, place_of}
use Rattle.pp_sorts.specs.declared.head.Head.{Head}
use Rattle.pp_sorts.specs.declared.head.Head.TheVariants as head
use Rattle.pp_tree.specs.Plain.{TypeTree, type_text, TypeTrees, no_types, more_types}
use Rattle.pp_typed.specs.declared.sort.GenericSort.{GenericSort}
use Rattle.pp_typed.specs.declared.sort.GenericSort.TheVariants as sort
use Rattle.pp_typed.specs.declared.typed.TypedRoot.{TypedRoot}

-- the words of the two types that aren't declared
abbrev pub int_word : Word
int_word = codes "Int"

abbrev pub boolean_word : Word
boolean_word = codes "Boolean"

-- the number of types in a list
abbrev pub count : TypeTrees → ℕ
count no_types = 0
count (more_types t ts) = suc (count ts)

-- how many arguments a type has
abbrev pub arity : Head → ℕ
arity head.Int = 0
arity head.Bool = 0
arity (head.Param i) = 0
arity (head.Root r n) = n

-- the sort with these arguments
abbrev pub sort_with : Head → List GenericSort → GenericSort
sort_with head.Int ss = sort.Int
sort_with head.Bool ss = sort.Bool
sort_with (head.Param i) ss = sort.Param i
sort_with (head.Root r n) ss = sort.Root r ss

-- the root at this place
abbrev pub root_at : ℕ → Option TypedRoot → Option Head
root_at r None = None
root_at r (Some root) = Some (head.Root r root.type_params)

-- the root at the place that was found
abbrev pub root_head : List TypedRoot → Option ℕ → Option Head
root_head roots None = None
root_head roots (Some r) = root_at r (slice_get roots r)

module _ (roots : List TypedRoot) (params : List Word) where
  -- a type parameter hides a root; of several roots of one name it is the first
  abbrev pub declared_head : Word → Option ℕ → Option Head
  declared_head w None = root_head roots (place_of w (names_of roots))
  declared_head w (Some i) = Some (head.Param i)

  -- what the name of a type stands for
  abbrev pub head_of : Word → Option Head
  head_of w =
      if bytes_eq w int_word then Some head.Int else
      if bytes_eq w boolean_word then Some head.Bool else
      declared_head w (place_of w params)

  mutual
    -- the written type is this sort: its name stands for something, which has as many arguments as are written
    pub data IsSort : TypeTree → GenericSort → Type 0 where
      a_sort : (at : ℕ) (w : Word) (ts : TypeTrees) (h : Head) (ss : List GenericSort) → head_of w ≡ Some h
          → count ts ≡ arity h → AreSorts ts ss
          → {s : GenericSort} → s ≡ sort_with h ss → IsSort (type_text at w ts) s

    pub data AreSorts : TypeTrees → List GenericSort → Type 0 where
      no_sorts : AreSorts no_types []
      more_sorts : {t : TypeTree} {ts : TypeTrees} {s : GenericSort} {ss : List GenericSort} → IsSort t s
          → AreSorts ts ss → AreSorts (more_types t ts) (s ∷ ss)

  mutual
    -- the written type breaks this rule with this name at this place
    pub data Breaks : TypeTree → Rule → Word → ℕ → Type 0 where
      unknown : (at : ℕ) (w : Word) (ts : TypeTrees) → head_of w ≡ None → Breaks (type_text at w ts) Unknown w at
      arguments : (at : ℕ) (w : Word) (ts : TypeTrees) (h : Head) → head_of w ≡ Some h → count ts ≢ arity h
          → Breaks (type_text at w ts) Arity w at
      inside : (at : ℕ) (w : Word) (ts : TypeTrees) (rule : Rule) (name : Word) (place : ℕ)
          → OneBreaks ts rule name place → Breaks (type_text at w ts) rule name place

    pub data OneBreaks : TypeTrees → Rule → Word → ℕ → Type 0 where
      here : (t : TypeTree) (ts : TypeTrees) (rule : Rule) (name : Word) (place : ℕ) → Breaks t rule name place
          → OneBreaks (more_types t ts) rule name place
      later : (t : TypeTree) (ts : TypeTrees) (rule : Rule) (name : Word) (place : ℕ)
          → OneBreaks ts rule name place → OneBreaks (more_types t ts) rule name place
