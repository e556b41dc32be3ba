-- How many gates and inputs each call may add, with what `ok` needs. (own)
use Rattle.std.specs.Prelude.{ℕ, ◌+◌, ◌*◌, max, min, nat_eq, if◌then◌else◌, List, [], ◌∷◌, length, Option, Some}
use Rattle.std.specs.Prelude.{None, slice_get}
use Rattle.pp_prog.specs.declared.id.CtorId.{CtorId}
use Rattle.pp_prog.specs.declared.id.DataId.{DataId}
use Rattle.pp_prog.specs.declared.sort.Sort.TheVariants as sort
use Rattle.pp_prog.specs.declared.types.Ctor.{Ctor}
use Rattle.pp_prog.specs.declared.types.TypeTable.{TypeTable}
use Rattle.pp_prog.specs.Sizes.{bits, nodes, flat}
use Rattle.pp_domain.specs.Sense.{Sense}

-- how often the datatype stands in the list
abbrev pub times : DataId → List DataId → ℕ
times d [] = 0
times d (x ∷ xs) = if nat_eq x.0 d.0 then 1 + times d xs else times d xs

-- what one more look at the datatype may add, after these looks and so many counted comparisons: the tree's literals
-- and fields, the agreement with each earlier tree of its datatype, and what each counted comparison adds for it
abbrev pub look_gates : TypeTable → List DataId → ℕ → DataId → ℕ
look_gates types looks compares d =
    256 + 8 * flat types d + times d looks * (64 + 4 * flat types d) + 128 * compares

-- what these looks and so many counted comparisons may add together
abbrev pub looks_gates : TypeTable → List DataId → ℕ → ℕ
looks_gates types [] compares = 0
looks_gates types (d ∷ looks) compares = look_gates types looks compares d + looks_gates types looks compares

module _ {D T : Type 0} (m : Sense D T) (types : TypeTable) where
  -- the bits and nodes of a full tree; where trees have names, they count as none
  abbrev pub bits_at : DataId → ℕ → ℕ
  bits_at of h = if m.exact then bits types h (sort.Tree of) else 0

  abbrev pub nodes_at : DataId → ℕ → ℕ
  nodes_at of h = if m.exact then nodes types h (sort.Tree of) else 0

  -- a new tree of this height; where trees have names, the literals of one
  abbrev pub unknown_gates : DataId → ℕ → ℕ
  unknown_gates of h =
      if m.exact then (if nat_eq h 0 then 0 else 4 * (32 + bits types h (sort.Tree of))) else 32

  abbrev pub merge_gates : D → T → T → ℕ
  merge_gates d left right = 32 + bits_at (m.data_of d left) (max (m.height d left) (m.height d right))

  -- an equality of two trees, the lower of which has this height; where trees have names, of those
  abbrev pub equality_gates : DataId → ℕ → ℕ
  equality_gates of h = if m.exact then 4 * (32 + bits types h (sort.Tree of)) else 64

  abbrev pub equal_gates : D → T → T → ℕ
  equal_gates d left right = equality_gates (m.data_of d left) (min (m.height d left) (m.height d right))

  -- one more comparison, of `new` with `old`
  abbrev pub below_gates : D → T → T → ℕ
  below_gates d new old =
      64 + 4 * (32 + bits_at (m.data_of d new) (m.height d new)) * (1 + nodes_at (m.data_of d new) (m.height d old))
      + (if m.exact then 0 else 128 * length (m.looks d))

  -- one more look, at a tree of this datatype
  abbrev pub expand_gates : D → DataId → ℕ
  expand_gates d of = if m.exact then 0 else look_gates types (m.looks d) (m.compares d) of

  -- at this tree
  abbrev pub look_at_gates : D → T → ℕ
  look_at_gates d t = expand_gates d (m.data_of d t)

  abbrev pub expand_gates_of : D → Option Ctor → ℕ
  expand_gates_of d None = 0
  expand_gates_of d (Some k) = expand_gates d k.of

  -- at a new tree with this constructor
  abbrev pub construct_gates : D → CtorId → ℕ
  construct_gates d c = expand_gates_of d (slice_get types.ctors c.0)
