-- Ranks: values in the order of their heights, and those of one height in the order of their first places; and the
-- naming by ranks, in which the first value of each datatype has the number 0. (own)
use Rattle.std.specs.Prelude.{ℕ, suc, ◌+◌, ◌-◌, ◌%◌, ◌^◌, ◌<◌, ◌&&◌, ◌||◌, nat_lt, nat_eq, Bool}
use Rattle.std.specs.Prelude.{if◌then◌else◌}
use Rattle.std.specs.Prelude.{List, [], ◌∷◌, length, Option, Some, None, find, slice_get}
use Rattle.pp_prog.specs.declared.id.DataId.{DataId}
use Rattle.pp_prog.specs.declared.sort.Sort.TheVariants as sort
use Rattle.pp_prog.specs.declared.types.TypeTable.{TypeTable}
use Rattle.pp_prog.specs.declared.value.Value.{Value}
use Rattle.pp_prog.specs.Sorts.{has_sort}
use Rattle.pp_prog.specs.Values.{height}
use Rattle.pp_eval.specs.Equality.{equal}
use Rattle.pp_bits.specs.Number.{bit}
use Rattle.pp_domain.specs.Naming.{Naming, IsNaming, NamesAll, first_of}
use Rattle.pp_named_order.specs.Order.{IsOrder}
use Rattle.pp_named_order.specs.Short.{AreShort}

-- the first place of the value in the list
abbrev pub place_of : Value → List Value → ℕ
place_of v [] = 0
place_of v (w ∷ ws) = if equal w v then 0 else suc (place_of v ws)

-- a value of height h at place i comes before one of height g at place j
abbrev pub comes_before : ℕ → ℕ → ℕ → ℕ → Bool
comes_before h i g j = nat_lt h g || (nat_eq h g && nat_lt i j)

-- how many values of the list, the first of which stands at place i, come before one of height g at place j
abbrev pub before : ℕ → List Value → ℕ → ℕ → ℕ
before i [] g j = 0
before i (w ∷ ws) g j = bit (comes_before (height w) i g j) + before (suc i) ws g j

abbrev pub rank : List Value → Value → ℕ
rank vs v = before 0 vs (height v) (place_of v vs)

abbrev pub rank_of : List Value → Option Value → ℕ
rank_of vs None = 0
rank_of vs (Some v) = rank vs v

-- the rank of the first value of the datatype
abbrev pub first_rank : TypeTable → List Value → DataId → ℕ
first_rank types vs d = rank_of vs (first_of types d vs)

-- the number of a value of the datatype
abbrev pub number : TypeTable → List Value → DataId → Value → ℕ
number types vs d v = (2 ^ 32 + rank vs v - first_rank types vs d) % 2 ^ 32

abbrev pub has_number : TypeTable → List Value → DataId → ℕ → Value → Bool
has_number types vs d k v = has_sort types.ctors v (sort.Tree d) && nat_eq (number types vs d v) k

-- the naming by ranks
abbrev pub ranked : TypeTable → List Value → Naming
ranked types vs d k = find (has_number types vs d k) vs

abbrev pub group_rank : TypeTable → List Value → Option ℕ → ℕ
group_rank types vs None = 0
group_rank types vs (Some g) = first_rank types vs (record { 0 = g })

-- the level of a datatype: that of the first of its group is 2^31
abbrev pub level : TypeTable → List Value → List ℕ → DataId → ℕ
level types vs groups d = 2 ^ 31 + first_rank types vs d - group_rank types vs (slice_get groups d.0)

-- each short list has a naming that names its values in an order, whatever the groups are, by numbers that are as
-- short as the list is
pub record IsOrdered (types : TypeTable) (vs : List Value) (n : Naming) : Type 0 where
  pub naming : IsNaming types n
  pub names : NamesAll types n vs
  pub short : (low : ℕ) → length vs < 2 ^ low → AreShort low n
  pub order : (groups : List ℕ) → (l : DataId → ℕ) × IsOrder groups n l

abbrev pub ListsAreOrdered : Type 0
ListsAreOrdered = (types : TypeTable) (vs : List Value) → length vs < 2 ^ 30 → IsOrdered types vs (ranked types vs)
