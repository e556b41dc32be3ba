-- How the tables of a plan are made. The public clauses of this crate speak of what its tables say: specs/Plan, Ranks,
-- Closed, Nested and Plain. What stands here are the values of private functions and what holds between their steps, of
-- src/ranks.rt, src/nesting.rt, src/heights.rt and src/tables.rt, and no meaning rests on it; but `field_table` is also
-- the value of the public call of that name, and the groups of named trees (`pp_named_trees`) rest on it. Source: own.
use Rattle.std.specs.Prelude.{◌≡◌, ◌↔◌, ◌⊎◌, ◌<◌, ◌≤◌, ◌+◌, max, ℕ, zero, suc, nat_lt, nat_le, Bool, true, false, List}
use Rattle.std.specs.Prelude.{[], ◌∷◌, ◌++◌, Option, Some, None, length, slice_get, IsTrue}
use Rattle.pp_graph.specs.Rows.{bit}
use Rattle.pp_prog.specs.declared.expr.Function.{Function}
use Rattle.pp_prog.specs.declared.sort.Sort.{Sort}
use Rattle.pp_prog.specs.declared.sort.Sort.TheVariants as sort
use Rattle.pp_prog.specs.declared.types.TypeTable.{TypeTable}
use Rattle.pp_prog.specs.Sizes.{fields_of}
use Rattle.pp_prog.specs.Sorts.{param_sorts}
use Rattle.pp_checks.specs.Closed.{Nests}
use Rattle.pp_checks.specs.Ranks.{CountBelow}

-- the rows show r functions in the cone of f
abbrev pub IsRankIn : List (List Bool) → ℕ → ℕ → ℕ → Type 0
IsRankIn rows f n r = CountBelow (λ g. (f ≡ g) ⊎ IsTrue (bit rows f g)) n r

-- what is known of f after all depths below n were tried
abbrev pub IsSettled : List (List ℕ) → ℕ → ℕ → Option ℕ → Type 0
IsSettled calls n f None = (m : ℕ) → m < n → Nests calls m f → ⊥
IsSettled calls n f (Some k) = (k < n) × ((m : ℕ) → Nests calls m f ↔ (k ≤ m))

-- all depths below n were tried
pub record AreSettled (calls : List (List ℕ)) (n : ℕ) (depths : List (Option ℕ)) : Type 0 where
  pub size : length depths ≡ length calls
  pub each : (f : ℕ) (o : Option ℕ) → slice_get depths f ≡ Some o → IsSettled calls n f o

-- the depth n, too, was tried for the first i functions
pub record AreSettledTo (calls : List (List ℕ)) (n i : ℕ) (depths : List (Option ℕ)) : Type 0 where
  pub size : length depths ≡ length calls
  pub done : (f : ℕ) (o : Option ℕ) → f < i → slice_get depths f ≡ Some o → IsSettled calls (suc n) f o
  pub left : (f : ℕ) (o : Option ℕ) → i ≤ f → slice_get depths f ≡ Some o → IsSettled calls n f o

-- the depth is known and less than n; what is no function has the depth 0
abbrev pub is_less : Option (Option ℕ) → ℕ → Bool
is_less None n = nat_lt 0 n
is_less (Some None) n = false
is_less (Some (Some k)) n = nat_lt k n

-- whether the depth of g is known and less than n
abbrev pub is_before : List (Option ℕ) → ℕ → ℕ → Bool
is_before depths n g = is_less (slice_get depths g) n

abbrev pub is_unset : Option (Option ℕ) → Bool
is_unset None = false
is_unset (Some None) = true
is_unset (Some (Some k)) = false

-- whether g has a place in the table and its depth isn't known
abbrev pub is_unknown : List (Option ℕ) → ℕ → Bool
is_unknown depths g = is_unset (slice_get depths g)

abbrev pub tree_in : Sort → List ℕ
tree_in sort.Int = []
tree_in sort.Bool = []
tree_in (sort.Tree d) = d.0 ∷ []

-- the datatypes among these sorts
abbrev pub trees_in : List Sort → List ℕ
trees_in [] = []
trees_in (s ∷ ss) = tree_in s ++ trees_in ss

-- at each datatype's place, for the first n, the datatypes that its fields have
abbrev pub fields_below : TypeTable → ℕ → List (List ℕ)
fields_below types zero = []
fields_below types (suc n) = fields_below types n ++ trees_in (fields_of types (record { 0 = n })) ∷ []

-- at each datatype's place, the datatypes that its fields have
abbrev pub field_table : TypeTable → List (List ℕ)
field_table types = fields_below types (length types.datatypes)

-- the greater of two heights, where none is above all
abbrev pub greater : Option ℕ → Option ℕ → Option ℕ
greater None b = None
greater (Some a) None = None
greater (Some a) (Some b) = Some (max a b)

abbrev pub one_higher : Option (Option ℕ) → Option ℕ
one_higher None = None
one_higher (Some None) = None
one_higher (Some (Some k)) = Some (k + 1)

-- the greatest height of a value of the sort, by the depths of the datatypes' fields
abbrev pub height_in : List (Option ℕ) → Sort → Option ℕ
height_in depths sort.Int = Some 0
height_in depths sort.Bool = Some 0
height_in depths (sort.Tree d) = one_higher (slice_get depths d.0)

-- the greatest height of a value of these sorts, and this one
abbrev pub tallest_in : List (Option ℕ) → Option ℕ → List Sort → Option ℕ
tallest_in depths most [] = most
tallest_in depths most (s ∷ ss) = tallest_in depths (greater most (height_in depths s)) ss

abbrev pub tallest_params : List (Option ℕ) → Function → Option ℕ
tallest_params depths f = tallest_in depths (Some 0) (param_sorts f.params)

-- there is a number, and it is at most n
abbrev pub is_at_most : Option (Option ℕ) → ℕ → Bool
is_at_most None n = false
is_at_most (Some None) n = false
is_at_most (Some (Some k)) n = nat_le k n
