-- Which sorts have a value up to a height, and which constructors. (own)
use Rattle.std.specs.Prelude.{ℕ, zero, suc, Bool, true, false, ◌≡◌, ◌+◌, ◌≤◌, ◌<◌, List, [], ◌∷◌, Option, Some, None}
use Rattle.std.specs.Prelude.{length, slice_get}
use Rattle.std.specs.List.{list_all, list_any}
use Rattle.pp_prog.specs.declared.id.DataId.{DataId}
use Rattle.pp_prog.specs.declared.sort.Sort.{Sort}
use Rattle.pp_prog.specs.declared.sort.Sort.TheVariants as sort
use Rattle.pp_prog.specs.declared.types.Ctor.{Ctor}
use Rattle.pp_prog.specs.declared.types.TypeTable.{TypeTable}
use Rattle.pp_prog.specs.Sizes.{ctors_of, bits}
use Rattle.pp_prog.specs.declared.id.CtorId.{CtorId}
use Rattle.pp_prog.specs.declared.value.Value.{Value}
use Rattle.pp_prog.specs.Sorts.{has_sort}
use Rattle.pp_prog.specs.Values.{height}

-- an answer for each sort: one for numbers and truth values, and one for each datatype
abbrev pub if_tree : (DataId → Bool) → Sort → Bool
if_tree tree sort.Int = true
if_tree tree sort.Bool = true
if_tree tree (sort.Tree d) = tree d

-- each field has a value
abbrev pub is_possible : (Sort → Bool) → Ctor → Bool
is_possible has c = list_all has c.fields

-- whether the sort has a value whose height is at most this
abbrev pub has_value : TypeTable → ℕ → Sort → Bool
has_value types zero s = if_tree (λ d. false) s
has_value types (suc h) s = if_tree (λ d. list_any (is_possible (has_value types h)) (ctors_of types d)) s

-- the sum of what each element counts
abbrev pub total : {X : Type 0} → (X → ℕ) → List X → ℕ
total f [] = 0
total f (x ∷ xs) = f x + total f xs

-- the bits of the fields of a constructor
abbrev pub field_bits : TypeTable → ℕ → Ctor → ℕ
field_bits types h k = total (bits types h) k.fields

abbrev pub bits_if : TypeTable → ℕ → Option Ctor → ℕ
bits_if types h None = 0
bits_if types h (Some k) = field_bits types h k

-- the bits of the fields of the constructor of this number
abbrev pub ctor_bits : TypeTable → ℕ → CtorId → ℕ
ctor_bits types h c = bits_if types h (slice_get types.ctors c.0)

-- the value has the sort, and at most this height
pub record IsValueUpTo (types : TypeTable) (h : ℕ) (s : Sort) (v : Value) : Type 0 where
  pub sort : has_sort types.ctors v s ≡ true
  pub most : height v ≤ h

-- each value has the sort at its place, and at most this height
abbrev pub AreValuesUpTo : TypeTable → ℕ → List Sort → List Value → Type 0
AreValuesUpTo types h [] [] = Unit {0}
AreValuesUpTo types h (s ∷ ss) (v ∷ vs) = IsValueUpTo types h s v × AreValuesUpTo types h ss vs
AreValuesUpTo types h _ _ = ⊥

-- the constructors of the datatype whose fields have values up to the height, in order of their numbers; `most` is what
-- they and their fields count
pub record ArePossible (types : TypeTable) (h : ℕ) (of : DataId) (cs : List CtorId) : Type 0 where
  pub each : (j : ℕ) (c : CtorId) → slice_get cs j ≡ Some c → (k : Ctor) × (slice_get types.ctors c.0 ≡ Some k)
      × (k.of ≡ of) × (is_possible (has_value types h) k ≡ true)
  pub order : (i j : ℕ) (b c : CtorId) → i < j → slice_get cs i ≡ Some b → slice_get cs j ≡ Some c → b.0 < c.0
  pub all : (c : CtorId) (k : Ctor) → slice_get types.ctors c.0 ≡ Some k → k.of ≡ of
      → is_possible (has_value types h) k ≡ true → (j : ℕ) × (slice_get cs j ≡ Some c)
  pub most : length cs + total (ctor_bits types h) cs ≤ bits types (h + 1) (sort.Tree of)
