-- Which sorts have a finite value: a derivation is the value. Source: own.
use Rattle.std.specs.Prelude.{◌≡◌, ℕ, zero, suc, ◌+◌, List, [], ◌∷◌, Some, map, length, slice_get, Contains}
use Rattle.pp_typed.specs.Put.{put}
use Rattle.pp_typed.specs.declared.sort.GenericSort.{GenericSort}
use Rattle.pp_typed.specs.declared.sort.GenericSort.TheVariants as sort
use Rattle.pp_typed.specs.declared.typed.TypedCtor.{TypedCtor}
use Rattle.pp_typed.specs.declared.typed.TypedRoot.{TypedRoot}

module _ (roots : List TypedRoot) (ctors : List TypedCtor) where
  mutual
    -- a value: a number, a truth value, what a type parameter stands for, or a constructor with values of its fields
    pub data HasValue : GenericSort → Type 0 where
      an_int : {s : GenericSort} → s ≡ sort.Int → HasValue s
      a_truth : {s : GenericSort} → s ≡ sort.Bool → HasValue s
      a_param : {s : GenericSort} (i : ℕ) → s ≡ sort.Param i → HasValue s
      a_tree : {s : GenericSort} (c : TypedCtor) (root : TypedRoot) (args : List GenericSort)
          → s ≡ sort.Root c.root args
          → Contains ctors c → slice_get roots c.root ≡ Some root → length args ≡ root.type_params
          → HaveValues (map (put args) c.fields) → HasValue s

    pub data HaveValues : List GenericSort → Type 0 where
      no_values : HaveValues []
      more_values : {s : GenericSort} {ss : List GenericSort} → HasValue s → HaveValues ss → HaveValues (s ∷ ss)

-- so many type parameters, from this one on
abbrev pub params_from : ℕ → ℕ → List GenericSort
params_from i zero = []
params_from i (suc n) = sort.Param i ∷ params_from (i + 1) n

-- the root at a place has a value, whatever its type parameters stand for
abbrev pub IsInhabited : List TypedRoot → List TypedCtor → ℕ → TypedRoot → Type 0
IsInhabited roots ctors r root = HasValue roots ctors (sort.Root r (params_from 0 root.type_params))
