-- Which sorts are in range: each parameter is one of the declaration's, and each root is declared and has all its
-- arguments. Source: own.
use Rattle.std.specs.Prelude.{◌≡◌, ◌<◌, ℕ, List, [], ◌∷◌, Some, length, slice_get}
use Rattle.pp_typed.specs.declared.sort.GenericSort.{GenericSort}
use Rattle.pp_typed.specs.declared.sort.GenericSort.TheVariants as sort
use Rattle.pp_typed.specs.declared.typed.TypedRoot.{TypedRoot}

-- among these roots, in a declaration with so many type parameters
module _ (roots : List TypedRoot) (params : ℕ) where
  mutual
    pub data IsInRange : GenericSort → Type 0 where
      int_in_range : {s : GenericSort} → s ≡ sort.Int → IsInRange s
      bool_in_range : {s : GenericSort} → s ≡ sort.Bool → IsInRange s
      param_in_range : {s : GenericSort} (i : ℕ) → s ≡ sort.Param i → i < params → IsInRange s
      root_in_range : {s : GenericSort} (r : ℕ) (root : TypedRoot) (args : List GenericSort) → s ≡ sort.Root r args
          → slice_get roots r ≡ Some root → length args ≡ root.type_params → AreInRange args → IsInRange s

    pub data AreInRange : List GenericSort → Type 0 where
      none_in_range : AreInRange []
      more_in_range : {s : GenericSort} {ss : List GenericSort} → IsInRange s → AreInRange ss → AreInRange (s ∷ ss)
