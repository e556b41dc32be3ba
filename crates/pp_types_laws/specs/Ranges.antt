-- What is in range of what is expected and of what is found of type parameters. Source: own.
use Rattle.std.specs.Prelude.{◌≡◌, ◌<◌, ℕ, List, [], ◌∷◌, Some, length, slice_get}
use Rattle.pp_generic.specs.declared.expected.Expected.{Expected}
use Rattle.pp_generic.specs.declared.expected.Expected.TheVariants as expected
use Rattle.pp_generic.specs.Expected.{Found}
use Rattle.pp_typed.specs.InRange.{IsInRange}
use Rattle.pp_typed.specs.declared.sort.GenericSort.{GenericSort}
use Rattle.pp_typed.specs.declared.typed.TypedRoot.{TypedRoot}

-- among these roots, in a declaration with so many type parameters
module _ (roots : List TypedRoot) (params : ℕ) where
  mutual
    -- each part of what is expected is open or in range
    pub data IsExpectable : Expected → Type 0 where
      open_expectable : {x : Expected} → x ≡ expected.Open → IsExpectable x
      int_expectable : {x : Expected} → x ≡ expected.Int → IsExpectable x
      bool_expectable : {x : Expected} → x ≡ expected.Bool → IsExpectable x
      param_expectable : {x : Expected} (i : ℕ) → x ≡ expected.Param i → i < params → IsExpectable x
      root_expectable : {x : Expected} (r : ℕ) (root : TypedRoot) (args : List Expected) → x ≡ expected.Root r args
          → slice_get roots r ≡ Some root → length args ≡ root.type_params → AreExpectable args → IsExpectable x

    pub data AreExpectable : List Expected → Type 0 where
      none_expectable : AreExpectable []
      more_expectable : {x : Expected} {xs : List Expected} → IsExpectable x → AreExpectable xs
          → AreExpectable (x ∷ xs)

  -- what is found is in range
  abbrev pub FoundInRange : Found → Type 0
  FoundInRange found = (i : ℕ) (s : GenericSort) → slice_get found i ≡ Some (Some s) → IsInRange roots params s
