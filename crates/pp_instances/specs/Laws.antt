-- What the printed names of instances tell. Source: own.
use Rattle.std.specs.Prelude.{◌≡◌, ℕ, List, Some, slice_get}
use Rattle.pp_instances.specs.declared.member.Instance.{Instance}

-- no two of these have one printed name
abbrev pub HaveNames : List Instance → Type 0
HaveNames listed = (i j : ℕ) (a b : Instance) → slice_get listed i ≡ Some a → slice_get listed j ≡ Some b
    → a.name ≡ b.name → i ≡ j
