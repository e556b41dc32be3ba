-- Values, sorts and heights of steps of which only some are kept. Source: own.
use Rattle.std.specs.Prelude.{◌≡◌, ℕ, Bool, true, false, if◌then◌else◌}
use Rattle.pp_prog.specs.declared.sort.Sort.TheVariants as sort
use Rattle.pp_prog.specs.declared.value.Value.TheVariants.{Bool as Truth}
use Rattle.pp_steps.specs.Gates.{Heights}
use Rattle.pp_steps.specs.Meaning.{Values}
use Rattle.pp_steps.specs.Sorted.{Sorts}

module _ (kept : ℕ → Bool) where
  -- the values: that of a constant where the step isn't kept
  abbrev pub kept_values : Values → Values
  kept_values ρ k = if kept k then ρ k else Truth false

  -- the sorts
  abbrev pub kept_sorts : Sorts → Sorts
  kept_sorts σ k = if kept k then σ k else sort.Bool

  -- the heights
  abbrev pub kept_heights : Heights → Heights
  kept_heights η k = if kept k then η k else 0

  -- what is known of the steps that are kept
  abbrev pub kept_known : (ℕ → Type 0) → ℕ → Type 0
  kept_known K k = kept k ≡ true → K k
