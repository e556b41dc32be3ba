-- The function that a check belongs to.
use Rattle.std.proofs.Common.{◌≡◌, ℕ, ◌<◌, List, length, Some, refl, sym, ap, ◌∙◌}
use Rattle.std.specs.Prelude.{slice_get, slice_index_or}
use Rattle.std.proofs.lemmas.Option.{slice_get-get_or}
use Rattle.pp_prog.specs.declared.check.Check.{Check}
use Rattle.pp_prog.specs.declared.expr.Function.{Function}
use Rattle.pp_prog.specs.declared.program.Program.{Program}
use Rattle.pp_sound.specs.Sound.{IsCheckOf}
use Rattle.pp_sound.proofs.Owners.{owner_within}
use Rattle.pp_symbolic.specs.Frame.{IsOwner}

module _ (p : Program) (cs : List Check) (k : ℕ) (d : Check) (same : cs ≡ p.checks) (within : k < length p.checks) where
  abbrev found : Check
  found = slice_index_or cs k d

  listed : slice_get p.checks k ≡ Some found
  listed = slice_get-get_or p.checks k d within ∙ ap (λ xs. Some (slice_index_or xs k d)) (sym same)

  owned : IsCheckOf p found.function.0 k
  owned = record { check = found; listed = listed; owner = refl }

  pub owner_in_range : found.function.0 < length p.functions
  owner_in_range = owner_within p found.function.0 k owned

  pub owner_of : (f : Function) → slice_get p.functions found.function.0 ≡ Some f → IsOwner p (record { 0 = k }) f
  owner_of f at = record { number = found.function.0; owner = owned; here = at }
