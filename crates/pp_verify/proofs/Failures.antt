-- The failures of a function's checks, one of which is taken out.
use Rattle.std.proofs.Common.{◌≡◌, ◌∙◌, ℕ, All, List, Some, Ok, Err, inl, inr, slice_get, sym, subst}
use Rattle.std.specs.Prelude.{OnOk, Result}
use Rattle.std.proofs.lemmas.Option.{same_Some, slice_get_cases}
use Rattle.pp_prog.specs.declared.id.CheckId.{CheckId}
use Rattle.pp_prog.specs.declared.program.Program.{Program}
use Rattle.pp_small.specs.declared.failures.Failure.{Failure}
use Rattle.pp_small.specs.Failing.{IsFailure}

-- what holds of all holds of the one at a place
at_place : {X : Type 0} (P : X → Type 0) (xs : List X) (i : ℕ) (x : X) → All P xs → slice_get xs i ≡ Some x → P x
at_place P xs i x all at =
    elim (slice_get_cases xs i).1 [
      | inl found ↦
          let same : found.0 ≡ x = same_Some found.0 x (sym found.2 ∙ at) in
          subst P (found.3 ∙ same) (all i found.0 found.1)
      | inr past ↦ absurd (cc)
    ]

-- the arguments at a place where a failure of the check is
pub args_at : (p : Program) (i n d : ℕ) (fs : List Failure) (place : ℕ) (c : CheckId) (f : Failure)
    → All (IsFailure p i n d) fs → slice_get fs place ≡ Some f
    → (g : Failure) × (slice_get fs place ≡ Some g) × (g.check ≡ c)
    → IsFailure p i n d (record { check = c; args = f.args })
args_at p i n d fs place c f all at found =
    let same : found.0 ≡ f = same_Some found.0 f (sym found.1 ∙ at) in
    let one : IsFailure p i n d f = at_place (IsFailure p i n d) fs place f all at in
    subst (λ (k : CheckId). IsFailure p i n d (record { check = k; args = f.args }))
    (subst (λ (g : Failure). g.check ≡ c) same found.2) one

-- what holds at all holds where there is a value
pub on_ok : {T E : Type 0} (r : Result T E) (P : Type 0) → P → OnOk r P
on_ok (Ok x) P h = h
on_ok (Err e) P h = tt
