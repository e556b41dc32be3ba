-- Lists of different length don't fit.
use Rattle.std.proofs.Common.{◌≡◌, ◌≢◌, List, [], ◌∷◌, length, Option, Some, None, refl, ap, ◌∙◌, arith}
use Rattle.pp_prog.specs.declared.value.Value.{Value}
use Rattle.pp_prog.specs.Fits.{Fitting, bound_both, fit_fields}

with_none : (r : Option (List Value)) → bound_both r None ≡ None
with_none None = refl
with_none (Some vs) = refl

pub uneven : (ps : List Fitting) (vs : List Value) → length ps ≢ length vs → fit_fields ps vs ≡ None
uneven [] [] ne = absurd (ne refl)
uneven [] (v ∷ vs) ne = refl
uneven (p ∷ ps) [] ne = refl
uneven (p ∷ ps) (v ∷ vs) ne = ap (bound_both (p v)) (uneven ps vs (λ e. ne (omega arith))) ∙ with_none (p v)
