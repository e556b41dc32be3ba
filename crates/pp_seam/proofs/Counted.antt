-- A path that is put behind the failed ones stands there once more.
use Rattle.std.proofs.Common.{◌≡◌, ◌≢◌, ℕ, ◌+◌, List, [], ◌∷◌, ◌++◌, true, cond, Result, Ok, Err, IfErr, IsErrOf}
use Rattle.std.proofs.Common.{bytes_eq, refl, ap, sym, ◌∙◌}
use Rattle.std.proofs.lemmas.Slice.Eq.{bytes_eq-Decides}
use Rattle.std.proofs.lemmas.List.Sums.{sum_by-append}
use Rattle.pp_seam.specs.Faults.{times, failed_after}
use Rattle.pp_seam.specs.declared.faults.FetchFault.{FetchFault}
use Rattle.pp_seam.specs.declared.faults.FetchFault.TheVariants.{Failed, Memory}

pub bytes_eq_self : (xs : List ℕ) → bytes_eq xs xs ≡ true
bytes_eq_self xs = (bytes_eq-Decides xs xs).1 refl

pub times-push : (path : List ℕ) (failed : List (List ℕ)) → times path (failed ++ path ∷ []) ≡ times path failed + 1
times-push path failed =
    sum_by-append (λ x. cond (bytes_eq path x) 1 0) failed (path ∷ [])
    ∙ ap (λ b. times path failed + (0 + cond b 1 0)) (bytes_eq_self path)

pub rose_of : {T : Type 0} (r : Result T FetchFault) (path : List ℕ) (old new : List (List ℕ))
    → new ≡ failed_after old path r → IsErrOf r Failed → times path new ≡ times path old + 1
rose_of r path old new e failed = ap (times path) (e ∙ ap (failed_after old path) failed) ∙ times-push path old

-- a refusal is the answer that is due where Failed is due
pub refused_as_due : {T U : Type 0} (r : Result T FetchFault) (due : Result U FetchFault)
    → IfErr r (λ f. f ≢ Memory → f ≡ Failed) → due ≡ Err Failed → IfErr r (λ f. f ≢ Memory → due ≡ Err f)
refused_as_due (Ok x) due h e = tt
refused_as_due (Err f) due h e = λ other. e ∙ ap Err (sym (h other))
