-- Failures, one after the other.
use Rattle.std.proofs.Common.{◌≡◌, ℕ, All, List, [], ◌∷◌, ◌++◌, Option, Some, sym, subst}
use Rattle.std.specs.Prelude.{IfSome}
use Rattle.std.proofs.lemmas.List.Elements.{All-push}
use Rattle.pp_prog.specs.declared.id.CheckId.{CheckId}
use Rattle.pp_prog.specs.declared.program.Program.{Program}
use Rattle.pp_prog.specs.declared.value.Value.{Value}
use Rattle.pp_small.specs.declared.failures.Failure.{Failure}
use Rattle.pp_small.specs.Failing.{IsFailure}

-- the arguments, with the check that they fail, if they fail one
abbrev pub FailSome : Program → ℕ → ℕ → ℕ → List Value → Option CheckId → Type 0
FailSome p i n d args failed = IfSome failed (λ c. IsFailure p i n d (record { check = c; args = args }))

-- one failure more
pub one_more : (p : Program) (i n d : ℕ) (args : List Value) (old new : List Failure) (failed : Option CheckId)
    (c : CheckId) (copies : List Value)
    → All (IsFailure p i n d) old → FailSome p i n d args failed → failed ≡ Some c → copies ≡ args
    → new ≡ old ++ record { check = c; args = copies } ∷ [] → All (IsFailure p i n d) new
one_more p i n d args old new failed c copies all fails is same grown =
    let one : IsFailure p i n d (record { check = c; args = args }) = subst (FailSome p i n d args) is fails in
    subst (All (IsFailure p i n d)) (sym grown)
    (All-push (IsFailure p i n d) old (record { check = c; args = copies }) all
    (subst (λ (l : List Value). IsFailure p i n d (record { check = c; args = l })) (sym same) one))
