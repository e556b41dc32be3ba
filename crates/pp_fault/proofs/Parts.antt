-- What parts tell of the whole: where one goes on, and where one stops.
use Rattle.std.proofs.Common.{◌≡◌, ◌∙◌, Result, Ok, Err, ap, sym, subst}
use Rattle.std.proofs.lemmas.Result.{err_from_is_err_and}
use Rattle.std.specs.Result.{IsErr, IsErrAnd}
use Rattle.pp_fault.specs.Part.{Part, Tells, and_then}
use Rattle.pp_fault.specs.declared.Fault.{Fault}
use Rattle.pp_fault.specs.declared.Halt.{Halt}
use Rattle.pp_fault.specs.declared.Halt.TheVariants.{Memory, Broken}

-- equal parts have equal results
pub same_ok : {A : Type 0} (a b : A) → let p : Part A = Ok a in let q : Part A = Ok b in p ≡ q → a ≡ b
same_ok a b h = cc

-- and equal faults
pub same_err : {A : Type 0} (f g : Fault) → let p : Part A = Err f in let q : Part A = Err g in p ≡ q → f ≡ g
same_err f g h = cc

-- a part that has a result goes on with it
pub goes : {A B : Type 0} (p : Part A) (go : A → Part B) (a : A) → p ≡ Ok a → and_then p go ≡ go a
goes p go a e = ap (λ r. and_then r go) e

-- a part that stops stops the whole
pub stops : {A B : Type 0} (h : Halt) (part : Part A) (whole : Part B) (go : A → Part B) → whole ≡ and_then part go
    → Tells (Err h) part → Tells (Err h) whole
stops Memory part whole go e told = tt
stops (Broken f) part whole go e told = e ∙ ap (λ p. and_then p go) told

pub stops_as : {A B : Type 0} (r : Result B Halt) (h : Halt) (part : Part A) (whole : Part B) (go : A → Part B)
    → r ≡ Err h → whole ≡ and_then part go
    → Tells (Err h) part → Tells r whole
stops_as r h part whole go is e told = subst (λ q. Tells q whole) (sym is) (stops h part whole go e told)

pub tells_along : {A : Type 0} (r : Result A Halt) (p q : Part A) → q ≡ p → Tells r p → Tells r q
tells_along (Ok a) p q e told = e ∙ told
tells_along (Err Memory) p q e told = tt
tells_along (Err (Broken f)) p q e told = e ∙ told

-- the same of what `?` answers
pub stops_by : {A B : Type 0} (r : Result B Halt) (h : Halt) (part : Part A) (whole : Part B) (go : A → Part B)
    → IsErr r × IsErrAnd r (λ e. e ≡ h)
    → whole ≡ and_then part go → Tells (Err h) part → Tells r whole
stops_by r h part whole go is e told =
    let x = err_from_is_err_and r is.1 in stops_as r h part whole go (x.1 ∙ ap Err x.2) e told
