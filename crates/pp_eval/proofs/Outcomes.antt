-- What a run comes to, from what its parts come to.
use Rattle.std.proofs.Common.{◌≡◌, ℕ, Bool, true, false, List, Option, Some, Ok, ap, sym, ◌∙◌}
use Rattle.pp_prog.specs.declared.expr.Function.{Function}
use Rattle.pp_prog.specs.declared.types.Ctor.{Ctor}
use Rattle.pp_prog.specs.declared.value.Value.{Value}
use Rattle.pp_eval.specs.declared.outcome.Outcome.{Outcome}
use Rattle.pp_eval.specs.declared.outcome.Outcome.TheVariants.{Outside}
use Rattle.pp_eval.specs.Invocation.{allowed, calls_to}
use Rattle.pp_eval.specs.Meaning.{CallMeaning}
use Rattle.pp_eval.specs.Part.{Part, and_then, either}
use Rattle.pp_eval.specs.Runs.{outcome, run_at, run_with, started}

-- where the precondition is true, the run goes on
pub goes_on : (calls : CallMeaning) (f : Function) (args env : List Value) (t : Bool) → env ≡ args
    → allowed calls f.pre args ≡ Ok t → t ≡ true
    → run_with calls f args ≡ started calls f env
goes_on calls f args env t same told is =
    ap (λ p. and_then p (λ allows. either allows (started calls f args) (Ok Outside))) (told ∙ ap Ok is)
    ∙ ap (started calls f) (sym same)

-- where the precondition is false, the run isn't allowed
pub ends_outside : (calls : CallMeaning) (f : Function) (args : List Value) (t : Bool) → allowed calls f.pre args ≡ Ok t
    → t ≡ false → run_with calls f args ≡ Ok Outside
ends_outside calls f args t told is =
    ap (λ p. and_then p (λ allows. either allows (started calls f args) (Ok Outside))) (told ∙ ap Ok is)

-- the run of a function of a program
pub run_is : (ctors cs : List Ctor) (functions fs : List Function) (f : Function) (o : Option Function)
    (args : List Value) (n : ℕ) (p : Part Outcome) → cs ≡ ctors → fs ≡ functions
    → o ≡ Some f → run_with (calls_to cs fs n) f args ≡ p → outcome p ≡ run_at ctors functions o args n
run_is ctors cs functions fs f o args n p same_ctors same_functions there told =
    ap outcome (sym told)
    ∙ ap (λ (c : List Ctor). outcome (run_with (calls_to c fs n) f args)) same_ctors
    ∙ ap (λ (l : List Function). outcome (run_with (calls_to ctors l n) f args)) same_functions
    ∙ ap (λ q. run_at ctors functions q args n) (sym there)
