-- The arguments of a guess run are values of its first steps.
use Rattle.std.proofs.Common.{◌≤◌, ◌<◌, ℕ, zero, suc, ◌+◌, List, [], ◌∷◌, ◌++◌, All, length, subst, arith}
use Rattle.std.proofs.Common.{length-append}
use Rattle.std.proofs.lemmas.List.Elements.{All-cons, All-nil}
use Rattle.pp_prog.specs.declared.expr.Function.{Function}
use Rattle.pp_prog.specs.declared.id.CheckId.{CheckId}
use Rattle.pp_prog.specs.declared.value.Value.{Value}
use Rattle.pp_prog.specs.Sorts.{param_sorts}
use Rattle.pp_steps.specs.Frames.{arguments}
use Rattle.pp_steps.specs.Guesses.{guess_steps}
use Rattle.pp_steps.specs.Meaning.{Values}
use Rattle.pp_steps.specs.Piece.{after}
use Rattle.pp_steps.specs.Reads.{Below}
use Rattle.pp_steps_exist.proofs.Laws.{arguments_below}
use Rattle.pp_steps_exist.proofs.Within.{below_later}
use Rattle.pp_steps_run.specs.Told.{AreValues}

twice_longer : {A : Type 0} (xs ys zs : List A) → length xs ≤ length ((xs ++ ys) ++ zs)
twice_longer xs ys zs = omega (arith, length-append (xs ++ ys) zs, length-append xs ys)

plus_zero_le : (a b : ℕ) → a ≤ b → 0 + a ≤ b
plus_zero_le a b le = omega (arith, le)

-- in each round the arguments are numbers of steps
pub arguments_are_steps : (functions : List Function) (f : Function) (check : CheckId) (n : ℕ)
    → Below (length (guess_steps functions f check n).steps) (guess_steps functions f check n).arguments
arguments_are_steps functions f check zero =
    let a = arguments (param_sorts f.params) in
    below_later (after 0 a) (length (guess_steps functions f check 0).steps) a.out
    (plus_zero_le (length a.steps) _ (twice_longer a.steps _ _))
    (arguments_below (param_sorts f.params))
arguments_are_steps functions f check (suc n) =
    let g = guess_steps functions f check n in
    below_later (length g.steps) (length (guess_steps functions f check (suc n)).steps) g.arguments
    (twice_longer g.steps _ _) (arguments_are_steps functions f check n)

-- what holds of the values of all steps holds of those with such numbers
pub holds_of_values : (P : Value → Type 0) (ρ : Values) (many : ℕ) → ((k : ℕ) → k < many → P (ρ k)) → (ks : List ℕ)
    (vs : List Value) → Below many ks → AreValues ρ ks vs → All P vs
holds_of_values P ρ many all [] [] below are = All-nil P
holds_of_values P ρ many all [] (v ∷ vs) below are = absurd are
holds_of_values P ρ many all (k ∷ ks) [] below are = absurd are
holds_of_values P ρ many all (k ∷ ks) (v ∷ vs) below are =
    All-cons P v vs (subst P are.0 (all k below.0)) (holds_of_values P ρ many all ks vs below.1 are.1)
