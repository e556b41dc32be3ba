-- The arguments of a guess run are its first steps.
use Rattle.std.proofs.Common.{◌≡◌, ℕ, zero, suc, ◌+◌, ◌≤◌, List, length, map, refl, arith}
use Rattle.std.proofs.lemmas.List.{length-map}
use Rattle.pp_prog.specs.declared.expr.Function.{Function}
use Rattle.pp_prog.specs.declared.id.CheckId.{CheckId}
use Rattle.pp_prog.specs.Sorts.{param_sorts}
use Rattle.pp_steps.specs.Frames.{open_step}
use Rattle.pp_steps.specs.Guesses.{guess_steps}
use Rattle.pp_guess_steps.specs.Laws.{GuessesRead}

-- the number that is true stands behind the arguments
true_one_is : (functions : List Function) (f : Function) (check : CheckId) (n : ℕ)
    → (guess_steps functions f check n).true_one ≡ 0 + length (map open_step (param_sorts f.params))
true_one_is functions f check zero = refl
true_one_is functions f check (suc n) = true_one_is functions f check n

-- there are as many steps as parameters
pub enough_steps : GuessesRead → (functions : List Function) (f : Function) (check : CheckId) (n : ℕ)
    → length (param_sorts f.params) ≤ length (guess_steps functions f check n).steps
enough_steps read functions f check n =
    let stands = (read functions f check n).true_one in
    let is = true_one_is functions f check n in
    let many = length-map (param_sorts f.params) open_step in omega arith
