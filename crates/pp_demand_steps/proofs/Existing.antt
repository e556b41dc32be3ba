-- On all arguments of the parameters' sorts some values obey the steps of moves and have their sorts.
use Rattle.std.proofs.Common.{◌≡◌, ◌∙◌, ◌<◌, ℕ, Bool, true, false, List, [], ◌∷◌, ◌++◌, length, map, refl, sym}
use Rattle.std.proofs.Common.{ap, subst}
use Rattle.std.specs.Prelude.{nat_lt, if◌then◌else◌, slice_index_or}
use Rattle.std.proofs.lemmas.Bool.{ltb-true}
use Rattle.pp_prog.specs.declared.expr.Function.{Function}
use Rattle.pp_prog.specs.declared.id.CheckId.{CheckId}
use Rattle.pp_prog.specs.declared.program.Program.{Program}
use Rattle.pp_prog.specs.declared.sort.Sort.{Sort}
use Rattle.pp_prog.specs.declared.types.Ctor.{Ctor}
use Rattle.pp_prog.specs.declared.value.Value.{Value}
use Rattle.pp_prog.specs.declared.value.Value.TheVariants.{Bool as Truth}
use Rattle.pp_prog.specs.Sorts.{param_sorts}
use Rattle.pp_prog.specs.Table.{is_sort}
use Rattle.pp_prog.proofs.ValueSorts.{Has}
use Rattle.pp_sound.specs.Sound.{IsCalled}
use Rattle.pp_steps.proofs.Counting.{zero_plus}
use Rattle.pp_steps.specs.declared.step.Step.TheVariants as steps
use Rattle.pp_steps.specs.Frames.{numbers, open_step}
use Rattle.pp_steps.specs.Guesses.{GuessSteps}
use Rattle.pp_steps.specs.Meaning.{Missing, Values}
use Rattle.pp_steps_run.specs.Told.{AreValues}
use Rattle.pp_steps_exist.proofs.Laws.{open_left, opened_are}
use Rattle.pp_steps_exist.proofs.Solve.{AllOpen, solved, solved_obeys}
use Rattle.pp_guess_steps.proofs.OwnFrame.{F, R}
use Rattle.pp_guess_steps.proofs.SolvedSorted.{solved_have, value_at_has}
use Rattle.pp_guess_steps.proofs.SortedValues.{less_test, none_before}
use Rattle.pp_demand_steps.specs.Laws.{IsObeyed, MovesExist}
use Rattle.pp_demand_steps.specs.Moves.{AreMoves, Move, all_moved, demanded, moved, started_alone}
use Rattle.pp_demand_steps.proofs.Lists.{arguments_stay}
use Rattle.pp_demand_steps.proofs.MovesPaired.{demanded_labelled}
use Rattle.pp_demand_steps.proofs.Reading.{moves_read}

-- the open values of the first list
open_first : (functions : List Function) (ctors : List Ctor) (missing : Missing) (chosen ρ : Values) (ms : List Move)
    (g : GuessSteps) → AllOpen ctors missing chosen ρ 0 (all_moved functions g ms).steps
    → AllOpen ctors missing chosen ρ 0 g.steps
open_first functions ctors missing chosen ρ [] g h = h
open_first functions ctors missing chosen ρ (m ∷ ms) g h =
    open_left ctors missing chosen ρ 0 g.steps _
    (open_first functions ctors missing chosen ρ ms (moved functions g m) h)

-- the values that follow from such open ones obey the steps
solved_moves : (p : Program) (i : ℕ) (f : Function) (args : List Value) → IsCalled p i f args → (check : CheckId)
    (n : ℕ) (ms : List Move) → AreMoves p.functions f check n ms → (missing : Missing) (chosen : Values)
    → ((j : ℕ) → j < length args → chosen j ≡ slice_index_or args j (Truth false))
    → IsObeyed p.types.ctors (demanded p.functions f check ms) missing
    (solved p.types.ctors missing chosen 0 (demanded p.functions f check ms).steps (λ k. Truth false)) args
solved_moves p i f args called check n ms moves missing chosen at =
    let ctors = p.types.ctors in
    let g = demanded p.functions f check ms in
    let b = started_alone p.functions f check in
    let ρ = solved ctors missing chosen 0 g.steps (λ k. Truth false) in
    let both = solved_obeys ctors missing chosen 0 g.steps (λ k. Truth false)
    (moves_read p.functions f check n ms moves).reads in
    let ss = param_sorts f.params in
    let opens = map open_step ss in
    let tail = steps.Bool true ∷ [] in
    let rest = (R p.functions f check).steps ++ (F p.functions f check).steps in
    let o = open_left ctors missing chosen ρ 0 opens tail
    (open_left ctors missing chosen ρ 0 (opens ++ tail) rest
    (open_first p.functions ctors missing chosen ρ ms b both.1)) in
    record {
      steps = both.0;
      arguments = subst (λ ks. AreValues ρ ks args) (sym (arguments_stay p.functions ms b))
          (opened_are ctors missing chosen ρ ss args 0 called.arguments (λ j lt. ap chosen (zero_plus j) ∙ at j lt) o);
    }

pub moves_exist : MovesExist
moves_exist p i f args called check n ms moves missing fields answers default defaults run =
    let g = demanded p.functions f check ms in
    let σ = run.sorts in
    let chosen : Values = λ k. if nat_lt k (length args) then slice_index_or args k (Truth false) else default (σ k) in
    let params : map σ (numbers 0 (param_sorts f.params)) ≡ param_sorts f.params =
    ap (map σ) (sym (arguments_stay p.functions ms (started_alone p.functions f check))) ∙ run.arguments in
    let choices = λ (k : ℕ) (is : is_sort p.types.datatypes (σ k) ≡ true).
    by p.types.ctors (σ k) (slice_index_or args k (Truth false)) (default (σ k)) (nat_lt k (length args))
    (λ test. subst (λ j. Has p.types.ctors (σ j) (slice_index_or args k (Truth false))) (zero_plus k)
    (value_at_has p.types σ (param_sorts f.params) args 0 k params called.arguments (ltb-true k (length args) test)))
    (defaults (σ k) is) in
    record {
      values = solved p.types.ctors missing chosen 0 g.steps (λ k. Truth false);
      obeyed = solved_moves p i f args called check n ms moves missing chosen
          (λ j lt. ap (λ (b : Bool). if b then slice_index_or args j (Truth false) else default (σ j))
          (less_test j (length args) lt));
      sorted = λ k lt. solved_have p.types p.functions missing chosen σ fields answers choices 0 g.steps
          (λ k. Truth false) (moves_read p.functions f check n ms moves).reads run.sorted
          (demanded_labelled p.functions f check ms) (λ j less. absurd (none_before j less)) k
          (subst (λ m. k < m) (sym (zero_plus (length g.steps))) lt);
    }
  where
    by : (ctors : List Ctor) (s : Sort) (v d : Value) (b : Bool) → (b ≡ true → Has ctors s v) → Has ctors s d
        → Has ctors s (if b then v else d)
    by ctors s v d true h e = h refl
    by ctors s v d false h e = e
