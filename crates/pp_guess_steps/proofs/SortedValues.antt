-- Each guess run has values that obey its steps and have their sorts.
use Rattle.std.proofs.Common.{◌≡◌, ◌<◌, ℕ, Bool, true, false, List, length, map, refl, sym, ap, ◌∙◌, subst}
use Rattle.std.proofs.Common.{arith}
use Rattle.std.specs.Prelude.{nat_lt, if◌then◌else◌, slice_index_or}
use Rattle.std.proofs.lemmas.Bool.{ltb-true}
use Rattle.pp_prog.specs.declared.sort.Sort.{Sort}
use Rattle.pp_prog.specs.declared.types.Ctor.{Ctor}
use Rattle.pp_prog.specs.declared.value.Value.{Value}
use Rattle.pp_prog.specs.declared.value.Value.TheVariants.{Bool as Truth}
use Rattle.pp_prog.specs.Sorts.{param_sorts}
use Rattle.pp_prog.specs.Table.{is_sort}
use Rattle.pp_prog.proofs.ValueSorts.{Has}
use Rattle.pp_steps.proofs.Counting.{zero_plus}
use Rattle.pp_steps.specs.Frames.{numbers}
use Rattle.pp_steps.specs.Guesses.{guess_steps}
use Rattle.pp_steps.specs.Meaning.{Values}
use Rattle.pp_steps_exist.proofs.Solve.{solved}
use Rattle.pp_guess_steps.specs.Laws.{SortedGuessesExist}
use Rattle.pp_guess_steps.proofs.Existing.{solved_guess}
use Rattle.pp_guess_steps.proofs.Labels.{guess_labelled}
use Rattle.pp_guess_steps.proofs.OwnFrame.{arguments_are}
use Rattle.pp_guess_steps.proofs.RoundsRead.{guess_read}
use Rattle.pp_guess_steps.proofs.SolvedSorted.{solved_have, value_at_has}

pub none_before : (i : ℕ) → i < 0 → ⊥
none_before i lt = omega (arith, lt)

pub less_test : (k n : ℕ) → k < n → nat_lt k n ≡ true
less_test k n lt = grind (arith, ltb-true)

pub sorted_guesses_exist : SortedGuessesExist
sorted_guesses_exist p i f args called check n missing fields answers default defaults run =
    let g = guess_steps p.functions f check n in
    let σ = run.sorts in
    let chosen : Values = λ k. if nat_lt k (length args) then slice_index_or args k (Truth false) else default (σ k) in
    let params : map σ (numbers 0 (param_sorts f.params)) ≡ param_sorts f.params =
    ap (map σ) (sym (arguments_are p.functions f check n)) ∙ run.arguments in
    let choices = λ (k : ℕ) (is : is_sort p.types.datatypes (σ k) ≡ true).
    by p.types.ctors (σ k) (slice_index_or args k (Truth false)) (default (σ k)) (nat_lt k (length args))
    (λ test. subst (λ j. Has p.types.ctors (σ j) (slice_index_or args k (Truth false))) (zero_plus k)
    (value_at_has p.types σ (param_sorts f.params) args 0 k params called.arguments (ltb-true k (length args) test)))
    (defaults (σ k) is) in
    record {
      values = solved p.types.ctors missing chosen 0 g.steps (λ k. Truth false);
      guess = solved_guess p i f args called check n missing chosen
          (λ j lt. ap (λ (b : Bool). if b then slice_index_or args j (Truth false) else default (σ j))
          (less_test j (length args) lt));
      sorted = λ k lt. solved_have p.types p.functions missing chosen σ fields answers choices 0 g.steps
          (λ k. Truth false) (guess_read p.functions f check n).reads run.sorted
          (guess_labelled p.functions f check n) (λ j less. absurd (none_before j less)) k
          (subst (λ m. k < m) (sym (zero_plus (length g.steps))) lt);
    }
  where
    by : (ctors : List Ctor) (s : Sort) (v d : Value) (b : Bool) → (b ≡ true → Has ctors s v) → Has ctors s d
        → Has ctors s (if b then v else d)
    by ctors s v d true h e = h refl
    by ctors s v d false h e = e
