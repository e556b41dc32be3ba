-- Values that obey all steps but the open calls are those of a guess run that fails the check, where they say so.
use Rattle.std.proofs.Common.{◌≡◌, ◌≤◌, ℕ, zero, suc, ◌+◌, List, [], ◌∷◌, ◌++◌, length, map, refl, sym}
use Rattle.std.proofs.Common.{subst, arith, length-append}
use Rattle.pp_prog.specs.declared.expr.Function.{Function}
use Rattle.pp_prog.specs.declared.id.CheckId.{CheckId}
use Rattle.pp_prog.specs.declared.types.Ctor.{Ctor}
use Rattle.pp_prog.specs.declared.value.Value.{Value}
use Rattle.pp_prog.specs.Sorts.{param_sorts}
use Rattle.pp_prog.proofs.ValueSorts.{Have}
use Rattle.pp_guess_runs.specs.Answers.{table}
use Rattle.pp_sound.specs.Sound.{IsCalled}
use Rattle.pp_steps.specs.declared.step.Step.{Step}
use Rattle.pp_steps.specs.declared.step.Step.TheVariants as steps
use Rattle.pp_steps.specs.Guesses.{Standing, all_unfolded, guess_steps, standing}
use Rattle.pp_steps.specs.Meaning.{Missing, Values}
use Rattle.pp_steps.specs.Reads.{Below}
use Rattle.pp_steps_run.specs.Told.{AreValues}
use Rattle.pp_steps_exist.proofs.Laws.{arguments_below}
use Rattle.pp_steps_exist.proofs.Within.{below_later}
use Rattle.pp_guess_steps.specs.Laws.{DoesRest, ObeysRest}
use Rattle.pp_guess_steps.specs.OwnWorld.{own_world, table_of}
use Rattle.pp_guess_steps.proofs.OwnFrame.{A, arguments_are, base}
use Rattle.pp_guess_steps.proofs.SecondHalf.{guesses_answer}
use Rattle.pp_guess_steps.proofs.SolvedSorted.{all_have}
use Rattle.pp_guess_words.specs.Laws.{ValuesFail}

-- ---- the arguments

longer : (a : ℕ) (xs ys : List Step) → a ≤ length xs → a ≤ length (xs ++ ys)
longer a xs ys le = by (length xs) (length ys) (length (xs ++ ys)) le (length-append xs ys)
  where
    by : (n m k : ℕ) → a ≤ n → k ≡ n + m → a ≤ k
    by n m k le is = omega (arith, le, is)

module _ (functions : List Function) (f : Function) (check : CheckId) where
  -- the steps of the arguments stand in each round
  first_stand : (n : ℕ) → 0 + length (A functions f check).steps ≤ length (guess_steps functions f check n).steps
  first_stand zero =
      longer _ (base functions f check).steps _ (longer _ (A functions f check).steps _ (at_least _))
    where
      at_least : (n : ℕ) → 0 + n ≤ n
      at_least n = omega arith
  first_stand (suc n) =
      let g = guess_steps functions f check n in
      let x = all_unfolded functions n (length g.steps) (standing 0 g.steps) in
      longer _ (g.steps ++ x.steps) _ (longer _ g.steps _ (first_stand n))

  arguments_before : (n : ℕ)
      → Below (length (guess_steps functions f check n).steps) (guess_steps functions f check n).arguments
  arguments_before n =
      subst (Below (length (guess_steps functions f check n).steps)) (sym (arguments_are functions f check n))
      (below_later (0 + length (A functions f check).steps) (length (guess_steps functions f check n).steps)
      (A functions f check).out (first_stand n) (arguments_below (param_sorts f.params)))

these_values : (ρ : Values) (ks : List ℕ) → AreValues ρ ks (map ρ ks)
these_values ρ [] = tt
these_values ρ (k ∷ ks) = (refl, these_values ρ ks)

-- ---- what stands for missing fields is the same

module _ (ctors : List Ctor) (missing : Missing) (ρ : Values) (calls : List Standing) where
  does_own : (s : Step) (v : Value) → DoesRest ctors missing ρ s v
      → DoesRest ctors (own_world missing.field ρ calls) ρ s v
  does_own (steps.HasAnswer c) v h = h
  does_own (steps.Answer c) v h = h
  does_own (steps.Open s) v h = h
  does_own (steps.Int n) v h = h
  does_own (steps.Bool b) v h = h
  does_own (steps.Not a) v h = h
  does_own (steps.Both a b) v h = h
  does_own (steps.Choose c a b) v h = h
  does_own (steps.Unary op a) v h = h
  does_own (steps.Binary op a b) v h = h
  does_own (steps.Construct c fields) v h = h
  does_own (steps.IsCtor c n a) v h = h
  does_own (steps.CtorField c i a) v h = h
  does_own (steps.Field a i) v h = h
  does_own (steps.IsAlike a b) v h = h
  does_own (steps.GoesDown a b) v h = h

  obeys_own : (k : ℕ) (ss : List Step) → ObeysRest ctors missing ρ k ss
      → ObeysRest ctors (own_world missing.field ρ calls) ρ k ss
  obeys_own k [] h = tt
  obeys_own k (s ∷ ss) h = (does_own s (ρ k) h.0, obeys_own (suc k) ss h.1)

pub values_fail : ValuesFail
values_fail p i f is check n run missing ρ sorted rest supposed =
    let g = guess_steps p.functions f check n in
    let calls = standing 0 g.steps in
    let args = map ρ g.arguments in
    let have : Have p.types.ctors (param_sorts f.params) args = subst (λ ss. Have p.types.ctors ss args) run.arguments
    (all_have p.types run.sorts (length g.steps) g.arguments ρ (arguments_before p.functions f check n) sorted) in
    let called : IsCalled p i f args = record { function = is; arguments = have } in
    let over = guesses_answer p i f args called check n missing.field ρ run sorted
    (obeys_own p.types.ctors missing ρ calls 0 g.steps rest) (these_values ρ g.arguments) supposed in
    record {
      function = f;
      args = args;
      called = called;
      answers = table (table_of p.functions ρ n calls);
      answering = over.is_table;
      failed = over.fails;
    }
