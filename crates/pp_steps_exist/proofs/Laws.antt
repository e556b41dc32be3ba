-- Each run has values that obey its steps.
use Rattle.std.proofs.Common.{◌≡◌, ℕ, suc, ◌+◌, ◌<◌, ◌≤◌, true, false, List, [], ◌∷◌, ◌++◌, length, map, Some, refl}
use Rattle.std.proofs.Common.{sym, ap, ◌∙◌, subst, arith, length-append}
use Rattle.std.specs.Prelude.{slice_index_or}
use Rattle.std.proofs.lemmas.Bool.{and_parts}
use Rattle.pp_prog.specs.declared.expr.Function.{Function}
use Rattle.pp_prog.specs.declared.id.CheckId.{CheckId}
use Rattle.pp_prog.specs.declared.sort.Sort.{Sort}
use Rattle.pp_prog.specs.declared.types.Ctor.{Ctor}
use Rattle.pp_prog.specs.declared.value.Value.{Value}
use Rattle.pp_prog.specs.declared.value.Value.TheVariants.{Bool as Truth}
use Rattle.pp_prog.specs.Sorts.{has_sort, have_sorts, param_sorts}
use Rattle.pp_steps.proofs.Counting.{plus_zero, zero_plus}
use Rattle.pp_steps.specs.declared.step.Step.{Step}
use Rattle.pp_steps.specs.declared.step.Step.TheVariants as steps
use Rattle.pp_steps.specs.Frames.{any_of, arguments, inlined, numbers, open_step, run_steps, running}
use Rattle.pp_steps.specs.Meaning.{Missing, Values}
use Rattle.pp_steps.specs.Piece.{Piece, after}
use Rattle.pp_steps.specs.Reads.{AllRead, Below}
use Rattle.pp_steps_run.specs.Told.{AreValues}
use Rattle.pp_steps_exist.specs.Laws.{RunsAsk, RunsExist, RunsRead}
use Rattle.pp_steps_exist.proofs.Exprs.{any_within, inlined_stays, running_within}
use Rattle.pp_steps_exist.proofs.Solve.{AllOpen, solved, solved_obeys}
use Rattle.pp_steps_exist.proofs.Within.{IsWithin, LessOne, at_most, below_later, read_join, up}

-- ---- the arguments

opens_read : (ss : List Sort) (k : ℕ) → AllRead k (map open_step ss)
opens_read [] k = tt
opens_read (s ∷ ss) k = (tt, opens_read ss (suc k))

count_is : (ss : List Sort) → length (map open_step ss) ≡ length ss
count_is [] = refl
count_is (s ∷ ss) = ap suc (count_is ss)

self_up : (k n : ℕ) → k < k + suc n
self_up k n = omega arith

suc_plus : (k n : ℕ) → suc k + n ≡ k + suc n
suc_plus k n = omega arith

numbers_below : (ss : List Sort) (k : ℕ) → Below (k + length ss) (numbers k ss)
numbers_below [] k = tt
numbers_below (s ∷ ss) k = (
  self_up k (length ss),
  subst (λ n. Below n (numbers (suc k) ss)) (suc_plus k (length ss))
      (numbers_below ss (suc k)),
)

module _ (ss : List Sort) where
  abbrev A : Piece (List ℕ)
  A = arguments ss

  abbrev opens : List Step
  opens = map open_step ss

  pub arguments_read : AllRead 0 A.steps
  arguments_read = read_join 0 opens (steps.Bool true ∷ []) (opens_read ss 0) (tt, tt)

  end_is : after 0 A ≡ (0 + length opens) + 1
  end_is = ap (λ n. 0 + n) (length-append opens (steps.Bool true ∷ [])) ∙ add_assoc (length opens)
    where
      add_assoc : (a : ℕ) → 0 + (a + 1) ≡ (0 + a) + 1
      add_assoc a = omega arith

  pub reach_below : A.alive < after 0 A
  reach_below = subst (λ n. A.alive < n) (sym end_is) (end_one (0 + length opens))
    where
      end_one : (a : ℕ) → a < a + 1
      end_one a = omega arith

  pub arguments_below : Below (after 0 A) A.out
  arguments_below =
      subst (λ n. Below n A.out) (sym end_is)
      (below_later (0 + length ss) ((0 + length opens) + 1) A.out
      (subst (λ n. 0 + length ss ≤ (0 + n) + 1) (sym (count_is ss)) (at_most (0 + length ss) 1)) (numbers_below ss 0))

-- ---- the run

module _ (functions : List Function) (f : Function) (check : CheckId) (fuel : ℕ) where
  abbrev B : Piece (List ℕ)
  B = arguments (param_sorts f.params)

  abbrev n : ℕ
  n = after 0 B

  abbrev R : Piece ℕ
  R = running (inlined functions fuel (Some check)) (Some check) f n B.out B.alive

  abbrev F : Piece ℕ
  F = any_of R.fails (after n R) B.alive

  run_within : IsWithin LessOne n R
  run_within = running_within (inlined functions fuel) (inlined_stays functions fuel) (Some check) f n B.out B.alive
      (arguments_below (param_sorts f.params)) (reach_below (param_sorts f.params))

  found_within : IsWithin LessOne (after n R) F
  found_within = any_within R.fails (after n R) B.alive run_within.fails
      (up B.alive n (length R.steps) (reach_below (param_sorts f.params)))

  pub run_reads : AllRead 0 (run_steps functions f check fuel).steps
  run_reads = read_join 0 B.steps (R.steps ++ F.steps) (arguments_read (param_sorts f.params))
      (read_join n R.steps F.steps run_within.reads found_within.reads)

  ends_together : length (B.steps ++ (R.steps ++ F.steps)) ≡ after (after n R) F
  ends_together = length-append B.steps (R.steps ++ F.steps)
      ∙ ap (λ k. length B.steps + k) (length-append R.steps F.steps)
      ∙ sums (length B.steps) (length R.steps) (length F.steps)
    where
      sums : (a b c : ℕ) → a + (b + c) ≡ ((0 + a) + b) + c
      sums a b c = omega arith

  pub run_asks : (run_steps functions f check fuel).fails < length (run_steps functions f check fuel).steps
  run_asks = subst (λ k. F.out < k) (sym ends_together) found_within.out

pub runs_read : RunsRead
runs_read functions f check fuel = run_reads functions f check fuel

pub runs_ask : RunsAsk
runs_ask functions f check fuel = run_asks functions f check fuel

-- ---- the values

module _ (ctors : List Ctor) (missing : Missing) (chosen : Values) where
  pub open_left : (ρ : Values) (k : ℕ) (xs ys : List Step) → AllOpen ctors missing chosen ρ k (xs ++ ys)
      → AllOpen ctors missing chosen ρ k xs
  open_left ρ k [] ys h = tt
  open_left ρ k (x ∷ xs) ys h = (h.0, open_left ρ (suc k) xs ys h.1)

  some_first : (n : ℕ) → 0 < suc n
  some_first n = omega arith

  suc_less : (i n : ℕ) → i < n → suc i < suc n
  suc_less i n lt = omega arith

  plus_suc : (k i : ℕ) → suc k + i ≡ k + suc i
  plus_suc k i = omega arith

  pub opened_are : (ρ : Values) (ss : List Sort) (vs : List Value) (k : ℕ) → have_sorts ctors vs ss ≡ true
      → ((i : ℕ) → i < length vs → chosen (k + i) ≡ slice_index_or vs i (Truth false))
      → AllOpen ctors missing chosen ρ k (map open_step ss) → AreValues ρ (numbers k ss) vs
  opened_are ρ [] [] k h at o = tt
  opened_are ρ [] (v ∷ vs) k h at o = absurd (cc)
  opened_are ρ (s ∷ ss) [] k h at o = absurd (cc)
  opened_are ρ (s ∷ ss) (v ∷ vs) k h at o = (
    o.0 ∙ ap chosen (sym (plus_zero k)) ∙ at 0 (some_first (length vs)),
    opened_are ρ ss vs (suc k) (and_parts (has_sort ctors v s) _ h).1
        (λ i lt. ap chosen (plus_suc k i) ∙ at (suc i) (suc_less i (length vs) lt)) o.1,
  )

pub runs_exist : RunsExist
runs_exist p i f args called check fuel missing =
    let ctors = p.types.ctors in
    let chosen : Values = λ k. slice_index_or args k (Truth false) in
    let run = run_steps p.functions f check fuel in
    let ρ = solved ctors missing chosen 0 run.steps (λ k. Truth false) in
    let both = solved_obeys ctors missing chosen 0 run.steps (λ k. Truth false) (run_reads p.functions f check fuel) in
    let ss = param_sorts f.params in
    let opens = map open_step ss in
    let tail = steps.Bool true ∷ [] in
    let rest = (R p.functions f check fuel).steps ++ (F p.functions f check fuel).steps in
    let o = open_left ctors missing chosen ρ 0 opens tail
    (open_left ctors missing chosen ρ 0 (opens ++ tail) rest both.1) in (
      ρ,
      record {
        steps = both.0;
        arguments = opened_are ctors missing chosen ρ ss args 0 called.arguments (λ j lt. ap chosen (zero_plus j)) o;
      },
    )
