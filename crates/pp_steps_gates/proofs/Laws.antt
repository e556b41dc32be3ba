-- The steps of a round fit its estimate.
use Rattle.std.proofs.Common.{◌≡◌, ℕ, zero, suc, ◌+◌, ◌*◌, ◌<◌, ◌≤◌, ◌⊎◌, inl, inr, min, Bool, true, false, List, []}
use Rattle.std.proofs.Common.{◌∷◌, ◌++◌, map, sum, length, Option, Some, None, refl, sym, ap, ◌∙◌, subst, arith}
use Rattle.std.proofs.Common.{append_assoc, length-append}
use Rattle.std.proofs.lemmas.Bool.Decides.{leb_tells}
use Rattle.std.proofs.lemmas.List.{append_cancel_left, length-map}
use Rattle.std.proofs.lemmas.Option.{slice_get_within}
use Rattle.std.proofs.Math.Nat.{add-zero, min-le_left, zero-add}
use Rattle.std.specs.Prelude.{◌^◌, nat_eq, if◌then◌else◌, slice_get}
use Rattle.pp_prog.specs.declared.expr.Function.{Function}
use Rattle.pp_prog.specs.declared.id.CheckId.{CheckId}
use Rattle.pp_prog.specs.declared.program.Program.{Program}
use Rattle.pp_prog.specs.declared.sort.Sort.{Sort}
use Rattle.pp_prog.specs.declared.sort.Sort.TheVariants as sort
use Rattle.pp_prog.specs.declared.types.TypeTable.{TypeTable}
use Rattle.pp_prog.specs.Sizes.{bits, height_at}
use Rattle.pp_prog.specs.Sorts.{param_sorts}
use Rattle.pp_estimate.specs.Cut.{top}
use Rattle.pp_estimate.specs.Estimates.{estimate, inputs, own_frame, shapes_to, single}
use Rattle.pp_estimate.specs.Events.{cost}
use Rattle.pp_estimate_laws.proofs.Estimates.{sums_rounds}
use Rattle.pp_estimate_laws.proofs.Numbers.{le_same, sum_grows}
use Rattle.pp_estimate_laws.proofs.Sizes.{height_grows}
use Rattle.pp_sound.specs.Sound.{IsCheckOf}
use Rattle.pp_sound.proofs.Calls.{whole}
use Rattle.pp_steps.proofs.Counting.{add_suc}
use Rattle.pp_steps.specs.declared.step.Step.{Step}
use Rattle.pp_steps.specs.declared.step.Step.TheVariants as steps
use Rattle.pp_steps.specs.Frames.{any_of, arguments, inlined, numbers, open_step, run_steps, running}
use Rattle.pp_steps.specs.Gates.{AllHigh, Heights, all_gates, open_gates}
use Rattle.pp_steps.specs.Piece.{Piece, after}
use Rattle.pp_steps.specs.Reads.{AllRead}
use Rattle.pp_steps.specs.Sorted.{AllSorted, Sorts}
use Rattle.pp_steps_exist.proofs.Laws.{runs_read}
use Rattle.pp_steps_gates.specs.Laws.{FitsIn, RunsFitEstimates}
use Rattle.pp_steps_gates.proofs.Deep.{Apart, Near, all_apart, all_near}
use Rattle.pp_steps_gates.proofs.Heights.{height_at_most, solved, solved_flat, solved_high, solved_keeps, solved_low}
use Rattle.pp_steps_gates.proofs.Pieces.{IsMade, gates, gates_of_both, made_by_both, made_first, made_rest}
use Rattle.pp_steps_gates.proofs.Runs.{any_few, running_few}
use Rattle.pp_steps_gates.proofs.Scopes.{Are}

-- ---- the later of two lists of steps

read_rest : (k : ℕ) (xs ys : List Step) → AllRead k (xs ++ ys) → AllRead (k + length xs) ys
read_rest k [] ys h = subst (λ n. AllRead n ys) (sym (add-zero k)) h
read_rest k (x ∷ xs) ys h = subst (λ n. AllRead n ys) (sym (add_suc k (length xs))) (read_rest (suc k) xs ys h.1)

sorted_rest : (types : TypeTable) (σ : Sorts) (k : ℕ) (xs ys : List Step) → AllSorted types σ k (xs ++ ys)
    → AllSorted types σ (k + length xs) ys
sorted_rest types σ k [] ys h = subst (λ n. AllSorted types σ n ys) (sym (add-zero k)) h
sorted_rest types σ k (x ∷ xs) ys h =
    subst (λ n. AllSorted types σ n ys) (sym (add_suc k (length xs))) (sorted_rest types σ (suc k) xs ys h.1)

-- ---- the arguments

abbrev height_in : ℕ → Option Sort → ℕ
height_in depth None = 0
height_in depth (Some s) = height_at depth s

-- the heights of arguments of these sorts
abbrev first_heights : ℕ → List Sort → Heights
first_heights depth ss i = height_in depth (slice_get ss i)

first_low : (depth : ℕ) (ss : List Sort) (i : ℕ) → first_heights depth ss i ≤ depth
first_low depth ss i = by (slice_get ss i)
  where
    by : (o : Option Sort) → height_in depth o ≤ depth
    by None = omega arith
    by (Some s) = height_at_most depth s

sort_there : (σ : Sorts) (ss : List Sort) (k i : ℕ) (s : Sort) → map σ (numbers k ss) ≡ ss → slice_get ss i ≡ Some s
    → σ (k + i) ≡ s
sort_there σ [] k i s e h = let no : None ≡ Some s = h in cc
sort_there σ (t ∷ ss) k zero s e h =
    let both : σ k ∷ map σ (numbers (suc k) ss) ≡ t ∷ ss = e in
    let is : Some t ≡ Some s = h in
    let same : σ k ≡ s = cc in ap σ (add-zero k) ∙ same
sort_there σ (t ∷ ss) k (suc i) s e h =
    let both : σ k ∷ map σ (numbers (suc k) ss) ≡ t ∷ ss = e in
    let rest : map σ (numbers (suc k) ss) ≡ ss = cc in
    ap σ (add_suc k i) ∙ sort_there σ ss (suc k) i s rest h

first_flat : (σ : Sorts) (depth : ℕ) (ss : List Sort) → map σ (numbers 0 ss) ≡ ss → (i : ℕ) → σ i ≡ sort.Bool
    → first_heights depth ss i ≡ 0
first_flat σ depth ss e i bit = by (slice_get ss i) (λ s h. sort_there σ ss 0 i s e h)
  where
    by : (o : Option Sort) → ((s : Sort) → o ≡ Some s → σ (0 + i) ≡ s) → height_in depth o ≡ 0
    by None h = refl
    by (Some s) h = ap (height_at depth) (sym (h s refl) ∙ ap σ (zero-add i) ∙ bit)

module _ (types : TypeTable) (σ : Sorts) (η : Heights) where
  arguments_are : (depth : ℕ) (ss : List Sort) (k : ℕ) → map σ (numbers k ss) ≡ ss
      → ((i : ℕ) (s : Sort) → slice_get ss i ≡ Some s → η (k + i) ≤ height_at depth s)
      → Are types σ η (numbers k ss) (shapes_to depth ss) ss
  arguments_are depth [] k e h = tt
  arguments_are depth (s ∷ ss) k e h =
      let both : σ k ∷ map σ (numbers (suc k) ss) ≡ s ∷ ss = e in
      let here : σ k ≡ s = cc in
      let rest : map σ (numbers (suc k) ss) ≡ ss = cc in (
        record {
          has = record {
            sort =
                here;
            height = subst (λ n. η n ≤ height_at depth s) (add-zero k) (h 0 s refl);
          };
          shape = refl;
        },
        arguments_are depth ss (suc k) rest (λ i t is.
            subst (λ n. η n ≤ height_at depth t) (add_suc k i) (h (suc i) t is)),
      )

open_fits : (types : TypeTable) (depth : ℕ) (s : Sort) → open_gates types depth s ≤ 4 * (32 + bits types depth s)
open_fits types depth sort.Int = omega arith
open_fits types depth sort.Bool = omega arith
open_fits types depth (sort.Tree d) = by (nat_eq depth 0) (4 * (32 + bits types depth (sort.Tree d)))
  where
    by : (b : Bool) (n : ℕ) → (if b then 0 else n) ≤ n
    by true n = omega arith
    by false n = le_same n

-- ---- the run

module _ (p : Program) (i : ℕ) (f : Function) (is : slice_get p.functions i ≡ Some f) (c : CheckId) (round : ℕ) where
  abbrev params : List Sort
  params = param_sorts f.params

  abbrev opens : List Step
  opens = map open_step params

  abbrev B : Piece (List ℕ)
  B = arguments params

  abbrev R : Piece ℕ
  R = running (inlined p.functions round (Some c)) (Some c) f (after 0 B) B.out B.alive

  abbrev F : Piece ℕ
  F = any_of R.fails (after (after 0 B) R) B.alive

  abbrev n : ℕ
  n = 0 + length opens

  after_first : after 0 B ≡ suc n
  after_first = ap (λ k. 0 + k) (length-append opens (steps.Bool true ∷ [])) ∙ one_more (length opens)
    where
      one_more : (a : ℕ) → 0 + (a + 1) ≡ suc (0 + a)
      one_more a = omega arith

  -- what stands after the arguments
  rest_is : (rest : List Step) → (run_steps p.functions f c round).steps ≡ opens ++ rest
      → rest ≡ steps.Bool true ∷ (R.steps ++ F.steps)
  rest_is rest e =
      sym (append_cancel_left opens (steps.Bool true ∷ (R.steps ++ F.steps)) rest
      (sym (append_assoc opens (steps.Bool true ∷ []) (R.steps ++ F.steps)) ∙ e))

  module _ (σ : Sorts) (η : Heights) (low : (k : ℕ) → η k ≤ top) (flat : (k : ℕ) → σ k ≡ sort.Bool → η k ≡ 0)
      (depth : ℕ) (args : map σ (numbers 0 params) ≡ params)
      (are : (k : ℕ) (s : Sort) → slice_get params k ≡ Some s → η (0 + k) ≤ height_at depth s) where
    -- the steps after the arguments take less than twice what the frame costs
    rest_few : IsMade p.types σ η n (steps.Bool true ∷ (R.steps ++ F.steps))
        → gates p.types σ η n (steps.Bool true ∷ (R.steps ++ F.steps)) + 64
        ≤ 2 * cost (own_frame p.types p.functions f round depth).events
    rest_few m =
        let k = after 0 B in
        let made : IsMade p.types σ η k (R.steps ++ F.steps) =
        subst (λ j. IsMade p.types σ η j (R.steps ++ F.steps)) (sym after_first) m.1 in
        let run = running_few p σ η low flat (Some c) round i f (whole p i f is) k B.out B.alive
        (shapes_to depth params) (arguments_are p.types σ η depth params 0 args are) m.0.0
        (made_first p.types σ η k R.steps F.steps made) in
        let any = any_few p σ η R.fails (after k R) B.alive (made_rest p.types σ η k R.steps F.steps made) in
        let sum_is = gates_of_both p.types σ η k R.steps F.steps in
        let moved = ap (λ j. gates p.types σ η j (R.steps ++ F.steps)) after_first in
        omega arith

-- ---- deep arguments

first_apart : (b depth : ℕ) (ss : List Sort) (i : ℕ)
    → Apart b i (first_heights depth ss i) (first_heights (min depth b) ss i)
first_apart b depth ss i = by (slice_get ss i)
  where
    tree : Apart b i depth (min depth b)
    tree = elim (leb_tells depth b) [
      | inl low ↦ inl (let l = low.1 in omega arith)
      | inr deep ↦ inr (let l = deep.1 in omega arith, let l = deep.1 in omega arith)
    ]

    by : (o : Option Sort) → Apart b i (height_in depth o) (height_in (min depth b) o)
    by None = inl refl
    by (Some sort.Int) = inl refl
    by (Some sort.Bool) = inl refl
    by (Some (sort.Tree d)) = tree

apart_near : (d m b i h g : ℕ) → b ≡ d + m → i < m → Apart b i h g → Near d h g
apart_near d m b i h g is le (inl e) = inl e
apart_near d m b i h g is le (inr far) = inr (omega arith, omega arith)

-- ---- the law

module _ (p : Program) (i : ℕ) (f : Function) (is : slice_get p.functions i ≡ Some f) (c : CheckId) (round : ℕ)
    (own : IsCheckOf p i c.0) (depth : ℕ)
    (small : estimate p.types p.functions p.checks c.0 round depth ≤ 4000000)
    (σ : Sorts) (sorts : AllSorted p.types σ 0 (run_steps p.functions f c round).steps)
    (args : map σ (numbers 0 (param_sorts f.params)) ≡ param_sorts f.params)
    (few : length (run_steps p.functions f c round).steps < 2 ^ 32) (rest : List Step)
    (all_is : (run_steps p.functions f c round).steps ≡ map open_step (param_sorts f.params) ++ rest) where
  abbrev ss : List Sort
  ss = param_sorts f.params

  abbrev start : ℕ
  start = 0 + length (map open_step ss)

  start_is : start ≡ length ss
  start_is = let e = length-map ss open_step in omega arith

  abbrev most : ℕ
  most = estimate p.types p.functions p.checks c.0 round depth

  reads : AllRead start rest
  reads =
      read_rest 0 (map open_step ss) rest (subst (λ z. AllRead 0 z) all_is (runs_read p.functions f c round))

  sorted : AllSorted p.types σ start rest
  sorted = sorted_rest p.types σ 0 (map open_step ss) rest (subst (λ z. AllSorted p.types σ 0 z) all_is sorts)

  -- the heights where arguments have the depth d
  abbrev at_depth : ℕ → Heights
  at_depth d = solved p.types σ start rest (first_heights d ss)

  high : (d : ℕ) → AllHigh p.types σ (at_depth d) start rest
  high d = solved_high p.types σ start rest (first_heights d ss) reads

  first_is : (d k : ℕ) → k < start → at_depth d k ≡ first_heights d ss k
  first_is d k le = solved_keeps p.types σ start rest (first_heights d ss) k le

  -- a depth that is great is as good as any that is greater
  abbrev bound : ℕ
  bound = min depth (2 ^ 33)

  abbrev η : Heights
  η = at_depth depth

  abbrev ζ : Heights
  ζ = at_depth bound

  count : start + length rest < 2 ^ 32
  count =
      let e = ap length all_is ∙ length-append (map open_step ss) rest in omega arith

  low : (k : ℕ) → ζ k ≤ top
  low k =
      let most_is = solved_low p.types σ start rest (first_heights bound ss) bound (first_low bound ss) k in
      let few_steps = count in
      omega arith

  flat : (k : ℕ) → σ k ≡ sort.Bool → ζ k ≡ 0
  flat = solved_flat p.types σ start rest (first_heights bound ss) sorted (first_flat σ bound ss args)

  place : (k : ℕ) (s : Sort) → slice_get ss k ≡ Some s → k < start
  place k s found = let le = slice_get_within ss k s found in let e = start_is in omega arith

  argument_is : (d k : ℕ) (s : Sort) → slice_get ss k ≡ Some s → at_depth d k ≡ height_at d s
  argument_is d k s found = first_is d k (place k s found) ∙ ap (height_in d) found

  argument_low : (k : ℕ) (s : Sort) → slice_get ss k ≡ Some s → ζ (0 + k) ≤ height_at depth s
  argument_low k s found =
      subst (λ n. n ≤ height_at depth s) (sym (ap ζ (zero-add k) ∙ argument_is bound k s found))
      (height_grows bound depth s (min-le_left depth (2 ^ 33)))

  near : (k : ℕ) → k < start + length rest → Near (2 ^ 32) (η k) (ζ k)
  near k le =
      apart_near (2 ^ 32) (2 ^ 32) (2 ^ 33) k (η k) (ζ k) (omega arith) (let few_steps = count in omega arith)
      (all_apart p.types (2 ^ 33) σ η ζ start rest reads (high depth) (high bound) first k le)
    where
      first : (j : ℕ) → j < start → Apart (2 ^ 33) j (η j) (ζ j)
      first j less =
          subst (λ n. Apart (2 ^ 33) j n (ζ j)) (sym (first_is depth j less))
          (subst (λ n. Apart (2 ^ 33) j (first_heights depth ss j) n) (sym (first_is bound j less))
          (first_apart (2 ^ 33) depth ss j))

  low_few : gates p.types σ ζ start rest + 64 ≤ 2 * cost (own_frame p.types p.functions f round depth).events
  low_few =
      let same = rest_is p i f is c round rest all_is in
      subst (λ z. gates p.types σ ζ start z + 64 ≤ 2 * cost (own_frame p.types p.functions f round depth).events)
      (sym same) (rest_few p i f is c round σ ζ low flat depth args argument_low
      (subst (λ z. IsMade p.types σ ζ start z) same (made_by_both p.types σ ζ start rest sorted (high bound))))

  -- one round by itself is estimated at no more than the rounds up to it
  single_fits : single p.types p.functions f round depth ≤ most
  single_fits =
      let there = ap (slice_get p.functions) own.owner ∙ is in
      let below : most < top = omega arith in
      let sum_is = sums_rounds p.types p.functions p.checks c.0 round depth own.check f own.listed there below in
      omega arith

  opens_fit : sum (map (open_gates p.types depth) ss) ≤ inputs p.types depth ss
  opens_fit = sum_grows (open_gates p.types depth) (λ s. 4 * (32 + bits p.types depth s)) ss (open_fits p.types depth)

  gates_same : gates p.types σ η start rest ≡ gates p.types σ ζ start rest
  gates_same = by (all_near p.types (2 ^ 32) σ η ζ start rest reads near)
    where
      by : (gates p.types σ η start rest ≡ gates p.types σ ζ start rest) ⊎ (2 ^ 32 ≤ gates p.types σ ζ start rest)
          → gates p.types σ η start rest ≡ gates p.types σ ζ start rest
      by (inl e) = e
      by (inr far) = absurd (let a = low_few in let b = single_fits in omega arith)

  fits : FitsIn p.types σ depth ss rest most
  fits = record {
    heights = η;
    arguments = argument_is depth;
    high = subst (λ n. AllHigh p.types σ η n rest) start_is (high depth);
    few = subst (λ n. 1 + (sum (map (open_gates p.types depth) ss) + all_gates p.types σ η n rest) ≤ most) start_is
        (let a = low_few in let b = single_fits in let d = opens_fit in let e = gates_same in omega arith);
  }

pub runs_fit_estimates : RunsFitEstimates
runs_fit_estimates plan p is_plan i f is c own round depth some small σ sorts args few rest all_is =
    fits p i f is c round own depth small σ sorts args few rest all_is
