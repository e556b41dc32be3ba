-- The laws of pruned steps.
use Rattle.std.proofs.Common.{◌≡◌, ℕ, suc, ◌+◌, Bool, List, [], ◌∷◌, ◌++◌, length, map}
use Rattle.std.proofs.Common.{slice_get, Some, Contains, refl, sym, ap, ◌∙◌, subst, arith}
use Rattle.pp_prog.specs.declared.sort.Sort.{Sort}
use Rattle.pp_steps.proofs.Counting.{zero_plus}
use Rattle.pp_steps.specs.declared.step.Step.{Step}
use Rattle.pp_steps.specs.Frames.{open_step}
use Rattle.pp_steps.specs.Known.{AllTell}
use Rattle.pp_steps.specs.Meaning.{Obeys}
use Rattle.pp_steps.specs.Reads.{AllRead}
use Rattle.pp_steps.specs.Sorted.{AllSorted}
use Rattle.pp_simplify.specs.Marks.{is_marked}
use Rattle.pp_simplify.specs.Operands.{Each, operands}
use Rattle.pp_simplify.specs.Pruned.{IsPruned, asked_one, first_one, operand, pruned}
use Rattle.pp_simplify_laws.specs.Kept.{kept_sorts, kept_values}
use Rattle.pp_simplify_laws.specs.Laws.{AreKept, PrunedFit, PrunedKeep, PrunedLast, PrunedObey}
use Rattle.pp_simplify_laws.specs.Laws.{PrunedRead, PrunedSorted, PrunedTell}
use Rattle.pp_simplify_laws.proofs.Pruned.{AllClosed, IsOn, gates_pruned, high_pruned, length_pruned, obeys_pruned}
use Rattle.pp_simplify_laws.proofs.Pruned.{opens_pruned, reads_pruned, sorted_pruned, tells_pruned}

each_of : (P : ℕ → Type 0) (ns : List ℕ) → ((a : ℕ) → Contains ns a → P a) → Each P ns
each_of P [] all = tt
each_of P (n ∷ ns) all = (
  all n (0, omega arith, refl),
  each_of P ns (λ a c. all a (suc c.0, omega (arith, c.1), c.2)),
)

closed_from : (kept : ℕ → Bool) (k : ℕ) (ss : List Step)
    → ((i j : ℕ) (s : Step) → slice_get ss i ≡ Some s → j ≡ k + i → IsOn kept j → Each (IsOn kept) (operands s))
    → AllClosed kept k ss
closed_from kept k [] all = tt
closed_from kept k (s ∷ ss) all = (
  all 0 k s refl (omega arith),
  closed_from kept (suc k) ss (λ i j t at e. all (suc i) j t at (omega arith)),
)

module _ (first asked : ℕ) (old new : List Step) (is : IsPruned first asked old new) where
  abbrev kept : ℕ → Bool
  kept = is_marked is.marks

  closed : AllClosed kept 0 old
  closed = closed_from kept 0 old (λ i j s at e on.
      let here : i ≡ j = omega arith in
      each_of (IsOn kept) (operands s)
      (λ a c. is.needed.every a (operand j s a (is.needed.only j on) (ap (slice_get old) (sym here) ∙ at) c)))

  are_kept : AreKept first asked is.marks
  are_kept = record {
    front = λ k lt. is.needed.every k (first_one k lt);
    target = is.needed.every asked asked_one;
  }

-- the closure of the steps behind the first ones
closed_behind : (kept : ℕ → Bool) (k : ℕ) (xs ys : List Step) → AllClosed kept k (xs ++ ys)
    → AllClosed kept (k + length xs) ys
closed_behind kept k [] ys h = let e : k ≡ k + 0 = omega arith in subst (λ n. AllClosed kept n ys) e h
closed_behind kept k (x ∷ xs) ys h =
    let e : suc k + length xs ≡ k + suc (length xs) = omega arith in
    subst (λ n. AllClosed kept n ys) e (closed_behind kept (suc k) xs ys h.1)

opens_length : (params : List Sort) → length (map open_step params) ≡ length params
opens_length [] = refl
opens_length (p ∷ ps) = ap suc (opens_length ps)

pub pruned_keep : PrunedKeep
pruned_keep first asked old new is = are_kept first asked old new is

pub pruned_obey : PrunedObey
pruned_obey first asked old new is ctors missing ρ obeys =
    subst (λ l. Obeys ctors missing (kept_values (is_marked is.marks) ρ) 0 l) (sym is.steps)
    (obeys_pruned (is_marked is.marks) ctors missing ρ 0 old (closed first asked old new is) obeys)

pub pruned_tell : (K : ℕ → Type 0) → PrunedTell K
pruned_tell K first asked old new is ρ tells =
    tells_pruned (is_marked is.marks) ρ K 0 old (closed first asked old new is)
    (subst (λ l. AllTell (kept_values (is_marked is.marks) ρ) K 0 l) is.steps tells)

pub pruned_read : PrunedRead
pruned_read first asked old new is reads =
    subst (λ l. AllRead 0 l) (sym is.steps) (reads_pruned (is_marked is.marks) 0 old reads)

pub pruned_last : PrunedLast
pruned_last first asked old new is = ap length is.steps ∙ length_pruned (is_marked is.marks) 0 old

pub pruned_sorted : PrunedSorted
pruned_sorted first asked old new is types σ sorted =
    subst (λ l. AllSorted types (kept_sorts (is_marked is.marks) σ) 0 l) (sym is.steps)
    (sorted_pruned (is_marked is.marks) types σ 0 old (closed first asked old new is) sorted)

pub pruned_fit : PrunedFit
pruned_fit first asked old new is params rest many split types σ η high =
    let kept = is_marked is.marks in
    let all = subst (λ l. AllClosed kept 0 l) split (closed first asked old new is) in
    let opens = zero_plus (length (map open_step params)) ∙ opens_length params in
    let behind : AllClosed kept (length params) rest =
    subst (λ n. AllClosed kept n rest) opens (closed_behind kept 0 (map open_step params) rest all) in
    record {
      steps = pruned kept (length params) rest;
      split = is.steps ∙ ap (pruned kept 0) split
          ∙ opens_pruned kept 0 params rest (λ i lt. (are_kept first asked old new is).front i (omega arith))
          ∙ ap (λ n. map open_step params ++ pruned kept n rest) (zero_plus (length params));
      high = high_pruned kept types σ η (length params) rest behind high;
      few = gates_pruned kept types σ η (length params) rest behind;
    }
