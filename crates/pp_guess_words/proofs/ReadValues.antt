-- Values that are read, one for each step, obey all steps but the open calls, where each is what its step makes of
-- earlier ones.
use Rattle.std.proofs.Common.{◌≡◌, ◌<◌, ◌≤◌, ℕ, suc, ◌+◌, true, List, [], ◌∷◌, length, Some, refl, sym, ◌∙◌, subst}
use Rattle.std.proofs.Common.{arith}
use Rattle.std.specs.Prelude.{slice_get}
use Rattle.pp_prog.specs.declared.types.TypeTable.{TypeTable}
use Rattle.pp_prog.specs.Cone.{is_word}
use Rattle.pp_steps.specs.declared.step.Step.{Step}
use Rattle.pp_steps.specs.declared.step.Step.TheVariants as steps
use Rattle.pp_steps.specs.Known.{Tells}
use Rattle.pp_steps.specs.Meaning.{Does, Missing, Values}
use Rattle.pp_steps.specs.Reads.{AllRead, Reads}
use Rattle.pp_steps.specs.Sorted.{AllSorted, Constructs, IsSorted, Selects, Sorts}
use Rattle.pp_steps_exist.proofs.Solve.{set, set_here, set_less, solved_obeys, value}
use Rattle.pp_guess_steps.specs.Laws.{DoesRest, ObeysRest}
use Rattle.pp_guess_words.proofs.WordSorts.{no_tree}

-- what is known of the values of numbers below n is that they are those that were read
pub record IsRead (own : Values) (K : Values → ℕ → Type 0) (n : ℕ) : Type 0 where
  pub stands : (ρ : Values) (j : ℕ) → j < n → ρ j ≡ own j → K ρ j
  pub read : (ρ : Values) (j : ℕ) → j < n → K ρ j → ρ j ≡ own j

module _ (types : TypeTable) (missing : Missing) (σ : Sorts) (own : Values) (K : Values → ℕ → Type 0) where
  -- the values that were read, with the step's own value in its place
  abbrev With : ℕ → Step → Values
  With k s = set own k (value types.ctors missing own own k s)

  -- of values that do the step it tells what is known
  abbrev Knows : ℕ → Step → Type 0
  Knows k s = (ρ : Values) → Does types.ctors missing ρ s (ρ k) → Tells ρ (K ρ) s k

  module _ (n : ℕ) (is : IsRead own K n) where
    told : (k : ℕ) (s : Step) → Reads k s → Knows k s → Tells (With k s) (K (With k s)) s k
    told k s reads knows =
        knows (With k s) (solved_obeys types.ctors missing own k (s ∷ []) own (reads, tt)).0.0

    operand : (k : ℕ) (s : Step) → k < n → (a : ℕ) → a < k → K (With k s) a
    operand k s lt a less =
        is.stands (With k s) a (omega (arith, lt, less)) (set_less own k (value types.ctors missing own own k s) a less)

    here : (k : ℕ) (s : Step) → k < n → K (With k s) k → own k ≡ value types.ctors missing own own k s
    here k s lt known =
        sym (is.read (With k s) k lt known) ∙ set_here own k (value types.ctors missing own own k s)

    step_read : (k : ℕ) (s : Step) → k < n → Reads k s → IsSorted types σ s (σ k)
        → ((j : ℕ) → j < n → is_word (σ j) ≡ true) → Knows k s → DoesRest types.ctors missing own s (own k)
    step_read k (steps.Open s) lt r h words knows = tt
    step_read k (steps.Int z) lt r h words knows = here k (steps.Int z) lt (told k (steps.Int z) r knows)
    step_read k (steps.Bool b) lt r h words knows = here k (steps.Bool b) lt (told k (steps.Bool b) r knows)
    step_read k (steps.Not a) lt r h words knows =
        let s = steps.Not a in here k s lt (told k s r knows (operand k s lt a r))
    step_read k (steps.Both a b) lt r h words knows =
        let s = steps.Both a b in
        here k s lt (told k s r knows (operand k s lt a r.0) (λ on. operand k s lt b r.1))
    step_read k (steps.Choose c a b) lt r h words knows =
        let s = steps.Choose c a b in
        here k s lt
        (told k s r knows (operand k s lt c r.0) (λ on. operand k s lt a r.1) (λ off. operand k s lt b r.2))
    step_read k (steps.Unary op a) lt r h words knows =
        let s = steps.Unary op a in here k s lt (told k s r knows (operand k s lt a r))
    step_read k (steps.Binary op a b) lt r h words knows =
        let s = steps.Binary op a b in
        here k s lt (told k s r knows (operand k s lt a r.0) (operand k s lt b r.1))
    step_read k (steps.Construct c fields) lt r h words knows =
        let made : Constructs types σ c fields (σ k) = h in absurd (no_tree (σ k) made.ctor.of (words k lt) made.result)
    step_read k (steps.IsCtor c m a) lt r h words knows =
        let s = steps.IsCtor c m a in here k s lt (told k s r knows (operand k s lt a r))
    step_read k (steps.CtorField c i a) lt r h words knows =
        let made : Selects types σ c i a (σ k) = h in
        absurd (no_tree (σ a) made.ctor.of (words a (omega (arith, lt, r))) made.operand)
    step_read k (steps.Field a i) lt r h words knows =
        let s = steps.Field a i in here k s lt (told k s r knows (operand k s lt a r))
    step_read k (steps.IsAlike a b) lt r h words knows =
        let s = steps.IsAlike a b in
        here k s lt (told k s r knows (operand k s lt a r.0) (operand k s lt b r.1))
    step_read k (steps.GoesDown a b) lt r h words knows =
        let s = steps.GoesDown a b in
        here k s lt (told k s r knows (operand k s lt a r.0) (operand k s lt b r.1))
    step_read k (steps.HasAnswer c) lt r h words knows = tt
    step_read k (steps.Answer c) lt r h words knows = tt

    steps_read : (k : ℕ) (ss : List Step) → k + length ss ≤ n → AllRead k ss → AllSorted types σ k ss
        → ((j : ℕ) → j < n → is_word (σ j) ≡ true)
        → ((i : ℕ) (s : Step) → slice_get ss i ≡ Some s → Knows (k + i) s)
        → ObeysRest types.ctors missing own k ss
    steps_read k [] le r h words knows = tt
    steps_read k (s ∷ ss) le r h words knows = (
      step_read k s (first k (length ss) le) r.0 h.0 words
          (subst (λ j. Knows j s) (plus_none k) (knows 0 s refl)),
      steps_read (suc k) ss (rest k (length ss) le) r.1 h.1 words
          (λ i t at. subst (λ j. Knows j t) (plus_suc k i) (knows (suc i) t at)),
    )
      where
        first : (k m : ℕ) → k + suc m ≤ n → k < n
        first k m le = omega (arith, le)

        rest : (k m : ℕ) → k + suc m ≤ n → suc k + m ≤ n
        rest k m le = omega (arith, le)

        plus_none : (k : ℕ) → k + 0 ≡ k
        plus_none k = omega arith

        plus_suc : (k i : ℕ) → k + suc i ≡ suc k + i
        plus_suc k i = omega arith

  -- where each step has a word
  pub read_values : (ss : List Step) → AllRead 0 ss → AllSorted types σ 0 ss
      → ((k : ℕ) → k < length ss → is_word (σ k) ≡ true) → IsRead own K (length ss)
      → ((ρ : Values) (k : ℕ) (s : Step) → slice_get ss k ≡ Some s → Does types.ctors missing ρ s (ρ k)
      → Tells ρ (K ρ) s k) → ObeysRest types.ctors missing own 0 ss
  read_values ss reads sorted words is knows =
      steps_read (length ss) is 0 ss (none_less (length ss)) reads sorted words
      (λ i s at. subst (λ j. Knows j s) (zero_plus i) (λ ρ does. knows ρ i s at does))
    where
      none_less : (n : ℕ) → 0 + n ≤ n
      none_less n = omega arith

      zero_plus : (i : ℕ) → i ≡ 0 + i
      zero_plus i = omega arith
