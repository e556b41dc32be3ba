-- Steps that are replaced one after another.
use Rattle.std.proofs.Common.{◌≡◌, ℕ, zero, suc, ◌+◌, ◌<◌, Bool, true, false, List, [], ◌∷◌, length, slice_set, refl}
use Rattle.std.proofs.Common.{sym, ap, ◌∙◌, arith}
use Rattle.std.specs.Prelude.{if◌then◌else◌}
use Rattle.pp_steps.proofs.Counting.{add_suc, plus_zero}
use Rattle.pp_steps.specs.declared.step.Step.{Step}
use Rattle.pp_steps.specs.declared.step.Step.TheVariants as steps
use Rattle.pp_simplify.specs.Pruned.{pruned}

module _ (kept : ℕ → Bool) where
  -- the steps of which the first n were looked at
  abbrev pub pruned_to : ℕ → ℕ → List Step → List Step
  pruned_to zero k ss = ss
  pruned_to (suc n) k [] = []
  pruned_to (suc n) k (s ∷ ss) = (if kept k then s else steps.Bool false) ∷ pruned_to n (suc k) ss

  pub pruned_to_length : (n k : ℕ) (ss : List Step) → length (pruned_to n k ss) ≡ length ss
  pruned_to_length zero k ss = refl
  pruned_to_length (suc n) k [] = refl
  pruned_to_length (suc n) k (s ∷ ss) = ap suc (pruned_to_length n (suc k) ss)

  all_pruned : (k : ℕ) (ss : List Step) → pruned_to (length ss) k ss ≡ pruned kept k ss
  all_pruned k [] = refl
  all_pruned k (s ∷ ss) = ap (λ l. (if kept k then s else steps.Bool false) ∷ l) (all_pruned (suc k) ss)

  pub pruned_all : (n : ℕ) (ss : List Step) → n ≡ length ss → pruned_to n 0 ss ≡ pruned kept 0 ss
  pruned_all n ss e = ap (λ i. pruned_to i 0 ss) e ∙ all_pruned 0 ss

  keep_from : (n k : ℕ) (ss : List Step) → n < length ss → kept (k + n) ≡ true
      → pruned_to (suc n) k ss ≡ pruned_to n k ss
  keep_from n k [] lt on = absurd (omega arith)
  keep_from zero k (s ∷ ss) lt on =
      ap (λ b. (if b then s else steps.Bool false) ∷ ss) (ap kept (sym (plus_zero k)) ∙ on)
  keep_from (suc n) k (s ∷ ss) lt on =
      ap (λ l. (if kept k then s else steps.Bool false) ∷ l)
      (keep_from n (suc k) ss (omega arith) (ap kept (sym (add_suc k n)) ∙ on))

  replace_from : (n k : ℕ) (ss : List Step) → n < length ss → kept (k + n) ≡ false
      → pruned_to (suc n) k ss ≡ slice_set (pruned_to n k ss) n (steps.Bool false)
  replace_from n k [] lt off = absurd (omega arith)
  replace_from zero k (s ∷ ss) lt off =
      ap (λ b. (if b then s else steps.Bool false) ∷ ss) (ap kept (sym (plus_zero k)) ∙ off)
  replace_from (suc n) k (s ∷ ss) lt off =
      ap (λ l. (if kept k then s else steps.Bool false) ∷ l)
      (replace_from n (suc k) ss (omega arith) (ap kept (sym (add_suc k n)) ∙ off))

  -- a turn of the loop, at a step that is kept and at one that isn't
  pub keep_turn : (n m : ℕ) (old ss : List Step) → n < length ss → m ≡ suc n → kept n ≡ true → old ≡ pruned_to n 0 ss
      → old ≡ pruned_to m 0 ss
  keep_turn n m old ss lt next on is =
      is ∙ sym (keep_from n 0 ss lt (ap kept (zero_plus n) ∙ on)) ∙ ap (λ i. pruned_to i 0 ss) (sym next)
    where
      zero_plus : (k : ℕ) → 0 + k ≡ k
      zero_plus k = omega arith

  pub replace_turn : (n m : ℕ) (old new ss : List Step) → n < length ss → m ≡ suc n → kept n ≡ false
      → old ≡ pruned_to n 0 ss → new ≡ slice_set old n (steps.Bool false) → new ≡ pruned_to m 0 ss
  replace_turn n m old new ss lt next off is set =
      set ∙ ap (λ l. slice_set l n (steps.Bool false)) is
      ∙ sym (replace_from n 0 ss lt (ap kept (zero_plus n) ∙ off)) ∙ ap (λ i. pruned_to i 0 ss) (sym next)
    where
      zero_plus : (k : ℕ) → 0 + k ≡ k
      zero_plus k = omega arith
