use Rattle.std.proofs.Common.{ℕ, ◌≡◌, Bool, rules}
use Rattle.std.proofs.lemmas.List.Sorted.{IsNonDecreasingBy-from_sort_by_key}
use Rattle.pp_clause.specs.Clause.{HasBoth, SameLiterals, clause_value}
use Rattle.pp_clause.proofs.Sorting.{same_from_permutation}
use Rattle.pp_clause.proofs.Truth.{both_same, same_along, always_true, clause_value_same}
use Rattle.pp_clause.proofs.Ascending.{not_both_from}
use Rattle.pp_clause.proofs.Outcomes.{none_weaker, some_weaker}
use Rattle.pp_clause.proofs.clause.Clause.of_mut.Goals as goal

pub merged-requires : goal.merged-requires
merged-requires c = IsNonDecreasingBy-from_sort_by_key (λ l. l.var) _ c.sort_unstable_by_key.ensures.sorted
    (λ a r q k. search rules)

pub returns-clause-left : goal.returns-clause-left
returns-clause-left c = same_from_permutation _ _ c.sort_unstable_by_key.ensures.permutation

pub returns-clause-none : goal.returns-clause-none
returns-clause-none c =
    let s = same_from_permutation _ _ c.sort_unstable_by_key.ensures.permutation in
    none_weaker c.merged.result _ _ (both_same _ _ s) c.merged.ensures.none

pub returns-clause-always : goal.returns-clause-always
returns-clause-always c =
    let s = same_from_permutation _ _ c.sort_unstable_by_key.ensures.permutation in
    none_weaker c.merged.result _ _ (λ h. always_true _ (both_same _ _ s h)) c.merged.ensures.none

pub returns-clause-apart : goal.returns-clause-apart
returns-clause-apart c =
    let s = same_from_permutation _ _ c.sort_unstable_by_key.ensures.permutation in
    some_weaker c.merged.result _ _ (λ o. HasBoth c.args.lits.now → ⊥)
    (λ l e o. not_both_from l _ (same_along _ _ _ e s) o) c.merged.ensures.same c.merged.ensures.order

pub returns-clause-same : goal.returns-clause-same
returns-clause-same c =
    let s = same_from_permutation _ _ c.sort_unstable_by_key.ensures.permutation in
    some_weaker c.merged.result _ _ (λ l. SameLiterals l c.args.lits.now) (λ l e o. same_along _ _ _ e s)
    c.merged.ensures.same c.merged.ensures.order

pub returns-clause-value : goal.returns-clause-value
returns-clause-value c =
    let s = same_from_permutation _ _ c.sort_unstable_by_key.ensures.permutation in
    some_weaker c.merged.result _ _ (λ l. (a : ℕ → Bool) → clause_value a l ≡ clause_value a c.args.lits.now)
    (λ l e o. clause_value_same _ _ (same_along _ _ _ e s)) c.merged.ensures.same c.merged.ensures.order
