-- Where all steps are visited and each clause is guarded, the trail is closed.
use Rattle.std.proofs.Common.{ℕ, ◌≡◌, ◌≢◌, ◌<◌, true, false, List, [], sym, ap, ◌∙◌, subst, inl, inr, ◌⊎◌}
use Rattle.std.proofs.Common.{arith, length, get_or, take}
use Rattle.std.proofs.lemmas.Bool.{cases_Bool, false_from_ne_true}
use Rattle.std.proofs.lemmas.List.{take_all, get_or_default}
use Rattle.pp_clause.specs.Literal.{Literal, opposite}
use Rattle.pp_clause.specs.Clause.{has, HasBoth, literal_eq}
use Rattle.pp_clause.specs.Log.{all_negated}
use Rattle.pp_clause.specs.New.{IsClosed, IsOpen, OthersNegated}
use Rattle.pp_clause.proofs.Has.{false_not_true, literal_eq-true, literal_eq-same}
use Rattle.pp_trail.specs.declared.step.Step.{Step}
use Rattle.pp_trail.specs.Trail.{lits, IsTrail}
use Rattle.pp_trail.proofs.Places.{distinct_apart}
use Rattle.pp_trail.proofs.Negated.{negated_at}
use Rattle.pp_trail.specs.Marks.{code}
use Rattle.pp_watch.specs.Watching.{clause_at, head_at, HasTrue, IsGuarded, IsWatching, IsVisited}
use Rattle.pp_watch.specs.declared.head.Head.{Head}
use Rattle.pp_watch.specs.declared.watcher.Watcher.{Watcher}
use Rattle.pp_watch.proofs.Watched.{same_or_not}

-- what a clause without need of a look says for closed sets
pub record IsSettled (set c : List Literal) : Type 0 where
  pub not_false : all_negated set c ≡ false
  pub not_unit : (l : Literal) → has c l ≡ true → OthersNegated set c l → IsOpen set l → ⊥

pub same_literal : (l m : Literal) → (l ≡ m) ⊎ (l ≢ m)
same_literal l m =
    elim (cases_Bool (literal_eq l m)) [
      | inl t ↦ inl (literal_eq-true l m t)
      | inr f ↦ inr (λ e. false_not_true (sym f ∙ ap (literal_eq l) (sym e) ∙ literal_eq-same l))
    ]

-- a true literal
true_settled : (set c : List Literal) → (HasBoth set → ⊥) → HasTrue set c → IsSettled set c
true_settled set c apart t =
    let never : has set (opposite t.literal) ≡ true → ⊥ = λ k. apart
    (record { literal = t.literal; itself = t.itself; negation = k }) in
    record {
      not_false = false_from_ne_true (all_negated set c) (λ n. never (negated_at set c t.literal n t.held));
      not_unit = λ l k others op.
          elim (same_literal t.literal l) [
            | inl e ↦ false_not_true (sym op.itself ∙ ap (has set) (sym e) ∙ t.itself)
            | inr ne ↦ never (others.negated t.literal t.held ne)
          ];
    }

-- two literals that aren't false
two_settled : (set c : List Literal) (a b : Literal) → has c a ≡ true → has c b ≡ true → a ≢ b →
    (has set (opposite a) ≡ true → ⊥) → (has set (opposite b) ≡ true → ⊥) → IsSettled set c
two_settled set c a b ha hb ne na nb = record {
  not_false = false_from_ne_true (all_negated set c) (λ n. na (negated_at set c a n ha));
  not_unit = λ l k others op.
      elim (same_literal a l) [
        | inr far ↦ na (others.negated a ha far)
        | inl e ↦ nb (others.negated b hb (λ f. ne (e ∙ sym f)))
      ];
}

guarded_settled : (set c : List Literal) (h : Head) → (HasBoth set → ⊥) → has c h.first ≡ true → has c h.second
    ≡ true → IsGuarded set set c h → IsSettled set c
guarded_settled set c h apart first second g =
    elim (same_or_not (code h.first) (code h.second)) [
      | inl e ↦ true_settled set c apart (g.single e)
      | inr ne ↦ elim (cases_Bool (has set (opposite h.first))) [
        | inl t ↦ true_settled set c apart (g.first t)
        | inr f ↦ elim (cases_Bool (has set (opposite h.second))) [
          | inl t ↦ true_settled set c apart (g.second t)
          | inr k ↦ two_settled set c h.first h.second first second (λ e. ne (ap code e))
              (λ t. false_not_true (sym f ∙ t)) (λ t. false_not_true (sym k ∙ t))
        ]
      ]
    ]

pub closed_from_visited : (cs : List (List Literal)) (vars : ℕ) (heads : List Head) (lists : List (List Watcher))
    (ss : List Step) (visited : ℕ) (levels : List ℕ) → IsTrail cs vars ss → IsWatching cs vars heads lists →
    IsVisited cs heads ss visited levels → length heads ≡ length cs → visited ≡ length ss → IsClosed cs (lits ss)
closed_from_visited cs vars heads lists ss visited levels t w i all end =
    let whole : take visited ss ≡ ss = take_all visited ss (omega arith) in
    let apart : HasBoth (lits ss) → ⊥ = distinct_apart ss t.distinct in
    let each : (k : ℕ) (d : List Literal) → k < length cs → IsSettled (lits ss) (get_or cs k d) = λ k d lt.
    (let b : k < length heads = omega arith in
    let own = w.watched k b in
    subst (λ (c : List Literal). IsSettled (lits ss) c) (get_or_default cs k [] d lt)
    (guarded_settled (lits ss) (clause_at cs k) (head_at heads k) apart own.first_held own.second_held
    (subst (λ (z : List Step). IsGuarded (lits z) (lits ss) (clause_at cs k) (head_at heads k)) whole
    (i.guarded k b)))) in
    record {
      apart = apart;
      none_false = λ k d lt. (each k d lt).not_false;
      none_unit = λ k d lt. (each k d lt).not_unit;
    }
