-- The clause that the marks show.
use Rattle.std.proofs.Common.{ℕ, ◌+◌, ◌≡◌, ◌<◌, Bool, true, false, List, ◌∷◌, ◌++◌, [], sym, refl, ap, ◌∙◌, subst, inl}
use Rattle.std.proofs.Common.{inr, length, get_or, take}
use Rattle.std.specs.Prelude.{◌&&◌}
use Rattle.std.proofs.lemmas.Bool.{and_parts, and_from}
use Rattle.std.proofs.lemmas.List.{take_more, map-append}
use Rattle.pp_clause.specs.Literal.{Literal, opposite}
use Rattle.pp_clause.specs.Clause.{has, HasBoth, SameLiterals}
use Rattle.pp_clause.specs.Derivation.{Derives}
use Rattle.pp_clause.proofs.Has.{has-append_left, has-push_cases, has-push_last, opposite_twice, same_bool}
use Rattle.pp_clause.proofs.Has.{false_not_true}
use Rattle.pp_trail.specs.declared.step.Step.{Step}
use Rattle.pp_trail.specs.Trail.{lits}
use Rattle.pp_learn.specs.Seen.{is_marked, Shows}
use Rattle.pp_learn.specs.Reached.{Reached}

-- one more step of the trail
lits_more : (steps : List Step) (i : ℕ) (s : Step) → i < length steps → s ≡ get_or steps i s
    → lits (take (i + 1) steps) ≡ lits (take i steps) ++ s.lit ∷ []
lits_more steps i s lt is =
    ap lits (take_more steps i s lt) ∙ map-append (λ (z : Step). z.lit) (take i steps) (get_or steps i s ∷ [])
    ∙ ap (λ (z : Step). lits (take i steps) ++ z.lit ∷ []) (sym is)

pub shows_first : (seen : List Bool) (steps : List Step) → Shows seen (lits (take 0 steps)) []
shows_first seen steps = record { same = λ m. nothing (is_marked seen m.var) }
  where
    nothing : (b : Bool) → false ≡ (b && false)
    nothing true = refl
    nothing false = refl

-- the step isn't marked
pub shows_skip : (seen : List Bool) (steps : List Step) (i : ℕ) (s : Step) (found : List Literal) → i < length steps
    → s ≡ get_or steps i s → is_marked seen s.lit.var ≡ false → Shows seen (lits (take i steps)) found
    → Shows seen (lits (take (i + 1) steps)) found
shows_skip seen steps i s found lt is h k = record {
  same = λ m. k.same m ∙ same_bool _ _
      (λ t. let p = and_parts (is_marked seen m.var) (has (lits (take i steps)) (opposite m)) t in
      and_from (is_marked seen m.var) (has (lits (take (i + 1) steps)) (opposite m)) p.0
      (subst (λ (z : List Literal). has z (opposite m) ≡ true) (sym (lits_more steps i s lt is))
      (has-append_left (lits (take i steps)) (s.lit ∷ []) (opposite m) p.1)))
      (λ t. let p = and_parts (is_marked seen m.var) (has (lits (take (i + 1) steps)) (opposite m)) t in
      and_from (is_marked seen m.var) (has (lits (take i steps)) (opposite m)) p.0
      (elim (has-push_cases (lits (take i steps)) s.lit (opposite m)
      (subst (λ (z : List Literal). has z (opposite m) ≡ true) (lits_more steps i s lt is) p.1)) [
        | inl j ↦ j
        | inr e ↦ absurd (false_not_true (sym h ∙ ap (is_marked seen) (sym (ap (λ (z : Literal). z.var) e)) ∙ p.0))
      ]));
}

-- it is marked
pub shows_add : (seen : List Bool) (steps : List Step) (i : ℕ) (s : Step) (found : List Literal) → i < length steps
    → s ≡ get_or steps i s → is_marked seen s.lit.var ≡ true → Shows seen (lits (take i steps)) found
    → Shows seen (lits (take (i + 1) steps)) (found ++ opposite s.lit ∷ [])
shows_add seen steps i s found lt is h k = record {
  same = λ m. same_bool _ _
      (λ t. elim (has-push_cases found (opposite s.lit) m t) [
        | inl j ↦ (let p = and_parts (is_marked seen m.var) (has (lits (take i steps)) (opposite m))
            (sym (k.same m) ∙ j) in
            and_from (is_marked seen m.var) (has (lits (take (i + 1) steps)) (opposite m)) p.0
            (subst (λ (z : List Literal). has z (opposite m) ≡ true) (sym (lits_more steps i s lt is))
            (has-append_left (lits (take i steps)) (s.lit ∷ []) (opposite m) p.1)))
        | inr e ↦ and_from (is_marked seen m.var) (has (lits (take (i + 1) steps)) (opposite m))
            (ap (is_marked seen) (ap (λ (z : Literal). z.var) e) ∙ h)
            (subst (λ (z : List Literal). has z (opposite m) ≡ true) (sym (lits_more steps i s lt is))
            (has-push_last (lits (take i steps)) s.lit (opposite m) (ap opposite e ∙ opposite_twice s.lit)))
      ])
      (λ t. let p = and_parts (is_marked seen m.var) (has (lits (take (i + 1) steps)) (opposite m)) t in
      elim (has-push_cases (lits (take i steps)) s.lit (opposite m)
      (subst (λ (z : List Literal). has z (opposite m) ≡ true) (lits_more steps i s lt is) p.1)) [
        | inl j ↦ has-append_left found (opposite s.lit ∷ []) m
            (k.same m ∙ and_from (is_marked seen m.var) (has (lits (take i steps)) (opposite m)) p.0 j)
        | inr e ↦ has-push_last found (opposite s.lit) m (sym (opposite_twice m) ∙ ap opposite e)
      ]);
}

-- what is shown has no literal with its negation, since the trail has none
pub shown_apart : (seen : List Bool) (ls found : List Literal) → Shows seen ls found → (HasBoth ls → ⊥)
    → HasBoth found → ⊥
shown_apart seen ls found k apart b =
    apart (record {
      literal = opposite b.literal;
      itself = (and_parts (is_marked seen b.literal.var) (has ls (opposite b.literal))
          (sym (k.same b.literal) ∙ b.itself)).1;
      negation = (and_parts (is_marked seen b.literal.var) (has ls (opposite (opposite b.literal)))
          (sym (k.same (opposite b.literal)) ∙ b.negation)).1;
    })

pub shown_same : (seen : List Bool) (ls found c : List Literal) → Shows seen ls found → SameLiterals c found
    → Shows seen ls c
shown_same seen ls found c k e = record { same = λ m. e.same m ∙ k.same m }

-- the chain derives each clause that the marks show
pub derives_shown : (cs : List (List Literal)) (steps : List Step) (seen : List Bool) (chain : List ℕ)
    (c : List Literal) → Reached cs steps seen chain → Shows seen (lits steps) c → Derives cs chain c
derives_shown cs steps seen chain c r k = record {
  reached = r.found;
  by_chain = r.by_chain;
  same = record { same = λ m. r.shown.same m ∙ sym (k.same m) };
}
