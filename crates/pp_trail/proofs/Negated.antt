-- Clauses whose literals are all negated.
use Rattle.std.proofs.Common.{◌≡◌, true, List, [], ◌∷◌, refl, ap, ◌∙◌, inl, inr}
use Rattle.std.proofs.lemmas.Bool.{and_from, and_parts}
use Rattle.pp_clause.specs.Literal.{Literal, opposite}
use Rattle.pp_clause.specs.Clause.{has}
use Rattle.pp_clause.specs.Log.{all_negated}
use Rattle.pp_clause.proofs.Has.{has-nil, has-cases, has-here, has-there}

-- all literals of a false clause are negated
pub all_negated_from : (set ls : List Literal) → ((m : Literal) → has ls m ≡ true → has set (opposite m) ≡ true)
    → all_negated set ls ≡ true
all_negated_from set [] f = refl
all_negated_from set (l ∷ ls) f = and_from (has set (opposite l)) (all_negated set ls) (f l (has-here l ls))
    (all_negated_from set ls (λ m h. f m (has-there l ls m h)))

pub negated_at : (set ls : List Literal) (m : Literal) → all_negated set ls ≡ true → has ls m ≡ true
    → has set (opposite m) ≡ true
negated_at set [] m h k = absurd (has-nil m k)
negated_at set (l ∷ ls) m h k =
    let p = and_parts (has set (opposite l)) (all_negated set ls) h in
    elim (has-cases l ls m k) [
      | inl e ↦ ap (λ (z : Literal). has set (opposite z)) e
          ∙ p.0
      | inr j ↦ negated_at set ls m p.1 j
    ]
