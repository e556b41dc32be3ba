-- Closed sets when a clause is added, and new lemmas.
use Rattle.std.proofs.Common.{◌≡◌, ◌≢◌, true, false, List, [], ◌∷◌, ◌++◌, sym, ap, ◌∙◌, inl, inr, ◌⊎◌}
use Rattle.std.proofs.lemmas.Bool.{cases_Bool, both_ways, false_from_ne_true}
use Rattle.std.proofs.lemmas.List.Elements.{All-push}
use Rattle.pp_clause.specs.Literal.{Literal, opposite}
use Rattle.pp_clause.specs.Clause.{literal_eq, has}
use Rattle.pp_clause.specs.Log.{all_negated}
use Rattle.pp_clause.specs.New.{OthersNegated, IsOpen, IsClosed}
use Rattle.pp_clause.proofs.Has.{has-nil, has-cases, has-here, has-there, literal_eq-true, literal_eq-same}
use Rattle.pp_trail.proofs.Negated.{negated_at}

pub same_or_not : (l m : Literal) → (l ≡ m) ⊎ (l ≢ m)
same_or_not l m =
    elim (cases_Bool (literal_eq l m)) [
      | inl t ↦ inl (literal_eq-true l m t)
      | inr f ↦ inr (λ e. both_ways (literal_eq l m) f (ap (literal_eq l) (sym e) ∙ literal_eq-same l))
    ]

-- a literal of the clause, another than this one, whose negation isn't in the set
pub record NotNegated (set c : List Literal) (l : Literal) : Type 0 where
  pub literal : Literal
  pub held : has c literal ≡ true
  pub other : literal ≢ l
  pub missing : has set (opposite literal) ≡ false

others_step : (set : List Literal) (x : Literal) (xs : List Literal) (l : Literal)
    → ((x ≡ l) ⊎ (has set (opposite x) ≡ true)) → OthersNegated set xs l → OthersNegated set (x ∷ xs) l
others_step set x xs l here rest = record {
  negated = λ m h ne. elim (has-cases x xs m h) [
    | inr k ↦ rest.negated m k ne
    | inl e ↦ elim here [ inl s ↦ absurd (ne (e ∙ s)) | inr n ↦ ap (λ (z : Literal). has set (opposite z)) e ∙ n ]
  ];
}

pub others_or_not : (set c : List Literal) (l : Literal) → OthersNegated set c l ⊎ NotNegated set c l
others_or_not set [] l = inl (record { negated = λ m h. absurd (has-nil m h) })
others_or_not set (x ∷ xs) l =
    elim (others_or_not set xs l) [
      | inr w ↦ inr (record {
        literal = w.literal;
        held = has-there x xs w.literal w.held;
        other = w.other;
        missing =
            w.missing;
      })
      | inl rest ↦ elim (same_or_not x l) [
        | inl e ↦ inl (others_step set x xs l (inl e) rest)
        | inr ne ↦ elim (cases_Bool (has set (opposite x))) [
          | inl n ↦ inl (others_step set x xs l (inr n) rest)
          | inr f ↦ inr (record { literal = x; held = has-here x xs; other = ne; missing = f })
        ]
      ]
    ]

-- a closed set stays closed where a clause is added that has two literals whose negations aren't in the set
pub closed_add : (cs : List (List Literal)) (set c : List Literal) (l : Literal) → IsClosed cs set → has c l ≡ true
    → has set (opposite l) ≡ false → NotNegated set c l → IsClosed (cs ++ c ∷ []) set
closed_add cs set c l h held missing w = record {
  apart = h.apart;
  none_false = All-push (λ d. all_negated set d ≡ false) cs c h.none_false
      (false_from_ne_true (all_negated set c) (λ n. both_ways (has set (opposite l)) missing
      (negated_at set c l n held)));
  none_unit = All-push (λ d. (m : Literal) → has d m ≡ true → OthersNegated set d m → ¬ IsOpen set m) cs c h.none_unit
      (λ m k others op. elim (same_or_not l m) [
        | inr ne ↦ both_ways (has set (opposite l)) missing (others.negated l held ne)
        | inl e ↦ both_ways (has set (opposite w.literal)) w.missing
            (others.negated w.literal w.held (λ f. w.other (f ∙ sym e)))
      ]);
}
