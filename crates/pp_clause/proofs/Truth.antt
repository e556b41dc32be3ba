-- The truth value of a clause goes by its literals as a set.
use Rattle.std.proofs.Common.{ℕ, ◌≡◌, Bool, true, false, List, [], ◌∷◌, sym, refl, ap, ◌∙◌, inl, inr, not}
use Rattle.std.proofs.lemmas.Bool.{or_cases, or_left, or_right}
use Rattle.pp_clause.specs.Literal.{Literal, opposite, lit_value}
use Rattle.pp_clause.specs.Clause.{has, clause_value, SameLiterals, HasBoth}
use Rattle.pp_clause.proofs.Has.{has-cases, has-here, has-there, false_not_true, same_bool}

pub true_from_has : (s : ℕ → Bool) (xs : List Literal) (m : Literal) → has xs m ≡ true → lit_value s m ≡ true
    → clause_value s xs ≡ true
true_from_has s [] m h k = h
true_from_has s (x ∷ xs) m h k =
    elim (has-cases x xs m h) [
      | inl e ↦ or_left (lit_value s x) (clause_value s xs) (ap (lit_value s) (sym e) ∙ k)
      | inr j ↦ or_right (lit_value s x) (clause_value s xs) (true_from_has s xs m j k)
    ]

-- a literal of the clause that is true
pub record Witness (s : ℕ → Bool) (xs : List Literal) : Type 0 where
  pub literal : Literal
  pub held : has xs literal ≡ true
  pub holds : lit_value s literal ≡ true

pub has_from_true : (s : ℕ → Bool) (xs : List Literal) → clause_value s xs ≡ true → Witness s xs
has_from_true s [] h = absurd (false_not_true h)
has_from_true s (x ∷ xs) h =
    elim (or_cases (lit_value s x) (clause_value s xs) h) [
      | inl e ↦ record { literal = x; held = has-here x xs; holds = e }
      | inr k ↦ (let w : Witness s xs = has_from_true s xs k in
          record { literal = w.literal; held = has-there x xs w.literal w.held; holds = w.holds })
    ]

some_true : (s : ℕ → Bool) (xs ys : List Literal) → SameLiterals xs ys → clause_value s xs ≡ true
    → clause_value s ys ≡ true
some_true s xs ys e h =
    let w = has_from_true s xs h in
    true_from_has s ys w.literal (sym (e.same w.literal) ∙ w.held) w.holds

pub same_swapped : (xs ys : List Literal) → SameLiterals xs ys → SameLiterals ys xs
same_swapped xs ys e = record { same = λ l. sym (e.same l) }

pub clause_value_same : (xs ys : List Literal) → SameLiterals xs ys → (s : ℕ → Bool)
    → clause_value s xs ≡ clause_value s ys
clause_value_same xs ys e s = same_bool _ _ (some_true s xs ys e) (some_true s ys xs (same_swapped xs ys e))

pub lit_value_opposite : (s : ℕ → Bool) (l : Literal) → lit_value s (opposite l) ≡ not (lit_value s l)
lit_value_opposite s l = signs l.positive (s l.var) l.var l.positive refl refl
  where
    signs : (p b : Bool) (x : ℕ) (q : Bool) → s x ≡ b → q ≡ p
        → lit_value s (record { var = x; positive = not q }) ≡ not (lit_value s (record { var = x; positive = q }))
    signs p b x true h k = refl
    signs p true x false h k = h ∙ sym (ap not (ap not h))
    signs p false x false h k = h ∙ sym (ap not (ap not h))

not_both : (a b : Bool) → b ≡ not a → a ≡ false → b ≡ true
not_both a b e h = e ∙ ap not h

pub always_true : (ls : List Literal) → HasBoth ls → (s : ℕ → Bool) → clause_value s ls ≡ true
always_true ls h s = by_value (lit_value s h.literal) refl
  where
    by_value : (b : Bool) → lit_value s h.literal ≡ b → clause_value s ls ≡ true
    by_value true e = true_from_has s ls h.literal h.itself e
    by_value false e = true_from_has s ls (opposite h.literal) h.negation
        (not_both (lit_value s h.literal) _ (lit_value_opposite s h.literal) e)

pub same_along : (xs ys zs : List Literal) → SameLiterals xs ys → SameLiterals ys zs → SameLiterals xs zs
same_along xs ys zs e f = record { same = λ l. e.same l ∙ f.same l }

pub both_same : (xs ys : List Literal) → SameLiterals xs ys → HasBoth xs → HasBoth ys
both_same xs ys e h = record {
  literal = h.literal;
  itself = sym (e.same h.literal) ∙ h.itself;
  negation =
      sym (e.same (opposite h.literal)) ∙ h.negation;
}
