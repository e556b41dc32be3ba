-- Steps and literals of a trail by their places.
use Rattle.std.proofs.Common.{ℕ, zero, suc, ◌+◌, ◌≡◌, ◌≢◌, ◌<◌, ◌≤◌, Bool, true, false, List, [], ◌∷◌, ◌++◌, Option}
use Rattle.std.proofs.Common.{Some, None, sym, refl, ap, ◌∙◌, subst, inl, inr, ◌⊎◌, arith, length, get_or, take, map}
use Rattle.std.proofs.Common.{eqb, All}
use Rattle.std.specs.Prelude.{AllPairs}
use Rattle.std.proofs.lemmas.List.{get_or_default}
use Rattle.std.proofs.lemmas.List.Elements.{All-nil, All-cons, All-head, All-tail}
use Rattle.pp_clause.specs.Literal.{Literal, opposite}
use Rattle.pp_clause.specs.Clause.{has, HasBoth}
use Rattle.pp_clause.proofs.Has.{has-nil, has-cases, has-here, has-there, has-at_head, false_not_true}
use Rattle.pp_trail.specs.declared.step.Step.{Step}
use Rattle.pp_trail.specs.Trail.{lits, StandsAt}

-- no variable stands twice
abbrev pub AreDistinct : List Step → Type 0
AreDistinct ss = AllPairs (λ s t. s.lit.var ≢ t.lit.var) ss

-- the variable doesn't stand there
abbrev pub IsAbsent : ℕ → List Step → Type 0
IsAbsent x ss = All (λ s. s.lit.var ≢ x) ss

pub distinct_tail : (s : Step) (ss : List Step) → AreDistinct (s ∷ ss) → AreDistinct ss
distinct_tail s ss h = λ i j d lt in'. h (suc i) (suc j) d (omega arith) (omega arith)

pub distinct_head : (s : Step) (ss : List Step) → AreDistinct (s ∷ ss) → IsAbsent s.lit.var ss
distinct_head s ss h = λ k d lt e. h 0 (suc k) d (omega arith) (omega arith) (sym e)

pub absent_lits : (x : ℕ) (ss : List Step) (m : Literal) → IsAbsent x ss → has (lits ss) m ≡ true → m.var ≡ x → ⊥
absent_lits x [] m a h e = has-nil m h
absent_lits x (s ∷ ss) m a h e =
    elim (has-cases s.lit (lits ss) m h) [
      | inl k ↦ All-head (λ t. t.lit.var ≢ x) s ss a (ap (λ (z : Literal). z.var) (sym k) ∙ e)
      | inr k ↦ absent_lits x ss m (All-tail (λ t. t.lit.var ≢ x) s ss a) k e
    ]

pub absent_from_lits : (x : ℕ) (ss : List Step) → ((m : Literal) → has (lits ss) m ≡ true → m.var ≡ x → ⊥)
    → IsAbsent x ss
absent_from_lits x [] f = All-nil (λ t. t.lit.var ≢ x)
absent_from_lits x (s ∷ ss) f =
    All-cons (λ t. t.lit.var ≢ x) s ss (f s.lit (has-here s.lit (lits ss)))
    (absent_from_lits x ss (λ m h. f m (has-there s.lit (lits ss) m h)))

-- the literals of a trail have no literal together with its negation
pub distinct_apart : (ss : List Step) → AreDistinct ss → HasBoth (lits ss) → ⊥
distinct_apart ss d b = both ss d b.literal b.itself b.negation
  where
    both : (ss : List Step) → AreDistinct ss → (m : Literal) → has (lits ss) m ≡ true
        → has (lits ss) (opposite m) ≡ true → ⊥
    both [] d m h k = has-nil m h
    both (s ∷ ss) d m h k =
        elim (has-cases s.lit (lits ss) m h) [
          | inl e ↦ elim (has-cases s.lit (lits ss) (opposite m) k) [
            | inl f ↦ signs m.positive (ap (λ (z : Literal). z.positive) (f ∙ sym e))
            | inr j ↦ absent_lits s.lit.var ss (opposite m) (distinct_head s ss d) j (ap (λ (z : Literal). z.var) e)
          ]
          | inr i ↦ elim (has-cases s.lit (lits ss) (opposite m) k) [
            | inl f ↦ absent_lits s.lit.var ss m (distinct_head s ss d) i (ap (λ (z : Literal). z.var) f)
            | inr j ↦ both ss (distinct_tail s ss d) m i j
          ]
        ]
      where
        signs : (b : Bool) → Rattle.std.proofs.Common.not b ≡ b → ⊥
        signs true e = false_not_true e
        signs false e = false_not_true (sym e)

-- the place of a literal among the first `end` steps
pub record LiteralAt (steps : List Step) (end : ℕ) (m : Literal) : Type 0 where
  pub place : ℕ
  pub step : Step
  pub stands : StandsAt steps place step
  pub before : place < end
  pub is : step.lit ≡ m

pub literal_at : (steps : List Step) (end : ℕ) (m : Literal) → has (lits (take end steps)) m ≡ true
    → LiteralAt steps end m
literal_at [] zero m h = absurd (has-nil m h)
literal_at [] (suc k) m h = absurd (has-nil m h)
literal_at (s ∷ ss) zero m h = absurd (has-nil m h)
literal_at (s ∷ ss) (suc k) m h =
    elim (has-cases s.lit (lits (take k ss)) m h) [
      | inl e ↦ record {
        place = 0;
        step = s;
        stands = record { within = omega arith; is = refl };
        before =
            omega arith;
        is = sym e;
      }
      | inr j ↦ (let p = literal_at ss k m j in
          record {
            place = suc p.place;
            step = p.step;
            stands =
                record { within = (let w = p.stands.within in omega arith); is = p.stands.is };
            before =
                (let b = p.before in omega arith);
            is = p.is;
          })
    ]

pub has_at : (steps : List Step) (place end : ℕ) (s : Step) → StandsAt steps place s → place < end
    → has (lits (take end steps)) s.lit ≡ true
has_at [] place end s at lt = absurd (let w = at.within in omega arith)
has_at (x ∷ xs) place zero s at lt = absurd (omega arith)
has_at (x ∷ xs) zero (suc k) s at lt = has-at_head x.lit (lits (take k xs)) s.lit (ap (λ (z : Step). z.lit) at.is)
has_at (x ∷ xs) (suc p) (suc k) s at lt =
    has-there x.lit (lits (take k xs)) s.lit
    (has_at xs p k s (record { within = (let w = at.within in omega arith); is = at.is }) (omega arith))

-- the variable of a step doesn't stand before it
pub absent_before : (steps : List Step) (place : ℕ) (s : Step) → AreDistinct steps → StandsAt steps place s
    → IsAbsent s.lit.var (take place steps)
absent_before steps place s d at = absent_from_lits s.lit.var (take place steps) (λ m h e.
    let p = literal_at steps place m h in
    let far : (get_or steps p.place s).lit.var ≢ (get_or steps place s).lit.var =
    d p.place place s p.before at.within in
    let here : p.step ≡ get_or steps p.place s = p.stands.is ∙ get_or_default steps p.place p.step s p.stands.within in
    far (ap (λ (z : Step). z.lit.var) (sym here) ∙ ap (λ (z : Literal). z.var) p.is ∙ e
    ∙ ap (λ (z : Step). z.lit.var) at.is))
