-- What the clauses of a gate say, and those of the marked gates.
use Rattle.std.proofs.Common.{◌≡◌, ℕ, Bool, true, false, not, ◌&&◌, ◌||◌, ◌+◌, ◌<◌, ◌≤◌, ◌↔◌, if◌then◌else◌, List, []}
use Rattle.std.proofs.Common.{◌∷◌, ◌++◌, length, take, slice_index_or, refl, sym, ap, ◌∙◌, inl, inr, All, arith, rules}
use Rattle.std.specs.Bool.{beq}
use Rattle.std.specs.Cmp.{IsEquivalence}
use Rattle.std.specs.Cmp.Rules.{comparing}
use Rattle.std.specs.List.{IsDistinct}
use Rattle.std.proofs.lemmas.Bool.{and_parts, and_from, false≢true}
use Rattle.std.proofs.lemmas.Bool.Decides.{nat_tests}
use Rattle.std.proofs.lemmas.List.{length_push, length-take-le, take_more}
use Rattle.std.proofs.lemmas.List.Elements.{All-push}
use Rattle.std.proofs.lemmas.List.Folds.{list_all-append}
use Rattle.std.proofs.lemmas.Map.Keys.{IsDistinct-from_apart}
use Rattle.std.proofs.lemmas.Map.Made.{length-le_from_is_member}
use Rattle.pp_clause.specs.Literal.{Literal, opposite, lit_value}
use Rattle.pp_clause.specs.Clause.{SameLiterals, IsClause, literal_eq, has, clause_value, clauses_value}
use Rattle.pp_clause.proofs.Has.{has-All, All-from_has, beq-true, beq-same}
use Rattle.pp_clause.proofs.Truth.{lit_value_opposite}
use Rattle.pp_clause.specs.Assignment.{assigned}
use Rattle.pp_gate.specs.declared.gate.Gate.{Gate}
use Rattle.pp_gate.specs.Gate.{gate_value, majority_of, operands}
use Rattle.pp_gate.specs.Circuit.{IsWithin, FitsAfter}
use Rattle.pp_gate.specs.Clauses.{agrees, AreShortWithin, AddsClause, AddsEquation}
use Rattle.pp_gate.specs.Marks.{GivesMarked}
use Rattle.pp_gate.proofs.Agreement.{operands_within}
use Rattle.pp_gate.proofs.Places.{at_left, at_push, at_next}
pub use Rattle.pp_gate.proofs.Agreement.{all_of_one, all_of_two, all_of_three}

-- the clause came in; it has no literal twice, so that it is no longer than the literals that it is made of
pub adds_clause : (old new : List (List Literal)) (c ls : List Literal) → new ≡ old ++ c ∷ []
    → SameLiterals c ls → IsClause c → ((s : ℕ → Bool) → clause_value s c ≡ clause_value s ls) → length ls ≤ 4
    → AddsClause old new ls
adds_clause old new c ls is same order value few = rw is (record {
  most = omega (arith, length_push old c);
  value = λ s. rw (list_all-append (clause_value s) old (c ∷ []), value s) (grind (arith, nat_tests));
  within = λ n of olds. record {
    within = All-push (λ d. All (IsWithin n) d) old c olds.within
        (All-from_has (IsWithin n) c (λ m h. has-All (IsWithin n) ls m of (among m h)));
    short = All-push (λ d. length d ≤ 4) old c olds.short (omega (arith, no_longer));
  };
})
  where
    among : (m : Literal) → has c m ≡ true → has ls m ≡ true
    among m h = sym (same.same m) ∙ h

    no_longer : length c ≤ length ls
    no_longer =
        let equivalence : IsEquivalence literal_eq = search (comparing, rules) in
        let distinct : IsDistinct literal_eq c = IsDistinct-from_apart literal_eq c
        (λ i j d lt within. let below = order.ascending i j d lt within in grind (arith, nat_tests)) in
        length-le_from_is_member equivalence c ls distinct among

-- a negated literal is of the same variable, and has the opposite value
pub within_negated : (n : ℕ) (l m : Literal) → l ≡ opposite m → IsWithin n m → IsWithin n l
within_negated n l m e of = rw e (record { least = of.least; most = of.most })

pub negated_value : (s : ℕ → Bool) (l m : Literal) → l ≡ opposite m → lit_value s l ≡ not (lit_value s m)
negated_value s l m e = ap (lit_value s) e ∙ lit_value_opposite s m

-- `h` is the value of the clauses before
pub mux_cases : (h o c a b : Bool)
    → ((((h && (not c || (a || (not o || false)))) && (not c || (not a || (o || false))))
    && (c || (b || (not o || false)))) && (c || (not b || (o || false)))) ≡ (h && beq o (if c then a else b))
mux_cases h o c a b = grind (arith, nat_tests)

-- of three, some two always agree
pub majority_cases : (h o a b c : Bool)
    → (((h && agrees o a b) && agrees o a c) && agrees o b c) ≡ (h && beq o (majority_of a b c))
majority_cases h o a b c = grind (arith, nat_tests)

pub within_next : (n k : ℕ) (l : Literal) → l.var ≡ k + 1 → k < n → IsWithin n l
within_next n k l e lt = record { least = omega arith; most = omega arith }

-- the clauses of a gate have literals of its own variable and of those before it
pub equation_within : (k : ℕ) (g : Gate) (out : Literal) (old new : List (List Literal)) (meaning : (ℕ → Bool) → Bool)
    → FitsAfter k g → out.var ≡ k + 1 → AddsEquation old new out (operands g) meaning
    → (n : ℕ) → k < n → AreShortWithin n old → AreShortWithin n new
equation_within k g out old new meaning fits var adds n lt olds =
    adds.within n (within_next n k out var lt)
    (λ i d at. let of = operands_within k g fits i d at in record { least = of.least; most = omega (arith, of.most) })
    olds

-- ---- the clauses of the marked gates

-- one gate more
marked_push : (s : ℕ → Bool) (gs : List Gate) (marks : List Bool) (g : Gate) → GivesMarked s (gs ++ g ∷ []) marks
    ↔ (GivesMarked s gs marks × (assigned marks (length gs + 1) ≡ true → s (length gs + 1) ≡ gate_value s g))
marked_push s gs marks g = (
  λ h. (record { gives = λ k x at. h.gives k x (at_left gs (g ∷ []) k x at) }, h.gives (length gs) g (at_next gs [] g)),
  λ h. record {
    gives = λ k x at on. elim (at_push gs g k x at) [
      | inl a ↦ h.0.gives k x a on
      | inr b ↦ rw (b.0, ← b.1) (h.1 (rw b.0 at on))
    ];
  },
)

pub marked_turn : (s : ℕ → Bool) (gs : List Gate) (marks : List Bool) (old new : List (List Literal)) (i : ℕ) (g : Gate)
    → i < length gs → g ≡ slice_index_or gs i g
    → (slice_index_or marks i false ≡ true → (r : ℕ → Bool)
    → clauses_value r new ≡ (clauses_value r old && beq (r (i + 1)) (gate_value r g)))
    → (slice_index_or marks i false ≡ false → new ≡ old)
    → (clauses_value s old ≡ true) ↔ GivesMarked s (take i gs) marks
    → (clauses_value s new ≡ true) ↔ GivesMarked s (take (i + 1) gs) marks
marked_turn s gs marks old new i g lt e on off before =
    rw (take_more gs i g lt, ← e) (by (slice_index_or marks i false) refl)
  where
    push : GivesMarked s (take i gs ++ g ∷ []) marks
        ↔ (GivesMarked s (take i gs) marks × (assigned marks (i + 1) ≡ true → s (i + 1) ≡ gate_value s g))
    push = rw (length-take-le i gs (omega arith)) at (marked_push s (take i gs) marks g)

    here : assigned marks (i + 1) ≡ slice_index_or marks i false
    here = ap (λ (k : ℕ). slice_index_or marks k false) (omega arith)

    by : (m : Bool) → slice_index_or marks i false ≡ m
        → (clauses_value s new ≡ true) ↔ GivesMarked s (take i gs ++ g ∷ []) marks
    by true h = rw (on h s) (
      λ all. let parts = and_parts (clauses_value s old) (beq (s (i + 1)) (gate_value s g)) all in
          push.1 (before.0 parts.0, λ marked. beq-true (s (i + 1)) (gate_value s g) parts.1),
      λ all. and_from (clauses_value s old) (beq (s (i + 1)) (gate_value s g)) (before.1 (push.0 all).0)
          (rw ((push.0 all).1 (here ∙ h)) (beq-same (gate_value s g))),
    )
    by false h = rw (off h) (
      λ all. push.1 (before.0 all, λ marked. absurd (false≢true (sym (here ∙ h) ∙ marked))),
      λ all. before.1 (push.0 all).0,
    )
