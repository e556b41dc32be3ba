-- Assignments under which the asked literals are true, as the clauses tell them and as the circuit does.
use Rattle.std.proofs.Common.{◌≡◌, not, if◌then◌else◌, ℕ, ◌&&◌, ◌+◌, ◌*◌, Bool, true, false, eqb, List, [], ◌∷◌, All}
use Rattle.std.proofs.Common.{refl, sym, ap, ◌∙◌, inl, inr, arith}
use Rattle.std.specs.List.{list_all}
use Rattle.std.proofs.lemmas.Bool.{and_from, and_parts, eq-eqb, eqb-true, false≢true}
use Rattle.pp_clause.specs.Clause.{HasBoth, clauses_value, has}
use Rattle.pp_clause.specs.Literal.{Literal, lit_value, opposite}
use Rattle.pp_clause.proofs.Has.{has-cases, has-nil, literal_of, opposite_twice}
use Rattle.pp_gate.specs.declared.gate.Gate.{Gate}
use Rattle.pp_gate.specs.Circuit.{Gives, IsCircuit, IsOf}
use Rattle.pp_gate.specs.Cone.{StandsOn, asked_for}
use Rattle.pp_gate.specs.Laws.{AgreeOnInputs}
use Rattle.pp_gate.proofs.Clausal.{negated_value}
use Rattle.pp_gate.proofs.Cones.{asked_complete, asked_given, asked_keep}
use Rattle.pp_query.specs.Reply.{AreClausesOf, IsFailing, asked_of}

code_parts : (x y : ℕ) (s t : Bool) → 2 * x + (if s then 0 else 1) ≡ 2 * y + (if t then 0 else 1) → (x ≡ y) × (s ≡ t)
code_parts x y true true e = (omega arith, refl)
code_parts x y true false e = absurd (omega arith)
code_parts x y false true e = absurd (omega arith)
code_parts x y false false e = (omega arith, refl)

-- two literals pass the test of equality, which compares their numbers, exactly where they are one
abbrev pub same_number : Literal → Literal → Bool
same_number l m = eqb (2 * l.var + (if l.positive then 0 else 1)) (2 * m.var + (if m.positive then 0 else 1))

pub same_number-true : (l m : Literal) → same_number l m ≡ true → l ≡ m
same_number-true l m h =
    let parts = code_parts l.var m.var l.positive m.positive
    (eqb-true (2 * l.var + (if l.positive then 0 else 1)) (2 * m.var + (if m.positive then 0 else 1)) h) in
    literal_of l.var m.var l.positive m.positive parts.0 parts.1

pub same_number-false : (l m : Literal) → same_number l m ≡ false → l ≡ m → ⊥
same_number-false l m h e =
    false≢true (sym h ∙ eq-eqb (2 * l.var + (if l.positive then 0 else 1)) (2 * m.var + (if m.positive then 0 else 1))
    (ap (λ (k : Literal). 2 * k.var + (if k.positive then 0 else 1)) e))

not_same : (b : Bool) → not b ≡ b → ⊥
not_same true e = cc
not_same false e = cc

only_one : (x m : Literal) → has (x ∷ []) m ≡ true → m ≡ x
only_one x m h = elim (has-cases x [] m h) [ inl e ↦ e | inr none ↦ absurd (has-nil m none) ]

-- of two literals that aren't each the negation of the other none of the two is negated
pub asked_apart : (fails ok : Literal) → (fails ≡ opposite ok → ⊥) → HasBoth (asked_of fails ok) → ⊥
asked_apart fails ok differ both = elim (has-cases fails (ok ∷ []) both.literal both.itself) [
  | inl first ↦ elim (has-cases fails (ok ∷ []) (opposite both.literal) both.negation) [
    | inl same ↦ not_same both.literal.positive (ap (λ (l : Literal). l.positive) (same ∙ sym first))
    | inr second ↦ differ
        (sym first ∙ sym (opposite_twice both.literal) ∙ ap opposite (only_one ok (opposite both.literal) second))
  ]
  | inr later ↦ let second = only_one ok both.literal later in
      elim (has-cases fails (ok ∷ []) (opposite both.literal) both.negation) [
        | inl first ↦ differ (sym first ∙ ap opposite second)
        | inr again ↦ not_same both.literal.positive
            (ap (λ (l : Literal). l.positive) (only_one ok (opposite both.literal) again ∙ sym second))
      ]
]

lit_same : (s t : ℕ → Bool) (l : Literal) → s l.var ≡ t l.var → lit_value s l ≡ lit_value t l
lit_same s t l e = ap (λ (b : Bool). if l.positive then b else not b) e

module _ (gs : List Gate) (fails ok : Literal) where
  -- no assignment makes a literal and its negation true
  pub opposite_never_fails : (a : ℕ → Bool) → fails ≡ opposite ok → IsFailing gs fails ok a → ⊥
  opposite_never_fails a e f =
      let turned = negated_value a fails ok e in
      let same : true ≡ not true = sym f.fails ∙ turned ∙ ap not f.ok in cc

  module _ (circuit : IsCircuit gs) (of : All (IsOf gs) (asked_of fails ok)) (cs : List (List Literal))
      (clauses : AreClausesOf gs (asked_of fails ok) cs)
    where
      -- one that gives each gate its value and has what another has for that on which the literals stand
      failing_kept : (s t : ℕ → Bool) → list_all (lit_value s) (asked_of fails ok) ≡ true → Gives t gs
          → ((x : ℕ) → StandsOn gs (asked_of fails ok) x → s x ≡ t x) → IsFailing gs fails ok t
      failing_kept s t assumed gives keeps =
          let both = and_parts (lit_value s fails) (lit_value s ok && true) assumed in
          let second = and_parts (lit_value s ok) true both.1 in record {
            gives = gives;
            fails = sym (lit_same s t fails (keeps fails.var (asked_for fails (0, omega arith, refl)))) ∙ both.0;
            ok = sym (lit_same s t ok (keeps ok.var (asked_for ok (1, omega arith, refl)))) ∙ second.0;
          }

      -- one that completes an assignment of the clauses
      pub completed_fails : (s t : ℕ → Bool) → clauses_value s cs ≡ true
          → list_all (lit_value s) (asked_of fails ok) ≡ true → Gives t gs → AgreeOnInputs gs s t
          → IsFailing gs fails ok t
      completed_fails s t value assumed gives inputs =
          failing_kept s t assumed gives
          (asked_keep gs circuit (asked_of fails ok) s t of ((clauses.value s).0 value) gives inputs)

      -- some assignment does so
      pub some_fails : (s : ℕ → Bool) → clauses_value s cs ≡ true → list_all (lit_value s) (asked_of fails ok) ≡ true
          → (a : ℕ → Bool) × IsFailing gs fails ok a
      some_fails s value assumed =
          let whole = asked_complete gs circuit (asked_of fails ok) s of ((clauses.value s).0 value) in
          (whole.assignment, failing_kept s whole.assignment assumed whole.gives whole.keeps)

      -- and it makes the clauses and the literals true
      pub failing_satisfies : (a : ℕ → Bool) → IsFailing gs fails ok a
          → (clauses_value a cs ≡ true) × (list_all (lit_value a) (asked_of fails ok) ≡ true)
      failing_satisfies a f = (
        (clauses.value a).1 (asked_given a gs (asked_of fails ok) f.gives),
        and_from (lit_value a fails) (lit_value a ok && true) f.fails (and_from (lit_value a ok) true f.ok refl),
      )
