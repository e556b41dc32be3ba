-- The loop that makes a clause of sorted literals.
use Rattle.std.proofs.Common.{ℕ, ◌+◌, ◌≡◌, ◌<◌, ◌≤◌, Bool, true, false, List, [], ◌∷◌, ◌++◌, Option, Some, None, sym}
use Rattle.std.proofs.Common.{refl, ap, ◌∙◌, subst, inl, inr, arith, length, get_or, take, drop, All, not}
use Rattle.std.specs.Prelude.{◌||◌, MatchOption}
use Rattle.std.specs.Bool.{beq}
use Rattle.std.proofs.lemmas.Bool.{not-false}
use Rattle.std.proofs.lemmas.List.{take_more, get_or-take, get_or_default, length-take-le, take-append-drop}
use Rattle.std.proofs.lemmas.List.Elements.{All-nil, All-push, All-weaker}
use Rattle.std.proofs.lemmas.List.Quantifiers.{all_pairs_push}
use Rattle.pp_clause.specs.Literal.{Literal, opposite, IsVariable}
use Rattle.pp_clause.specs.Clause.{has, HasBoth, SameLiterals, IsClause, IsInOrder}
use Rattle.pp_clause.proofs.Has.{has-push_cases, has-push_last, has-append, has-append_left, literal_of, has-All}
use Rattle.pp_clause.proofs.Has.{same_bool, false_not_true, beq-true, beq-same}

-- what the loop has made of the first literals, and the last that it took
pub record Merged (done ls : List Literal) (last : Option Literal) : Type 0 where
  pub order : IsClause ls
  pub same : SameLiterals ls done
  pub ends : MatchOption last (ls ≡ []) (λ b. (has done b ≡ true) × All (λ m. m.var ≤ b.var) ls)

-- no literal before place i has a greater variable than the one there
before_at : (sorted : List Literal) (i : ℕ) (x : Literal) → IsInOrder sorted → i < length sorted → x ≡ get_or sorted i x
    → All (λ m. m.var ≤ x.var) (take i sorted)
before_at sorted i x o lt is = λ k d h.
    let cut : length (take i sorted) ≡ i = length-take-le i sorted (omega arith) in
    let inside : k < i = omega arith in
    let step : (get_or sorted k x).var ≤ (get_or sorted i x).var = o k i x (omega arith) lt in
    let here : (get_or sorted k x).var ≤ x.var =
    subst (λ (z : Literal). (get_or sorted k x).var ≤ z.var) (sym is) step in
    let same : get_or (take i sorted) k d ≡ get_or sorted k x =
    get_or-take i sorted k d inside ∙ get_or_default sorted k d x (omega arith) in
    subst (λ (z : Literal). z.var ≤ x.var) (sym same) here

pub one_more : (sorted : List Literal) (i : ℕ) (x : Literal) → i < length sorted → x ≡ get_or sorted i x
    → take (i + 1) sorted ≡ take i sorted ++ x ∷ []
one_more sorted i x lt is = take_more sorted i x lt ∙ ap (λ (z : Literal). take i sorted ++ z ∷ []) (sym is)

-- the literal stands there already
skip : (done ls : List Literal) (b x : Literal) → Merged done ls (Some b) → b.var ≡ x.var → b.positive ≡ x.positive
    → Merged (done ++ x ∷ []) ls (Some b)
skip done ls b x m v p =
    let e : x ≡ b = literal_of x.var b.var x.positive b.positive (sym v) (sym p) in
    record {
      order = m.order;
      same = record {
        same = λ l. m.same.same l
            ∙ same_bool (has done l) (has (done ++ x ∷ []) l) (λ h. has-append_left done (x ∷ []) l h) (λ h.
            elim (has-push_cases done x l h) [
              | inl k ↦ k
              | inr s ↦ subst (λ (z : Literal). has done z ≡ true) (sym (s ∙ e)) m.ends.0
            ]);
      };
      ends = (has-append_left done (x ∷ []) b m.ends.0, m.ends.1);
    }

-- the literal is added
add : (done ls : List Literal) (last : Option Literal) (x : Literal) → Merged done ls last → IsVariable x.var
    → All (λ m. m.var < x.var) ls → Merged (done ++ x ∷ []) (ls ++ x ∷ []) (Some x)
add done ls last x m v below =
    record {
      order = record {
        ascending = all_pairs_push (λ l k. l.var < k.var) ls x m.order.ascending below;
        in_range = All-push (λ l. IsVariable l.var) ls x m.order.in_range v;
      };
      same = record {
        same = λ l. has-append ls (x ∷ []) l ∙ ap (λ (b : Bool). b || has (x ∷ []) l) (m.same.same l)
            ∙ sym (has-append done (x ∷ []) l);
      };
      ends = (
        has-push_last done x x refl,
        All-push (λ l. l.var ≤ x.var) ls x
            (All-weaker (λ l. l.var < x.var) (λ l. l.var ≤ x.var) (λ l h. omega arith) ls below) (omega arith),
      );
    }

below_first : (ls : List Literal) (x : ℕ) → ls ≡ [] → All (λ m. m.var < x) ls
below_first ls x e = subst (λ (z : List Literal). All (λ m. m.var < x) z) (sym e) (All-nil (λ m. m.var < x))

below_last : (ls : List Literal) (b : Literal) (x : ℕ) → All (λ m. m.var ≤ b.var) ls → b.var < x
    → All (λ m. m.var < x) ls
below_last ls b x h lt = All-weaker (λ m. m.var ≤ b.var) (λ m. m.var < x) (λ m k. omega arith) ls h

pub merged_skip : (sorted ls : List Literal) (i : ℕ) (b x : Literal) → i < length sorted → x ≡ get_or sorted i x
    → Merged (take i sorted) ls (Some b) → b.var ≡ x.var → b.positive ≡ x.positive
    → Merged (take (i + 1) sorted) ls (Some b)
merged_skip sorted ls i b x lt is m v p = rw (one_more sorted i x lt is) (skip (take i sorted) ls b x m v p)

pub merged_first : (sorted ls : List Literal) (i : ℕ) (x : Literal) → i < length sorted → x ≡ get_or sorted i x
    → IsVariable x.var → Merged (take i sorted) ls None → Merged (take (i + 1) sorted) (ls ++ x ∷ []) (Some x)
merged_first sorted ls i x lt is v m =
    rw (one_more sorted i x lt is) (add (take i sorted) ls None x m v (below_first ls x.var m.ends))

pub merged_next : (sorted ls : List Literal) (i : ℕ) (b x : Literal) → IsInOrder sorted → i < length sorted
    → x ≡ get_or sorted i x → IsVariable x.var → Merged (take i sorted) ls (Some b) → (b.var ≡ x.var → ⊥)
    → Merged (take (i + 1) sorted) (ls ++ x ∷ []) (Some x)
merged_next sorted ls i b x o lt is v m n =
    let le : b.var ≤ x.var = has-All (λ l. l.var ≤ x.var) (take i sorted) b (before_at sorted i x o lt is) m.ends.0 in
    rw (one_more sorted i x lt is)
    (add (take i sorted) ls (Some b) x m v (below_last ls b x.var m.ends.1 (omega arith)))

signs_differ : (a b : Bool) → (a ≡ b → ⊥) → b ≡ not a
signs_differ true true h = absurd (h refl)
signs_differ true false h = refl
signs_differ false true h = refl
signs_differ false false h = absurd (h refl)

has_take : (ls : List Literal) (i : ℕ) (m : Literal) → has (take i ls) m ≡ true → has ls m ≡ true
has_take ls i m h = subst (λ (z : List Literal). has z m ≡ true) (take-append-drop i ls)
    (has-append_left (take i ls) (drop i ls) m h)

-- both signs of a variable stand there
pub merged_both : (sorted ls : List Literal) (i : ℕ) (b x : Literal) → i < length sorted → x ≡ get_or sorted i x
    → Merged (take i sorted) ls (Some b) → b.var ≡ x.var → (b.positive ≡ x.positive → ⊥) → HasBoth sorted
merged_both sorted ls i b x lt is m v n =
    let e : x ≡ opposite b =
    literal_of x.var b.var x.positive (not b.positive) (sym v) (signs_differ b.positive x.positive n) in
    let there : has (take (i + 1) sorted) x ≡ true =
    subst (λ (z : List Literal). has z x ≡ true) (sym (one_more sorted i x lt is))
    (has-push_last (take i sorted) x x refl) in
    record {
      literal = b;
      itself = has_take sorted i b m.ends.0;
      negation = subst (λ (z : Literal). has sorted z ≡ true) e (has_take sorted (i + 1) x there);
    }

-- what the test of two signs says
pub differ_from : (a b p q : Bool) → a ≡ p → b ≡ q → not (beq a b) ≡ true → p ≡ q → ⊥
differ_from a b p q e f h k =
    let same : beq a b ≡ true = ap (λ (z : Bool). beq a z) (f ∙ sym k ∙ sym e) ∙ beq-same a in
    false_not_true (sym (ap not same) ∙ h)

pub same_from : (a b p q : Bool) → a ≡ p → b ≡ q → not (beq a b) ≡ false → p ≡ q
same_from a b p q e f h = sym e ∙ beq-true a b (not-false (beq a b) h) ∙ f
