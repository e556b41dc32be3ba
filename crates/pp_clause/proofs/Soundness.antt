-- What a chain derives, and each lemma of a log, is true wherever the clauses are.
use Rattle.std.proofs.Common.{ℕ, zero, suc, ◌-◌, ◌≡◌, Bool, true, List, [], ◌∷◌, ◌++◌, Option, Some, None, sym, refl}
use Rattle.std.proofs.Common.{ap, ◌∙◌, subst, inl, inr, All, length, not}
use Rattle.std.specs.Prelude.{slice_get, IsSomeAnd}
use Rattle.std.specs.List.{list_all}
use Rattle.std.specs.Option.{option_and_then}
use Rattle.std.proofs.lemmas.Bool.{and_parts}
use Rattle.std.proofs.lemmas.Option.{slice_get_within, get_or_from_slice_get}
use Rattle.std.proofs.lemmas.List.Elements.{All-nil, All-cons, All-head, All-tail, All-push}
use Rattle.pp_clause.specs.Literal.{Literal, opposite, lit_value}
use Rattle.pp_clause.specs.Clause.{has, IsClause, IsUnsatisfiable, clause_value, clauses_value}
use Rattle.pp_clause.specs.Derivation.{numbered, resolvent, reached_by, derived_by, Derives}
use Rattle.pp_clause.specs.Log.{AllDerived, all_negated, Refutes}
use Rattle.pp_clause.specs.declared.log.Lemma.{Lemma}
use Rattle.pp_clause.proofs.Has.{has-nil, has-cases, false_not_true}
use Rattle.pp_clause.proofs.Truth.{Witness, clause_value_same, has_from_true, lit_value_opposite}
use Rattle.pp_clause.proofs.Ascending.{Consistent, clause_consistent, consistent_same}
use Rattle.pp_clause.proofs.Resolving.{some_eq, none_not_some, resolvent-true, resolvent-consistent}

-- the clause is true, and has no literal with its negation
pub record Sound (s : ℕ → Bool) (c : List Literal) : Type 0 where
  pub holds : clause_value s c ≡ true
  pub consistent : Consistent c

All-at : {X : Type 0} (P : X → Type 0) (xs : List X) (i : ℕ) (x : X) → All P xs → slice_get xs i ≡ Some x → P x
All-at P xs i x h e = subst P (get_or_from_slice_get xs i x x e) (h i x (slice_get_within xs i x e))

pub All-numbered : (P : List Literal → Type 0) (cs : List (List Literal)) (n : ℕ) (c : List Literal) → All P cs
    → numbered cs n ≡ Some c → P c
All-numbered P cs zero c h e = absurd (none_not_some c e)
All-numbered P cs (suc n) c h e = All-at P cs n c h e

pub then_some : (o : Option (List Literal)) (f : List Literal → Option (List Literal)) (zs : List Literal)
    → option_and_then f o ≡ Some zs → (ys : List Literal) × (o ≡ Some ys) × (f ys ≡ Some zs)
then_some None f zs h = absurd (none_not_some zs h)
then_some (Some ys) f zs h = (ys, refl, h)

reached_sound : (s : ℕ → Bool) (cs : List (List Literal)) → All (Sound s) cs → (ns : List ℕ) (xs found : List Literal)
    → Sound s xs → reached_by cs xs ns ≡ Some found → Sound s found
unfolding reached_by
reached_sound s cs hs [] xs found x h = subst (λ (z : List Literal). Sound s z) (some_eq _ _ h) x
reached_sound s cs hs (n ∷ ns) xs found x h =
    let p = then_some (numbered cs n) (λ ys. option_and_then (λ next. reached_by cs next ns) (resolvent xs ys)) found
    h in
    let q = then_some (resolvent xs p.0) (λ next. reached_by cs next ns) found p.2 in
    let y : Sound s p.0 = All-numbered (Sound s) cs n p.0 hs p.1 in
    reached_sound s cs hs ns q.0 found
    (record {
      holds = resolvent-true s xs p.0 q.0 x.consistent y.consistent x.holds y.holds q.1;
      consistent =
          resolvent-consistent xs p.0 q.0 x.consistent y.consistent q.1;
    }) q.2

derived_sound : (s : ℕ → Bool) (cs : List (List Literal)) → All (Sound s) cs → (ns : List ℕ) (found : List Literal)
    → derived_by cs ns ≡ Some found → Sound s found
unfolding derived_by
derived_sound s cs hs [] found h = absurd (none_not_some found h)
derived_sound s cs hs (n ∷ ns) found h =
    let p = then_some (numbered cs n) (λ ys. reached_by cs ys ns) found h in
    reached_sound s cs hs ns p.0 found (All-numbered (Sound s) cs n p.0 hs p.1) p.2

lemma_sound : (s : ℕ → Bool) (cs : List (List Literal)) → All (Sound s) cs → (ns : List ℕ) (clause : List Literal)
    → Derives cs ns clause → Sound s clause
lemma_sound s cs hs ns clause d =
    let f : Sound s d.reached = derived_sound s cs hs ns d.reached d.by_chain in
    record {
      holds = sym (clause_value_same d.reached clause d.same s) ∙ f.holds;
      consistent =
          consistent_same d.reached clause d.same f.consistent;
    }

all_sound : (s : ℕ → Bool) (cs : List (List Literal)) → All IsClause cs → clauses_value s cs ≡ true → All (Sound s) cs
all_sound s [] h t = All-nil (Sound s)
all_sound s (c ∷ cs) h t =
    let p = and_parts (clause_value s c) (clauses_value s cs) t in
    All-cons (Sound s) c cs (record { holds = p.0; consistent = clause_consistent c (All-head IsClause c cs h) })
    (all_sound s cs (All-tail IsClause c cs h) p.1)

pub derived_is_true_law : (cs : List (List Literal)) (chain : List ℕ) (clause : List Literal) → All IsClause cs
    → Derives cs chain clause → (s : ℕ → Bool) → clauses_value s cs ≡ true → clause_value s clause ≡ true
derived_is_true_law cs chain clause h d s t = (lemma_sound s cs (all_sound s cs h t) chain clause d).holds

-- each lemma of a log
lemmas_sound : (s : ℕ → Bool) (cs : List (List Literal)) (log : List Lemma) → All (Sound s) cs → AllDerived cs log
    → All (λ m. Sound s m.clause) log
lemmas_sound s cs [] hs d = All-nil (λ m. Sound s m.clause)
lemmas_sound s cs (m ∷ ms) hs d =
    let here : Sound s m.clause = lemma_sound s cs hs m.chain m.clause d.0 in
    All-cons (λ k. Sound s k.clause) m ms here
    (lemmas_sound s (cs ++ m.clause ∷ []) ms (All-push (Sound s) cs m.clause hs here) d.1)

value_at : (s : ℕ → Bool) (set : List Literal) (l : Literal) → list_all (lit_value s) set ≡ true → has set l ≡ true
    → lit_value s l ≡ true
value_at s [] l t h = absurd (has-nil l h)
value_at s (x ∷ xs) l t h =
    let p = and_parts (lit_value s x) (list_all (lit_value s) xs) t in
    elim (has-cases x xs l h) [ inl e ↦ ap (lit_value s) e ∙ p.0 | inr k ↦ value_at s xs l p.1 k ]

negated_at : (set c : List Literal) (l : Literal) → all_negated set c ≡ true → has c l ≡ true
    → has set (opposite l) ≡ true
negated_at set [] l t h = absurd (has-nil l h)
negated_at set (x ∷ xs) l t h =
    let p = and_parts (has set (opposite x)) (all_negated set xs) t in
    elim (has-cases x xs l h)
    [ inl e ↦ ap (λ (z : Literal). has set (opposite z)) e ∙ p.0 | inr k ↦ negated_at set xs l p.1 k ]

clash : (s : ℕ → Bool) (l : Literal) → lit_value s l ≡ true → lit_value s (opposite l) ≡ true → ⊥
clash s l h k = false_not_true (sym (ap not h) ∙ sym (lit_value_opposite s l) ∙ k)

-- a clause of negated assumptions can't be true
refuted : (s : ℕ → Bool) (assumed c : List Literal) → list_all (lit_value s) assumed ≡ true
    → all_negated assumed c ≡ true → clause_value s c ≡ true → ⊥
refuted s assumed c a n t =
    let w : Witness s c = has_from_true s c t in
    clash s w.literal w.holds (value_at s assumed (opposite w.literal) a (negated_at assumed c w.literal n w.held))

at_last : (s : ℕ → Bool) (assumed : List Literal) (log : List Lemma) (i : ℕ) (o : Option Lemma) → slice_get log i ≡ o
    → IsSomeAnd o (λ m. all_negated assumed m.clause ≡ true) → All (λ m. Sound s m.clause) log
    → list_all (lit_value s) assumed ≡ true → ⊥
at_last s assumed log i None e h hs a = h
at_last s assumed log i (Some m) e h hs a =
    refuted s assumed m.clause a h (All-at (λ k. Sound s k.clause) log i m hs e).holds

pub refuted_law : (cs : List (List Literal)) (assumed : List Literal) (log : List Lemma) → All IsClause cs
    → Refutes cs assumed log → IsUnsatisfiable cs assumed
refuted_law cs assumed log h r = λ s t a.
    at_last s assumed log (length log - 1) _ refl r.ends (lemmas_sound s cs log (all_sound s cs h t) r.derives) a
