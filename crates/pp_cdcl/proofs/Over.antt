-- What a chain derives is over the variables of the clauses; so spent lemmas are few.
use Rattle.std.proofs.Common.{ℕ, ◌≡◌, ◌<◌, ◌^◌, List, [], ◌∷◌, ◌++◌, Some, ◌∙◌, subst, inl, inr, arith, length, All}
use Rattle.std.specs.Prelude.{Contains}
use Rattle.std.specs.Option.{option_and_then}
use Rattle.std.proofs.lemmas.List.{length-map}
use Rattle.std.proofs.lemmas.List.Elements.{All-nil, All-cons, All-push, All-map}
use Rattle.pp_clause.specs.Literal.{Literal}
use Rattle.pp_clause.specs.Clause.{IsClause}
use Rattle.pp_clause.specs.Derivation.{numbered, resolvent, reached_by, derived_by, without, Derives}
use Rattle.pp_clause.specs.Log.{AllDerived, IsLemma, lemma_clauses}
use Rattle.pp_clause.specs.New.{IsSpentLog}
use Rattle.pp_clause.specs.Laws.{IsOver}
use Rattle.pp_clause.specs.declared.log.Lemma.{Lemma}
use Rattle.pp_clause.proofs.Has.{has-All, All-from_has, has-append_cases}
use Rattle.pp_clause.proofs.Resolving.{some_eq, none_not_some, resolves_from, without-has, Resolves}
use Rattle.pp_clause.proofs.Soundness.{All-numbered, then_some}
use Rattle.pp_clause.proofs.Counting.{new_are_few_law}

resolvent_over : (xs : List ℕ) (a b c : List Literal) → IsOver xs a → IsOver xs b → resolvent a b ≡ Some c → IsOver xs c
resolvent_over xs a b c ha hb e =
    let p = resolves_from a b c e in
    let r : Resolves a b p.0 c = p.1 in
    rw r.is (All-from_has (λ l. Contains xs l.var) (without p.0.var (a ++ b)) (λ m h.
    elim (has-append_cases a b m (without-has p.0.var (a ++ b) m h).0) [
      | inl k ↦ has-All (λ l. Contains xs l.var) a m ha k
      | inr k ↦ has-All (λ l. Contains xs l.var) b m hb k
    ]))

reached_over : (xs : List ℕ) (cs : List (List Literal)) → All (IsOver xs) cs → (ns : List ℕ) (a found : List Literal)
    → IsOver xs a → reached_by cs a ns ≡ Some found → IsOver xs found
unfolding reached_by
reached_over xs cs hs [] a found h e = subst (λ (z : List Literal). IsOver xs z) (some_eq _ _ e) h
reached_over xs cs hs (n ∷ ns) a found h e =
    let p = then_some (numbered cs n) (λ ys. option_and_then (λ next. reached_by cs next ns) (resolvent a ys)) found
    e in
    let q = then_some (resolvent a p.0) (λ next. reached_by cs next ns) found p.2 in
    reached_over xs cs hs ns q.0 found (resolvent_over xs a p.0 q.0 h (All-numbered (IsOver xs) cs n p.0 hs p.1) q.1)
    q.2

derived_over : (xs : List ℕ) (cs : List (List Literal)) → All (IsOver xs) cs → (ns : List ℕ) (found : List Literal)
    → derived_by cs ns ≡ Some found → IsOver xs found
unfolding derived_by
derived_over xs cs hs [] found e = absurd (none_not_some found e)
derived_over xs cs hs (n ∷ ns) found e =
    let p = then_some (numbered cs n) (λ ys. reached_by cs ys ns) found e in
    reached_over xs cs hs ns p.0 found (All-numbered (IsOver xs) cs n p.0 hs p.1) p.2

clause_over : (xs : List ℕ) (cs : List (List Literal)) → All (IsOver xs) cs → (ns : List ℕ) (c : List Literal)
    → Derives cs ns c → IsOver xs c
clause_over xs cs hs ns c d =
    let h = derived_over xs cs hs ns d.reached d.by_chain in
    All-from_has (λ l. Contains xs l.var) c (λ m k. has-All (λ l. Contains xs l.var) d.reached m h (d.same.same m ∙ k))

log_over : (xs : List ℕ) (cs : List (List Literal)) (log : List Lemma) → All (IsOver xs) cs → AllDerived cs log
    → All (IsOver xs) (lemma_clauses log)
log_over xs cs [] hs d = All-nil (IsOver xs)
log_over xs cs (m ∷ ms) hs d =
    let here = clause_over xs cs hs m.chain m.clause d.0 in
    All-cons (IsOver xs) m.clause (lemma_clauses ms) here
    (log_over xs (cs ++ m.clause ∷ []) ms (All-push (IsOver xs) cs m.clause hs here) d.1)

clauses_of : (log : List Lemma) → All IsLemma log → All IsClause (lemma_clauses log)
clauses_of log h = All-map IsClause (λ (m : Lemma). m.clause) log (λ k d lt. (h k d lt).clause)

-- over v variables a spent log has fewer than 3^v lemmas
pub spent_few : (cs : List (List Literal)) (assumed : List Literal) (lemmas : ℕ) (log : List Lemma) → All IsLemma log
    → IsSpentLog cs assumed lemmas log → (xs : List ℕ) → All (IsOver xs) cs → lemmas < 3 ^ length xs
spent_few cs assumed lemmas log ms s xs h =
    let b = new_are_few_law xs cs (lemma_clauses log) (clauses_of log ms) (log_over xs cs log h s.derives) s.new in
    let e = length-map log (λ (m : Lemma). m.clause) in
    let x = s.exact in
    omega (arith, b, e, x)
