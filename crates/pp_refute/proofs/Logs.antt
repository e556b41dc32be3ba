-- A log that derives, a lemma at a time.
use Rattle.std.proofs.Common.{ℕ, zero, suc, ◌+◌, ◌≡◌, ◌<◌, List, [], ◌∷◌, ◌++◌, sym, subst, arith, length, get_or, take}
use Rattle.std.proofs.Common.{append_assoc, append-nil}
use Rattle.std.proofs.lemmas.List.{take_more}
use Rattle.pp_clause.specs.Literal.{Literal}
use Rattle.pp_clause.specs.Derivation.{Derives}
use Rattle.pp_clause.specs.Log.{AllDerived, lemma_clauses, Refutes}
use Rattle.pp_clause.specs.declared.log.Lemma.{Lemma}
use Rattle.pp_refute.specs.Checking.{clauses_before}

-- the clauses before the lemmas after the first
next_before : (cs : List (List Literal)) (m : Lemma) (ms : List Lemma)
    → clauses_before (cs ++ m.clause ∷ []) ms ≡ clauses_before cs (m ∷ ms)
next_before cs m ms = append_assoc cs (m.clause ∷ []) (lemma_clauses ms)

derived_push : (cs : List (List Literal)) (ms : List Lemma) (m : Lemma) → AllDerived cs ms
    → Derives (clauses_before cs ms) m.chain m.clause → AllDerived cs (ms ++ m ∷ [])
derived_push cs [] m a d = (subst (λ (z : List (List Literal)). Derives z m.chain m.clause) (append-nil cs) d, tt)
derived_push cs (k ∷ ks) m a d = (
  a.0,
  derived_push (cs ++ k.clause ∷ []) ks m a.1
      (subst (λ (z : List (List Literal)). Derives z m.chain m.clause) (sym (next_before cs k ks)) d),
)

pub derived_more : (cs : List (List Literal)) (ms : List Lemma) (i : ℕ) (m : Lemma) → i < length ms → m ≡ get_or ms i m
    → AllDerived cs (take i ms) → Derives (clauses_before cs (take i ms)) m.chain m.clause
    → AllDerived cs (take (i + 1) ms)
derived_more cs ms i m lt is a d =
    rw (take_more ms i m lt, ← is) (derived_push cs (take i ms) m a d)

pub derived_at : (cs : List (List Literal)) (ms : List Lemma) (i : ℕ) (d : Lemma) → i < length ms → AllDerived cs ms
    → Derives (clauses_before cs (take i ms)) (get_or ms i d).chain (get_or ms i d).clause
derived_at cs [] i d lt a = absurd (omega arith)
derived_at cs (m ∷ ms) zero d lt a =
    subst (λ (z : List (List Literal)). Derives z m.chain m.clause) (sym (append-nil cs)) a.0
derived_at cs (m ∷ ms) (suc i) d lt a =
    subst (λ (z : List (List Literal)). Derives z (get_or ms i d).chain (get_or ms i d).clause)
    (next_before cs m (take i ms)) (derived_at (cs ++ m.clause ∷ []) ms i d (omega arith) a.1)

pub not_derived : (cs : List (List Literal)) (assumed : List Literal) (ms : List Lemma) (i : ℕ) (m : Lemma)
    → i < length ms → m ≡ get_or ms i m → (Derives (clauses_before cs (take i ms)) m.chain m.clause → ⊥)
    → Refutes cs assumed ms → ⊥
not_derived cs assumed ms i m lt is f r =
    f (subst (λ (z : Lemma). Derives (clauses_before cs (take i ms)) z.chain z.clause) (sym is)
    (derived_at cs ms i m lt r.derives))
