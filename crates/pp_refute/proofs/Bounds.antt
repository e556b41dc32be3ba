-- Clauses that have a place in a table.
use Rattle.std.proofs.Common.{ℕ, List, take, All}
use Rattle.std.proofs.lemmas.List.Elements.{All-append, All-map, All-take}
use Rattle.pp_clause.specs.Literal.{Literal}
use Rattle.pp_clause.specs.Bound.{Fits}
use Rattle.pp_clause.specs.Log.{lemma_clauses}
use Rattle.pp_clause.specs.declared.log.Lemma.{Lemma}
use Rattle.pp_refute.specs.Checking.{AllFit, clauses_before}

-- the clauses before a lemma
pub before_fit : (a : ℕ) (cs : List (List Literal)) (ms : List Lemma) (i : ℕ) → AllFit a cs
    → All (λ k. Fits a k.clause) ms → AllFit a (clauses_before cs (take i ms))
before_fit a cs ms i f g =
    All-append (Fits a) cs (lemma_clauses (take i ms)) f
    (All-map (Fits a) (λ (m : Lemma). m.clause) (take i ms) (All-take (λ k. Fits a k.clause) i ms g))
