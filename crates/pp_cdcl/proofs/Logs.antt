-- A log with one lemma more.
use Rattle.std.proofs.Common.{ℕ, ◌-◌, ◌≡◌, ◌<◌, true, false, List, [], ◌∷◌, ◌++◌, Option, Some, sym, refl, ap, ◌∙◌}
use Rattle.std.proofs.Common.{subst, arith, length, append_assoc, append-nil}
use Rattle.std.specs.Prelude.{slice_get, IsSomeAnd}
use Rattle.std.proofs.lemmas.List.{map_push, length_push, get_or_push}
use Rattle.std.proofs.lemmas.List.Elements.{All-push}
use Rattle.std.proofs.lemmas.Option.{slice_get-get_or}
use Rattle.pp_clause.specs.Literal.{Literal}
use Rattle.pp_clause.specs.Derivation.{Derives}
use Rattle.pp_clause.specs.Log.{AllDerived, all_negated, lemma_clauses}
use Rattle.pp_clause.specs.New.{IsNew, AllNew, IsSpentLog}
use Rattle.pp_clause.specs.declared.log.Lemma.{Lemma}
use Rattle.pp_cdcl.specs.Invariant.{IsLog}
use Rattle.pp_cdcl.specs.Answer.{RefutesWithin}

pub clauses_push : (log : List Lemma) (m : Lemma) → lemma_clauses (log ++ m ∷ []) ≡ lemma_clauses log ++ m.clause ∷ []
clauses_push log m = map_push (λ k. k.clause) log m

pub derived_push : (cs : List (List Literal)) (log : List Lemma) (m : Lemma) → AllDerived cs log
    → Derives (cs ++ lemma_clauses log) m.chain m.clause → AllDerived cs (log ++ m ∷ [])
derived_push cs [] m a d = (subst (λ (z : List (List Literal)). Derives z m.chain m.clause) (append-nil cs) d, tt)
derived_push cs (k ∷ ks) m a d = (
  a.0,
  derived_push (cs ++ k.clause ∷ []) ks m a.1 (subst (λ (z : List (List Literal)). Derives z m.chain m.clause)
      (sym (append_assoc cs (k.clause ∷ []) (lemma_clauses ks))) d),
)

pub new_push : (cs ls : List (List Literal)) (c : List Literal) → AllNew cs ls → IsNew (cs ++ ls) c
    → AllNew cs (ls ++ c ∷ [])
new_push cs [] c a n = (subst (λ (z : List (List Literal)). IsNew z c) (append-nil cs) n, tt)
new_push cs (l ∷ ls) c a n = (
  a.0,
  new_push (cs ++ l ∷ []) ls c a.1 (subst (λ (z : List (List Literal)). IsNew z c)
      (sym (append_assoc cs (l ∷ []) ls)) n),
)

pub log_push : (cs : List (List Literal)) (assumed : List Literal) (log : List Lemma) (m : Lemma) → IsLog cs assumed log
    → Derives (cs ++ lemma_clauses log) m.chain m.clause → IsNew (cs ++ lemma_clauses log) m.clause
    → all_negated assumed m.clause ≡ false → IsLog cs assumed (log ++ m ∷ [])
log_push cs assumed log m h d n r = record {
  derives = derived_push cs log m h.derives d;
  new = rw (clauses_push log m) (new_push cs (lemma_clauses log) m.clause h.new n);
  none_refutes = All-push (λ k. all_negated assumed k.clause ≡ false) log m h.none_refutes r;
}

pub log_spent : (cs : List (List Literal)) (assumed : List Literal) (lemmas : ℕ) (log : List Lemma)
    → IsLog cs assumed log → length log ≡ lemmas → IsSpentLog cs assumed lemmas log
log_spent cs assumed lemmas log h e = record {
  exact = e;
  derives = h.derives;
  new = h.new;
  none_refutes =
      h.none_refutes;
}

pub log_refutes : (cs : List (List Literal)) (assumed : List Literal) (lemmas : ℕ) (log : List Lemma) (m : Lemma)
    → IsLog cs assumed log → length log < lemmas → Derives (cs ++ lemma_clauses log) m.chain m.clause
    → all_negated assumed m.clause ≡ true → RefutesWithin cs assumed lemmas (log ++ m ∷ [])
log_refutes cs assumed lemmas log m h lt d n =
    let len = length_push log m in
    let back : length (log ++ m ∷ []) - 1 ≡ length log = omega arith in
    let last : slice_get (log ++ m ∷ []) (length log) ≡ Some m =
    slice_get-get_or (log ++ m ∷ []) (length log) m (omega arith)
    ∙ ap (λ (z : Lemma). Some z) (get_or_push log m m (length log) refl) in
    record {
      few = omega arith;
      refutes = record {
        derives = derived_push cs log m h.derives d;
        ends = subst (λ (o : Option Lemma). IsSomeAnd o (λ k. all_negated assumed k.clause ≡ true))
            (sym (ap (slice_get (log ++ m ∷ [])) back ∙ last)) n;
      };
    }
