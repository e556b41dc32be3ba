-- Which clause has a number, where lemmas follow the clauses.
use Rattle.std.proofs.Common.{ℕ, zero, suc, ◌+◌, ◌-◌, ◌≡◌, ◌<◌, ◌≤◌, List, [], ◌∷◌, Some, None, ◌++◌, ap, ◌∙◌, arith}
use Rattle.std.proofs.Common.{length, get_or}
use Rattle.std.specs.Prelude.{slice_get}
use Rattle.std.proofs.lemmas.List.{length-map}
use Rattle.std.proofs.lemmas.Option.{slice_get-get_or, slice_get-map, slice_get_past}
use Rattle.std.specs.Option.{option_map}
use Rattle.pp_clause.specs.Literal.{Literal}
use Rattle.pp_clause.specs.Derivation.{numbered}
use Rattle.pp_clause.specs.Log.{lemma_clauses}
use Rattle.pp_clause.specs.declared.log.Lemma.{Lemma}
use Rattle.pp_refute.specs.Checking.{clauses_before}

numbered_at : (cs : List (List Literal)) (n : ℕ) → 1 ≤ n → numbered cs n ≡ slice_get cs (n - 1)
numbered_at cs zero h = absurd (omega arith)
numbered_at cs (suc n) h = let e : n ≡ suc n - 1 = omega arith in ap (slice_get cs) e

slice_get_right : (cs ds : List (List Literal)) (i j : ℕ) → i ≡ length cs + j → slice_get (cs ++ ds) i ≡ slice_get ds j
slice_get_right [] ds i j e = let f : i ≡ j = omega arith in ap (slice_get ds) f
slice_get_right (x ∷ cs) ds zero j e = absurd (omega arith)
slice_get_right (x ∷ cs) ds (suc i) j e = slice_get_right cs ds i j (omega arith)

pub number_of_lemma : (cs : List (List Literal)) (ms : List Lemma) (n j : ℕ) (d : Lemma) → 1 ≤ n → n - 1 ≡ length cs + j
    → j < length ms → numbered (clauses_before cs ms) n ≡ Some (get_or ms j d).clause
number_of_lemma cs ms n j d h e lt =
    numbered_at (clauses_before cs ms) n h ∙ slice_get_right cs (lemma_clauses ms) (n - 1) j e
    ∙ slice_get-map (λ (k : Lemma). k.clause) ms j
    ∙ ap (option_map (λ (k : Lemma). k.clause)) (slice_get-get_or ms j d lt)

pub number_of_none : (cs : List (List Literal)) (ms : List Lemma) (n j : ℕ) → 1 ≤ n → n - 1 ≡ length cs + j
    → length ms ≤ j → numbered (clauses_before cs ms) n ≡ None
number_of_none cs ms n j h e le =
    numbered_at (clauses_before cs ms) n h ∙ slice_get_right cs (lemma_clauses ms) (n - 1) j e
    ∙ slice_get_past (lemma_clauses ms) j (omega (arith, length-map ms (λ (k : Lemma). k.clause)))
