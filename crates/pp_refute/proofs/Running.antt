-- The loop along a chain.
use Rattle.std.proofs.Common.{ℕ, suc, ◌+◌, ◌≡◌, ◌<◌, List, [], ◌∷◌, Option, Some, None, sym, refl, ap, ◌∙◌, arith}
use Rattle.std.proofs.Common.{length, get_or, drop, Bool}
use Rattle.std.specs.Option.{option_and_then}
use Rattle.std.proofs.Math.Seq.{drop-cons, drop-length}
use Rattle.pp_clause.specs.Literal.{Literal}
use Rattle.pp_clause.specs.Clause.{IsClause}
use Rattle.pp_clause.specs.Derivation.{numbered, resolvent, reached_by, derived_by}
use Rattle.pp_clause.specs.Bound.{Fits}
use Rattle.pp_refute.specs.Table.{Agrees, put_all, Steps, IsStuck}
use Rattle.pp_refute.specs.Checking.{HasDerived}
use Rattle.pp_refute.proofs.Marking.{put_first}

-- the table has what the chain has reached, and the rest of the chain goes on from there
pub record Reaching (cs : List (List Literal)) (ns rest : List ℕ) (i : ℕ) (table : List (Option Bool)) : Type 0 where
  pub reached : List Literal
  pub agrees : Agrees table reached
  pub goes_on : derived_by cs ns ≡ reached_by cs reached (drop i rest)

pub no_numbers : (cs : List (List Literal)) (ns : List ℕ) → length ns ≡ 0 → derived_by cs ns ≡ None
unfolding derived_by
no_numbers cs [] e = refl
no_numbers cs (n ∷ ns) e = absurd (omega arith)

pub none_first : (cs : List (List Literal)) (ns : List ℕ) (n : ℕ) (rest : List ℕ) → ns ≡ n ∷ rest → numbered cs n ≡ None
    → derived_by cs ns ≡ None
unfolding derived_by
none_first cs ns n rest e h = ap (derived_by cs) e ∙ ap (option_and_then (λ clause. reached_by cs clause rest)) h

starts : (cs : List (List Literal)) (ns : List ℕ) (n : ℕ) (rest : List ℕ) (c : List Literal) → ns ≡ n ∷ rest
    → numbered cs n ≡ Some c → derived_by cs ns ≡ reached_by cs c rest
unfolding derived_by
starts cs ns n rest c e h = ap (derived_by cs) e ∙ ap (option_and_then (λ clause. reached_by cs clause rest)) h

pub reaching_first : (cs : List (List Literal)) (ns : List ℕ) (n : ℕ) (rest : List ℕ) (c : List Literal)
    (t : List (Option Bool)) → ns ≡ n ∷ rest → numbered cs n ≡ Some c → IsClause c → Agrees t [] → Fits (length t) c
    → Reaching cs ns rest 0 (put_all t c)
reaching_first cs ns n rest c t e h o a f =
    record { reached = c; agrees = put_first t c a f o; goes_on = starts cs ns n rest c e h }

-- the next number of the chain
after : (cs : List (List Literal)) (xs : List Literal) (rest : List ℕ) (i n : ℕ) → i < length rest → n ≡ get_or rest i 0
    → reached_by cs xs (drop i rest) ≡ option_and_then
    (λ clause. option_and_then (λ next. reached_by cs next (drop (suc i) rest)) (resolvent xs clause)) (numbered cs n)
unfolding reached_by
after cs xs rest i n lt is =
    ap (reached_by cs xs) (drop-cons rest i 0 lt)
    ∙ ap (λ (k : ℕ). option_and_then
    (λ clause. option_and_then (λ next. reached_by cs next (drop (suc i) rest)) (resolvent xs clause))
    (numbered cs k)) (sym is)

pub none_next : (cs : List (List Literal)) (ns rest : List ℕ) (i n : ℕ) (t : List (Option Bool)) → i < length rest
    → n ≡ get_or rest i 0 → Reaching cs ns rest i t → numbered cs n ≡ None → derived_by cs ns ≡ None
none_next cs ns rest i n t lt is r h =
    r.goes_on ∙ after cs r.reached rest i n lt is
    ∙ ap (option_and_then (λ clause. option_and_then (λ next. reached_by cs next (drop (suc i) rest))
    (resolvent r.reached clause))) h

pub stuck_next : (cs : List (List Literal)) (ns rest : List ℕ) (i n : ℕ) (c : List Literal) (t : List (Option Bool))
    → i < length rest → n ≡ get_or rest i 0 → Reaching cs ns rest i t → numbered cs n ≡ Some c → IsStuck t c
    → derived_by cs ns ≡ None
stuck_next cs ns rest i n c t lt is r h s =
    r.goes_on ∙ after cs r.reached rest i n lt is
    ∙ ap (option_and_then (λ clause. option_and_then (λ next. reached_by cs next (drop (suc i) rest))
    (resolvent r.reached clause))) h
    ∙ ap (option_and_then (λ next. reached_by cs next (drop (suc i) rest))) (s.none r.reached r.agrees)

pub reaching_next : (cs : List (List Literal)) (ns rest : List ℕ) (i n : ℕ) (c : List Literal)
    (t u : List (Option Bool)) → i < length rest → n ≡ get_or rest i 0 → Reaching cs ns rest i t
    → numbered cs n ≡ Some c → Steps t u c → Reaching cs ns rest (i + 1) u
reaching_next cs ns rest i n c t u lt is r h s =
    let p = s.next r.reached r.agrees in
    let one : suc i ≡ i + 1 = omega arith in
    record {
      reached = p.0;
      agrees = p.2;
      goes_on = r.goes_on ∙ after cs r.reached rest i n lt is
          ∙ ap (option_and_then (λ clause. option_and_then (λ next. reached_by cs next (drop (suc i) rest))
          (resolvent r.reached clause))) h
          ∙ ap (option_and_then (λ next. reached_by cs next (drop (suc i) rest))) p.1
          ∙ ap (λ (k : ℕ). reached_by cs p.0 (drop k rest)) one;
    }

at_end : (cs : List (List Literal)) (xs : List Literal) (rest : List ℕ)
    → reached_by cs xs (drop (length rest) rest) ≡ Some xs
unfolding reached_by
at_end cs xs rest = ap (reached_by cs xs) (drop-length rest)

pub reaching_end : (cs : List (List Literal)) (ns rest : List ℕ) (i : ℕ) (t : List (Option Bool)) → i ≡ length rest
    → Reaching cs ns rest i t → HasDerived cs ns t
reaching_end cs ns rest i t e r = record {
  reached = r.reached;
  by_chain = r.goes_on ∙ ap (λ (k : ℕ). reached_by cs r.reached (drop k rest)) e ∙ at_end cs r.reached rest;
  agrees = r.agrees;
}
