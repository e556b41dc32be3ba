-- The clause whose literals are struck out by the assumptions.
use Rattle.std.proofs.Common.{ℕ, ◌+◌, ◌≡◌, ◌<◌, Bool, true, false, List, [], ◌∷◌, ◌++◌, Option, sym, refl, ap, ◌∙◌, inl}
use Rattle.std.proofs.Common.{inr, length, get_or, take, not, All}
use Rattle.std.specs.Prelude.{◌&&◌, ◌||◌}
use Rattle.std.specs.List.{list_all}
use Rattle.std.proofs.lemmas.Bool.{and_parts, not-true, false_from_ne_true}
use Rattle.std.proofs.lemmas.List.{take_more}
use Rattle.std.proofs.Math.Seq.{take-length}
use Rattle.std.proofs.lemmas.List.Elements.{All-head, All-tail}
use Rattle.pp_clause.specs.Literal.{Literal, opposite}
use Rattle.pp_clause.specs.Clause.{literal_eq, has, IsClause}
use Rattle.pp_clause.specs.Log.{all_negated}
use Rattle.pp_clause.proofs.Has.{has-append, has-nil, has-cases, All-from_has, false_not_true}
use Rattle.pp_clause.specs.Bound.{Fits}
use Rattle.pp_refute.specs.Table.{marked, Agrees, put_all}
use Rattle.pp_refute.specs.Checking.{IsStruck, is_clear_of}
use Rattle.pp_refute.proofs.Clearing.{and_true}
use Rattle.pp_refute.proofs.Marking.{put_first}

-- the table has the literals of the clause, but for the negations of the assumptions read so far
pub record Crossed (table : List (Option Bool)) (clause done : List Literal) : Type 0 where
  pub left : (m : Literal) → marked table m ≡ (has clause m && not (has done (opposite m)))

pub crossed_first : (t : List (Option Bool)) (clause : List Literal) → Agrees t [] → Fits (length t) clause
    → IsClause clause → Crossed (put_all t clause) clause []
crossed_first t clause a f o = record { left = λ m. (put_first t clause a f o).same m ∙ sym (and_true (has clause m)) }

struck_out : (a b c : Bool) → ((a && not b) && not c) ≡ (a && not (b || (c || false)))
struck_out false b c = refl
struck_out true true c = refl
struck_out true false true = refl
struck_out true false false = refl

pub crossed_more : (t u : List (Option Bool)) (clause assumed : List Literal) (i : ℕ) (x : Literal) → i < length assumed
    → x ≡ get_or assumed i x → Crossed t clause (take i assumed) → IsStruck t u x
    → Crossed u clause (take (i + 1) assumed)
crossed_more t u clause assumed i x lt is c s =
    let done : List Literal = take i assumed in
    let more : take (i + 1) assumed ≡ done ++ x ∷ [] =
    take_more assumed i x lt ∙ ap (λ (z : Literal). take i assumed ++ z ∷ []) (sym is) in
    record {
      left = λ m.
          s.left m ∙ ap (λ (b : Bool). b && not (literal_eq (opposite m) x)) (c.left m)
          ∙ struck_out (has clause m) (has (take i assumed) (opposite m)) (literal_eq (opposite m) x)
          ∙ ap (λ (b : Bool). has clause m && not b)
          (sym (has-append (take i assumed) (x ∷ []) (opposite m))
          ∙ ap (λ (z : List Literal). has z (opposite m)) (sym more));
    }

all_agree : (p q : Literal → Bool) (xs : List Literal) → All (λ x. p x ≡ q x) xs → list_all p xs ≡ list_all q xs
all_agree p q [] h = refl
all_agree p q (x ∷ xs) h =
    ap (λ (b : Bool). b && list_all p xs) (All-head (λ z. p z ≡ q z) x xs h)
    ∙ ap (λ (b : Bool). q x && b) (all_agree p q xs (All-tail (λ z. p z ≡ q z) x xs h))

not_not : (a b : Bool) → a ≡ true → not (a && not b) ≡ b
not_not true true h = refl
not_not true false h = refl
not_not false b h = absurd (false_not_true h)

whole : (assumed : List Literal) (i : ℕ) → i ≡ length assumed → take i assumed ≡ assumed
whole assumed i e = ap (λ (k : ℕ). take k assumed) e ∙ take-length assumed

pub crossed_value : (t : List (Option Bool)) (clause assumed : List Literal) (i : ℕ) → i ≡ length assumed
    → Crossed t clause (take i assumed) → is_clear_of t clause ≡ all_negated assumed clause
crossed_value t clause assumed i e c =
    all_agree (λ l. not (marked t l)) (λ l. has assumed (opposite l)) clause
    (All-from_has (λ l. not (marked t l) ≡ has assumed (opposite l)) clause (λ m h.
    ap not (c.left m) ∙ not_not (has clause m) (has (take i assumed) (opposite m)) h
    ∙ ap (λ (z : List Literal). has z (opposite m)) (whole assumed i e)))

passed : (p : Literal → Bool) (xs : List Literal) (m : Literal) → list_all p xs ≡ true → has xs m ≡ true → p m ≡ true
passed p [] m h k = absurd (has-nil m k)
passed p (x ∷ xs) m h k =
    let q = and_parts (p x) (list_all p xs) h in
    elim (has-cases x xs m k) [ inl e ↦ ap p e ∙ q.0 | inr j ↦ passed p xs m q.1 j ]

pub crossed_empty : (t : List (Option Bool)) (clause done : List Literal) → Crossed t clause done
    → is_clear_of t clause ≡ true → Agrees t []
crossed_empty t clause done c h = record {
  same = λ m. false_from_ne_true (marked t m) (λ e.
      let p = and_parts (has clause m) (not (has done (opposite m))) (sym (c.left m) ∙ e) in
      false_not_true (sym (not-true (marked t m) (passed (λ l. not (marked t l)) clause m h p.0)) ∙ e));
}
