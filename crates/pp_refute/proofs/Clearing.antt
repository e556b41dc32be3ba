-- What is left in the table after the literals of the lemma are taken out.
use Rattle.std.proofs.Common.{ℕ, ◌+◌, ◌≡◌, ◌<◌, Bool, true, false, List, [], ◌∷◌, Option, Some, None, sym, refl}
use Rattle.std.proofs.Common.{ap, ◌∙◌, subst, inl, inr, arith, length, get_or, take, not, All}
use Rattle.std.specs.Prelude.{IfSome, ◌&&◌}
use Rattle.std.proofs.lemmas.Bool.{and_parts, and_cases, not-true, not-false, false_from_ne_true}
use Rattle.std.proofs.lemmas.List.{get_or-take, get_or_default, length-take-le}
use Rattle.std.proofs.lemmas.List.Folds.{list_any_at}
use Rattle.std.proofs.lemmas.Option.{IfSome_then}
use Rattle.std.proofs.lemmas.List.Elements.{All-more, All-weaker}
use Rattle.pp_clause.specs.Literal.{Literal, opposite}
use Rattle.pp_clause.specs.Clause.{literal_eq, has, IsClause}
use Rattle.pp_clause.specs.Derivation.{numbered, Derives}
use Rattle.pp_clause.proofs.Has.{literal_eq-same, has-All, has-nil, has-cases, same_bool, false_not_true}
use Rattle.pp_refute.specs.Table.{is_sign, marked, Agrees}
use Rattle.pp_refute.specs.Checking.{HasDerived, TakesOut, Lacks, HasSome, is_clear_of, IsClearOfNumber, IsClearOfAll}
use Rattle.pp_refute.proofs.Sources.{IsFree, derived_free}

pub and_true : (b : Bool) → (b && true) ≡ b
and_true true = refl
and_true false = refl

pub has_some : (t : List (Option Bool)) (c : List Literal) → is_clear_of t c ≡ false → HasSome t
has_some t [] h = absurd (let f : true ≡ false = h in cc)
has_some t (x ∷ xs) h =
    elim (and_cases (not (marked t x)) (is_clear_of t xs) h)
    [ inl e ↦ record { literal = x; held = not-false (marked t x) e } | inr k ↦ has_some t xs k ]

pub clear_some : (t : List (Option Bool)) (o : Option (List Literal)) (c : List Literal) → o ≡ Some c
    → is_clear_of t c ≡ true → IfSome o (λ d. is_clear_of t d ≡ true)
clear_some t o c e h = subst (λ (q : Option (List Literal)). IfSome q (λ d. is_clear_of t d ≡ true)) (sym e) h

pub clear_none : (t : List (Option Bool)) (o : Option (List Literal)) → o ≡ None
    → IfSome o (λ d. is_clear_of t d ≡ true)
clear_none t o e = subst (λ (q : Option (List Literal)). IfSome q (λ d. is_clear_of t d ≡ true)) (sym e) tt

pub clear_more : (t : List (Option Bool)) (cs : List (List Literal)) (ns : List ℕ) (i : ℕ) → i < length ns
    → IsClearOfAll t cs (take i ns) → IsClearOfNumber t cs (get_or ns i 0) → IsClearOfAll t cs (take (i + 1) ns)
clear_more t cs ns i lt h k = All-more (IsClearOfNumber t cs) ns i 0 lt h k

-- a table has at most one of two opposite literals
pub one_sign : (t : List (Option Bool)) (x : Literal) → marked t x ≡ true → marked t (opposite x) ≡ false
one_sign t x h = by_slot (get_or t x.var None) x.positive h
  where
    by_slot : (o : Option Bool) (p : Bool) → is_sign o p ≡ true → is_sign o (not p) ≡ false
    by_slot None p h = refl
    by_slot (Some true) true h = refl
    by_slot (Some false) false h = refl
    by_slot (Some true) false h = absurd (false_not_true h)
    by_slot (Some false) true h = absurd (false_not_true h)

-- the literal at a place of a clause doesn't stand before it
pub fresh : (c : List Literal) (i : ℕ) (x : Literal) → IsClause c → i < length c → x ≡ get_or c i x
    → has (take i c) x ≡ true → ⊥
fresh c i x o lt is h =
    let below : All (λ l. l.var < x.var) (take i c) = λ k d inside.
    let cut : length (take i c) ≡ i = length-take-le i c (omega arith) in
    let k_lt : k < i = omega arith in
    let step : (get_or c k x).var < (get_or c i x).var = o.ascending k i x k_lt lt in
    let up : (get_or c k x).var < x.var = subst (λ (z : Literal). (get_or c k x).var < z.var) (sym is) step in
    let same : get_or (take i c) k d ≡ get_or c k x = get_or-take i c k d k_lt ∙ get_or_default c k d x (omega arith) in
    subst (λ (z : Literal). z.var < x.var) (sym same) up in
    let self : x.var < x.var = has-All (λ l. l.var < x.var) (take i c) x below h in
    omega arith

has_at : (c : List Literal) (i : ℕ) (x : Literal) → i < length c → x ≡ get_or c i x → has c x ≡ true
has_at c i x lt is = list_any_at (literal_eq x) c i x lt (ap (literal_eq x) (sym is) ∙ literal_eq-same x)

pub lacks_one : (old cur : List (Option Bool)) (c : List Literal) (i : ℕ) (x : Literal) → IsClause c → i < length c
    → x ≡ get_or c i x → TakesOut old cur (take i c) → marked cur x ≡ false → Lacks old c
lacks_one old cur c i x o lt is t h = record {
  literal = x;
  held = has_at c i x lt is;
  missing = elim (and_cases (marked old x) (not (has (take i c) x)) (sym (t.left x) ∙ h))
      [ inl e ↦ e | inr k ↦ absurd (fresh c i x o lt is (not-false (has (take i c) x) k)) ];
}

-- the verdict on a lemma
clear_not : (t : List (Option Bool)) (c : List Literal) (m : Literal) → is_clear_of t c ≡ true → has c m ≡ true
    → marked t m ≡ true → ⊥
clear_not t [] m h k e = has-nil m k
clear_not t (x ∷ xs) m h k e =
    let p = and_parts (not (marked t x)) (is_clear_of t xs) h in
    elim (has-cases x xs m k) [
      | inl s ↦ false_not_true (sym (not-true (marked t x) p.0) ∙ ap (marked t) (sym s) ∙ e)
      | inr j ↦ clear_not t xs m p.1 j e
    ]

free_of : (t : List (Option Bool)) (cs : List (List Literal)) (ns : List ℕ) (m : Literal) → IsClearOfAll t cs ns
    → marked t m ≡ true → IsFree cs m ns
unfolding IsFree
free_of t cs ns m h e =
    All-weaker (IsClearOfNumber t cs) (λ n. IfSome (numbered cs n) (λ c. has c m ≡ true → ⊥))
    (λ n k. IfSome_then (numbered cs n) k (λ c q j. clear_not t c m q j e)) ns h

nothing_left : (cs : List (List Literal)) (ns : List ℕ) (clause : List Literal) (t u : List (Option Bool))
    → HasDerived cs ns t → TakesOut t u clause → IsClearOfAll u cs ns → (m : Literal) → marked u m ≡ false
nothing_left cs ns clause t u d o h m =
    false_from_ne_true (marked u m) (λ e.
    derived_free cs m ns d.reached (free_of u cs ns m h e) d.by_chain
    (sym (d.agrees.same m) ∙ (and_parts (marked t m) (not (has clause m)) (sym (o.left m) ∙ e)).0))

table_empty : (cs : List (List Literal)) (ns : List ℕ) (clause : List Literal) (t u : List (Option Bool))
    → HasDerived cs ns t → TakesOut t u clause → IsClearOfAll u cs ns → Agrees u []
table_empty cs ns clause t u d o h = record { same = nothing_left cs ns clause t u d o h }

derives_yes : (cs : List (List Literal)) (ns : List ℕ) (clause : List Literal) (t u : List (Option Bool))
    → HasDerived cs ns t → TakesOut t u clause → IsClearOfAll u cs ns → Derives cs ns clause
derives_yes cs ns clause t u d o h = record {
  reached = d.reached;
  by_chain = d.by_chain;
  same = record {
    same = λ m. same_bool (has d.reached m) (has clause m)
        (λ k. not-false (has clause m)
        (elim (and_cases (marked t m) (not (has clause m)) (sym (o.left m) ∙ nothing_left cs ns clause t u d o h m)) [
          | inl a ↦ absurd (false_not_true (sym a ∙ d.agrees.same m ∙ k))
          | inr b ↦ b
        ]))
        (λ k. sym (d.agrees.same m) ∙ o.had m k);
  };
}

-- a yes, in the words of the calls
pub verdict : (cs : List (List Literal)) (ns numbers : List ℕ) (clause lits : List Literal) (t u : List (Option Bool))
    → numbers ≡ ns → lits ≡ clause → HasDerived cs numbers t → TakesOut t u lits → IsClearOfAll u cs numbers
    → Derives cs ns clause × Agrees u []
verdict cs ns numbers clause lits t u e f d o h = (
  subst (λ (z : List ℕ). Derives cs z clause) e
      (subst (λ (z : List Literal). Derives cs numbers z) f (derives_yes cs numbers lits t u d o h)),
  table_empty cs numbers lits t u d o h,
)
