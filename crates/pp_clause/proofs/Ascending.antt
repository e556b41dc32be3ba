-- A clause in ascending order of variable has no literal together with its negation.
use Rattle.std.proofs.Common.{suc, ◌≡◌, ◌<◌, Bool, true, false, List, [], ◌∷◌, sym, refl, ap, ◌∙◌, inl, inr, arith, not}
use Rattle.std.proofs.Common.{All}
use Rattle.std.specs.Prelude.{AllPairs}
use Rattle.pp_clause.specs.Literal.{Literal, opposite}
use Rattle.pp_clause.specs.Clause.{has, HasBoth, SameLiterals, IsClause}
use Rattle.pp_clause.proofs.Has.{has-nil, has-cases, has-here, has-there, has-All, same_bool}

-- no literal stands there with its negation
pub record Consistent (ls : List Literal) : Type 0 where
  pub apart : (m : Literal) → has ls m ≡ true → has ls (opposite m) ≡ true → ⊥

Ascends : List Literal → Type 0
Ascends ls = AllPairs (λ l m. l.var < m.var) ls

tail_ascends : (x : Literal) (xs : List Literal) → Ascends (x ∷ xs) → Ascends xs
unfolding Ascends
tail_ascends x xs h = λ i j d lt in'. h (suc i) (suc j) d (omega arith) (omega arith)

head_below : (x : Literal) (xs : List Literal) → Ascends (x ∷ xs) → All (λ m. x.var < m.var) xs
unfolding Ascends
head_below x xs h = λ k d lt. h 0 (suc k) d (omega arith) (omega arith)

not_itself : (b : Bool) → not b ≡ b → ⊥
not_itself true h = let e : false ≡ true = h in cc
not_itself false h = let e : true ≡ false = h in cc

apart_of : (ls : List Literal) → Ascends ls → (m : Literal) → has ls m ≡ true → has ls (opposite m) ≡ true → ⊥
apart_of [] h m k j = has-nil m k
apart_of (y ∷ ys) h m k j =
    elim (has-cases y ys m k) [
      | inl e ↦ elim (has-cases y ys (opposite m) j) [
        | inl s ↦ not_itself m.positive (ap (λ (z : Literal). z.positive) (s ∙ sym e))
        | inr b ↦ (let lt : y.var < m.var = has-All (λ l. y.var < l.var) ys (opposite m) (head_below y ys h) b in
            let same : m.var ≡ y.var = ap (λ (z : Literal). z.var) e in absurd (omega arith))
      ]
      | inr a ↦ elim (has-cases y ys (opposite m) j) [
        | inl s ↦ (let lt : y.var < m.var = has-All (λ l. y.var < l.var) ys m (head_below y ys h) a in
            let same : m.var ≡ y.var = ap (λ (z : Literal). z.var) s in absurd (omega arith))
        | inr b ↦ apart_of ys (tail_ascends y ys h) m a b
      ]
    ]

pub clause_consistent : (ls : List Literal) → IsClause ls → Consistent ls
unfolding Ascends
clause_consistent ls c = record { apart = apart_of ls c.ascending }

-- so a list that is as a set a clause has no literal with its negation
pub consistent_same : (ls ms : List Literal) → SameLiterals ls ms → Consistent ls → Consistent ms
consistent_same ls ms e c = record { apart = λ m h k. c.apart m (e.same m ∙ h) (e.same (opposite m) ∙ k) }

pub not_both_from : (c ls : List Literal) → SameLiterals c ls → IsClause c → HasBoth ls → ⊥
not_both_from c ls e o h = (consistent_same c ls e (clause_consistent c o)).apart h.literal h.itself h.negation

-- a clause is determined by its set
head_same : (x y : Literal) (xs ys : List Literal) → Ascends (x ∷ xs) → Ascends (y ∷ ys)
    → SameLiterals (x ∷ xs) (y ∷ ys) → x ≡ y
head_same x y xs ys h k e =
    elim (has-cases y ys x (sym (e.same x) ∙ has-here x xs)) [
      | inl s ↦ s
      | inr a ↦ elim (has-cases x xs y (e.same y ∙ has-here y ys)) [
        | inl t ↦ sym t
        | inr b ↦ (let up : y.var < x.var = has-All (λ l. y.var < l.var) ys x (head_below y ys k) a in
            let down : x.var < y.var = has-All (λ l. x.var < l.var) xs y (head_below x xs h) b in absurd (omega arith))
      ]
    ]

tail_has : (x y : Literal) (xs ys : List Literal) → Ascends (x ∷ xs) → SameLiterals (x ∷ xs) (y ∷ ys) → x ≡ y
    → (m : Literal) → has xs m ≡ true → has ys m ≡ true
tail_has x y xs ys h e s m k =
    elim (has-cases y ys m (sym (e.same m) ∙ has-there x xs m k)) [
      | inr a ↦ a
      | inl t ↦ (let lt : x.var < m.var = has-All (λ l. x.var < l.var) xs m (head_below x xs h) k in
          let same : m.var ≡ x.var = ap (λ (z : Literal). z.var) (t ∙ sym s) in absurd (omega arith))
    ]

ascending_unique : (c d : List Literal) → Ascends c → Ascends d → SameLiterals c d → c ≡ d
ascending_unique [] [] h k e = refl
ascending_unique [] (y ∷ ys) h k e = absurd (has-nil y (e.same y ∙ has-here y ys))
ascending_unique (x ∷ xs) [] h k e = absurd (has-nil x (sym (e.same x) ∙ has-here x xs))
ascending_unique (x ∷ xs) (y ∷ ys) h k e =
    let s : x ≡ y = head_same x y xs ys h k e in
    let back : SameLiterals (y ∷ ys) (x ∷ xs) = record { same = λ m. sym (e.same m) } in
    let rest : xs ≡ ys = ascending_unique xs ys (tail_ascends x xs h) (tail_ascends y ys k)
    (record {
      same = λ m. same_bool (has xs m) (has ys m) (tail_has x y xs ys h e s m)
          (tail_has y x ys xs k back (sym s) m);
    }) in
    cc

pub clause_unique : (c d : List Literal) → IsClause c → IsClause d → SameLiterals c d → c ≡ d
unfolding Ascends
clause_unique c d h k e = ascending_unique c d h.ascending k.ascending e
