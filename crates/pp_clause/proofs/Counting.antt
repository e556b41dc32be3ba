-- Over v variables at most 3^v clauses differ as sets: the digits of a clause tell of each variable whether it
-- stands there, and with which sign.
use Rattle.std.proofs.Common.{ℕ, suc, ◌+◌, ◌*◌, ◌^◌, ◌≡◌, ◌<◌, ◌≤◌, Bool, true, false, List, [], ◌∷◌, ◌++◌, sym, refl}
use Rattle.std.proofs.Common.{ap, ◌∙◌, inl, inr, arith, eqb, All, length, map}
use Rattle.std.specs.Prelude.{Contains, AllPairs, ⊤}
use Rattle.std.specs.List.{IsDistinct, AllByRecursion, list_any}
use Rattle.std.proofs.lemmas.Map.Steps.{length-le_from_distinct_below}
use Rattle.std.proofs.lemmas.Bool.Decides.{eqb_tells}
use Rattle.std.proofs.lemmas.Bool.{eqb-true, or_cases}
use Rattle.std.proofs.lemmas.List.Elements.{Contains-append_left, Contains-push, All-from_recursion, All-contains}
use Rattle.std.proofs.lemmas.List.Elements.{All-head, All-tail}
use native.Mathlib.Numerals.{unary_clauses}
use Rattle.pp_clause.specs.Literal.{Literal}
use Rattle.pp_clause.specs.Clause.{has, SameLiterals, IsClause}
use Rattle.pp_clause.specs.New.{IsNew, AllNew}
use Rattle.pp_clause.specs.Laws.{IsOver, DifferAsSets}
use Rattle.pp_clause.proofs.Has.{has-nil, has-All, same_bool, false_not_true}
use Rattle.pp_clause.proofs.Ascending.{Consistent, clause_consistent}

digit_of : Bool → Bool → ℕ
digit_of true b = 1
digit_of false true = 2
digit_of false false = 0

digit_small : (a b : Bool) → digit_of a b < 3
unfolding digit_of
digit_small true b = omega arith
digit_small false true = omega arith
digit_small false false = omega arith

-- whether and how the variable stands in the clause
digit : ℕ → List Literal → ℕ
digit x c = digit_of (has c (record { var = x; positive = true })) (has c (record { var = x; positive = false }))

code : List ℕ → List Literal → ℕ
code [] c = 0
code (x ∷ xs) c = 3 * code xs c + digit x c

code-lt : (xs : List ℕ) (c : List Literal) → code xs c < 3 ^ length xs
unfolding code digit
code-lt [] c = omega arith
code-lt (x ∷ xs) c = simp unary_clauses
    (code_step (code xs c) (digit x c) (3 ^ length xs) (code-lt xs c) (digit_small _ _))
  where
    code_step : (a d p : ℕ) → a < p → d < 3 → 3 * a + d < p * 3
    code_step a d p h k = omega arith

split_code : (a b r s : ℕ) → r < 3 → s < 3 → 3 * a + r ≡ 3 * b + s → (a ≡ b) × (r ≡ s)
split_code a b r s h k e = (omega arith, omega arith)

code_digits : (xs : List ℕ) (c d : List Literal) → code xs c ≡ code xs d
    → AllByRecursion (λ x. digit x c ≡ digit x d) xs
unfolding code digit
code_digits [] c d e = tt
code_digits (x ∷ xs) c d e =
    let p = split_code (code xs c) (code xs d) (digit x c) (digit x d) (digit_small _ _) (digit_small _ _) e in
    (p.1, code_digits xs c d p.0)

bits_from : (a b c d : Bool) → (a ≡ true → b ≡ true → ⊥) → (c ≡ true → d ≡ true → ⊥) → digit_of a b ≡ digit_of c d
    → (a ≡ c) × (b ≡ d)
unfolding digit_of
bits_from true true c d h k e = absurd (h refl refl)
bits_from true false true true h k e = absurd (k refl refl)
bits_from true false true false h k e = (refl, refl)
bits_from true false false true h k e = absurd (omega arith)
bits_from true false false false h k e = absurd (omega arith)
bits_from false true true d h k e = absurd (omega arith)
bits_from false true false true h k e = (refl, refl)
bits_from false true false false h k e = absurd (omega arith)
bits_from false false true d h k e = absurd (omega arith)
bits_from false false false true h k e = absurd (omega arith)
bits_from false false false false h k e = (refl, refl)

-- a clause over these variables
record Good (xs : List ℕ) (c : List Literal) : Type 0 where
  pub over : IsOver xs c
  pub consistent : Consistent c

literal_has : (x : ℕ) (c d : List Literal) → Consistent c → Consistent d → digit x c ≡ digit x d → (s : Bool)
    → has c (record { var = x; positive = s }) ≡ has d (record { var = x; positive = s })
unfolding digit
literal_has x c d p q e true =
    (bits_from _ _ _ _ (p.apart (record { var = x; positive = true })) (q.apart (record { var = x; positive = true }))
    e).0
literal_has x c d p q e false =
    (bits_from _ _ _ _ (p.apart (record { var = x; positive = true })) (q.apart (record { var = x; positive = true }))
    e).1

held_too : (xs : List ℕ) (c d : List Literal) → Good xs c → Good xs d → code xs c ≡ code xs d → (m : Literal)
    → has c m ≡ true → has d m ≡ true
held_too xs c d g k e m h =
    let digits : digit m.var c ≡ digit m.var d =
    All-contains (λ x. digit x c ≡ digit x d) xs m.var
    (All-from_recursion (λ x. digit x c ≡ digit x d) xs (code_digits xs c d e))
    (has-All (λ l. Contains xs l.var) c m g.over h) in
    sym (literal_has m.var c d g.consistent k.consistent digits m.positive) ∙ h

-- one code, one set
same_code : (xs : List ℕ) (c d : List Literal) → Good xs c → Good xs d → code xs c ≡ code xs d → SameLiterals c d
same_code xs c d g k e =
    record { same = λ m. same_bool (has c m) (has d m) (held_too xs c d g k e m) (held_too xs d c k g (sym e) m) }

abbrev AllGood : List ℕ → List (List Literal) → Type 0
AllGood xs cs = AllByRecursion (Good xs) cs

all_good : (xs : List ℕ) (cs : List (List Literal)) → All IsClause cs → All (IsOver xs) cs → AllGood xs cs
all_good xs [] h k = tt
all_good xs (c ∷ cs) h k = (
  record { over = All-head (IsOver xs) c cs k; consistent = clause_consistent c (All-head IsClause c cs h) },
  all_good xs cs (All-tail IsClause c cs h) (All-tail (IsOver xs) c cs k),
)

apart_of : (a b : ℕ) → (a ≡ b → ⊥) → eqb a b ≡ false
apart_of a b h = elim (eqb_tells a b) [ inl p ↦ absurd (h p.1) | inr p ↦ p.0 ]

code_below : (xs : List ℕ) (ls : List (List Literal)) (q : ℕ) → list_any (eqb q) (map (code xs) ls) ≡ true
    → q < 3 ^ length xs
code_below xs [] q h = absurd (false_not_true h)
code_below xs (l ∷ ls) q h =
    elim (or_cases (eqb q (code xs l)) (list_any (eqb q) (map (code xs) ls)) h) [
      | inl e ↦ (let k = eqb-true q (code xs l) e in let b = code-lt xs l in omega arith)
      | inr r ↦ code_below xs ls q r
    ]

map_length : (f : List Literal → ℕ) (ls : List (List Literal)) → length (map f ls) ≡ length ls
map_length f [] = refl
map_length f (l ∷ ls) = ap suc (map_length f ls)

-- clauses that differ as sets, one after another
Apart : List (List Literal) → Type 0
Apart [] = ⊤
Apart (c ∷ cs) = AllByRecursion (DifferAsSets c) cs × Apart cs

head_apart : (c : List Literal) (cs : List (List Literal)) → AllPairs DifferAsSets (c ∷ cs) → All (DifferAsSets c) cs
head_apart c cs h = λ k d lt. h 0 (suc k) d (omega arith) (omega arith)

tail_apart : (c : List Literal) (cs : List (List Literal)) → AllPairs DifferAsSets (c ∷ cs) → AllPairs DifferAsSets cs
tail_apart c cs h = λ i j d lt in'. h (suc i) (suc j) d (omega arith) (omega arith)

by_recursion : (P : List Literal → Type 0) (cs : List (List Literal)) → All P cs → AllByRecursion P cs
by_recursion P [] h = tt
by_recursion P (c ∷ cs) h = (All-head P c cs h, by_recursion P cs (All-tail P c cs h))

apart_from : (cs : List (List Literal)) → AllPairs DifferAsSets cs → Apart cs
unfolding Apart
apart_from [] h = tt
apart_from (c ∷ cs) h = (by_recursion (DifferAsSets c) cs (head_apart c cs h), apart_from cs (tail_apart c cs h))

code_apart : (xs : List ℕ) (c : List Literal) → Good xs c → (cs : List (List Literal)) → AllGood xs cs
    → AllByRecursion (DifferAsSets c) cs → AllByRecursion (λ y. eqb (code xs c) y ≡ false) (map (code xs) cs)
code_apart xs c g [] gs ds = tt
code_apart xs c g (d ∷ cs) gs ds =
    (apart_of (code xs c) (code xs d) (λ e. ds.0 (same_code xs c d g gs.0 e)), code_apart xs c g cs gs.1 ds.1)

codes_distinct : (xs : List ℕ) (cs : List (List Literal)) → AllGood xs cs → Apart cs → IsDistinct eqb (map (code xs) cs)
unfolding IsDistinct Apart
codes_distinct xs [] gs ds = tt
codes_distinct xs (c ∷ cs) gs ds = (code_apart xs c gs.0 cs gs.1 ds.0, codes_distinct xs cs gs.1 ds.1)

few : (xs : List ℕ) (cs : List (List Literal)) → AllGood xs cs → Apart cs → length cs ≤ 3 ^ length xs
few xs cs gs ds =
    let b : length (map (code xs) cs) ≤ 3 ^ length xs =
    length-le_from_distinct_below (map (code xs) cs) (3 ^ length xs) (codes_distinct xs cs gs ds)
    (code_below xs cs) in
    omega (arith, b, map_length (code xs) cs)

pub clauses_are_few_law : (xs : List ℕ) (cs : List (List Literal)) → All IsClause cs → All (IsOver xs) cs
    → AllPairs DifferAsSets cs → length cs ≤ 3 ^ length xs
clauses_are_few_law xs cs h k d = few xs cs (all_good xs cs h k) (apart_from cs d)

-- a new lemma is none of the clauses before it, nor the clause without literals
pub new_differs_law : (cs : List (List Literal)) (l : List Literal) → IsNew cs l → All (DifferAsSets l) cs
new_differs_law cs l n = λ k d lt e.
    n.closed.none_unit k d lt n.literal (sym (e.same n.literal) ∙ n.held)
    (record { negated = λ m h ne. n.others.negated m (e.same m ∙ h) ne }) n.open_literal

differs_from : (cs : List (List Literal)) (l c : List Literal) → IsNew cs l → Contains cs c → DifferAsSets c l
differs_from cs l c n at e =
    All-contains (DifferAsSets l) cs c (new_differs_law cs l n) at (record { same = λ m. sym (e.same m) })

later_differ : (c : List Literal) (cs ls : List (List Literal)) → Contains cs c → AllNew cs ls
    → AllByRecursion (DifferAsSets c) ls
later_differ c cs [] at ns = tt
later_differ c cs (l ∷ ls) at ns =
    (differs_from cs l c ns.0 at, later_differ c (cs ++ l ∷ []) ls (Contains-append_left cs (l ∷ []) c at) ns.1)

new_apart : (cs ls : List (List Literal)) → AllNew cs ls → Apart ls
unfolding Apart
new_apart cs [] ns = tt
new_apart cs (l ∷ ls) ns =
    (later_differ l (cs ++ l ∷ []) ls (Contains-push cs l) ns.1, new_apart (cs ++ l ∷ []) ls ns.1)

not_empty : (cs : List (List Literal)) (l : List Literal) → IsNew cs l → DifferAsSets [] l
not_empty cs l n e = has-nil n.literal (e.same n.literal ∙ n.held)

none_empty : (cs ls : List (List Literal)) → AllNew cs ls → AllByRecursion (DifferAsSets []) ls
none_empty cs [] ns = tt
none_empty cs (l ∷ ls) ns = (not_empty cs l ns.0, none_empty (cs ++ l ∷ []) ls ns.1)

empty_good : (xs : List ℕ) → Good xs []
empty_good xs = record { over = λ k d lt. absurd (omega arith); consistent = record { apart = λ m h k. has-nil m h } }

pub new_are_few_law : (xs : List ℕ) (cs ls : List (List Literal)) → All IsClause ls → All (IsOver xs) ls → AllNew cs ls
    → length ls < 3 ^ length xs
unfolding Apart
new_are_few_law xs cs ls h k ns =
    let b : suc (length ls) ≤ 3 ^ length xs =
    few xs ([] ∷ ls) (empty_good xs, all_good xs ls h k) (none_empty cs ls ns, new_apart cs ls ns) in
    omega arith
