-- A reader of the text of a lemma has the lemma in the end.
use Rattle.std.proofs.Common.{ℕ, ◌+◌, ◌-◌, ◌*◌, ◌/◌, ◌%◌, ◌^◌, ◌≡◌, ◌<◌, Bool, true, false, not, List, [], ◌∷◌, ◌++◌}
use Rattle.std.proofs.Common.{Option, Some, None, sym, ap, ◌∙◌, arith, All, append_assoc, append-nil}
use Rattle.std.specs.Prelude.{nat_lt, nat_le, ◌&&◌, codes}
use Rattle.std.specs.List.{flat_map}
use Rattle.std.specs.Fmt.{decimal}
use Rattle.std.proofs.lemmas.Fmt.{decimal_by_steps}
use Rattle.std.proofs.lemmas.Bool.{and_from, le-leb, lt-ltb, cond-true}
use Rattle.std.proofs.lemmas.List.Sums.{fold-append}
use Rattle.std.proofs.lemmas.List.Elements.{All-head, All-tail}
use Rattle.pp_clause.specs.Literal.{Literal, IsVariable}
use Rattle.pp_clause.specs.declared.log.Lemma.{Lemma}
use Rattle.pp_clause.specs.Log.{IsLemma}
use Rattle.pp_refute.specs.LogText.{text_of_lit, text_of_number, text_of_lemma}
use Rattle.pp_refute.specs.Scan.{Scan, scan_start, with_digit, lits_of, numbers_of, scan_digit, scan_step, scan_of}

abbrev pub scan_at : List Literal → List ℕ → Bool → Bool → Option ℕ → Scan
scan_at ls ns arrow negative pending =
    record { lits = ls; numbers = ns; arrow = arrow; negative = negative; pending = pending }

digit_step : (s : Scan) (d : ℕ) → d < 10 → scan_step s (48 + d) ≡ scan_digit s d
digit_step s d lt =
    let inside : (nat_le 48 (48 + d) && nat_le (48 + d) 57) ≡ true =
    and_from _ _ (le-leb 48 (48 + d) (omega arith)) (le-leb (48 + d) 57 (omega arith)) in
    let value : (48 + d) - 48 ≡ d = omega arith in
    let step : scan_step s (48 + d) ≡ scan_digit s ((48 + d) - 48) =
    cond-true (nat_le 48 (48 + d) && nat_le (48 + d) 57) (scan_digit s ((48 + d) - 48)) _ inside in
    step ∙ ap (scan_digit s) value

next_digit : (n : ℕ) → n < 2 ^ 32 → with_digit (Some (n / 10)) (n % 10) ≡ n
next_digit n lt =
    let small : n / 10 < 2 ^ 32 = omega arith in
    let value : n / 10 * 10 + n % 10 ≡ n = omega arith in
    cond-true (nat_lt (n / 10) (2 ^ 32)) (n / 10 * 10 + n % 10) (n / 10) (lt-ltb (n / 10) (2 ^ 32) small) ∙ value

digits_scanned : (ls : List Literal) (ns : List ℕ) (a g : Bool) (n : ℕ) → n < 2 ^ 32
    → scan_of (scan_at ls ns a g None) (decimal n) ≡ scan_at ls ns a g (Some n)
digits_scanned ls ns a g n lt =
    decimal_by_steps (λ k ds. k < 2 ^ 32 → scan_of (scan_at ls ns a g None) ds ≡ scan_at ls ns a g (Some k))
    (λ k small h. digit_step (scan_at ls ns a g None) k small)
    (λ k ds big ih h.
    let small : k / 10 < 2 ^ 32 = omega arith in
    let last : k % 10 < 10 = omega arith in
    fold-append scan_step (scan_at ls ns a g None) ds ((48 + k % 10) ∷ [])
    ∙ ap (λ (s : Scan). scan_step s (48 + k % 10)) (ih small)
    ∙ digit_step (scan_at ls ns a g (Some (k / 10))) (k % 10) last
    ∙ ap (λ (v : ℕ). scan_at ls ns a g (Some v)) (next_digit k h))
    n (omega arith) lt

is_literal : (x : ℕ) (g : Bool) → IsVariable x → lits_of (Some x) g ≡ record { var = x; positive = not g } ∷ []
is_literal x g v =
    cond-true (nat_le 1 x && nat_le x (2 ^ 30)) (record { var = x; positive = not g } ∷ []) []
    (and_from _ _ (le-leb 1 x v.0) (le-leb x (2 ^ 30) v.1))

is_number : (n : ℕ) → n < 2 ^ 32 → numbers_of (Some n) ≡ n ∷ []
is_number n lt = cond-true (nat_lt n (2 ^ 32)) (n ∷ []) [] (lt-ltb n (2 ^ 32) lt)

word_scanned : (ls : List Literal) (ns : List ℕ) (g : Bool) (x : ℕ) → IsVariable x
    → scan_of (scan_at ls ns false g None) (decimal x ++ codes " ")
    ≡ scan_at (ls ++ record { var = x; positive = not g } ∷ []) ns false false None
word_scanned ls ns g x v =
    fold-append scan_step (scan_at ls ns false g None) (decimal x) (codes " ")
    ∙ ap (λ (s : Scan). scan_step s 32) (digits_scanned ls ns false g x (omega arith))
    ∙ ap (λ (zs : List Literal). scan_at (ls ++ zs) ns false false None) (is_literal x g v)

lit_scanned : (ls : List Literal) (ns : List ℕ) (x : ℕ) (p : Bool) → IsVariable x
    → (let l : Literal = record { var = x; positive = p } in
    scan_of (scan_at ls ns false false None) (text_of_lit l) ≡ scan_at (ls ++ l ∷ []) ns false false None)
lit_scanned ls ns x true v = word_scanned ls ns false x v
lit_scanned ls ns x false v = word_scanned ls ns true x v

lits_scanned : (ls : List Literal) (ns : List ℕ) (c : List Literal) → All (λ l. IsVariable l.var) c
    → scan_of (scan_at ls ns false false None) (flat_map text_of_lit c) ≡ scan_at (ls ++ c) ns false false None
lits_scanned ls ns [] h = ap (λ (zs : List Literal). scan_at zs ns false false None) (sym (append-nil ls))
lits_scanned ls ns (x ∷ xs) h =
    fold-append scan_step (scan_at ls ns false false None) (text_of_lit x) (flat_map text_of_lit xs)
    ∙ ap (λ (s : Scan). scan_of s (flat_map text_of_lit xs))
    (lit_scanned ls ns x.var x.positive (All-head (λ l. IsVariable l.var) x xs h))
    ∙ lits_scanned (ls ++ x ∷ []) ns xs (All-tail (λ l. IsVariable l.var) x xs h)
    ∙ ap (λ (zs : List Literal). scan_at zs ns false false None) (append_assoc ls (x ∷ []) xs)

number_scanned : (ls : List Literal) (ns : List ℕ) (g : Bool) (p : Option ℕ) (n : ℕ) → n < 2 ^ 32
    → scan_of (scan_at ls ns true g p) (text_of_number n) ≡ scan_at ls (ns ++ numbers_of p) true false (Some n)
number_scanned ls ns g p n lt = digits_scanned ls (ns ++ numbers_of p) true false n lt

chain_scanned : (ls : List Literal) (ns : List ℕ) (g : Bool) (p : Option ℕ) (ks : List ℕ) → All (λ n. n < 2 ^ 32) ks
    → scan_of (scan_at ls ns true g p) (flat_map text_of_number ks ++ 10 ∷ []) ≡ scan_at ls ((ns ++ numbers_of p) ++ ks)
    true false None
chain_scanned ls ns g p [] h =
    ap (λ (zs : List ℕ). scan_at ls zs true false None) (sym (append-nil (ns ++ numbers_of p)))
chain_scanned ls ns g p (k ∷ ks) h =
    let lt : k < 2 ^ 32 = All-head (λ n. n < 2 ^ 32) k ks h in
    ap (scan_of (scan_at ls ns true g p)) (append_assoc (text_of_number k) (flat_map text_of_number ks) (10 ∷ []))
    ∙ fold-append scan_step (scan_at ls ns true g p) (text_of_number k) (flat_map text_of_number ks ++ 10 ∷ [])
    ∙ ap (λ (s : Scan). scan_of s (flat_map text_of_number ks ++ 10 ∷ [])) (number_scanned ls ns g p k lt)
    ∙ chain_scanned ls (ns ++ numbers_of p) false (Some k) ks (All-tail (λ n. n < 2 ^ 32) k ks h)
    ∙ ap (λ (zs : List ℕ). scan_at ls (((ns ++ numbers_of p) ++ zs) ++ ks) true false None) (is_number k lt)
    ∙ ap (λ (zs : List ℕ). scan_at ls zs true false None) (append_assoc (ns ++ numbers_of p) (k ∷ []) ks)

regroup : (a b c d : List ℕ) → ((a ++ b) ++ c) ++ d ≡ a ++ (b ++ (c ++ d))
regroup a b c d = append_assoc (a ++ b) c d ∙ append_assoc a b (c ++ d)

pub lemma_scanned : (m : Lemma) → IsLemma m
    → scan_of scan_start (text_of_lemma m) ≡ scan_at m.clause m.chain true false None
lemma_scanned m w =
    ap (scan_of scan_start)
    (regroup (flat_map text_of_lit m.clause) (codes "<-") (flat_map text_of_number m.chain) (10 ∷ []))
    ∙ fold-append scan_step scan_start (flat_map text_of_lit m.clause)
    (codes "<-" ++ (flat_map text_of_number m.chain ++ 10 ∷ []))
    ∙ ap (λ (s : Scan). scan_of s (codes "<-" ++ (flat_map text_of_number m.chain ++ 10 ∷ [])))
    (lits_scanned [] [] m.clause w.clause.in_range)
    ∙ chain_scanned m.clause [] true None m.chain w.chain.fit
