-- The text of a lemma is one line, so texts of logs are read in one way.
use Rattle.std.proofs.Common.{ℕ, ◌+◌, ◌%◌, ◌^◌, ◌≡◌, ◌<◌, Bool, true, false, List, [], ◌∷◌, ◌++◌, None, sym, refl, ap}
use Rattle.std.proofs.Common.{◌∙◌, arith, All, length, append_assoc, eqb}
use Rattle.std.specs.Prelude.{codes, ◌==◌, ◌≢◌}
use Rattle.std.specs.List.{flat_map}
use Rattle.std.specs.Fmt.{decimal}
use Rattle.std.proofs.lemmas.Fmt.{decimal_by_steps}
use Rattle.std.proofs.lemmas.Bool.{or_from, or_parts, or_right, ne_eqb, eq-eqb}
use Rattle.std.proofs.lemmas.List.Folds.{list_any-append}
use Rattle.std.proofs.lemmas.List.Elements.{All-head, All-tail}
use Rattle.pp_clause.specs.Literal.{Literal, IsVariable}
use Rattle.pp_clause.specs.declared.log.Lemma.{Lemma}
use Rattle.pp_clause.proofs.Has.{false_not_true}
use Rattle.pp_clause.specs.Log.{IsLemma}
use Rattle.pp_refute.specs.LogText.{text_of_lit, text_of_number, text_of_lemma, text_of_log, IsLogText}
use Rattle.pp_refute.specs.LogText.{IsFirstWrongLine}
use Rattle.pp_refute.specs.Line.{has_newline, IsFirstLine}
use Rattle.pp_refute.specs.Scan.{Scan, scan_start, scan_of}
use Rattle.pp_refute.proofs.Scanning.{scan_at, lemma_scanned}

plain_append : (xs ys : List ℕ) → has_newline xs ≡ false → has_newline ys ≡ false → has_newline (xs ++ ys) ≡ false
plain_append xs ys h k = list_any-append (λ b. b == 10) xs ys ∙ or_from (has_newline xs) (has_newline ys) h k

plain_digit : (n : ℕ) → has_newline ((48 + n) ∷ []) ≡ false
plain_digit n = or_from (eqb (48 + n) 10) false (ne_eqb (48 + n) 10 (λ e. let f : ⊥ = omega arith in f)) refl

plain_decimal : (n : ℕ) → n < 2 ^ 64 → has_newline (decimal n) ≡ false
plain_decimal n lt =
    decimal_by_steps (λ k ds. has_newline ds ≡ false) (λ k h. plain_digit k)
    (λ k ds h ih. plain_append ds ((48 + k % 10) ∷ []) ih (plain_digit (k % 10))) n lt

plain_lit : (x : ℕ) (p : Bool) → IsVariable x
    → (let l : Literal = record { var = x; positive = p } in has_newline (text_of_lit l) ≡ false)
plain_lit x true v = plain_append (decimal x) (codes " ") (plain_decimal x (omega arith)) refl
plain_lit x false v = plain_append (codes "-" ++ decimal x) (codes " ") (plain_decimal x (omega arith)) refl

plain_lits : (c : List Literal) → All (λ l. IsVariable l.var) c → has_newline (flat_map text_of_lit c) ≡ false
plain_lits [] h = refl
plain_lits (x ∷ xs) h =
    plain_append (text_of_lit x) (flat_map text_of_lit xs)
    (plain_lit x.var x.positive (All-head (λ l. IsVariable l.var) x xs h))
    (plain_lits xs (All-tail (λ l. IsVariable l.var) x xs h))

plain_chain : (ks : List ℕ) → All (λ n. n < 2 ^ 32) ks → has_newline (flat_map text_of_number ks) ≡ false
plain_chain [] h = refl
plain_chain (k ∷ ks) h =
    let lt : k < 2 ^ 32 = All-head (λ n. n < 2 ^ 32) k ks h in
    plain_append (text_of_number k) (flat_map text_of_number ks) (plain_decimal k (omega arith))
    (plain_chain ks (All-tail (λ n. n < 2 ^ 32) k ks h))

-- the line of a lemma without its newline
body_of : Lemma → List ℕ
body_of m = flat_map text_of_lit m.clause ++ codes "<-" ++ flat_map text_of_number m.chain

plain_body : (m : Lemma) → IsLemma m → has_newline (body_of m) ≡ false
unfolding body_of
plain_body m w =
    plain_append (flat_map text_of_lit m.clause ++ codes "<-") (flat_map text_of_number m.chain)
    (plain_append (flat_map text_of_lit m.clause) (codes "<-") (plain_lits m.clause w.clause.in_range) refl)
    (plain_chain m.chain w.chain.fit)

text_is : (m : Lemma) (after : List ℕ) → text_of_lemma m ++ after ≡ body_of m ++ (10 ∷ after)
unfolding body_of
text_is m after = append_assoc (body_of m) (10 ∷ []) after

head_of : (x y : ℕ) (xs ys : List ℕ) → x ∷ xs ≡ y ∷ ys → x ≡ y
head_of x y xs ys e = cc

tail_of : (x y : ℕ) (xs ys : List ℕ) → x ∷ xs ≡ y ∷ ys → xs ≡ ys
tail_of x y xs ys e = cc

not_ten : (x : ℕ) (xs : List ℕ) → has_newline (x ∷ xs) ≡ false → x ≡ 10 → ⊥
not_ten x xs h e = false_not_true (sym (or_parts (eqb x 10) (has_newline xs) h).0 ∙ eq-eqb x 10 e)

-- what stands up to the first newline is determined
same_line : (xs ys us vs : List ℕ) → has_newline xs ≡ false → has_newline ys ≡ false → xs ++ (10 ∷ us) ≡ ys ++ (10 ∷ vs)
    → (xs ≡ ys) × (us ≡ vs)
same_line [] [] us vs h k e = (refl, tail_of 10 10 us vs e)
same_line [] (y ∷ ys) us vs h k e = absurd (not_ten y ys k (sym (head_of 10 y us (ys ++ (10 ∷ vs)) e)))
same_line (x ∷ xs) [] us vs h k e = absurd (not_ten x xs h (head_of x 10 (xs ++ (10 ∷ us)) vs e))
same_line (x ∷ xs) (y ∷ ys) us vs h k e =
    let p = same_line xs ys us vs (or_parts (eqb x 10) (has_newline xs) h).1 (or_parts (eqb y 10) (has_newline ys) k).1
    (tail_of x y _ _ e) in
    let first : x ≡ y = head_of x y _ _ e in
    let rest : xs ≡ ys = p.0 in
    (cc, p.1)

has_ten : (xs us : List ℕ) → has_newline (xs ++ (10 ∷ us)) ≡ true
has_ten xs us = list_any-append (λ b. b == 10) xs (10 ∷ us) ∙ or_right (has_newline xs) (has_newline (10 ∷ us)) refl

made_of : (c d : List Literal) (ns ks : List ℕ) → c ≡ d → ns ≡ ks
    → (let m : Lemma = record { clause = c; chain = ns } in let k : Lemma = record { clause = d; chain = ks } in m ≡ k)
made_of c d ns ks e f = cc

pub lemma_of_parts : (m k : Lemma) → m.clause ≡ k.clause → m.chain ≡ k.chain → m ≡ k
lemma_of_parts m k e f = made_of m.clause k.clause m.chain k.chain e f

-- one text, one lemma
pub same_lemma : (m k : Lemma) → IsLemma m → IsLemma k → text_of_lemma m ≡ text_of_lemma k → m ≡ k
same_lemma m k w v e =
    let scans : scan_at m.clause m.chain true false None ≡ scan_at k.clause k.chain true false None =
    sym (lemma_scanned m w) ∙ ap (scan_of scan_start) e ∙ lemma_scanned k v in
    lemma_of_parts m k (ap (λ (s : Scan). s.lits) scans) (ap (λ (s : Scan). s.numbers) scans)

body_line : (m k : Lemma) → body_of m ≡ body_of k → text_of_lemma m ≡ text_of_lemma k
unfolding body_of
body_line m k e = ap (λ (z : List ℕ). z ++ 10 ∷ []) e

-- texts of lemmas begin in one way
decode : (m k : Lemma) (us vs : List ℕ) → IsLemma m → IsLemma k → text_of_lemma m ++ us ≡ text_of_lemma k ++ vs
    → (m ≡ k) × (us ≡ vs)
decode m k us vs w v e =
    let p = same_line (body_of m) (body_of k) us vs (plain_body m w) (plain_body k v)
    (sym (text_is m us) ∙ e ∙ text_is k vs) in
    (same_lemma m k w v (body_line m k p.0), p.1)

no_text : (m : Lemma) (us : List ℕ) → IsLemma m → [] ≡ text_of_lemma m ++ us → ⊥
no_text m us w e = false_not_true (ap has_newline (e ∙ text_is m us) ∙ has_ten (body_of m) us)

-- one text, one log
pub same_log : (log other : List Lemma) → All IsLemma log → All IsLemma other → text_of_log other ≡ text_of_log log
    → other ≡ log
same_log [] [] h k e = refl
same_log [] (o ∷ os) h k e = absurd (no_text o (text_of_log os) (All-head IsLemma o os k) (sym e))
same_log (m ∷ ms) [] h k e = absurd (no_text m (text_of_log ms) (All-head IsLemma m ms h) e)
same_log (m ∷ ms) (o ∷ os) h k e =
    let p = decode o m (text_of_log os) (text_of_log ms) (All-head IsLemma o os k) (All-head IsLemma m ms h) e in
    let first : o ≡ m = p.0 in
    let rest : os ≡ ms = same_log ms os (All-tail IsLemma m ms h) (All-tail IsLemma o os k) p.1 in
    cc

-- a text that begins with the texts of lemmas goes on with the texts of lemmas
goes_on : (before log : List Lemma) (rest : List ℕ) → All IsLemma before → All IsLemma log
    → text_of_log log ≡ text_of_log before ++ rest → IsLogText rest
goes_on [] log rest h k e = record { log = log; lemmas = k; text = e }
goes_on (m ∷ ms) [] rest h k e =
    absurd (no_text m (text_of_log ms ++ rest) (All-head IsLemma m ms h)
    (e ∙ append_assoc (text_of_lemma m) (text_of_log ms) rest))
goes_on (m ∷ ms) (o ∷ os) rest h k e =
    goes_on ms os rest (All-tail IsLemma m ms h) (All-tail IsLemma o os k)
    (decode o m (text_of_log os) (text_of_log ms ++ rest) (All-head IsLemma o os k) (All-head IsLemma m ms h)
    (e ∙ append_assoc (text_of_lemma m) (text_of_log ms) rest)).1

not_rest : (rest : List ℕ) (log : List Lemma) → 0 < length rest → All IsLemma log → text_of_log log ≡ rest
    → ((m : Lemma) (after : List ℕ) → IsLemma m → rest ≢ text_of_lemma m ++ after) → ⊥
not_rest rest [] some k e w = absurd (let f : 0 ≡ length rest = ap length e in omega arith)
not_rest rest (o ∷ os) some k e w = w o (text_of_log os) (All-head IsLemma o os k) (sym e)

-- where a line is wrong, the bytes are no log text
pub not_log_text : (bytes : List ℕ) (n : ℕ) → IsFirstWrongLine bytes n → IsLogText bytes → ⊥
not_log_text bytes n f t =
    let r : IsLogText f.rest = goes_on f.before t.log f.rest f.lemmas t.lemmas (t.text ∙ f.parts) in
    not_rest f.rest r.log f.some r.lemmas r.text f.wrong

-- the two ways in which a line is wrong
pub no_line : (rest : List ℕ) → has_newline rest ≡ false → (m : Lemma) (after : List ℕ) → IsLemma m
    → rest ≢ text_of_lemma m ++ after
no_line rest h m after w e = false_not_true (sym h ∙ ap has_newline (e ∙ text_is m after) ∙ has_ten (body_of m) after)

line_text : (m : Lemma) → text_of_lemma m ≡ body_of m ++ 10 ∷ []
unfolding body_of
line_text m = refl

pub no_lemma : (rest line after : List ℕ) → IsFirstLine rest line after
    → ((m : Lemma) → IsLemma m → text_of_lemma m ≢ line) → (m : Lemma) (us : List ℕ) → IsLemma m
    → rest ≢ text_of_lemma m ++ us
no_lemma rest line after f g m us w e =
    let both : body_of m ++ (10 ∷ us) ≡ f.body ++ (10 ∷ after) =
    sym (text_is m us) ∙ sym e ∙ f.parts ∙ ap (λ (z : List ℕ). z ++ after) f.ends
    ∙ append_assoc f.body (10 ∷ []) after in
    let p = same_line (body_of m) f.body us after (plain_body m w) f.plain both in
    g m w (line_text m ∙ ap (λ (z : List ℕ). z ++ 10 ∷ []) p.0 ∙ sym f.ends)
