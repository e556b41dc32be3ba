-- The loop over the lines of a text.
use Rattle.std.proofs.Common.{ℕ, ◌+◌, ◌≡◌, ◌<◌, ◌≤◌, Bool, true, false, List, [], ◌∷◌, ◌++◌, None, take, eqb, suc, sym}
use Rattle.std.proofs.Common.{refl, ap, ◌∙◌, subst, arith, All, length, append_assoc, append-nil, length-append, inl}
use Rattle.std.proofs.Common.{inr, ◌⊎◌}
use Rattle.std.specs.Prelude.{◌≢◌, ◌==◌, Any}
use lib.Pointwise.{pointwise}
use Rattle.std.specs.Cmp.Lexicographic.{other_text}
use Rattle.std.proofs.lemmas.Bool.{eqb-true}
use Rattle.std.proofs.Math.Seq.{take-length}
use Rattle.std.proofs.lemmas.Grind.{flat_map-append}
use Rattle.std.proofs.lemmas.List.Elements.{All-push}
use Rattle.pp_clause.specs.Literal.{Literal}
use Rattle.pp_clause.specs.Clause.{HasBoth, SameLiterals}
use Rattle.pp_clause.specs.declared.log.Lemma.{Lemma}
use Rattle.pp_clause.proofs.Ascending.{clause_consistent, clause_unique}
use Rattle.pp_clause.specs.Log.{IsLemma}
use Rattle.pp_refute.specs.LogText.{text_of_lemma, text_of_log, IsLogText, IsFirstWrongLine}
use Rattle.pp_refute.specs.Line.{has_newline, IsFirstLine}
use Rattle.pp_refute.specs.Scan.{Scan, scan_start, scan_of}
use Rattle.pp_refute.proofs.Scanning.{scan_at, lemma_scanned}
use Rattle.pp_refute.proofs.Lines.{lemma_of_parts, same_log, not_log_text, no_line, no_lemma}

-- the lemmas are the lines before this one, and the rest follows them
pub record Reads (bytes : List ℕ) (log : List Lemma) (rest : List ℕ) (number : ℕ) : Type 0 where
  pub parts : bytes ≡ text_of_log log ++ rest
  pub lemmas : All IsLemma log
  pub line : number ≡ length log + 1
  pub room : number + length rest ≤ length bytes + 1

pub text_push : (log : List Lemma) (m : Lemma) → text_of_log (log ++ m ∷ []) ≡ text_of_log log ++ text_of_lemma m
text_push log m = flat_map-append text_of_lemma log (m ∷ [])
    ∙ ap (λ (z : List ℕ). text_of_log log ++ z) (append-nil (text_of_lemma m))

pub reads_more : (bytes : List ℕ) (log : List Lemma) (rest line after : List ℕ) (n : ℕ) (m : Lemma)
    → Reads bytes log rest n → IsFirstLine rest line after → text_of_lemma m ≡ line → IsLemma m
    → Reads bytes (log ++ m ∷ []) after (n + 1)
reads_more bytes log rest line after n m r f e w =
    let cut : rest ≡ text_of_lemma m ++ after = f.parts ∙ ap (λ (z : List ℕ). z ++ after) (sym e) in
    let ends : length rest ≡ length line + length after = ap length f.parts ∙ length-append line after in
    let one : length line ≡ length f.body + 1 = ap length f.ends ∙ length-append f.body (10 ∷ []) in
    let room = r.room in
    record {
      parts = r.parts ∙ ap (λ (z : List ℕ). text_of_log log ++ z) cut
          ∙ sym (append_assoc (text_of_log log) (text_of_lemma m) after)
          ∙ ap (λ (z : List ℕ). z ++ after) (sym (text_push log m));
      lemmas = All-push IsLemma log m r.lemmas w;
      line = ap (λ (k : ℕ). k + 1) (r.line ∙ sym (length-append log (m ∷ [])));
      room = omega arith;
    }

pub reads_all : (bytes : List ℕ) (log : List Lemma) (rest : List ℕ) (n : ℕ) → rest ≡ [] → Reads bytes log rest n
    → text_of_log log ≡ bytes
reads_all bytes log rest n e r =
    sym (r.parts ∙ ap (λ (z : List ℕ). text_of_log log ++ z) e ∙ append-nil (text_of_log log))

pub reads_only : (bytes : List ℕ) (log : List Lemma) (rest : List ℕ) (n : ℕ) → rest ≡ [] → Reads bytes log rest n
    → (other : List Lemma) → All IsLemma other → text_of_log other ≡ bytes → other ≡ log
reads_only bytes log rest n e r other h t = same_log log other r.lemmas h (t ∙ sym (reads_all bytes log rest n e r))

wrong_line : (bytes : List ℕ) (log : List Lemma) (rest : List ℕ) (n : ℕ) → Reads bytes log rest n → 0 < length rest
    → ((m : Lemma) (us : List ℕ) → IsLemma m → rest ≢ text_of_lemma m ++ us) → IsFirstWrongLine bytes n
    × ¬ IsLogText bytes
wrong_line bytes log rest n r some w =
    let f : IsFirstWrongLine bytes n =
    record {
      before = log;
      rest = rest;
      lemmas = r.lemmas;
      number = r.line;
      parts = r.parts;
      some = some;
      wrong =
          w;
    } in
    (f, not_log_text bytes n f)

pub wrong_end : (bytes : List ℕ) (log : List Lemma) (rest : List ℕ) (n : ℕ) → Reads bytes log rest n → 0 < length rest
    → has_newline rest ≡ false → IsFirstWrongLine bytes n × ¬ IsLogText bytes
wrong_end bytes log rest n r some h = wrong_line bytes log rest n r some (no_line rest h)

pub wrong_words : (bytes : List ℕ) (log : List Lemma) (rest line after : List ℕ) (n : ℕ) → Reads bytes log rest n
    → 0 < length rest → IsFirstLine rest line after → ((m : Lemma) → IsLemma m → text_of_lemma m ≢ line)
    → IsFirstWrongLine bytes n × ¬ IsLogText bytes
wrong_words bytes log rest line after n r some f g = wrong_line bytes log rest n r some (no_lemma rest line after f g)

-- what the reader of a line has, where the line is the text of a lemma
has_read : (line : List ℕ) (s : Scan) (m : Lemma) → s ≡ scan_of scan_start line → IsLemma m → text_of_lemma m ≡ line
    → s ≡ scan_at m.clause m.chain true false None
has_read line s m e w t = e ∙ ap (scan_of scan_start) (sym t) ∙ lemma_scanned m w

pub none_read : (line : List ℕ) (s : Scan) → s ≡ scan_of scan_start line → HasBoth s.lits
    ⊎ ((s.numbers ≡ []) ⊎ Any (λ n. n ≡ 0) s.numbers) → (m : Lemma) → IsLemma m → text_of_lemma m ≢ line
none_read line s e (inl b) m w t =
    let lits : s.lits ≡ m.clause = ap (λ (z : Scan). z.lits) (has_read line s m e w t) in
    let c : HasBoth m.clause = subst (λ (z : List Literal). HasBoth z) lits b in
    (clause_consistent m.clause w.clause).apart c.literal c.itself c.negation
none_read line s e (inr (inl b)) m w t =
    let none : [] ≡ m.chain = sym b ∙ ap (λ (z : Scan). z.numbers) (has_read line s m e w t) in
    let some : 0 < length m.chain = w.chain.some in
    let n : 0 ≡ length m.chain = ap length none in
    omega arith
none_read line s e (inr (inr b)) m w t =
    let numbers : s.numbers ≡ m.chain = ap (λ (z : Scan). z.numbers) (has_read line s m e w t) in
    zero_in m.chain w.chain.numbers (subst (λ (z : List ℕ). Any (λ n. n ≡ 0) z) numbers b)
  where
    zero_in : (ns : List ℕ) → All (λ n. 1 ≤ n) ns → Any (λ n. n ≡ 0) ns → ⊥
    zero_in ns h a =
        let one : 1 ≤ a.1 = subst (λ (z : ℕ). 1 ≤ z) a.3 (h a.0 a.1 a.2) in
        let zero : a.1 ≡ 0 = a.4 in
        omega arith

pub other_read : (line : List ℕ) (s : Scan) (k : Lemma) → s ≡ scan_of scan_start line → SameLiterals k.clause s.lits
    → k.chain ≡ s.numbers → IsLemma k → (text_of_lemma k ≡ line → ⊥) → (m : Lemma) → IsLemma m → text_of_lemma m ≢ line
other_read line s k e same chain v ne m w t =
    let read = has_read line s m e w t in
    let clauses : k.clause ≡ m.clause =
    clause_unique k.clause m.clause v.clause w.clause
    (subst (λ (z : List Literal). SameLiterals k.clause z) (ap (λ (z : Scan). z.lits) read) same) in
    let chains : k.chain ≡ m.chain = chain ∙ ap (λ (z : Scan). z.numbers) read in
    let one : k ≡ m = lemma_of_parts k m clauses chains in
    ne (ap text_of_lemma one ∙ t)

pub scanned_whole : (line : List ℕ) (i : ℕ) (s : Scan) → i ≡ length line → s ≡ scan_of scan_start (take i line)
    → s ≡ scan_of scan_start line
scanned_whole line i s e h =
    h ∙ ap (λ (k : ℕ). scan_of scan_start (take k line)) e ∙ ap (scan_of scan_start) (take-length line)

-- the test of an empty slice
pub some_left : (rest : List ℕ) (r : Bool) → r ≡ (length rest == 0) → r ≡ false → 0 < length rest
some_left [] r e h = absurd (let f : true ≡ false = sym e ∙ h in cc)
some_left (x ∷ xs) r e h = omega arith

pub none_left : (rest : List ℕ) (r : Bool) → r ≡ (length rest == 0) → r ≡ true → rest ≡ []
none_left [] r e h = refl
none_left (x ∷ xs) r e h =
    let f : suc (length xs) ≡ 0 = eqb-true (suc (length xs)) 0 (sym e ∙ h) in
    absurd (omega arith)

pub lines_same : (text : List ℕ) (r : Bool) (xs ys : List ℕ) → r ≡ pointwise eqb xs ys → xs ≡ text → ys ≡ text
    → r ≡ false → ⊥
lines_same text r xs ys e f g h = other_text xs ys (sym h ∙ e) (f ∙ sym g)
