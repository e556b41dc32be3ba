-- The text of a report tells its lines, and so what it says.
use Rattle.std.proofs.Common.{◌≡◌, ◌∙◌, ◌+◌, ℕ, List, [], ◌∷◌, ◌++◌, append_assoc, codes, get_or}
use Rattle.std.proofs.Common.{length, refl, sym, ap, subst, arith}
use Rattle.std.specs.List.{concat}
use Rattle.std.proofs.lemmas.List.{append_cancel_left, length-append}
use Rattle.pp_line_contents.proofs.Heads.{counts_are_heads, head_first, lines_are_heads, one_head}
use Rattle.pp_line_contents.proofs.Law.{lines_tell_contents}
use Rattle.pp_line_contents.proofs.Newlines.{NotNewline, counts_end_once, lines_end_once}
use Rattle.pp_line_contents.proofs.Others.{no_blank}
use Rattle.pp_tokens.proofs.Every.{Every}
use Rattle.pp_line_contents.proofs.Spans.{every_append, every_of, of_all, one_span, rest_same}
use Rattle.pp_line_contents.proofs.Tails.{AreFrom, from_first, from_rest, from_start}
use Rattle.pp_line_contents.proofs.Words.{one_decimal}
use Rattle.pp_line_contents.specs.Contents.{Content, Prints}
use Rattle.pp_line_contents.specs.Laws.{IsLegible, TextsTellContents, TextsTellLines}
use Rattle.pp_line_contents.specs.Lines.{IsOneLine, StandsUnder}
use Rattle.pp_line_contents.specs.Reports.{AreSmall, Counts, PrintEach, PrintsReport, ReportContent, counts_text}
use Rattle.pp_line_contents.specs.Reports.{more_lines, no_lines}
use Rattle.pp_print.specs.Heads.{IsHead, heads}
use Rattle.pp_prog.specs.declared.expr.Function.{Function}
use Rattle.pp_prog.specs.declared.program.Program.{Program}

-- ---- lines

-- the newline of the first line, and what follows
line_split : (line : List ℕ) (one : IsOneLine line) (rest : List ℕ) → line ++ rest ≡ one.words ++ 10 ∷ rest
line_split line one rest =
    ap (λ l. l ++ rest) one.ended ∙ append_assoc one.words (10 ∷ []) rest

no_line : (line rest : List ℕ) → IsOneLine line → [] ≡ line ++ rest → ⊥
no_line line rest one e =
    let long : 0 ≡ length one.words + length (10 ∷ rest) =
    ap length (e ∙ line_split line one rest) ∙ length-append one.words (10 ∷ rest) in
    omega (arith, long)

newline_stops : NotNewline 10 → ⊥
newline_stops h = h refl

one_list : (xs ys : List (List ℕ)) → Every IsOneLine xs → Every IsOneLine ys → concat xs ≡ concat ys → xs ≡ ys
one_list [] [] h k e = refl
one_list [] (y ∷ ys) h k e = absurd (no_line y (concat ys) k.0 e)
one_list (x ∷ xs) [] h k e = absurd (no_line x (concat xs) h.0 (sym e))
one_list (x ∷ xs) (y ∷ ys) h k e =
    let spans = one_span NotNewline h.0.words k.0.words (10 ∷ concat xs) (10 ∷ concat ys)
    (every_of NotNewline h.0.words h.0.plain) (every_of NotNewline k.0.words k.0.plain) newline_stops newline_stops
    (sym (line_split x h.0 (concat xs)) ∙ e ∙ line_split y k.0 (concat ys)) in
    let first : x ≡ y = h.0.ended ∙ ap (λ l. l ++ 10 ∷ []) spans.0 ∙ sym k.0.ended in
    ap (λ z. z ∷ xs) first ∙ ap (λ l. y ∷ l) (one_list xs ys h.1 k.1 (rest_same spans.1))

pub texts_tell_lines : TextsTellLines
texts_tell_lines xs ys h k e = one_list xs ys (of_all IsOneLine xs h) (of_all IsOneLine ys k) e

-- ---- counts

pub counts_same : (m n : Counts) → AreSmall m → AreSmall n → counts_text m ≡ counts_text n → m ≡ n
counts_same m n p q e =
    let valids = one_decimal m.valid n.valid _ _ p.valid q.valid no_blank no_blank e in
    let invalids = one_decimal m.invalid n.invalid _ _ p.invalid q.invalid no_blank no_blank
    (append_cancel_left (codes " valid, ") _ _ valids.1) in
    let opens = one_decimal m.undecided n.undecided _ _ p.undecided q.undecided no_blank no_blank
    (append_cancel_left (codes " invalid, ") _ _ invalids.1) in
    let others = one_decimal m.depending n.depending _ _ p.depending q.depending no_blank no_blank
    (append_cancel_left (codes " open, ") _ _ opens.1) in
    let at : ℕ → ℕ → ℕ → ℕ → Counts = λ v i o d.
    record { valid = v; invalid = i; undecided = o; depending = d } in
    ap (λ v. at v m.invalid m.undecided m.depending) valids.0
    ∙ ap (λ i. at n.valid i m.undecided m.depending) invalids.0
    ∙ ap (λ o. at n.valid n.invalid o m.depending) opens.0
    ∙ ap (at n.valid n.invalid n.undecided) others.0

-- ---- what the lines say

under_one_line : (under : List (List ℕ)) → Every StandsUnder under → Every IsOneLine under
under_one_line [] h = tt
under_one_line (line ∷ under) h = (h.0.one, under_one_line under h.1)

module _ (p : Program) (legible : IsLegible p) where
  each_one_line : {i : ℕ} {fs : List Function} {lines : List (List ℕ)} {cs : List Content} → AreFrom p.functions i fs
      → PrintEach p i fs lines cs → Every IsOneLine lines
  each_one_line from no_lines = tt
  each_one_line from
      (more_lines {i = i} {f = f} {fs = fs} {line = line} {lines = lines} {c = c} one under stand rest) = (
        lines_end_once p legible i f (from_first p.functions i f fs from) line c one,
        every_append IsOneLine under lines (under_one_line under (of_all StandsUnder under stand))
            (each_one_line (from_rest p.functions i f fs from) rest),
      )

  -- the heads of lines, and of one more behind them, tell the contents
  one_each : {i : ℕ} {fs : List Function} {xs ys : List (List ℕ)} {cs ds : List Content} (s t : List ℕ)
      → IsHead s → IsHead t → AreFrom p.functions i fs → PrintEach p i fs xs cs → PrintEach p i fs ys ds
      → heads (xs ++ s ∷ []) ≡ heads (ys ++ t ∷ []) → (cs ≡ ds) × (s ≡ t)
  one_each s t head_s head_t from no_lines no_lines e =
      (refl, ap (λ (l : List (List ℕ)). get_or l 0 []) (sym (head_first s [] head_s) ∙ e ∙ head_first t [] head_t))
  one_each s t head_s head_t from
      (more_lines {i = i} {f = f} {fs = fs} {line = x} {lines = xs} {c = a} {cs = cs} h us hu hs)
      (more_lines {line = y} {lines = ys} {c = b} {cs = ds} k vs kv ks) e =
      let at = from_first p.functions i f fs from in
      let begins = legible.begins i f at in
      let same : x ∷ heads (xs ++ s ∷ []) ≡ y ∷ heads (ys ++ t ∷ []) =
      sym (one_head x us xs (s ∷ []) (lines_are_heads p i f begins x a h) (of_all StandsUnder us hu)) ∙ e
      ∙ one_head y vs ys (t ∷ []) (lines_are_heads p i f begins y b k) (of_all StandsUnder vs kv) in
      let lines : x ≡ y = ap (λ (l : List (List ℕ)). get_or l 0 []) same in
      let first = lines_tell_contents p legible i i f f at at y a b
      (subst (λ l. Prints p i f l a) lines h) k in
      let others = one_each s t head_s head_t (from_rest p.functions i f fs from) hs ks (rest_same same) in
      (ap (λ z. z ∷ cs) first.1 ∙ ap (λ l. b ∷ l) others.0, others.1)

  are_lines : (text : List ℕ) (r : ReportContent) (h : PrintsReport p text r)
      → Every IsOneLine (h.lines ++ counts_text r.counts ∷ [])
  are_lines text r h =
      every_append IsOneLine h.lines (counts_text r.counts ∷ []) (each_one_line (from_start p.functions) h.each)
      (counts_end_once r.counts, tt)

  one_report : (text : List ℕ) (a b : ReportContent) → PrintsReport p text a → PrintsReport p text b → a ≡ b
  one_report text a b h k =
      let lists = one_list _ _ (are_lines text a h) (are_lines text b k) (sym h.whole ∙ k.whole) in
      let each = one_each (counts_text a.counts) (counts_text b.counts) (counts_are_heads a.counts)
      (counts_are_heads b.counts) (from_start p.functions) h.each k.each (ap heads lists) in
      let counts = counts_same a.counts b.counts h.small k.small each.1 in
      let at : List Content → Counts → ReportContent = λ cs n. record { functions = cs; counts = n } in
      ap (λ cs. at cs a.counts) each.0 ∙ ap (at b.functions) counts

pub texts_tell_contents : TextsTellContents
texts_tell_contents p legible text a b h k = one_report p legible text a b h k
