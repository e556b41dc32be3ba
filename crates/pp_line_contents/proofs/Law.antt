-- Two contents of one line of a function are the same.
use Rattle.std.proofs.Common.{◌≡◌, ◌≢◌, ◌∙◌, ℕ, List, ◌∷◌, ◌++◌, Option, codes, get_or, slice_get, refl, sym, ap}
use Rattle.std.proofs.Common.{subst, arith}
use Rattle.std.proofs.lemmas.List.{append_cancel_left}
use Rattle.std.proofs.lemmas.Option.{same_Some}
use Rattle.pp_line_contents.proofs.Others.{no_blank, one_ending}
use Rattle.pp_line_contents.proofs.Spans.{every_of, one_span}
use Rattle.pp_line_contents.proofs.Values.{arguments_told, end_stops, no_digit}
use Rattle.pp_line_contents.proofs.Words.{IsDigit, one_check, one_decimal, one_reason, one_round}
use Rattle.pp_line_contents.specs.Contents.{Content, Prints, PrintsDepending, PrintsFailed, PrintsOpen, PrintsValid}
use Rattle.pp_line_contents.specs.Contents.{depending, failed, left_open, valid}
use Rattle.pp_line_contents.specs.Laws.{IsLegible, IsSmallPlace, LinesTellContents}
use Rattle.pp_prog.specs.declared.expr.Function.{Function}
use Rattle.pp_prog.specs.declared.id.CheckId.{CheckId}
use Rattle.pp_prog.specs.declared.id.FunctionId.{FunctionId}
use Rattle.pp_prog.specs.declared.program.Program.{Program}
use Rattle.pp_prog.specs.declared.value.Value.{Value}
use Rattle.pp_print.specs.declared.line.Reason.{Reason}
use Rattle.pp_sound.specs.Sound.{IsCheckOf}

no_comma : IsDigit 44 → ⊥
no_comma h = omega (arith, h.1)

-- ---- verdicts

-- the letter behind `: `
abbrev letter_of : Content → ℕ
letter_of (valid checks) = 118
letter_of (depending g checks) = 100
letter_of (failed c args) = 105
letter_of (left_open searched c why) = 111

module _ (p : Program) (i : ℕ) (f : Function) (line : List ℕ) where
  -- the line goes on so behind the name
  pub record GoesOn (a : Content) : Type 0 where
    pub rest : List ℕ
    pub split : line ≡ f.name ++ 58 ∷ 32 ∷ letter_of a ∷ rest

  pub goes_on : (a : Content) → Prints p i f line a → GoesOn a
  goes_on (valid checks) h = record { rest = _; split = h.text }
  goes_on (depending g checks) h = record { rest = _; split = h.text }
  goes_on (failed c args) h = record { rest = _; split = h.text }
  goes_on (left_open searched c why) h = record { rest = _; split = h.text }

  pub one_letter : (a b : Content) → Prints p i f line a → Prints p i f line b → letter_of a ≡ letter_of b
  one_letter a b h k =
      let x = goes_on a h in
      let y = goes_on b k in
      ap (λ (l : List ℕ). get_or l 2 0) (append_cancel_left f.name _ _ (sym x.split ∙ y.split))

-- ---- each verdict

module _ (p : Program) (legible : IsLegible p) (i : ℕ) (f : Function) (line : List ℕ) where
  abbrev number : ℕ → CheckId
  number n = record { 0 = n }

  one_valid : (m n : ℕ) → PrintsValid p i f line m → PrintsValid p i f line n → m ≡ n
  one_valid m n h k =
      let same = append_cancel_left f.name _ _ (sym h.text ∙ k.text) in
      (one_decimal m n _ _ h.small k.small no_blank no_blank (append_cancel_left (codes ": valid, ") _ _ same)).0

  one_depending : (g h : FunctionId) (m n : ℕ) → PrintsDepending p i f line g m → PrintsDepending p i f line h n
      → depending g m ≡ depending h n
  one_depending g h m n x y =
      let same = append_cancel_left f.name _ _ (sym x.text ∙ y.text) in
      let both = one_ending x.on.name y.on.name m n x.small y.small
      (append_cancel_left (codes ": depends on ") _ _ same) in
      let numbers = legible.functions g.0 h.0 x.on y.on x.here y.here both.0 in
      let mk : ℕ → FunctionId = λ k. record { 0 = k } in
      ap (λ k. depending (mk k) m) numbers ∙ ap (depending h) both.1

  own_same : (c d : CheckId) (a : IsCheckOf p i c.0) (b : IsCheckOf p i d.0) → a.check.kind ≡ b.check.kind
      → a.check.place ≡ b.check.place → c ≡ d
  own_same c d a b kinds places =
      let mk : ℕ → FunctionId = λ k. record { 0 = k } in
      ap number (legible.checks c.0 d.0 a.check b.check a.listed b.listed (ap mk (a.owner ∙ sym b.owner)) kinds places)

  small : (c : CheckId) (a : IsCheckOf p i c.0) → IsSmallPlace a.check.place
  small c a = legible.places c.0 a.check a.listed

  one_failed : (c d : CheckId) (xs ys : List Value) → PrintsFailed p i f line c xs → PrintsFailed p i f line d ys
      → failed c xs ≡ failed d ys
  one_failed c d xs ys h k =
      let same = append_cancel_left (codes ": invalid, ") _ _ (append_cancel_left f.name _ _ (sym h.text ∙ k.text)) in
      let checks = one_check h.own.check.kind k.own.check.kind h.own.check.place k.own.check.place _ _
      (small c h.own) (small d k.own)
      (no_digit _ (end_stops p.types.ctors legible.unmarked legible.ctors legible.objects f.params xs))
      (no_digit _ (end_stops p.types.ctors legible.unmarked legible.ctors legible.objects f.params ys)) same in
      let numbers = own_same c d h.own k.own checks.0 checks.1 in
      let args = arguments_told p.types.ctors legible.unmarked legible.ctors legible.objects f.params xs ys h.sorted
      k.sorted checks.2 in
      ap (λ z. failed z xs) numbers ∙ ap (failed d) args

  one_open : (m n : Option ℕ) (c d : CheckId) (v w : Reason) → PrintsOpen p i f line m c v → PrintsOpen p i f line n d w
      → left_open m c v ≡ left_open n d w
  one_open m n c d v w h k =
      let same = append_cancel_left (codes ": open ") _ _ (append_cancel_left f.name _ _ (sym h.text ∙ k.text)) in
      let rounds = one_round m n _ _ h.small k.small no_comma no_comma same in
      let checks = one_check h.own.check.kind k.own.check.kind h.own.check.place k.own.check.place _ _
      (small c h.own) (small d k.own) no_comma no_comma (append_cancel_left (codes ", ") _ _ rounds.1) in
      let numbers = own_same c d h.own k.own checks.0 checks.1 in
      let reasons = one_reason v w _ _ (append_cancel_left (codes ", ") _ _ checks.2) in
      ap (λ z. left_open z c v) rounds.0 ∙ ap (λ z. left_open n z v) numbers ∙ ap (left_open n d) reasons

  one_content : (a b : Content) → letter_of a ≡ letter_of b → Prints p i f line a → Prints p i f line b → a ≡ b
  one_content (valid m) (valid n) same h k = ap valid (one_valid m n h k)
  one_content (valid m) (depending g n) same h k = absurd (omega (arith, same))
  one_content (valid m) (failed d ys) same h k = absurd (omega (arith, same))
  one_content (valid m) (left_open n d w) same h k = absurd (omega (arith, same))
  one_content (depending g m) (valid n) same h k = absurd (omega (arith, same))
  one_content (depending g m) (depending e n) same h k = one_depending g e m n h k
  one_content (depending g m) (failed d ys) same h k = absurd (omega (arith, same))
  one_content (depending g m) (left_open n d w) same h k = absurd (omega (arith, same))
  one_content (failed c xs) (valid n) same h k = absurd (omega (arith, same))
  one_content (failed c xs) (depending g n) same h k = absurd (omega (arith, same))
  one_content (failed c xs) (failed d ys) same h k = one_failed c d xs ys h k
  one_content (failed c xs) (left_open n d w) same h k = absurd (omega (arith, same))
  one_content (left_open m c v) (valid n) same h k = absurd (omega (arith, same))
  one_content (left_open m c v) (depending g n) same h k = absurd (omega (arith, same))
  one_content (left_open m c v) (failed d ys) same h k = absurd (omega (arith, same))
  one_content (left_open m c v) (left_open n d w) same h k = one_open m n c d v w h k

-- ---- the function

abbrev IsNamed : ℕ → Type 0
IsNamed b = (b ≢ 10) × (b ≢ 58)

colon_stops : IsNamed 58 → ⊥
colon_stops h = h.1 refl

pub lines_tell_contents : LinesTellContents
lines_tell_contents p legible i j f g there here line a b h k =
    let x = goes_on p i f line a h in
    let y = goes_on p j g line b k in
    let names = one_span IsNamed f.name g.name _ _ (every_of IsNamed f.name (legible.named i f there))
    (every_of IsNamed g.name (legible.named j g here)) colon_stops colon_stops (sym x.split ∙ y.split) in
    let numbers = legible.functions i j f g there here names.0 in
    let same : f ≡ g = same_Some _ _ (sym there ∙ ap (slice_get p.functions) numbers ∙ here) in
    let own : Prints p i f line b =
    subst (λ z. Prints p i z line b) (sym same) (subst (λ n. Prints p n g line b) (sym numbers) k) in
    (numbers, one_content p legible i f line a b (one_letter p i f line a b h own) h own)
