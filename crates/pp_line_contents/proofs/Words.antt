-- Numbers, places, kinds, rounds and reasons are told by their texts.
use Rattle.std.proofs.Common.{◌≡◌, ◌≤◌, ◌<◌, ◌^◌, ◌∙◌, ℕ, suc, ℤ, pos, negsuc, List, [], ◌∷◌, ◌++◌, Option, Some, None}
use Rattle.std.proofs.Common.{codes}
use Rattle.std.proofs.Common.{decimal, get_or, length, refl, sym, ap, subst, arith, append_assoc, if◌then◌else◌, nat_eq}
use Rattle.std.specs.Fmt.{signed_decimal}
use Rattle.std.specs.Str.Parse.{AllDigits}
use Rattle.std.proofs.lemmas.Fmt.{decimal_injective, decimal_is_IsNumeral}
use Rattle.std.proofs.lemmas.List.{append_cancel_left}
use Rattle.std.proofs.lemmas.Str.Parse.{digit_from_value}
use Rattle.pp_tokens.proofs.Every.{Every}
use Rattle.pp_line_contents.proofs.Spans.{Stops, first_same, one_span, rest_same}
use Rattle.pp_line_contents.specs.Contents.{IsSmall, IsSmallRound}
use Rattle.pp_line_contents.specs.Laws.{IsSmallPlace}
use Rattle.pp_print.specs.Lines.{check_text, kind_text, place_text, reason_text, round_text}
use Rattle.pp_print.specs.declared.line.Reason.{Reason}
use Rattle.pp_print.specs.declared.line.Reason.TheVariants as reason
use Rattle.pp_prog.specs.declared.check.CheckKind.{CheckKind}
use Rattle.pp_prog.specs.declared.check.CheckKind.TheVariants as kind
use Rattle.pp_prog.specs.declared.place.Place.{Place}
use lib.Signed.{mag}

abbrev pub IsDigit : ℕ → Type 0
IsDigit c = (48 ≤ c) × (c ≤ 57)

-- ---- numbers

all_digits : (ds : List ℕ) → AllDigits 10 ds → Every IsDigit ds
all_digits [] h = tt
all_digits (d ∷ ds) h = let r = digit_from_value d h.0 in ((omega arith, omega arith), all_digits ds h.1)

pub digits : (n : ℕ) → IsSmall n → Every IsDigit (decimal n)
digits n small = all_digits (decimal n) (decimal_is_IsNumeral n small).0.1

pub one_decimal : (m n : ℕ) (r s : List ℕ) → IsSmall m → IsSmall n → Stops IsDigit r → Stops IsDigit s
    → decimal m ++ r ≡ decimal n ++ s → (m ≡ n) × (r ≡ s)
one_decimal m n r s p q a b e =
    let both = one_span IsDigit (decimal m) (decimal n) r s (digits m p) (digits n q) a b e in
    (decimal_injective m n p q both.0, both.1)

-- a text of digits has no sign
no_sign : (n : ℕ) (r s : List ℕ) → IsSmall n → decimal n ++ r ≡ 45 ∷ s → ⊥
no_sign n r s small e =
    by (decimal n) (digits n small) (decimal_is_IsNumeral n small).0.0 e
  where
    by : (ds : List ℕ) → Every IsDigit ds → 0 < length ds → ds ++ r ≡ 45 ∷ s → ⊥
    by [] h some e = omega (arith, some)
    by (d ∷ ds) h some e = omega (arith, h.0, first_same e)

pub one_signed : (y z : ℤ) (r s : List ℕ) → mag y < 2 ^ 63 → mag z < 2 ^ 63 → Stops IsDigit r → Stops IsDigit s
    → signed_decimal y ++ r ≡ signed_decimal z ++ s → (y ≡ z) × (r ≡ s)
one_signed (pos m) (pos n) r s p q a b e =
    let both = one_decimal m n r s (omega (arith, p)) (omega (arith, q)) a b e in (ap pos both.0, both.1)
one_signed (pos m) (negsuc n) r s p q a b e = absurd (no_sign m r _ (omega (arith, p)) e)
one_signed (negsuc m) (pos n) r s p q a b e = absurd (no_sign n s _ (omega (arith, q)) (sym e))
one_signed (negsuc m) (negsuc n) r s p q a b e =
    let both = one_decimal (suc m) (suc n) r s (omega (arith, p)) (omega (arith, q)) a b (rest_same e) in
    (ap negsuc (omega (arith, both.0)), both.1)

-- ---- places

place_split : (z : Place) (r : List ℕ)
    → place_text z ++ r ≡ decimal z.source ++ 58 ∷ (decimal z.line ++ 58 ∷ (decimal z.column ++ r))
place_split z r =
    append_assoc (decimal z.source) (58 ∷ (decimal z.line ++ 58 ∷ decimal z.column)) r
    ∙ ap (λ l. decimal z.source ++ 58 ∷ l) (append_assoc (decimal z.line) (58 ∷ decimal z.column) r)

no_colon : IsDigit 58 → ⊥
no_colon h = omega (arith, h.1)

pub one_place : (y z : Place) (r s : List ℕ) → IsSmallPlace y → IsSmallPlace z → Stops IsDigit r → Stops IsDigit s
    → place_text y ++ r ≡ place_text z ++ s → (y ≡ z) × (r ≡ s)
one_place y z r s p q a b e =
    let sources = one_decimal y.source z.source _ _ p.source q.source no_colon no_colon
    (sym (place_split y r) ∙ e ∙ place_split z s) in
    let lines = one_decimal y.line z.line _ _ p.line q.line no_colon no_colon (rest_same sources.1) in
    let columns = one_decimal y.column z.column r s p.column q.column a b (rest_same lines.1) in
    let at : ℕ → ℕ → ℕ → Place = λ m n k. record { source = m; line = n; column = k } in (
      ap (λ m. at m y.line y.column) sources.0 ∙ ap (λ n. at z.source n y.column) lines.0
          ∙ ap (at z.source z.line) columns.0,
      columns.1,
    )

-- ---- kinds

-- the kind with this second letter
abbrev kind_with : ℕ → CheckKind
kind_with n =
    if nat_eq n 114 then kind.Precondition else if nat_eq n 111 then kind.Postcondition else
    if nat_eq n 97 then kind.Match else if nat_eq n 105 then kind.Division else
    if nat_eq n 101 then kind.Measure else kind.Assertion

second_letter : (k : CheckKind) (r : List ℕ) → kind_with (get_or (kind_text k ++ r) 1 0) ≡ k
second_letter kind.Precondition r = refl
second_letter kind.Postcondition r = refl
second_letter kind.Match r = refl
second_letter kind.Division r = refl
second_letter kind.Measure r = refl
second_letter kind.Assertion r = refl

one_kind : (j k : CheckKind) (r s : List ℕ) → kind_text j ++ r ≡ kind_text k ++ s → (j ≡ k) × (r ≡ s)
one_kind j k r s e =
    let same = sym (second_letter j r) ∙ ap (λ (l : List ℕ). kind_with (get_or l 1 0)) e ∙ second_letter k s in
    (same, append_cancel_left (kind_text k) r s (subst (λ x. kind_text x ++ r ≡ kind_text k ++ s) same e))

-- ---- checks

check_split : (k : CheckKind) (z : Place) (r : List ℕ)
    → check_text k z ++ r ≡ kind_text k ++ (codes " at " ++ (place_text z ++ r))
check_split k z r = append_assoc (kind_text k) (codes " at " ++ place_text z) r

pub one_check : (j k : CheckKind) (y z : Place) (r s : List ℕ) → IsSmallPlace y → IsSmallPlace z → Stops IsDigit r
    → Stops IsDigit s → check_text j y ++ r ≡ check_text k z ++ s → (j ≡ k) × (y ≡ z) × (r ≡ s)
one_check j k y z r s p q a b e =
    let kinds = one_kind j k _ _ (sym (check_split j y r) ∙ e ∙ check_split k z s) in
    let places = one_place y z r s p q a b (append_cancel_left (codes " at ") _ _ kinds.1) in
    (kinds.0, places.0, places.1)

-- ---- reasons and rounds

abbrev reason_with : ℕ → Reason
reason_with n = if nat_eq n 114 then reason.Rounds else if nat_eq n 108 then reason.Lemmas else reason.Size

first_letter : (w : Reason) (r : List ℕ) → reason_with (get_or (reason_text w ++ r) 0 0) ≡ w
first_letter reason.Rounds r = refl
first_letter reason.Lemmas r = refl
first_letter reason.Size r = refl

pub one_reason : (v w : Reason) (r s : List ℕ) → reason_text v ++ r ≡ reason_text w ++ s → v ≡ w
one_reason v w r s e =
    sym (first_letter v r) ∙ ap (λ (l : List ℕ). reason_with (get_or l 0 0)) e ∙ first_letter w s

pub one_round : (m n : Option ℕ) (r s : List ℕ) → IsSmallRound m → IsSmallRound n → Stops IsDigit r → Stops IsDigit s
    → round_text m ++ r ≡ round_text n ++ s → (m ≡ n) × (r ≡ s)
one_round None None r s p q a b e = (refl, append_cancel_left (codes "before round 0") r s e)
one_round None (Some n) r s p q a b e = absurd (let no : 98 ≡ 97 = first_same e in omega (arith, no))
one_round (Some m) None r s p q a b e = absurd (let no : 97 ≡ 98 = first_same e in omega (arith, no))
one_round (Some m) (Some n) r s p q a b e =
    let both = one_decimal m n r s p q a b (append_cancel_left (codes "at round ") _ _ e) in
    (ap Some both.0, both.1)
