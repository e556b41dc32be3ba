-- The line of a function and the line of counts are heads, and of lines with others under them the heads are left.
use Rattle.std.proofs.Common.{◌≡◌, ◌≢◌, ◌∙◌, ◌+◌, ◌/◌, ◌==◌, ◌%◌, ◌&&◌, ℕ, zero, suc, Bool, true, false, List, [], ◌∷◌}
use Rattle.std.proofs.Common.{◌++◌, append_assoc, codes, cond, decimal, if◌then◌else◌, nat_eq, nat_lt, not}
use Rattle.std.proofs.Common.{refl, sym, ap, subst, arith}
use Rattle.std.specs.Fmt.{digit_glyph, digits, digits_onto}
use Rattle.std.specs.Prelude.{All}
use Rattle.std.proofs.lemmas.Bool.{eqb-true}
use Rattle.std.proofs.lemmas.List.Elements.{All-head, All-tail}
use Rattle.pp_tokens.proofs.Every.{Every}
use Rattle.pp_line_contents.proofs.Law.{goes_on}
use Rattle.pp_line_contents.specs.Laws.{BeginsPlainly, CountsAreHeads, LinesAreHeads}
use Rattle.pp_line_contents.specs.Lines.{StandsUnder}
use Rattle.pp_line_contents.specs.Reports.{counts_text}
use Rattle.pp_print.specs.Heads.{IsHead, heads}

-- ---- what begins with another byte than a blank

-- the first of two bytes is no blank
no_blanks : (b c : ℕ) → b ≢ 32 → (nat_eq b 32 && nat_eq c 32) ≡ false
no_blanks b c other =
    by (nat_eq b 32) refl
  where
    by : (blank : Bool) → nat_eq b 32 ≡ blank → (blank && nat_eq c 32) ≡ false
    by true is = absurd (other (eqb-true b 32 is))
    by false is = refl

-- it has a first byte, which is no blank
abbrev BeginsDark : List ℕ → Type 0
BeginsDark [] = ⊥
BeginsDark (b ∷ bs) = b ≢ 32

dark_leads : (bs rest : List ℕ) → BeginsDark bs → IsHead (bs ++ rest)
dark_leads [] rest h = absurd h
dark_leads (b ∷ []) [] h = refl
dark_leads (b ∷ []) (c ∷ rest) h = no_blanks b c h
dark_leads (b ∷ c ∷ bs) rest h = no_blanks b c h

-- a name that begins with no blank leads a line, where a colon and a blank follow
pub name_leads : (name rest : List ℕ) → BeginsPlainly name → IsHead (name ++ 58 ∷ 32 ∷ rest)
name_leads [] rest h = refl
name_leads (b ∷ bs) rest h = dark_leads (b ∷ bs) (58 ∷ 32 ∷ rest) h

pub lines_are_heads : LinesAreHeads
lines_are_heads p i f begins line a h =
    let x = goes_on p i f line a h in subst IsHead (sym x.split) (name_leads f.name _ begins)

-- ---- counts

glyph_dark : (d : ℕ) → digit_glyph false d ≢ 32
glyph_dark d = by (nat_lt d 10)
  where
    by : (b : Bool) → (if b then 48 + d else 87 + d) ≢ 32
    by true is = omega (arith, is)
    by false is = omega (arith, is)

either_dark : (b : Bool) (xs ys : List ℕ) → BeginsDark xs → BeginsDark ys → BeginsDark (cond b xs ys)
either_dark true xs ys h k = h
either_dark false xs ys h k = k

digits_dark : (k n : ℕ) (acc : List ℕ) → BeginsDark acc → BeginsDark (digits_onto k 10 false n acc)
digits_dark zero n acc h = h
digits_dark (suc k) n acc h =
    either_dark (n / 10 == 0) (digit_glyph false (n % 10) ∷ acc)
    (digits_onto k 10 false (n / 10) (digit_glyph false (n % 10) ∷ acc)) (glyph_dark (n % 10))
    (digits_dark k (n / 10) (digit_glyph false (n % 10) ∷ acc) (glyph_dark (n % 10)))

-- there is at least one digit
some_digits : (k n : ℕ) → BeginsDark (digits_onto (suc k) 10 false n [])
some_digits k n =
    either_dark (n / 10 == 0) (digit_glyph false (n % 10) ∷ [])
    (digits_onto k 10 false (n / 10) (digit_glyph false (n % 10) ∷ [])) (glyph_dark (n % 10))
    (digits_dark k (n / 10) (digit_glyph false (n % 10) ∷ []) (glyph_dark (n % 10)))

number_dark : (n : ℕ) → BeginsDark (decimal n)
unfolding digits
number_dark n = some_digits 63 n

pub counts_are_heads : CountsAreHeads
counts_are_heads n = dark_leads (decimal n.valid) _ (number_dark n.valid)

-- ---- what heads are left

-- a head is one of the heads
pub head_first : (line : List ℕ) (lines : List (List ℕ)) → IsHead line → heads (line ∷ lines) ≡ line ∷ heads lines
head_first line lines h = ap (λ b. cond (not b) (line ∷ heads lines) (heads lines)) h

-- what stands under others is none
under_none : (under rest : List (List ℕ)) → Every StandsUnder under → heads (under ++ rest) ≡ heads rest
under_none [] rest h = refl
under_none (line ∷ under) rest h =
    ap (λ b. cond (not b) (line ∷ heads (under ++ rest)) (heads (under ++ rest))) h.0.indented
    ∙ under_none under rest h.1

-- of a line with others under it the line is left
pub one_head : (line : List ℕ) (under lines rest : List (List ℕ)) → IsHead line → Every StandsUnder under
    → heads ((line ∷ under ++ lines) ++ rest) ≡ line ∷ heads (lines ++ rest)
one_head line under lines rest h k =
    head_first line ((under ++ lines) ++ rest) h
    ∙ ap (λ l. line ∷ heads l) (append_assoc under lines rest)
    ∙ ap (λ l. line ∷ l) (under_none under (lines ++ rest) k)

-- heads alone are all left
pub all_heads : (lines : List (List ℕ)) → All IsHead lines → heads lines ≡ lines
all_heads [] h = refl
all_heads (line ∷ lines) h =
    head_first line lines (All-head IsHead line lines h)
    ∙ ap (λ l. line ∷ l) (all_heads lines (All-tail IsHead line lines h))
