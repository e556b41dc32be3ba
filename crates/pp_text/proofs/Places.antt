-- The place behind the bytes of a text is that behind its characters.
use Rattle.std.proofs.Common.{◌≡◌, ℕ, ◌+◌, ◌*◌, ◌-◌, ◌/◌, ◌<◌, ◌≤◌, List, [], ◌∷◌, ◌++◌, take, drop, length, get_or}
use Rattle.std.proofs.Common.{ap, sym, ◌∙◌, arith, append_assoc, append-nil, ◌⊎◌, inl, inr, IsUtf8}
use Rattle.std.specs.Prelude.{if◌then◌else◌}
use Rattle.std.specs.Str.{chars, IsCharBoundary}
use Rattle.std.proofs.Math.Seq.{take-add}
use Rattle.std.proofs.lemmas.List.Sums.{fold-append}
use Rattle.std.proofs.lemmas.Str.{IsUtf8-take, encodes-chars}
use Rattle.std.proofs.lemmas.Bool.{cases_lt}
use Rattle.std.proofs.lemmas.Grind.{common_steps}
use Rattle.std.proofs.str.Laws.{one, two, three, four}
use lib.Utf8.{encode, encodes, next}
use Rattle.pp_text.specs.declared.place.TheConstants.{BYTES_APART}
use Rattle.pp_text.specs.Place.{is_line_feed, place_behind_of, place_of}
use Rattle.pp_text.specs.Table.{past_byte, past_bytes, behind_bytes, IsTable}
use Rattle.pp_text.proofs.Tables.{behind_bounds}

-- the place behind one more character
abbrev pub past_char : ℕ × ℕ → ℕ → ℕ × ℕ
past_char p c = if is_line_feed c then (p.0 + 1, 1) else (p.0, p.1 + 1)

pub place_push : (cs : List ℕ) (c : ℕ) → place_behind_of (cs ++ c ∷ []) ≡ past_char (place_behind_of cs) c
place_push cs c = grind (arith, common_steps)

-- the byte of an ASCII character, the first byte of another character, and a byte that goes on with it
pub past_ascii : (p : ℕ × ℕ) (c : ℕ) → c < 128 → past_byte p c ≡ past_char p c
past_ascii p c h = grind (arith, common_steps)

pub past_first : (p : ℕ × ℕ) (c b : ℕ) → 128 ≤ c → 192 ≤ b → past_byte p b ≡ past_char p c
past_first p c b large first = grind (arith, common_steps)

pub past_next : (p : ℕ × ℕ) (bits : ℕ) → past_byte p (next bits) ≡ p
past_next p bits =
    let h : (128 ≤ next bits) × (next bits < 192) = (omega arith, omega arith) in
    grind (arith, common_steps)

-- the bytes of a character lead where the character leads
pub past_encoded : (p : ℕ × ℕ) (c : ℕ) → past_bytes p (encode c) ≡ past_char p c
past_encoded p c = by (cases_lt c 128) (cases_lt c 2048) (cases_lt c 65536)
  where
    by : (c < 128) ⊎ (128 ≤ c) → (c < 2048) ⊎ (2048 ≤ c) → (c < 65536) ⊎ (65536 ≤ c)
        → past_bytes p (encode c) ≡ past_char p c
    by (inl low) _ _ = rw (one c low) (past_ascii p c low)
    by (inr large) (inl low) _ =
        rw (two c large low)
        (past_next _ c ∙ past_first p c (192 + c / 64) large (omega arith))
    by (inr large) (inr more) (inl low) =
        rw (three c more low)
        (past_next _ c ∙ past_next _ (c / 64) ∙ past_first p c (224 + c / 4096) large (omega arith))
    by (inr large) _ (inr more) =
        rw (four c more)
        (past_next _ c ∙ past_next _ (c / 64) ∙ past_next _ (c / 4096)
        ∙ past_first p c (240 + c / 262144) large (omega arith))

-- bytes behind characters lead where their characters lead
pub past_text : (before cs : List ℕ)
    → past_bytes (place_behind_of before) (encodes cs) ≡ place_behind_of (before ++ cs)
past_text before [] = ap place_behind_of (sym (append-nil before))
past_text before (c ∷ cs) =
    fold-append past_byte (place_behind_of before) (encode c) (encodes cs)
    ∙ ap (λ (p : ℕ × ℕ). past_bytes p (encodes cs))
    (past_encoded (place_behind_of before) c ∙ sym (place_push before c))
    ∙ past_text (before ++ c ∷ []) cs ∙ ap place_behind_of (append_assoc before (c ∷ []) cs)

-- so bytes lead to the place behind their characters
pub behind_text : (bytes : List ℕ) → IsUtf8 bytes → behind_bytes bytes ≡ place_behind_of (chars bytes)
behind_text bytes utf8 = ap behind_bytes (sym (encodes-chars bytes utf8)) ∙ past_text [] (chars bytes)

-- the place that the table has for an offset is no greater than one more than the length of the text
pub table_bounds : (text : List ℕ) (table : List (ℕ × ℕ)) (offset : ℕ) (p : ℕ × ℕ)
    → IsTable text table → offset ≤ length text → p ≡ get_or table (offset / BYTES_APART) p
    → (p.0 ≤ 1 + length text) × (p.1 ≤ 1 + length text)
table_bounds text table offset p t within at =
    let small : offset / BYTES_APART < length table = omega (arith, t.enough) in
    rw (at ∙ t.right (offset / BYTES_APART) p small) (behind_bounds text (BYTES_APART * (offset / BYTES_APART)))

-- the bytes from a place of the table to the offset lead to the place of the offset
pub place_from : (text : List ℕ) (start offset : ℕ) → IsUtf8 text → IsCharBoundary text offset → start ≤ offset
    → past_bytes (behind_bytes (take start text)) (take (offset - start) (drop start text)) ≡ place_of text offset
place_from text start offset utf8 boundary before =
    let sum : start + (offset - start) ≡ offset = omega arith in
    sym (fold-append past_byte (1, 1) (take start text) (take (offset - start) (drop start text)))
    ∙ ap behind_bytes (sym (take-add start (offset - start) text) ∙ ap (λ (k : ℕ). take k text) sum)
    ∙ behind_text (take offset text) (IsUtf8-take text offset utf8 boundary)

-- the same from the place that the table has
pub place_from_table : (text : List ℕ) (table : List (ℕ × ℕ)) (offset : ℕ) (p : ℕ × ℕ)
    → IsUtf8 text → IsCharBoundary text offset → IsTable text table → p ≡ get_or table (offset / BYTES_APART) p
    → (let start = BYTES_APART * (offset / BYTES_APART) in
    past_bytes p (take (offset - start) (drop start text)) ≡ place_of text offset)
place_from_table text table offset p utf8 boundary t at =
    let start = BYTES_APART * (offset / BYTES_APART) in
    let small : offset / BYTES_APART < length table = omega (arith, t.enough, boundary.0) in
    ap (λ (q : ℕ × ℕ). past_bytes q (take (offset - start) (drop start text)))
    (at ∙ t.right (offset / BYTES_APART) p small)
    ∙ place_from text start offset utf8 boundary (omega arith)
