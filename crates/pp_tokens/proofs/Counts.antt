-- How many tokens there are, and where a fault stands.
use lib.Utf8.{encodes, scalars}
use Rattle.std.proofs.Common.{ℕ, ◌≡◌, ◌+◌, ◌≤◌, List, [], ◌∷◌, ◌++◌, append-nil, length, length-append, sym, ap, ◌∙◌}
use Rattle.std.proofs.Common.{subst, arith, lit≤, Bool, true, false, cond, ◌&&◌, IsUtf8, Option, Some, None}
use Rattle.std.specs.Char.{len_utf8}
use Rattle.std.specs.Str.{chars}
use Rattle.std.proofs.lemmas.List.Sums.{sum_by-append, sum_by-cons}
use Rattle.std.proofs.lemmas.Str.{len_utf8_bounds, encodes-chars, scalars-chars}
use Rattle.pp_tokens.specs.declared.token.Bracket.{Bracket}
use Rattle.pp_tokens.specs.declared.token.Bracket.TheVariants.{OpenRound}
use Rattle.pp_tokens.specs.declared.token.LexFault.{LexFault}
use Rattle.pp_tokens.specs.declared.token.LexFault.TheVariants.{BadChar, BadNumber, OpenComment, Memory}
use Rattle.pp_tokens.specs.declared.token.Operator.{Operator}
use Rattle.pp_tokens.specs.declared.token.Operator.TheVariants.{Plus}
use Rattle.pp_tokens.specs.declared.token.Token.{Token}
use Rattle.pp_tokens.specs.declared.token.TokenKind.{TokenKind}
use Rattle.pp_tokens.specs.declared.token.TokenKind.TheVariants.{Name, Word, Number, Hex, Op, Mark, Hole, Newline, End}
use Rattle.pp_tokens.specs.declared.newlines.Region.{Region}
use Rattle.pp_tokens.specs.declared.front.Fault.{Fault}
use Rattle.pp_tokens.specs.declared.front.Fault.TheVariants.{BadChar as IsBadChar, BadNumber as IsBadNumber}
use Rattle.pp_tokens.specs.declared.front.Fault.TheVariants.{OpenComment as IsOpenComment}
use Rattle.pp_tokens.specs.Characters.{width, starts_name, goes_on_with}
use Rattle.pp_tokens.specs.Cutting.{Part, written, placed, laid, raw_tokens, token, fault_at}
use Rattle.pp_tokens.specs.Layout.{IsPart, IsToken, AreRight}
use Rattle.pp_tokens.specs.Newlines.{is_newline, can_begin, can_end, next_kind, enabled, inside, first_feed, kept}
use Rattle.pp_tokens.specs.Newlines.{newlines}
use Rattle.pp_tokens.specs.Operators.{operator_text, mark_text}
use Rattle.pp_tokens.specs.Spans.{BeginsCharacter, FaultBegins}
use Rattle.pp_tokens.specs.Tokens.{IsCause, tokens_of, IsLayout}
use Rattle.pp_tokens.proofs.Laying.{IsFaultBefore, before_rest}
use Rattle.pp_tokens.proofs.Standing.{seam, scalars_behind}
use Rattle.pp_tokens.proofs.Widths.{width-chars}

-- ---- tokens have characters

wide : (xs : List ℕ) → length xs ≤ width xs
wide [] = lit≤ tt
wide (c ∷ cs) = omega (arith, wide cs, (len_utf8_bounds c).0, sum_by-cons len_utf8 c cs)

some_name : (xs after : List ℕ) → goes_on_with starts_name xs ≡ true → 1 ≤ length xs
some_name [] after e = cc
some_name (c ∷ cs) after e = omega arith

pub some_operator : (o : Operator) → 1 ≤ length (operator_text o)
some_operator Plus = lit≤ tt
some_operator _ = lit≤ tt

pub some_mark : (b : Bracket) → 1 ≤ length (mark_text b)
some_mark OpenRound = lit≤ tt
some_mark _ = lit≤ tt

some_token : (k : TokenKind) (xs after : List ℕ) → IsToken k xs after → 1 ≤ length xs
some_token Name xs after h = some_name xs after h.0.starts
some_token (Word w) xs after h = some_name xs after h.0.starts
some_token Hole xs after h = some_name xs after h.0.starts
some_token (Number v) xs after h = h.some
some_token (Hex v) xs after h = omega (arith, h.some)
some_token (Op o) xs after h = omega (arith, ap length h.1, some_operator o)
some_token (Mark b) xs after h = omega (arith, ap length h, some_mark b)
some_token Newline xs after h = omega (arith, ap length h)
some_token End xs after h = absurd h

one_placed : (o : Option TokenKind) (xs after : List ℕ) (from to : ℕ) → IsPart o xs after
    → length (placed o from to) ≤ width xs
one_placed None xs after from to h = omega arith
one_placed (Some k) xs after from to h = omega (arith, some_token k xs after h, wide xs)

few_laid : (ps : List Part) (rest : List ℕ) (at : ℕ) → AreRight ps rest → length (laid at ps) ≤ width (written ps)
few_laid [] rest at h = lit≤ tt
few_laid (p ∷ ps) rest at h =
    omega (
      arith,
      one_placed p.kind p.text (written ps ++ rest) at (at + width p.text) h.0,
      few_laid ps rest (at + width p.text) h.1,
      length-append (placed p.kind at (at + width p.text)) (laid (at + width p.text) ps),
      sum_by-append len_utf8 p.text (written ps),
    )

-- ---- newlines come from line feeds

abbrev waits : Option Token → ℕ
waits None = 0
waits (Some t) = 1

kept_few : (b : Bool) (waiting : Option Token) (t : Token) → length (kept b waiting t) ≤ waits waiting + 1
kept_few true None t = lit≤ tt
kept_few true (Some u) t = lit≤ tt
kept_few false None t = lit≤ tt
kept_few false (Some u) t = lit≤ tt

first_waits : (waiting : Option Token) (t : Token) → waits (first_feed waiting t) ≤ 1
first_waits None t = lit≤ tt
first_waits (Some u) t = lit≤ tt

one_few : (b : Bool) (feed kept others : List Token) (n w : ℕ) → length feed ≤ n + 1 → length kept ≤ w + 1
    → length others ≤ n → length (cond b feed (kept ++ others)) ≤ w + (n + 1)
one_few true feed kept others n w x y z = omega arith
one_few false feed kept others n w x y z = omega (arith, length-append kept others)

newlines_few : (ts : List Token) (rs : List Region) (ended : Bool) (waiting : Option Token)
    → length (newlines rs ended waiting ts) ≤ waits waiting + length ts
newlines_few [] rs ended waiting = omega arith
newlines_few (t ∷ ts) rs ended waiting =
    let feed = newlines_few ts rs ended (first_feed waiting t) in
    let others = newlines_few ts (inside t.kind (next_kind ts) rs) (can_end t.kind) None in
    let first = first_waits waiting t in
    let one = one_few (is_newline t.kind) (newlines rs ended (first_feed waiting t) ts)
    (kept (ended && can_begin t.kind (next_kind ts) && enabled rs) waiting t)
    (newlines (inside t.kind (next_kind ts) rs) (can_end t.kind) None ts) (length ts) (waits waiting) (omega arith)
    (kept_few (ended && can_begin t.kind (next_kind ts) && enabled rs) waiting t) (omega arith) in
    omega (arith, one)

pub few_tokens : (bs : List ℕ) (ts : List Token) → IsUtf8 bs → IsLayout (chars bs) ts → length ts ≤ length bs + 1
few_tokens bs ts utf8 l =
    let n = width (written l.parts) in
    let w : n ≡ length bs = ap width (sym (append-nil (written l.parts)) ∙ l.laid_out.whole) ∙ width-chars bs utf8 in
    let few = newlines_few (raw_tokens l.parts) [] false None in
    omega (
      arith,
      ap length l.tokens,
      few,
      few_laid l.parts [] 0 l.laid_out.right,
      length-append (laid 0 l.parts) (token End n n ∷ []),
      w,
    )

-- ---- a fault stands where a character begins

begins : (bs ps rest : List ℕ) → IsUtf8 bs → ps ++ rest ≡ chars bs → 1 ≤ length rest → BeginsCharacter bs (width ps)
begins bs ps rest utf8 whole some = record {
  boundary = seam bs ps rest (scalars_behind ps rest (ap scalars whole ∙ scalars-chars bs utf8))
      (ap encodes whole ∙ encodes-chars bs utf8);
  inside = omega (arith, ap width whole, width-chars bs utf8, sum_by-append len_utf8 ps rest, wide rest);
}

at_fault : (bs : List ℕ) (k : Fault) (at : ℕ) → BeginsCharacter bs at → FaultBegins bs (fault_at k at)
at_fault bs IsBadChar at b = b
at_fault bs IsBadNumber at b = b
at_fault bs IsOpenComment at b = b

at_place : (bs : List ℕ) (f : LexFault) → IsUtf8 bs → IsFaultBefore (chars bs) f → FaultBegins bs f
at_place bs f utf8 b =
    let P : LexFault → Type 0 = λ g. FaultBegins bs g in
    subst P (sym b.named) (at_fault bs b.kind (width (written b.parts))
    (begins bs (written b.parts) b.rest utf8 b.whole b.some))

pub fault_begins : (bs : List ℕ) (f : LexFault) → IsUtf8 bs → IsCause f (tokens_of bs) → FaultBegins bs f
fault_begins bs Memory utf8 e = tt
fault_begins bs (BadChar at) utf8 e = at_place bs (BadChar at) utf8 (before_rest (chars bs) (BadChar at) e)
fault_begins bs (BadNumber at) utf8 e = at_place bs (BadNumber at) utf8 (before_rest (chars bs) (BadNumber at) e)
fault_begins bs (OpenComment at) utf8 e = at_place bs (OpenComment at) utf8 (before_rest (chars bs) (OpenComment at) e)
