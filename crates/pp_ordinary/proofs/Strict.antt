-- The tokens of a text begin at offsets of their own.
use Rattle.std.proofs.Common.{◌≡◌, ◌≢◌, ◌+◌, ◌<◌, ◌≤◌, ℕ, List, [], ◌∷◌, ◌++◌, All, IsUtf8, length}
use Rattle.std.proofs.Common.{ap, arith, refl, subst, sym, true}
use Rattle.std.specs.Char.{len_utf8}
use Rattle.std.proofs.lemmas.List.Sums.{sum_by-cons}
use Rattle.std.proofs.lemmas.Str.{len_utf8_bounds}
use Rattle.pp_declared.proofs.Steps.{all_first, all_rest}
use Rattle.pp_tokens.proofs.Counts.{some_mark, some_operator}
use Rattle.pp_tokens.specs.Characters.{goes_on_with, starts_name, width}
use Rattle.pp_tokens.specs.Cutting.{token}
use Rattle.pp_tokens.specs.Layout.{IsToken}
use Rattle.pp_tokens.specs.Spans.{AreInOrder}
use Rattle.pp_tokens.specs.Tokens.{spelled, tokens_of}
use Rattle.pp_tokens.specs.declared.token.Token.{Token}
use Rattle.pp_tokens.specs.declared.token.TokenKind.{TokenKind}
use Rattle.pp_tokens.specs.declared.token.TokenKind.TheVariants.{Name, Word, Number, Hex, Op, Mark, Hole, Newline, End}
use Rattle.pp_tokens.proofs.Every.{Every}
use Rattle.pp_tokens.proofs.TokensOf.{are_in_order, has_end}
use Rattle.pp_ordinary.proofs.OneAt.{none_before, one_at, one_here, one_or_none}
use Rattle.pp_ordinary.proofs.EachToken.{each_token}
use Rattle.pp_ordinary.proofs.Weights.{weight}

-- ---- each token but the end has characters

wide : (cs : List ℕ) → 1 ≤ length cs → 1 ≤ width cs
wide [] h = absurd (omega arith)
wide (c ∷ cs) h = omega (arith, (len_utf8_bounds c).0, sum_by-cons len_utf8 c cs)

some_name : (cs : List ℕ) → goes_on_with starts_name cs ≡ true → 1 ≤ length cs
some_name [] e = cc
some_name (c ∷ cs) e = omega arith

some_token : (k : TokenKind) (cs after : List ℕ) → IsToken k cs after → 1 ≤ length cs
some_token Name cs after h = some_name cs h.0.starts
some_token (Word r) cs after h = some_name cs h.0.starts
some_token Hole cs after h = some_name cs h.0.starts
some_token (Number v) cs after h = h.some
some_token (Hex v) cs after h = omega (arith, h.some)
some_token (Op o) cs after h = omega (arith, ap length h.1, some_operator o)
some_token (Mark b) cs after h = omega (arith, ap length h, some_mark b)
some_token Newline cs after h = omega (arith, ap length h)
some_token End cs after h = absurd h

abbrev NoEnd : Token → Type 0
NoEnd t = t.kind ≢ End

-- the token has characters
abbrev IsLong : Token → Type 0
IsLong t = t.from < t.to

abbrev IsLongBeforeEnd : Token → Type 0
IsLongBeforeEnd t = NoEnd t → IsLong t

long_token : (k : TokenKind) (cs after : List ℕ) (from : ℕ) → IsToken k cs after
    → IsLongBeforeEnd (token k from (from + width cs))
long_token k cs after from h = λ other. omega (arith, wide cs (some_token k cs after h))

no_end : (at : ℕ) → IsLongBeforeEnd (token End at at)
no_end at = λ other. absurd (other refl)

long_tokens : (bs : List ℕ) (ts : List Token) → tokens_of bs ≡ spelled ts → Every IsLongBeforeEnd ts
long_tokens = each_token IsLongBeforeEnd long_token no_end

long_front : (front : List Token) (e : Token) → Every IsLongBeforeEnd (front ++ e ∷ []) → All NoEnd front
    → Every IsLong front
long_front [] e h other = tt
long_front (t ∷ ts) e h other =
    (h.0 (all_first NoEnd t ts other), long_front ts e h.1 (all_rest NoEnd t ts other))

-- ---- so no two of them begin at one offset

nothing_before : (x at : ℕ) (ts : List Token) → x < at → AreInOrder at ts → weight (one_at x) ts ≡ 0
nothing_before x at [] lt h = refl
nothing_before x at (t ∷ ts) lt h =
    omega (arith, none_before x t.from (omega (arith, h.0)), nothing_before x t.to ts (omega (arith, h.0, h.1)) h.2)

one_of_front : (x at : ℕ) (front : List Token) (e : Token) → AreInOrder at (front ++ e ∷ []) → Every IsLong front
    → weight (one_at x) (front ++ e ∷ []) ≤ 1
one_of_front x at [] e h long = one_or_none x e.from (λ is. omega (arith, one_here x e.from is)) (λ none. omega arith)
one_of_front x at (t ∷ ts) e h long =
    one_or_none x t.from
    (λ is. omega (arith, one_here x t.from is, nothing_before x t.to (ts ++ e ∷ []) (omega (arith, long.0)) h.2))
    (λ none. omega (arith, one_of_front x t.to ts e h.2 long.1))

-- one token at most begins at an offset
pub begin_once : (bs : List ℕ) (ts : List Token) (x : ℕ) → IsUtf8 bs → tokens_of bs ≡ spelled ts
    → weight (one_at x) ts ≤ 1
begin_once bs ts x utf8 cut =
    let end = has_end bs ts cut utf8 in
    let last = token End (length bs) (length bs) in
    subst (λ (l : List Token). weight (one_at x) l ≤ 1) (sym end.whole)
    (one_of_front x 0 end.front last (subst (AreInOrder 0) end.whole (are_in_order bs ts cut))
    (long_front end.front last (subst (Every IsLongBeforeEnd) end.whole (long_tokens bs ts cut)) end.once))
