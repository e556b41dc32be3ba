-- Where the tokens of parts stand.
use lib.Utf8.{encodes, scalars, scalar}
use Rattle.std.proofs.Common.{ℕ, ◌≡◌, ◌≢◌, ◌+◌, ◌≤◌, List, [], ◌∷◌, ◌++◌, append_assoc, refl, sym, ap, ◌∙◌, subst}
use Rattle.std.proofs.Common.{arith, true, IsUtf8, Option, Some, None}
use Rattle.std.specs.Char.{len_utf8}
use Rattle.std.specs.Str.{chars, IsCharBoundary}
use Rattle.std.proofs.lemmas.List.Sums.{sum_by-append}
use Rattle.std.proofs.lemmas.Str.{encodes-append, encodes-chars, scalars-chars, IsCharBoundary-at_seam}
use Rattle.pp_tokens.specs.declared.token.Token.{Token}
use Rattle.pp_tokens.proofs.Every.{Every}
use Rattle.pp_tokens.specs.declared.token.TokenKind.{TokenKind}
use Rattle.pp_tokens.specs.declared.token.TokenKind.TheVariants.{End}
use Rattle.pp_tokens.specs.Characters.{width}
use Rattle.pp_tokens.specs.Cutting.{Part, written, token, placed, laid, raw_tokens}
use Rattle.pp_tokens.specs.Layout.{IsPart, AreRight, IsLaidOut}
use Rattle.pp_tokens.specs.Spans.{IsSpan, AreInOrder}
use Rattle.pp_tokens.proofs.Booleans.{and_right}
use Rattle.pp_tokens.proofs.Widths.{width-encodes}

pub scalars_behind : (xs ys : List ℕ) → scalars (xs ++ ys) ≡ true → scalars ys ≡ true
scalars_behind [] ys h = h
scalars_behind (x ∷ xs) ys h = scalars_behind xs ys (and_right (scalar x) (scalars (xs ++ ys)) h)

-- what holds of each token of parts, and of what stands behind them
abbrev behind_one : (P : Token → Type 0) → Option TokenKind → ℕ → ℕ → Type 0
behind_one P None from to = Unit {0}
behind_one P (Some kind) from to = P (token kind from to)

one_more : (P : Token → Type 0) (o : Option TokenKind) (from to : ℕ) (ts : List Token) → behind_one P o from to
    → Every P ts → Every P (placed o from to ++ ts)
one_more P None from to ts h all = all
one_more P (Some kind) from to ts h all = (h, all)

module _ (bs : List ℕ) where
  pub seam : (xs ys : List ℕ) → scalars ys ≡ true → encodes (xs ++ ys) ≡ bs → IsCharBoundary bs (width xs)
  seam xs ys h is =
      let P : ℕ → Type 0 = λ n. IsCharBoundary bs n in
      subst P (width-encodes xs)
      (IsCharBoundary-at_seam bs (encodes xs) (encodes ys) (sym is ∙ encodes-append xs ys) (ys, (h, refl)))

  span : (o : Option TokenKind) (pre xs ys : List ℕ) → scalars (xs ++ ys) ≡ true → encodes (pre ++ (xs ++ ys)) ≡ bs
      → behind_one (IsSpan bs) o (width pre) (width pre + width xs)
  span None pre xs ys h is = tt
  span (Some kind) pre xs ys h is =
      let P : ℕ → Type 0 = λ n. IsCharBoundary bs n in
      record {
        forward = omega arith;
        from_boundary = seam pre (xs ++ ys) h is;
        to_boundary = subst P (sum_by-append len_utf8 pre xs)
            (seam (pre ++ xs) ys (scalars_behind xs ys h) (ap encodes (append_assoc pre xs ys) ∙ is));
      }

  -- the tokens of parts cut no character, nor do those behind them
  pub spans : (ps : List Part) (pre rest : List ℕ) (ts : List Token) → scalars (written ps ++ rest) ≡ true
      → encodes (pre ++ (written ps ++ rest)) ≡ bs → Every (IsSpan bs) ts
      → Every (IsSpan bs) (laid (width pre) ps ++ ts)
  spans [] pre rest ts h is all = all
  spans (p ∷ ps) pre rest ts h is all =
      let ys = written ps ++ rest in
      let there : (p.text ++ written ps) ++ rest ≡ p.text ++ ys = append_assoc p.text (written ps) rest in
      let h' : scalars (p.text ++ ys) ≡ true = ap scalars (sym there) ∙ h in
      let is' : encodes (pre ++ (p.text ++ ys)) ≡ bs = ap (λ (l : List ℕ). encodes (pre ++ l)) (sym there) ∙ is in
      let w : width (pre ++ p.text) ≡ width pre + width p.text = sum_by-append len_utf8 pre p.text in
      let more = spans ps (pre ++ p.text) rest ts (scalars_behind p.text ys h')
      (ap encodes (append_assoc pre p.text ys) ∙ is') all in
      let P : ℕ → Type 0 = λ n. Every (IsSpan bs) (laid n ps ++ ts) in
      let Q : List Token → Type 0 = λ l. Every (IsSpan bs) l in
      subst Q (sym (append_assoc (placed p.kind (width pre) (width pre + width p.text))
      (laid (width pre + width p.text) ps) ts))
      (one_more (IsSpan bs) p.kind (width pre) (width pre + width p.text) (laid (width pre + width p.text) ps ++ ts)
      (span p.kind pre p.text ys h' is') (subst P w more))

  pub raw_spans : (ps : List Part) → IsUtf8 bs → IsLaidOut (chars bs) ps [] → Every (IsSpan bs) (raw_tokens ps)
  raw_spans ps utf8 laid_out =
      let all : written ps ++ [] ≡ chars bs = laid_out.whole in
      let h : scalars (written ps ++ []) ≡ true = ap scalars all ∙ scalars-chars bs utf8 in
      let is : encodes (written ps ++ []) ≡ bs = ap encodes all ∙ encodes-chars bs utf8 in
      let b = seam (written ps) [] refl is in
      spans ps [] [] (token End (width (written ps)) (width (written ps)) ∷ []) h is
      (record { forward = omega arith; from_boundary = b; to_boundary = b }, tt)

-- tokens that stand in order from an offset on do so from an earlier one
pub earlier : (at to : ℕ) (ts : List Token) → at ≤ to → AreInOrder to ts → AreInOrder at ts
earlier at to [] le h = tt
earlier at to (t ∷ ts) le h = (omega (arith, h.0), h.1, h.2)

in_order_one : (o : Option TokenKind) (at to : ℕ) (ts : List Token) → at ≤ to → AreInOrder to ts
    → AreInOrder at (placed o at to ++ ts)
in_order_one None at to ts le h = earlier at to ts le h
in_order_one (Some kind) at to ts le h = (omega arith, le, h)

pub in_order : (ps : List Part) (at : ℕ) (ts : List Token) → AreInOrder (at + width (written ps)) ts
    → AreInOrder at (laid at ps ++ ts)
in_order [] at ts h = earlier at (at + width (written [])) ts (omega arith) h
in_order (p ∷ ps) at ts h =
    let to = at + width p.text in
    let P : ℕ → Type 0 = λ n. AreInOrder n ts in
    let w : at + width (p.text ++ written ps) ≡ (at + width p.text) + width (written ps) =
    omega (arith, sum_by-append len_utf8 p.text (written ps)) in
    let Q : List Token → Type 0 = λ l. AreInOrder at l in
    subst Q (sym (append_assoc (placed p.kind at to) (laid to ps) ts))
    (in_order_one p.kind at to (laid to ps ++ ts) (omega arith) (in_order ps to ts (subst P w h)))

pub raw_in_order : (ps : List Part) → AreInOrder 0 (raw_tokens ps)
raw_in_order ps =
    let n = width (written ps) in
    in_order ps 0 (token End n n ∷ []) (omega arith, omega arith, tt)

-- no token of parts that are right is the end
no_end : (o : Option TokenKind) (xs after : List ℕ) (from to : ℕ) → IsPart o xs after
    → behind_one (λ t. t.kind ≢ End) o from to
no_end None xs after from to h = tt
no_end (Some kind) xs after from to h = λ e. let P : TokenKind → Type 0 = λ k. IsPart (Some k) xs after in subst P e h

pub no_ends : (ps : List Part) (rest : List ℕ) (at : ℕ) → AreRight ps rest → Every (λ t. t.kind ≢ End) (laid at ps)
no_ends [] rest at h = tt
no_ends (p ∷ ps) rest at h =
    one_more (λ t. t.kind ≢ End) p.kind at (at + width p.text) (laid (at + width p.text) ps)
    (no_end p.kind p.text (written ps ++ rest) at (at + width p.text) h.0) (no_ends ps rest (at + width p.text) h.1)
