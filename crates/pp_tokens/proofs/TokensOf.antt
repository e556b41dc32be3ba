-- What the tokens of a text are.
use Rattle.std.proofs.Common.{ℕ, ◌≡◌, List, [], sym, ap, ◌∙◌, subst, All, IsUtf8, length, None, append-nil, false}
use Rattle.std.specs.Str.{chars}
use Rattle.pp_tokens.specs.declared.token.Token.{Token}
use Rattle.pp_tokens.proofs.Every.{Every, all_of}
use Rattle.pp_tokens.specs.declared.token.LexFault.{LexFault}
use Rattle.pp_tokens.specs.declared.token.LexFault.TheVariants.{BadChar, BadNumber, OpenComment, Memory}
use Rattle.pp_tokens.specs.Characters.{width}
use Rattle.pp_tokens.specs.Cutting.{written, laid, raw_tokens}
use Rattle.pp_tokens.specs.Spans.{IsSpan, AreInOrder, HasEnd}
use Rattle.pp_tokens.specs.Tokens.{spelled, tokens_of, IsLayout, IsBehind, IsCause}
use Rattle.pp_tokens.proofs.Keeping.{all_kept, order_of_kept, end_of_kept}
use Rattle.pp_tokens.proofs.Laying.{layout, behind_parts}
use Rattle.pp_tokens.proofs.Standing.{raw_spans, raw_in_order, no_ends}
use Rattle.pp_tokens.proofs.Widths.{width-chars}

module _ (bs : List ℕ) (ts : List Token) (e : tokens_of bs ≡ spelled ts) where
  pub is_layout : IsLayout (chars bs) ts
  is_layout = layout (chars bs) ts e

  pub are_spans : IsUtf8 bs → All (IsSpan bs) ts
  are_spans utf8 =
      let l = is_layout in
      let P : List Token → Type 0 = λ k. Every (IsSpan bs) k in
      all_of (IsSpan bs) ts (subst P (sym l.tokens)
      (all_kept (IsSpan bs) (raw_tokens l.parts) [] false None (raw_spans bs l.parts utf8 l.laid_out) tt))

  pub are_in_order : AreInOrder 0 ts
  are_in_order =
      let l = is_layout in
      let P : List Token → Type 0 = λ k. AreInOrder 0 k in
      subst P (sym l.tokens) (order_of_kept (raw_tokens l.parts) 0 [] false None (raw_in_order l.parts))

  pub has_end : IsUtf8 bs → HasEnd (length bs) ts
  has_end utf8 =
      let l = is_layout in
      let n = width (written l.parts) in
      let P : List Token → Type 0 = λ k. HasEnd n k in
      let Q : ℕ → Type 0 = λ k. HasEnd k ts in
      let w : width (written l.parts) ≡ length bs =
      ap width (sym (append-nil (written l.parts)) ∙ l.laid_out.whole) ∙ width-chars bs utf8 in
      subst Q w (subst P (sym l.tokens)
      (end_of_kept n (laid 0 l.parts) [] false None (no_ends l.parts [] 0 l.laid_out.right) tt))

pub is_behind : (bs : List ℕ) (f : LexFault) → IsCause f (tokens_of bs) → IsBehind (chars bs) f
is_behind bs Memory e = tt
is_behind bs (BadChar at) e = behind_parts (chars bs) (BadChar at) e
is_behind bs (BadNumber at) e = behind_parts (chars bs) (BadNumber at) e
is_behind bs (OpenComment at) e = behind_parts (chars bs) (OpenComment at) e
