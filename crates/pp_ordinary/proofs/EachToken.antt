-- What holds of the token of each part of a text, and of the end, holds of each token that the text spells.
use Rattle.std.proofs.Common.{◌≡◌, ◌+◌, ℕ, List, [], ◌∷◌, ◌++◌, Option, Some, None, append_assoc, false, subst, sym}
use Rattle.pp_plain_names.proofs.Left.{AllOf}
use Rattle.pp_tokens.specs.Characters.{width}
use Rattle.pp_tokens.specs.Cutting.{Part, laid, placed, raw_tokens, token, written}
use Rattle.pp_tokens.specs.Layout.{AreRight, IsPart, IsToken}
use Rattle.pp_tokens.specs.Tokens.{spelled, tokens_of}
use Rattle.pp_tokens.specs.declared.token.Token.{Token}
use Rattle.pp_tokens.specs.declared.token.TokenKind.{TokenKind}
use Rattle.pp_tokens.specs.declared.token.TokenKind.TheVariants.{End}
use Rattle.pp_tokens.proofs.Every.{Every}
use Rattle.pp_tokens.proofs.Keeping.{all_kept}
use Rattle.pp_tokens.proofs.TokensOf.{is_layout}

-- where P holds of the tokens of right parts
abbrev OfParts : (Token → Type 0) → Type 0
OfParts P = (k : TokenKind) (cs after : List ℕ) (from : ℕ) → IsToken k cs after → P (token k from (from + width cs))

module _ (P : Token → Type 0) (of_part : OfParts P) (of_end : (at : ℕ) → P (token End at at)) where
  first_part : (o : Option TokenKind) (cs after : List ℕ) (from : ℕ) (ts : List Token) → IsPart o cs after → Every P ts
      → Every P (placed o from (from + width cs) ++ ts)
  first_part None cs after from ts h all = all
  first_part (Some k) cs after from ts h all = (of_part k cs after from h, all)

  each_part : (ps : List Part) (rest : List ℕ) (at : ℕ) (ts : List Token) → AreRight ps rest → Every P ts
      → Every P (laid at ps ++ ts)
  each_part [] rest at ts h all = all
  each_part (p ∷ ps) rest at ts h all =
      let to = at + width p.text in
      subst (λ (l : List Token). Every P l) (sym (append_assoc (placed p.kind at to) (laid to ps) ts))
      (first_part p.kind p.text (written ps ++ rest) at (laid to ps ++ ts) h.0 (each_part ps rest to ts h.1 all))

  pub each_token : (bs : List ℕ) (ts : List Token) → tokens_of bs ≡ spelled ts → Every P ts
  each_token bs ts cut =
      let layout = is_layout bs ts cut in
      let ps = layout.parts in
      let n = width (written ps) in
      subst (λ (l : List Token). Every P l) (sym layout.tokens)
      (all_kept P (raw_tokens ps) [] false None
      (each_part ps [] 0 (token End n n ∷ []) layout.laid_out.right (of_end n, tt)) tt)

-- in the words of the lemmas on what is left of tokens
pub as_all : (text : List ℕ) (P : Token → Type 0) (ts : List Token) → Every P ts → AllOf text P ts
as_all text P [] h = tt
as_all text P (t ∷ ts) h = (h.0, as_all text P ts h.1)
