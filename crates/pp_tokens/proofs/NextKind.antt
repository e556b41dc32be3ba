-- The next token that is no line feed.
use Rattle.std.proofs.Common.{ℕ, ◌≡◌, ◌+◌, ◌<◌, ◌≤◌, List, ◌∷◌, get_or, drop, length, sym, ap, ◌∙◌, Bool, true, false}
use Rattle.std.proofs.Common.{cond}
use Rattle.std.proofs.lemmas.List.{drop_more, at_drop_all}
use Rattle.pp_tokens.specs.declared.token.Token.{Token}
use Rattle.pp_tokens.specs.declared.token.TokenKind.TheVariants.{End}
use Rattle.pp_tokens.specs.Newlines.{next_kind, is_newline}

module _ (ts : List Token) (i : ℕ) (t : Token) (lt : i < length ts) (is : t ≡ get_or ts i t) where
  here : next_kind (drop i ts) ≡ cond (is_newline t.kind) (next_kind (drop (i + 1) ts)) t.kind
  here = ap next_kind (drop_more ts i t lt) ∙ ap (λ (u : Token). next_kind (u ∷ drop (i + 1) ts)) (sym is)

  pub next_kind_feed : is_newline t.kind ≡ true → next_kind (drop (i + 1) ts) ≡ next_kind (drop i ts)
  next_kind_feed h = sym (here ∙ ap (λ (b : Bool). cond b (next_kind (drop (i + 1) ts)) t.kind) h)

  pub next_kind_here : is_newline t.kind ≡ false → t.kind ≡ next_kind (drop i ts)
  next_kind_here h = sym (here ∙ ap (λ (b : Bool). cond b (next_kind (drop (i + 1) ts)) t.kind) h)

pub next_kind_end : (ts : List Token) (i : ℕ) → length ts ≤ i → next_kind (drop i ts) ≡ End
next_kind_end ts i le = at_drop_all next_kind ts i le

-- what the loop over the tokens asks for
pub ruleset next_kind_steps = (next_kind_feed, next_kind_here, next_kind_end)
