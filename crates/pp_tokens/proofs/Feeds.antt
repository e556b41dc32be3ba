-- The newlines of tokens, one token at a time.
use Rattle.std.proofs.Common.{ℕ, ◌≡◌, ◌+◌, ◌<◌, ◌≤◌, List, [], ◌∷◌, ◌++◌, get_or, drop, length, sym, ap, ◌∙◌, Bool}
use Rattle.std.proofs.Common.{true, false, cond, Option, None}
use Rattle.std.specs.Prelude.{◌&&◌}
use Rattle.std.proofs.lemmas.List.{drop_more, drop_all}
use Rattle.pp_tokens.specs.declared.token.Token.{Token}
use Rattle.pp_tokens.specs.declared.newlines.Region.{Region}
use Rattle.pp_tokens.specs.Newlines.{newlines, is_newline, first_feed, kept, can_begin, can_end, next_kind, enabled}
use Rattle.pp_tokens.specs.Newlines.{inside}

module _ (ts : List Token) (i : ℕ) (t : Token) (rs : List Region) (ended : Bool) (waiting : Option Token)
    (lt : i < length ts) (is : t ≡ get_or ts i t) where
  here : newlines rs ended waiting (drop i ts) ≡ newlines rs ended waiting (t ∷ drop (i + 1) ts)
  here = ap (newlines rs ended waiting) (drop_more ts i t lt)
      ∙ ap (λ (u : Token). newlines rs ended waiting (u ∷ drop (i + 1) ts)) (sym is)

  pub newlines_feed : is_newline t.kind ≡ true
      → newlines rs ended waiting (drop i ts) ≡ newlines rs ended (first_feed waiting t) (drop (i + 1) ts)
  newlines_feed h = here ∙ ap
      (λ (b : Bool). cond b (newlines rs ended (first_feed waiting t) (drop (i + 1) ts))
      (kept (ended && can_begin t.kind (next_kind (drop (i + 1) ts)) && enabled rs) waiting t
      ++ newlines (inside t.kind (next_kind (drop (i + 1) ts)) rs) (can_end t.kind) None (drop (i + 1) ts))) h

  pub newlines_token : is_newline t.kind ≡ false
      → newlines rs ended waiting (drop i ts) ≡ kept
      (ended && can_begin t.kind (next_kind (drop (i + 1) ts)) && enabled rs) waiting t
      ++ newlines (inside t.kind (next_kind (drop (i + 1) ts)) rs) (can_end t.kind) None (drop (i + 1) ts)
  newlines_token h = here
      ∙ ap (λ (b : Bool). cond b (newlines rs ended (first_feed waiting t) (drop (i + 1) ts))
      (kept (ended && can_begin t.kind (next_kind (drop (i + 1) ts)) && enabled rs) waiting t
      ++ newlines (inside t.kind (next_kind (drop (i + 1) ts)) rs) (can_end t.kind) None (drop (i + 1) ts))) h

pub newlines_end : (ts : List Token) (i : ℕ) (rs : List Region) (ended : Bool) (waiting : Option Token) → length ts ≤ i
    → newlines rs ended waiting (drop i ts) ≡ []
newlines_end ts i rs ended waiting le = ap (newlines rs ended waiting) (drop_all i ts le)

-- what the loop over the tokens asks for
pub ruleset newlines_steps = (newlines_feed, newlines_token, newlines_end)
