-- Sizes and offsets of what is read: what is common to all.
use Rattle.pp_tokens.specs.declared.token.Token.{Token}
use Rattle.std.proofs.Common.{List, [], arith, length, ℕ, ◌+◌, ◌∷◌, ◌≤◌}

module _ (n : ℕ) (P : ℕ → Type 0) where
  abbrev pub OffsetsOf : List Token → Type 0
  OffsetsOf [] = Unit {0}
  OffsetsOf (t ∷ ts) = P t.from × OffsetsOf ts

  -- there are at most n tokens and one more, and P holds of their offsets
  pub record Ok (ts : List Token) : Type 0 where
    pub few : length ts ≤ n + 1
    pub offsets : OffsetsOf ts

  pub tail : {t : Token} {ts : List Token} → Ok (t ∷ ts) → Ok ts
  tail ok = let le = ok.few in record { few = omega arith; offsets = ok.offsets.1 }

  pub head : {t : Token} {ts : List Token} → Ok (t ∷ ts) → P t.from
  head ok = ok.offsets.0

  -- between ts and us stands something with at most so many nodes as tokens, of which G holds
  pub record Sized (ts us : List Token) (k q : ℕ) (G : Type 0) : Type 0 where
    pub good : G
    pub left : Ok us
    pub small : k + length us ≤ length ts
    pub quarter : q + length us ≤ length ts
