-- Where the tokens of a text stand.
use Rattle.std.specs.Prelude.{ℕ, ◌≡◌, ◌≢◌, ◌<◌, ◌≤◌, List, [], ◌∷◌, ◌++◌, All, length}
use Rattle.std.specs.Str.{IsCharBoundary}
use Rattle.pp_tokens.specs.declared.token.LexFault.{LexFault}
use Rattle.pp_tokens.specs.declared.token.LexFault.TheVariants.{BadChar, BadNumber, OpenComment, Memory}
use Rattle.pp_tokens.specs.declared.token.Token.{Token}
use Rattle.pp_tokens.specs.declared.token.TokenKind.TheVariants.{End}
use Rattle.pp_tokens.specs.Cutting.{token}

-- the token lies within the text, and cuts no character
pub record IsSpan (text : List ℕ) (t : Token) : Type 0 where
  pub forward : t.from ≤ t.to
  pub from_boundary : IsCharBoundary text t.from
  pub to_boundary : IsCharBoundary text t.to

-- the tokens stand one behind another, from the offset on
abbrev pub AreInOrder : ℕ → List Token → Type 0
AreInOrder at [] = Unit {0}
AreInOrder at (t ∷ ts) = (at ≤ t.from) × (t.from ≤ t.to) × AreInOrder t.to ts

-- the last token is the end, at this offset, and no other is
pub record HasEnd (at : ℕ) (ts : List Token) : Type 0 where
  pub front : List Token
  pub whole : ts ≡ front ++ token End at at ∷ []
  pub once : All (λ t. t.kind ≢ End) front

-- a character of the text begins at the offset
pub record BeginsCharacter (text : List ℕ) (at : ℕ) : Type 0 where
  pub boundary : IsCharBoundary text at
  pub inside : at < length text

-- the offset of a fault is where a character begins; want of memory has none
abbrev pub FaultBegins : List ℕ → LexFault → Type 0
FaultBegins text (BadChar at) = BeginsCharacter text at
FaultBegins text (BadNumber at) = BeginsCharacter text at
FaultBegins text (OpenComment at) = BeginsCharacter text at
FaultBegins text Memory = Unit {0}
