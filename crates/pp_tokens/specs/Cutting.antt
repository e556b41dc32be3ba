-- A text cut into parts: white space, comments and tokens.
use Rattle.std.specs.Prelude.{ℕ, zero, suc, ◌+◌, ◌-◌, ◌≡◌, List, [], ◌∷◌, ◌++◌, take, Option, Some, None, Result}
use Rattle.std.specs.Prelude.{MatchResult}
use Rattle.pp_tokens.specs.declared.token.TokenKind.{TokenKind}
use Rattle.pp_tokens.specs.declared.token.TokenKind.TheVariants.{End}
use Rattle.pp_tokens.specs.declared.token.Token.{Token}
use Rattle.pp_tokens.specs.declared.token.LexFault.{LexFault}
use Rattle.pp_tokens.specs.declared.token.LexFault.TheVariants.{BadChar, BadNumber, OpenComment, Memory}
use Rattle.pp_tokens.specs.declared.front.Fault.{Fault}
use Rattle.pp_tokens.specs.declared.front.Fault.TheVariants.{BadChar as IsBadChar, BadNumber as IsBadNumber}
use Rattle.pp_tokens.specs.declared.front.Fault.TheVariants.{OpenComment as IsOpenComment}
use Rattle.pp_tokens.specs.declared.front.Front.{Front}
use Rattle.pp_tokens.specs.declared.front.Front.TheVariants.{Takes, Bad}
use Rattle.pp_tokens.specs.Characters.{width}
use Rattle.pp_tokens.specs.Front.{front}

-- a part of a text: its characters, and which token they are, unless they are white space or a comment
pub record Part : Type 0 where
  pub kind : Option TokenKind
  pub text : List ℕ

-- parts one after another, and the fault that stands behind them, if one does
pub record Parts : Type 0 where
  pub parts : List Part
  pub fault : Option Fault

-- what follows what stands at the front: further gives it, where so many characters are passed over
abbrev pub follow : List ℕ → Front → (ℕ → Parts) → Parts
follow cs (Takes kind n) further =
    record {
      parts = record { kind = kind; text = take n cs } ∷ (further (n - 1)).parts;
      fault =
          (further (n - 1)).fault;
    }
follow cs (Bad f) further = record { parts = []; fault = Some f }

-- The parts of characters, the first so many of which belong to the part before: at each place the part that stands at
-- the front, and what follows it, up to the first fault.
abbrev pub parts_of : ℕ → List ℕ → Parts
parts_of passed [] = record { parts = []; fault = None }
parts_of (suc k) (c ∷ cs) = parts_of k cs
parts_of zero (c ∷ cs) = follow (c ∷ cs) (front c cs) (λ n. parts_of n cs)

-- the characters of parts
abbrev pub written : List Part → List ℕ
written [] = []
written (p ∷ ps) = p.text ++ written ps

abbrev pub token : TokenKind → ℕ → ℕ → Token
token kind from to = record { kind = kind; from = from; to = to }

-- the token of a part that stands between two offsets
abbrev pub placed : Option TokenKind → ℕ → ℕ → List Token
placed None from to = []
placed (Some kind) from to = token kind from to ∷ []

-- the tokens of parts that begin at the offset
abbrev pub laid : ℕ → List Part → List Token
laid at [] = []
laid at (p ∷ ps) = placed p.kind at (at + width p.text) ++ laid (at + width p.text) ps

-- the tokens of parts, with the end behind them
abbrev pub raw_tokens : List Part → List Token
raw_tokens ps = laid 0 ps ++ token End (width (written ps)) (width (written ps)) ∷ []

abbrev pub fault_at : Fault → ℕ → LexFault
fault_at IsBadChar at = BadChar at
fault_at IsBadNumber at = BadNumber at
fault_at IsOpenComment at = OpenComment at

-- what the first pass gives: the tokens of all parts, or the first fault
abbrev pub IsFirstFault : LexFault → Parts → Type 0
IsFirstFault Memory ps = Unit {0}
IsFirstFault f ps = (g : Fault) × (ps.fault ≡ Some g) × (f ≡ fault_at g (width (written ps.parts)))

abbrev pub IsCutResult : {V : Type 0} → (V → List Token) → Result V LexFault → List ℕ → Type 0
IsCutResult items r cs =
    MatchResult r (λ v. ((parts_of 0 cs).fault ≡ None) × (items v ≡ raw_tokens (parts_of 0 cs).parts))
    (λ f. IsFirstFault f (parts_of 0 cs))
