-- Which tokens a text spells.
use Rattle.std.specs.Prelude.{ℕ, false, ◌≡◌, List, [], Option, Some, None}
use Rattle.std.specs.Str.{chars}
use Rattle.pp_tokens.specs.declared.token.Token.{Token}
use Rattle.pp_tokens.specs.declared.token.LexFault.{LexFault}
use Rattle.pp_tokens.specs.declared.token.LexFault.TheVariants.{Memory}
use Rattle.pp_tokens.specs.declared.front.Fault.{Fault}
use Rattle.pp_tokens.specs.declared.front.Front.TheVariants.{Bad}
use Rattle.pp_tokens.specs.Characters.{width}
use Rattle.pp_tokens.specs.Cutting.{Part, Parts, parts_of, written, raw_tokens, fault_at}
use Rattle.pp_tokens.specs.Front.{front_of}
use Rattle.pp_tokens.specs.Layout.{IsLaidOut}
use Rattle.pp_tokens.specs.Newlines.{newlines}

-- a text spells tokens, or is refused for its first fault
pub data Lexed : Type 0 where
  spelled : List Token → Lexed
  refused : LexFault → Lexed

-- parts without a fault are their tokens, less the line feeds that end no statement; a fault stands behind the parts
abbrev pub answer : List Part → Option Fault → Lexed
answer ps None = spelled (newlines [] false None (raw_tokens ps))
answer ps (Some f) = refused (fault_at f (width (written ps)))

abbrev pub lexed : Parts → Lexed
lexed k = answer k.parts k.fault

-- which tokens the text spells
abbrev pub tokens_of : List ℕ → Lexed
tokens_of text = lexed (parts_of 0 (chars text))

-- when each fault comes: want of memory has no cause in the text
abbrev pub IsCause : LexFault → Lexed → Type 0
IsCause Memory x = Unit {0}
IsCause f x = x ≡ refused f

-- Tokens are those of a layout of the characters: of parts that, put together in order, are the characters, each right
-- where it stands; the line feeds that end no statement are left out.
pub record IsLayout (cs : List ℕ) (ts : List Token) : Type 0 where
  pub parts : List Part
  pub laid_out : IsLaidOut cs parts []
  pub tokens : ts ≡ newlines [] false None (raw_tokens parts)

-- A fault stands at an offset behind parts that are right where they stand, and before characters with this fault at
-- their front.
pub record IsFaultBehind (cs : List ℕ) (fault : LexFault) : Type 0 where
  pub parts : List Part
  pub rest : List ℕ
  pub kind : Fault
  pub laid_out : IsLaidOut cs parts rest
  pub bad : front_of rest ≡ Bad kind
  pub named : fault ≡ fault_at kind (width (written parts))

-- a refusal other than for want of memory is a fault behind parts
abbrev pub IsBehind : List ℕ → LexFault → Type 0
IsBehind cs Memory = Unit {0}
IsBehind cs f = IsFaultBehind cs f
