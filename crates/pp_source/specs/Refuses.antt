-- Why a source is refused, and the line that says so. Source: own.
use Rattle.std.specs.Prelude.{◌≡◌, ℕ, List}
use Rattle.std.specs.Str.{IsUtf8}
use Rattle.pp_grammar_laws.specs.Laws.{BeginsToken}
use Rattle.pp_parse.specs.Spelled.{IsLeftOutAt, IsMisspelt, SpellsTooHigh}
use Rattle.pp_print.specs.Faults.{named_fault_text, source_fault_text}
use Rattle.pp_print.specs.Refusals.{not_utf8_text}
use Rattle.pp_print.specs.declared.fault.NamedFault.TheVariants.{Unsupported}
use Rattle.pp_print.specs.declared.fault.SourceFault.TheVariants as fault
use Rattle.pp_prog.specs.declared.place.Place.{Place}
use Rattle.pp_text.specs.Fault.{IsFirstBad}
use Rattle.pp_text.specs.Place.{place_of}
use Rattle.pp_tokens.specs.Tokens.{refused, spelled, tokens_of}
use Rattle.pp_tokens.specs.declared.token.LexFault.TheVariants as lexical
use Rattle.pp_tokens.specs.declared.token.Token.{Token}

-- the place of an offset in the source with this number
abbrev pub place_in : ℕ → List ℕ → ℕ → Place
place_in number bytes at = record { source = number; line = (place_of bytes at).0; column = (place_of bytes at).1 }

-- the line on a fault at an offset, where no name is told
abbrev pub fault_line : fault.the_data → ℕ → List ℕ → ℕ → List ℕ
fault_line kind number bytes at = source_fault_text kind (place_in number bytes at)

-- the line refuses the source with this number
pub data Refuses (number : ℕ) (bytes : List ℕ) : List ℕ → Type 0 where
  not_utf8 : (at : ℕ) → ¬ (IsUtf8 bytes) → IsFirstBad bytes at → Refuses number bytes (not_utf8_text at number)
  bad_character : (at : ℕ) → IsUtf8 bytes → tokens_of bytes ≡ refused (lexical.BadChar at)
      → Refuses number bytes (fault_line fault.BadCharacter number bytes at)
  bad_number : (at : ℕ) → IsUtf8 bytes → tokens_of bytes ≡ refused (lexical.BadNumber at)
      → Refuses number bytes (fault_line fault.BadNumber number bytes at)
  open_comment : (at : ℕ) → IsUtf8 bytes → tokens_of bytes ≡ refused (lexical.OpenComment at)
      → Refuses number bytes (fault_line fault.OpenComment number bytes at)
  misspelt : (at : ℕ) (ts : List Token) → IsUtf8 bytes → tokens_of bytes ≡ spelled ts → IsMisspelt bytes ts
      → BeginsToken ts at → Refuses number bytes (fault_line fault.Syntax number bytes at)
  too_deep : (at : ℕ) (ts : List Token) → IsUtf8 bytes → tokens_of bytes ≡ spelled ts → SpellsTooHigh bytes ts at
      → Refuses number bytes (fault_line fault.TooDeep number bytes at)
  left_out : (at : ℕ) (name : List ℕ) (ts : List Token) → IsUtf8 bytes → tokens_of bytes ≡ spelled ts
      → IsLeftOutAt bytes ts name at → BeginsToken ts at
      → Refuses number bytes (named_fault_text Unsupported name (place_in number bytes at))
