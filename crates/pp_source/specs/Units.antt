-- Which unit the bytes of a source spell. Source: own.
use Rattle.std.specs.Prelude.{◌≡◌, ℕ, List, None}
use Rattle.std.specs.Str.{IsUtf8}
use Rattle.pp_grammar.specs.Units.{SpellsUnit}
use Rattle.pp_tokens.specs.Tokens.{spelled, tokens_of}
use Rattle.pp_tokens.specs.declared.token.Token.{Token}
use Rattle.pp_tree.specs.Plain.{UnitTree}
use Rattle.pp_tree.specs.Roots.{too_high, unit_roots}

-- the bytes are a text whose tokens spell the unit, and no tree of it is higher than 64
pub record IsUnitOf (bytes : List ℕ) (unit : UnitTree) : Type 0 where
  pub utf8 : IsUtf8 bytes
  pub tokens : List Token
  pub cut : tokens_of bytes ≡ spelled tokens
  pub spells : SpellsUnit bytes tokens unit
  pub low : too_high (unit_roots unit) ≡ None
