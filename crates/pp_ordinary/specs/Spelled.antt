-- Which texts spell which units. Source: own.
use Rattle.std.specs.Prelude.{◌≡◌, ℕ, List, [], ◌∷◌}
use Rattle.std.specs.Str.{IsUtf8}
use Rattle.pp_grammar.specs.Units.{SpellsUnit}
use Rattle.pp_tokens.specs.Tokens.{spelled, tokens_of}
use Rattle.pp_tokens.specs.declared.token.Token.{Token}
use Rattle.pp_tree.specs.Plain.{UnitTree}

-- the text is UTF-8, and its tokens spell the unit
pub record Spells (text : List ℕ) (unit : UnitTree) : Type 0 where
  pub utf8 : IsUtf8 text
  pub tokens : List Token
  pub cut : tokens_of text ≡ spelled tokens
  pub spells : SpellsUnit text tokens unit

-- each text spells the unit at its place
pub data EachSpells : List (List ℕ) → List UnitTree → Type 0 where
  no_texts : EachSpells [] []
  more_texts : {text : List ℕ} {texts : List (List ℕ)} {unit : UnitTree} {units : List UnitTree} → Spells text unit
      → EachSpells texts units → EachSpells (text ∷ texts) (unit ∷ units)
