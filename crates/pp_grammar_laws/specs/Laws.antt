-- What the parser's contract says of the grammar.
use Rattle.std.specs.Prelude.{ℕ, ◌≡◌, List, ◌∷◌, ◌++◌}
use Rattle.pp_tokens.specs.declared.token.Token.{Token}
use Rattle.pp_tree.specs.Plain.{Word, UnitTree}
use Rattle.pp_grammar.specs.Units.{SpellsUnit}

-- tokens spell at most one unit
abbrev pub UnitIsUnique : Type 0
UnitIsUnique = (text : Word) (ts : List Token) (u v : UnitTree) → SpellsUnit text ts u → SpellsUnit text ts v → u ≡ v

-- the tokens spell no unit
abbrev pub SpellsNone : Word → List Token → Type 0
SpellsNone text ts = (u : UnitTree) → SpellsUnit text ts u → ⊥

-- one of the tokens begins at the offset
pub record BeginsToken (ts : List Token) (at : ℕ) : Type 0 where
  pub front : List Token
  pub token : Token
  pub rest : List Token
  pub whole : ts ≡ front ++ token ∷ rest
  pub place : token.from ≡ at
