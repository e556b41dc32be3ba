-- What the parser's answers mean in the words of the grammar.
use Rattle.std.specs.Prelude.{ℕ, ◌≡◌, ◌<◌, ◌⊎◌, List, Some, None, MatchOption, Result, MatchResult}
use Rattle.pp_tokens.specs.declared.token.Token.{Token}
use Rattle.pp_tree.specs.Count.{unit_nodes}
use Rattle.pp_tree.specs.Plain.{Word, UnitTree}
use Rattle.pp_tree.specs.Roots.{too_high, unit_roots}
use Rattle.pp_grammar.specs.LeftOut.{HasLeftOut, first_unused}
use Rattle.pp_grammar.specs.Units.{SpellsUnit}
use Rattle.pp_grammar.specs.Words.{word}
use Rattle.pp_grammar_laws.specs.Laws.{SpellsNone, BeginsToken}
use Rattle.pp_parse.specs.declared.fault.ParseFault.{ParseFault}
use Rattle.pp_parse.specs.declared.fault.ParseFault.TheVariants.{Syntax, TooDeep, Unsupported, Memory}
use Rattle.pp_parse.specs.Answers.{IsUnsupported}

-- the tokens spell no unit, and have no reserved word that the grammar doesn't use
pub record IsMisspelt (text : Word) (ts : List Token) : Type 0 where
  pub unspelled : SpellsNone text ts
  pub used : first_unused ts ≡ None

-- the tokens spell a unit with a tree that is higher than 64, and the first such tree stands at the offset
pub record SpellsTooHigh (text : Word) (ts : List Token) (at : ℕ) : Type 0 where
  pub unit : UnitTree
  pub spelled : SpellsUnit text ts unit
  pub high : too_high (unit_roots unit) ≡ Some at

-- The tokens spell no unit. The word is the first reserved word that the grammar doesn't use; where there is none,
-- another word that the language leaves out. It stands at the offset.
pub record IsLeftOutAt (text : Word) (ts : List Token) (w : Word) (at : ℕ) : Type 0 where
  pub unspelled : SpellsNone text ts
  pub named : MatchOption (first_unused ts) (HasLeftOut text ts w at) (λ t. (w ≡ word text t) × (at ≡ t.from))

-- why each refusal comes; want of memory has no cause in the tokens
abbrev pub IsWhy : ParseFault → Word → List Token → Type 0
IsWhy (Syntax at) text ts = IsMisspelt text ts
IsWhy (TooDeep at) text ts = SpellsTooHigh text ts at
IsWhy (Unsupported w at) text ts = IsLeftOutAt text ts w at
IsWhy Memory text ts = Unit {0}

-- the refusal's offset is one at which a token begins
abbrev pub StandsAtToken : ParseFault → List Token → Type 0
StandsAtToken (Syntax at) ts = BeginsToken ts at
StandsAtToken (TooDeep at) ts = BeginsToken ts at
StandsAtToken (Unsupported w at) ts = BeginsToken ts at
StandsAtToken Memory ts = Unit {0}

-- the refusal is that of a tree of the unit that is higher than 64, unless memory is wanting
abbrev pub IsHigh : ParseFault → UnitTree → Type 0
IsHigh (TooDeep at) u = too_high (unit_roots u) ≡ Some at
IsHigh Memory u = Unit {0}
IsHigh _ u = ⊥

-- the answer is the unit, or the refusal of a tree of it, unless memory is wanting
abbrev pub AnswersUnit : {T : Type 0} → (T → UnitTree) → Result T ParseFault → UnitTree → Type 0
AnswersUnit unit r u = MatchResult r (λ v. unit v ≡ u) (λ f. IsHigh f u)

-- the answer is the refusal of the word at the offset, unless memory is wanting
abbrev pub RefusesWord : {T : Type 0} → Result T ParseFault → Word → ℕ → Type 0
RefusesWord r w at = MatchResult r (λ _. ⊥) (λ f. IsUnsupported f w at)

-- of so many tokens without the end, the unit has fewer nodes of expression, or none
abbrev pub HasFewNodes : ℕ → UnitTree → Type 0
HasFewNodes n u = (unit_nodes u ≡ 0) ⊎ (unit_nodes u < n)
