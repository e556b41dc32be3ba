-- Which words the language leaves out. Source: own.
use Rattle.std.specs.Prelude.{ℕ, ◌≡◌, Bool, true, false, not, cond, List, [], ◌∷◌, ◌++◌, Option, Some, None}
use Rattle.pp_tokens.specs.declared.token.Token.{Token}
use Rattle.pp_tokens.specs.declared.token.TokenKind.{TokenKind}
use Rattle.pp_tokens.specs.declared.token.TokenKind.TheVariants.{Name, Word as Reserve, Op}
use Rattle.pp_tokens.specs.declared.token.Reserved.{Reserved}
use Rattle.pp_tokens.specs.declared.token.Reserved.TheVariants.{Abstract, Case, Class, Def, Else, Extends, False, Final}
use Rattle.pp_tokens.specs.declared.token.Reserved.TheVariants.{If, Import, Match, Object, Package, Sealed, Trait, True}
use Rattle.pp_tokens.specs.declared.token.Reserved.TheVariants.{Val}
use Rattle.pp_tokens.specs.declared.token.Operator.TheVariants.{At}
use Rattle.pp_tree.specs.Plain.{Word}
use Rattle.pp_grammar.specs.Words.{word, role, require_word, decreases_word, is_library, is_known_annotation}
use Rattle.pp_grammar.specs.Units.{IsImportText}

-- the reserved words that the grammar uses
abbrev pub is_used : Reserved → Bool
is_used Abstract = true
is_used Case = true
is_used Class = true
is_used Def = true
is_used Else = true
is_used Extends = true
is_used False = true
is_used Final = true
is_used If = true
is_used Import = true
is_used Match = true
is_used Object = true
is_used Package = true
is_used Sealed = true
is_used Trait = true
is_used True = true
is_used Val = true
is_used _ = false

-- a reserved word that the grammar doesn't use
abbrev pub is_unused : TokenKind → Bool
is_unused (Reserve w) = not (is_used w)
is_unused _ = false

-- the first of them
abbrev pub first_unused : List Token → Option Token
first_unused [] = None
first_unused (t ∷ ts) = cond (is_unused t.kind) (Some t) (first_unused ts)

-- At these tokens begins what the language leaves out, under the name of the token n: a `require` or `decreases`, an
-- import that is spelled but isn't passed over, an annotation that isn't passed over.
pub data LeavesOut (text : Word) : List Token → Token → Type 0 where
  a_requirement : {ts : List Token} (n : Token) → n.kind ≡ Name → role (word text n) ≡ require_word
      → LeavesOut text (n ∷ ts) n
  a_measure : {ts : List Token} (n : Token) → n.kind ≡ Name → role (word text n) ≡ decreases_word
      → LeavesOut text (n ∷ ts) n
  an_import : {ts us : List Token} (n : Token) → IsImportText text ts us n false → is_library (word text n) ≡ false
      → LeavesOut text ts n
  an_annotation : {ts : List Token} (a n : Token) → a.kind ≡ Op At → n.kind ≡ Name
      → is_known_annotation (word text n) ≡ false → LeavesOut text (a ∷ n ∷ ts) n

-- among the tokens stands a word that is left out, with this name and at this offset
pub record HasLeftOut (text : Word) (ts : List Token) (w : Word) (at : ℕ) : Type 0 where
  pub front : List Token
  pub rest : List Token
  pub name : Token
  pub whole : ts ≡ front ++ rest
  pub left_out : LeavesOut text rest name
  pub is_name : word text name ≡ w
  pub is_place : name.from ≡ at
