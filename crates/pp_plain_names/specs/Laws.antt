-- The declared names of a unit that a text spells, and those of parameters, are words, so that printed types, values
-- and lines tell their parts; and its case objects have no fields. Source: own; a name is an identifier of Unicode
-- Standard Annex 31.
use Rattle.std.specs.Prelude.{ℕ, ◌≡◌, ◌<◌, ◌==◌, ◌||◌, true, List, [], Contains}
use Rattle.std.specs.Char.{is_ascii_alphanumeric}
use Rattle.std.specs.Str.{IsUtf8}
use Rattle.pp_grammar.specs.Units.{SpellsUnit}
use Rattle.pp_tokens.specs.Tokens.{spelled, tokens_of}
use Rattle.pp_tokens.specs.declared.token.Token.{Token}
use Rattle.pp_tree.specs.Plain.{DeclTree, DefTree, ParamTree, UnitTree, ctor, def, other, root}
use Rattle.pp_typed.specs.WellSorted.{IsPlain}

-- the name of a declaration
abbrev pub declared_name : DeclTree → List ℕ
declared_name (root c) = c.name
declared_name (ctor c) = c.name
declared_name (other c) = c.name
declared_name (def d) = d.name

-- a word: its bytes of ASCII are letters, digits and underscores
abbrev pub IsWord : List ℕ → Type 0
IsWord name = (b : ℕ) → Contains name b → b < 128 → (is_ascii_alphanumeric b || (b == 95)) ≡ true

-- a case object has no fields; classes are no objects
abbrev pub IsBareObject : DeclTree → Type 0
IsBareObject (root c) = Unit {0}
IsBareObject (ctor c) = c.object ≡ true → c.fields ≡ []
IsBareObject (other c) = Unit {0}
IsBareObject (def d) = Unit {0}

-- a name that a unit of a text declares is a word
abbrev pub DeclaredNamesAreWords : Type 0
DeclaredNamesAreWords =
    (text : List ℕ) (tokens : List Token) (unit : UnitTree) (d : DeclTree) → IsUtf8 text
    → tokens_of text ≡ spelled tokens
    → SpellsUnit text tokens unit → Contains unit.decls d → IsWord (declared_name d)

-- the name of a parameter of a function that a unit of a text declares is a word
abbrev pub DeclaredParamsAreWords : Type 0
DeclaredParamsAreWords =
    (text : List ℕ) (tokens : List Token) (unit : UnitTree) (d : DefTree) (q : ParamTree) → IsUtf8 text
    → tokens_of text ≡ spelled tokens → SpellsUnit text tokens unit → Contains unit.decls (def d)
    → Contains d.params q → IsWord q.name

-- a case object that a unit of a text declares has no fields
abbrev pub DeclaredObjectsAreBare : Type 0
DeclaredObjectsAreBare =
    (text : List ℕ) (tokens : List Token) (unit : UnitTree) (d : DeclTree) → SpellsUnit text tokens unit
    → Contains unit.decls d → IsBareObject d

-- a name that a unit of a text declares has none of the marks that stand in printed types
abbrev pub DeclaredNamesArePlain : Type 0
DeclaredNamesArePlain =
    (text : List ℕ) (tokens : List Token) (unit : UnitTree) (d : DeclTree) → IsUtf8 text
    → tokens_of text ≡ spelled tokens
    → SpellsUnit text tokens unit → Contains unit.decls d → IsPlain (declared_name d)
