-- The reserved words (Scala Language Specification 2.13, 1.1).
use Rattle.std.specs.Prelude.{ℕ, Bool, true, false, ◌&&◌, ◌==◌, List, [], ◌∷◌, Option, find, codes}
use Rattle.pp_tokens.specs.declared.token.Reserved.{Reserved}
use Rattle.pp_tokens.specs.declared.token.Reserved.TheVariants.{Abstract, Case, Catch, Class, Def, Do, Else, Extends}
use Rattle.pp_tokens.specs.declared.token.Reserved.TheVariants.{False, Final, Finally, For, ForSome, If, Implicit}
use Rattle.pp_tokens.specs.declared.token.Reserved.TheVariants.{Import, Lazy, Macro, Match, New, Null, Object, Override}
use Rattle.pp_tokens.specs.declared.token.Reserved.TheVariants.{Package, Private, Protected, Return, Sealed, Super}
use Rattle.pp_tokens.specs.declared.token.Reserved.TheVariants.{This, Throw, Trait, Try, True, «Type», Val, Var, While}
use Rattle.pp_tokens.specs.declared.token.Reserved.TheVariants.{With, Yield}

-- the characters are those of the text, which is ASCII
abbrev pub spells : List ℕ → List ℕ → Bool
spells [] [] = true
spells [] (b ∷ bs) = false
spells (c ∷ cs) [] = false
spells (c ∷ cs) (b ∷ bs) = (c == b) && spells cs bs

abbrev pub word_text : Reserved → List ℕ
word_text Abstract = codes "abstract"
word_text Case = codes "case"
word_text Catch = codes "catch"
word_text Class = codes "class"
word_text Def = codes "def"
word_text Do = codes "do"
word_text Else = codes "else"
word_text Extends = codes "extends"
word_text False = codes "false"
word_text Final = codes "final"
word_text Finally = codes "finally"
word_text For = codes "for"
word_text ForSome = codes "forSome"
word_text If = codes "if"
word_text Implicit = codes "implicit"
word_text Import = codes "import"
word_text Lazy = codes "lazy"
word_text Macro = codes "macro"
word_text Match = codes "match"
word_text New = codes "new"
word_text Null = codes "null"
word_text Object = codes "object"
word_text Override = codes "override"
word_text Package = codes "package"
word_text Private = codes "private"
word_text Protected = codes "protected"
word_text Return = codes "return"
word_text Sealed = codes "sealed"
word_text Super = codes "super"
word_text This = codes "this"
word_text Throw = codes "throw"
word_text Trait = codes "trait"
word_text Try = codes "try"
word_text True = codes "true"
word_text «Type» = codes "type"
word_text Val = codes "val"
word_text Var = codes "var"
word_text While = codes "while"
word_text With = codes "with"
word_text Yield = codes "yield"

abbrev pub words : List Reserved
words = Abstract ∷ Case ∷ Catch ∷ Class ∷ Def ∷ Do ∷ Else ∷ Extends ∷ False ∷ Final ∷ Finally ∷ For ∷ ForSome ∷ If
    ∷ Implicit ∷ Import ∷ Lazy ∷ Macro ∷ Match ∷ New ∷ Null ∷ Object ∷ Override ∷ Package ∷ Private ∷ Protected ∷ Return
    ∷ Sealed ∷ Super ∷ This ∷ Throw ∷ Trait ∷ Try ∷ True ∷ «Type» ∷ Val ∷ Var ∷ While ∷ With ∷ Yield ∷ []

-- the reserved word with these characters, if there is one
abbrev pub word_of : List ℕ → Option Reserved
word_of cs = find (λ w. spells cs (word_text w)) words
