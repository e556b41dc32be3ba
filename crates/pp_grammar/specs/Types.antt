-- Which tokens spell a type. Each relation holds of the tokens ts from here on, of what is left of them, us, and of the
-- tree that stands between. Source: own, after the Scala Language Specification 2.13, chapter 3.
use Rattle.std.specs.Prelude.{◌≡◌, true, List, ◌∷◌, Option, Some, None}
use Rattle.pp_tokens.specs.declared.token.Token.{Token}
use Rattle.pp_tokens.specs.declared.token.TokenKind.TheVariants.{Name, Op, Mark, Newline}
use Rattle.pp_tokens.specs.declared.token.Operator.TheVariants.{Colon}
use Rattle.pp_tokens.specs.declared.token.Bracket.TheVariants.{OpenSquare, CloseSquare, Comma}
use Rattle.pp_tree.specs.Plain.{Word, TypeTree, type_text, TypeTrees, no_types, more_types}
use Rattle.pp_grammar.specs.Words.{word, is_semi}

-- [semis]
pub data IsGap : List Token → List Token → Type 0 where
  no_semi : {ts : List Token} → IsGap ts ts
  one_semi : {ts us : List Token} (t : Token) → is_semi t.kind ≡ true → IsGap ts us → IsGap (t ∷ ts) us

-- semis, one or more
pub data IsSemis : List Token → List Token → Type 0 where
  semis : {ts us : List Token} (t : Token) → is_semi t.kind ≡ true → IsGap ts us → IsSemis (t ∷ ts) us

-- [Newline]
pub data IsBreak : List Token → List Token → Type 0 where
  no_newline : {ts : List Token} → IsBreak ts ts
  one_newline : {ts : List Token} (t : Token) → t.kind ≡ Newline → IsBreak (t ∷ ts) ts

-- {Newline}
pub data IsBreaks : List Token → List Token → Type 0 where
  no_newlines : {ts : List Token} → IsBreaks ts ts
  more_newlines : {ts us : List Token} (t : Token) → t.kind ≡ Newline → IsBreaks ts us → IsBreaks (t ∷ ts) us

mutual
  -- type = name ["[" type {"," type} "]"]
  pub data IsType (text : Word) : List Token → List Token → TypeTree → Type 0 where
    type_name : {us : List Token} (t : Token) → t.kind ≡ Name
        → IsType text (t ∷ us) us (type_text t.from (word text t) no_types)
    type_of : {ts us : List Token} {args : TypeTrees} (t o : Token) → t.kind ≡ Name → o.kind ≡ Mark OpenSquare
        → IsTypes text ts us args → IsType text (t ∷ o ∷ ts) us (type_text t.from (word text t) args)

  -- type {"," type} "]"
  pub data IsTypes (text : Word) : List Token → List Token → TypeTrees → Type 0 where
    last_type : {ts us : List Token} {a : TypeTree} (c : Token) → IsType text ts (c ∷ us) a
        → c.kind ≡ Mark CloseSquare
        → IsTypes text ts us (more_types a no_types)
    one_more_type : {ts us vs : List Token} {a : TypeTree} {args : TypeTrees} (c : Token) → IsType text ts (c ∷ us) a
        → c.kind ≡ Mark Comma → IsTypes text us vs args → IsTypes text ts vs (more_types a args)

-- [":" type]
pub data IsAscription (text : Word) : List Token → List Token → Option TypeTree → Type 0 where
  no_type : {ts : List Token} → IsAscription text ts ts None
  ascribed : {ts us : List Token} {a : TypeTree} (c : Token) → c.kind ≡ Op Colon → IsType text ts us a
      → IsAscription text (c ∷ ts) us (Some a)
