-- Which tokens spell functions, classes, objects, imports and a whole unit.
-- Source: own, after the Scala Language Specification 2.13, chapters 4, 5 and 9.
use Rattle.std.specs.Prelude.{ℕ, zero, suc, ◌≡◌, Bool, true, false, List, [], ◌∷◌, ◌++◌, Option, Some, None}
use Rattle.pp_tokens.specs.declared.token.Token.{Token}
use Rattle.pp_tokens.specs.declared.token.TokenKind.{TokenKind}
use Rattle.pp_tokens.specs.declared.token.TokenKind.TheVariants.{Name, Word as Reserve, Op, Mark, Hole, End}
use Rattle.pp_tokens.specs.declared.token.Reserved.TheVariants.{Abstract, Case, Def, Extends, Final, Import, Object}
use Rattle.pp_tokens.specs.declared.token.Reserved.TheVariants.{Package, Sealed}
use Rattle.pp_tokens.specs.declared.token.Operator.TheVariants.{Assign, Colon, At}
use Rattle.pp_tokens.specs.declared.token.Bracket.TheVariants.{OpenRound, CloseRound, OpenSquare, CloseSquare}
use Rattle.pp_tokens.specs.declared.token.Bracket.TheVariants.{OpenBrace, CloseBrace, Comma, Dot}
use Rattle.pp_tree.specs.Plain.{Word, TypeTree, Tree, ParamTree, ClassTree, PostTree, DeclTree, root, ctor, other, def}
use Rattle.pp_tree.specs.Plain.{ImportTree, UnitTree}
use Rattle.pp_grammar.specs.Words.{word, is_library, is_known_annotation, is_trait_word, begins_dot}
use Rattle.pp_grammar.specs.Types.{IsGap, IsSemis, IsBreak, IsType}
use Rattle.pp_grammar.specs.Bodies.{IsBody}

-- ---- heads

-- {annot}, with annot = "@" name [Newline]: only `@induct` and `@inline` are passed over, and others are spelled by
-- nothing
pub data IsAnnotations (text : Word) : List Token → List Token → Type 0 where
  no_annotation : {ts : List Token} → IsAnnotations text ts ts
  one_annotation : {ts us vs : List Token} (a n : Token) → a.kind ≡ Op At → n.kind ≡ Name
      → is_known_annotation (word text n) ≡ true → IsBreak ts us → IsAnnotations text us vs
      → IsAnnotations text (a ∷ n ∷ ts) vs

-- name {"," name} "]"
pub data IsNames (text : Word) : List Token → List Token → List Word → Type 0 where
  last_name : {us : List Token} (n c : Token) → n.kind ≡ Name → c.kind ≡ Mark CloseSquare
      → IsNames text (n ∷ c ∷ us) us (word text n ∷ [])
  one_more_name : {ts us : List Token} {ns : List Word} (n c : Token) → n.kind ≡ Name → c.kind ≡ Mark Comma
      → IsNames text ts us ns → IsNames text (n ∷ c ∷ ts) us (word text n ∷ ns)

-- [tparams], with tparams = "[" name {"," name} "]"
pub data IsTypeParams (text : Word) : List Token → List Token → List Word → Type 0 where
  no_type_params : {ts : List Token} → IsTypeParams text ts ts []
  type_params : {ts us : List Token} {ns : List Word} (o : Token) → o.kind ≡ Mark OpenSquare → IsNames text ts us ns
      → IsTypeParams text (o ∷ ts) us ns

abbrev pub param_at : Word → Token → TypeTree → ParamTree
param_at text n t = record { at = n.from; name = word text n; of = t }

-- params ")", with params = name ":" type {"," name ":" type}
pub data IsParams (text : Word) : List Token → List Token → List ParamTree → Type 0 where
  last_param : {ts us : List Token} {t : TypeTree} (n c e : Token) → n.kind ≡ Name → c.kind ≡ Op Colon
      → IsType text ts (e ∷ us) t → e.kind ≡ Mark CloseRound → IsParams text (n ∷ c ∷ ts) us (param_at text n t ∷ [])
  one_more_param : {ts us vs : List Token} {t : TypeTree} {ps : List ParamTree} (n c e : Token) → n.kind ≡ Name
      → c.kind ≡ Op Colon → IsType text ts (e ∷ us) t → e.kind ≡ Mark Comma → IsParams text us vs ps
      → IsParams text (n ∷ c ∷ ts) vs (param_at text n t ∷ ps)

-- ["(" [params] ")"]: whether the list is written, and what it holds
pub data IsParamList (text : Word) : List Token → List Token → Bool → List ParamTree → Type 0 where
  no_list : {ts : List Token} → IsParamList text ts ts false []
  empty_list : {us : List Token} (o c : Token) → o.kind ≡ Mark OpenRound → c.kind ≡ Mark CloseRound
      → IsParamList text (o ∷ c ∷ us) us true []
  param_list : {ts us : List Token} {ps : List ParamTree} (o : Token) → o.kind ≡ Mark OpenRound
      → IsParams text ts us ps → IsParamList text (o ∷ ts) us true ps

-- ---- functions and classes

-- def = {annot} "def" name [tparams] ["(" [params] ")"] ":" type "=" body
pub data IsDef (text : Word) : List Token → List Token → DeclTree → Type 0 where
  def_of : {ts us vs ws xs ys : List Token} {tparams : List Word} {listed : Bool} {params : List ParamTree}
      {result : TypeTree} {pre measure : List Tree} {body : Tree} {post : Option PostTree} (d n c q : Token)
      → IsAnnotations text ts (d ∷ n ∷ us) → d.kind ≡ Reserve Def → n.kind ≡ Name → IsTypeParams text us vs tparams
      → IsParamList text vs (c ∷ ws) listed params → c.kind ≡ Op Colon → IsType text ws (q ∷ xs) result
      → q.kind ≡ Op Assign → IsBody text xs ys pre measure body post
      → IsDef text ts ys (def (record {
        at = n.from;
        name = word text n;
        type_params = tparams;
        params = params;
        list = listed;
        result = result;
        pre = pre;
        measure = measure;
        body = body;
        post = post;
      }))

-- which of the words before `class` or `trait` stand there
pub record Modifiers : Type 0 where
  pub sealed : Bool
  pub case : Bool

abbrev pub unmodified : Modifiers
unmodified = record { sealed = false; case = false }

-- the modifiers with one more word, if it is one
abbrev pub modified : Modifiers → TokenKind → Option Modifiers
modified m (Reserve Sealed) = Some (record { sealed = true; case = m.case })
modified m (Reserve Case) = Some (record { sealed = m.sealed; case = true })
modified m (Reserve Abstract) = Some m
modified m (Reserve Final) = Some m
modified m _ = None

-- {"sealed"|"abstract"|"final"|"case"}, behind the modifiers m
pub data IsModified : List Token → List Token → Modifiers → Modifiers → Type 0 where
  no_modifier : {ts : List Token} {m : Modifiers} → IsModified ts ts m m
  one_modifier : {ts us : List Token} {m n k : Modifiers} (t : Token) → modified m t.kind ≡ Some n
      → IsModified ts us n k → IsModified (t ∷ ts) us m k

-- ["extends" type]
pub data IsParent (text : Word) : List Token → List Token → Option TypeTree → Type 0 where
  no_parent : {ts : List Token} → IsParent text ts ts None
  parent : {ts us : List Token} {t : TypeTree} (x : Token) → x.kind ≡ Reserve Extends → IsType text ts us t
      → IsParent text (x ∷ ts) us (Some t)

-- a root has neither fields nor a parent
abbrev pub root_or_other : List ParamTree → Option TypeTree → ClassTree → DeclTree
root_or_other [] None c = root c
root_or_other fields extended c = other c

-- A case class is a constructor. A sealed class or trait without the word `case`, without fields and without a parent
-- is a root. Any other class or trait is neither. The first three arguments are: sealed, case, trait.
abbrev pub class_decl : Bool → Bool → Bool → ClassTree → DeclTree
class_decl sealed true false c = ctor c
class_decl true false trait c = root_or_other c.fields c.parent c
class_decl sealed case trait c = other c

-- class
pub data IsClass (text : Word) : List Token → List Token → DeclTree → Type 0 where
  class_of : {ts us vs ws xs ys : List Token} {m : Modifiers} {trait listed : Bool} {tparams : List Word}
      {fields : List ParamTree} {extended : Option TypeTree} (k n : Token) → IsAnnotations text ts us
      → IsModified us (k ∷ n ∷ vs) unmodified m → is_trait_word k.kind ≡ Some trait → n.kind ≡ Name
      → IsTypeParams text vs ws tparams → IsParamList text ws xs listed fields → IsParent text xs ys extended
      → IsClass text ts ys (class_decl m.sealed m.case trait (record {
        at = n.from;
        name = word text n;
        params = tparams;
        fields = fields;
        parent = extended;
        object = false;
      }))
  case_object : {ts us vs : List Token} {t : TypeTree} (c k n x : Token) → IsAnnotations text ts (c ∷ k ∷ n ∷ x ∷ us)
      → c.kind ≡ Reserve Case → k.kind ≡ Reserve Object → n.kind ≡ Name → x.kind ≡ Reserve Extends
      → IsType text us vs t
      → IsClass text ts vs (ctor (record {
        at = n.from;
        name = word text n;
        params = [];
        fields = [];
        parent = Some t;
        object = true;
      }))

-- ---- imports

-- path = name {"." name}, with the number of its names
pub data IsPath (text : Word) : List Token → List Token → ℕ → Type 0 where
  last_of_path : {us : List Token} (n : Token) → n.kind ≡ Name → IsPath text (n ∷ us) us (suc zero)
  more_of_path : {ts us : List Token} {k : ℕ} (n dot : Token) → n.kind ≡ Name → dot.kind ≡ Mark Dot
      → IsPath text ts us k → IsPath text (n ∷ dot ∷ ts) us (suc k)

-- name {"," name} "}"
pub data IsChoice : List Token → List Token → Type 0 where
  last_chosen : {us : List Token} (n c : Token) → n.kind ≡ Name → c.kind ≡ Mark CloseBrace → IsChoice (n ∷ c ∷ us) us
  one_more_chosen : {ts us : List Token} (n c : Token) → n.kind ≡ Name → c.kind ≡ Mark Comma → IsChoice ts us
      → IsChoice (n ∷ c ∷ ts) us

-- Whether an import is that of all members of one name, `import X._`.
abbrev pub is_one : ℕ → Bool
is_one (suc zero) = true
is_one _ = false

-- import = "import" path ["." "_" | "." "{" name {"," name} "}"], whose path begins with the token n. It is one of all
-- members of one name, or of another form.
pub data IsImportText (text : Word) : List Token → List Token → Token → Bool → Type 0 where
  import_path : {ts us : List Token} {k : ℕ} (i n : Token) → i.kind ≡ Reserve Import → IsPath text (n ∷ ts) us k
      → begins_dot us ≡ false → IsImportText text (i ∷ n ∷ ts) us n false
  import_all : {ts us : List Token} {k : ℕ} (i n dot h : Token) → i.kind ≡ Reserve Import
      → IsPath text (n ∷ ts) (dot ∷ h ∷ us) k → dot.kind ≡ Mark Dot → h.kind ≡ Hole
      → IsImportText text (i ∷ n ∷ ts) us n (is_one k)
  import_some : {ts us vs : List Token} {k : ℕ} (i n dot o : Token) → i.kind ≡ Reserve Import
      → IsPath text (n ∷ ts) (dot ∷ o ∷ us) k → dot.kind ≡ Mark Dot → o.kind ≡ Mark OpenBrace → IsChoice us vs
      → IsImportText text (i ∷ n ∷ ts) vs n false

-- ---- objects and units

-- what an item or a member adds to the unit
pub data Piece : Type 0 where
  import_piece : ImportTree → Piece
  object_piece : Word → Piece
  decl_piece : DeclTree → Piece

-- An import of a library is passed over, and so is one of all members of one name, which the unit keeps. Every other
-- import is spelled by nothing.
pub data IsImport (text : Word) : List Token → List Token → List Piece → Type 0 where
  library : {ts us : List Token} {all_of_one : Bool} (n : Token) → IsImportText text ts us n all_of_one
      → is_library (word text n) ≡ true → IsImport text ts us []
  of_object : {ts us : List Token} (n : Token) → IsImportText text ts us n true → is_library (word text n) ≡ false
      → IsImport text ts us (import_piece (record { name = word text n; at = n.from }) ∷ [])

-- member = import | class | def
pub data IsMember (text : Word) : List Token → List Token → List Piece → Type 0 where
  member_import : {ts us : List Token} {ps : List Piece} → IsImport text ts us ps → IsMember text ts us ps
  member_class : {ts us : List Token} {d : DeclTree} → IsClass text ts us d → IsMember text ts us (decl_piece d ∷ [])
  member_def : {ts us : List Token} {d : DeclTree} → IsDef text ts us d → IsMember text ts us (decl_piece d ∷ [])

-- {semis member}
pub data IsMoreMembers (text : Word) : List Token → List Token → List Piece → Type 0 where
  no_more_members : {ts : List Token} → IsMoreMembers text ts ts []
  one_more_member : {ts us vs ws : List Token} {ps qs : List Piece} → IsSemis ts us → IsMember text us vs ps
      → IsMoreMembers text vs ws qs → IsMoreMembers text ts ws (ps ++ qs)

-- [member {semis member}]
pub data IsMembers (text : Word) : List Token → List Token → List Piece → Type 0 where
  no_members : {ts : List Token} → IsMembers text ts ts []
  members : {ts us vs : List Token} {ps qs : List Piece} → IsMember text ts us ps → IsMoreMembers text us vs qs
      → IsMembers text ts vs (ps ++ qs)

-- object = "object" name [Newline] "{" [semis] [member {semis member}] [semis] "}"
pub data IsObject (text : Word) : List Token → List Token → List Piece → Type 0 where
  object_of : {ts us vs ws xs : List Token} {ps : List Piece} (b n o c : Token) → b.kind ≡ Reserve Object
      → n.kind ≡ Name → IsBreak ts (o ∷ us) → o.kind ≡ Mark OpenBrace → IsGap us vs → IsMembers text vs ws ps
      → IsGap ws (c ∷ xs) → c.kind ≡ Mark CloseBrace
      → IsObject text (b ∷ n ∷ ts) xs (object_piece (word text n) ∷ ps)

-- item = import | object | class
pub data IsItem (text : Word) : List Token → List Token → List Piece → Type 0 where
  item_import : {ts us : List Token} {ps : List Piece} → IsImport text ts us ps → IsItem text ts us ps
  item_object : {ts us : List Token} {ps : List Piece} → IsObject text ts us ps → IsItem text ts us ps
  item_class : {ts us : List Token} {d : DeclTree} → IsClass text ts us d → IsItem text ts us (decl_piece d ∷ [])

-- {semis item}
pub data IsMoreItems (text : Word) : List Token → List Token → List Piece → Type 0 where
  no_more_items : {ts : List Token} → IsMoreItems text ts ts []
  one_more_item : {ts us vs ws : List Token} {ps qs : List Piece} → IsSemis ts us → IsItem text us vs ps
      → IsMoreItems text vs ws qs → IsMoreItems text ts ws (ps ++ qs)

-- [item {semis item}]
pub data IsItems (text : Word) : List Token → List Token → List Piece → Type 0 where
  no_items : {ts : List Token} → IsItems text ts ts []
  items : {ts us vs : List Token} {ps qs : List Piece} → IsItem text ts us ps → IsMoreItems text us vs qs
      → IsItems text ts vs (ps ++ qs)

-- {"package" path semis}
pub data IsPackages (text : Word) : List Token → List Token → Type 0 where
  no_package : {ts : List Token} → IsPackages text ts ts
  one_package : {ts us vs ws : List Token} {k : ℕ} (p : Token) → p.kind ≡ Reserve Package → IsPath text ts us k
      → IsSemis us vs → IsPackages text vs ws → IsPackages text (p ∷ ts) ws

-- the pieces as a unit
abbrev pub imports_of : List Piece → List ImportTree
imports_of [] = []
imports_of (import_piece i ∷ ps) = i ∷ imports_of ps
imports_of (_ ∷ ps) = imports_of ps

abbrev pub objects_of : List Piece → List Word
objects_of [] = []
objects_of (object_piece w ∷ ps) = w ∷ objects_of ps
objects_of (_ ∷ ps) = objects_of ps

abbrev pub decls_of : List Piece → List DeclTree
decls_of [] = []
decls_of (decl_piece d ∷ ps) = d ∷ decls_of ps
decls_of (_ ∷ ps) = decls_of ps

abbrev pub unit_of_pieces : List Piece → UnitTree
unit_of_pieces ps = record { imports = imports_of ps; objects = objects_of ps; decls = decls_of ps }

-- unit = [semis] {"package" path semis} [item {semis item}] [semis] End: all the tokens spell the unit
pub data SpellsUnit (text : Word) : List Token → UnitTree → Type 0 where
  unit : {ts us vs ws : List Token} {ps : List Piece} (e : Token) → IsGap ts us → IsPackages text us vs
      → IsItems text vs ws ps → IsGap ws (e ∷ []) → e.kind ≡ End → SpellsUnit text ts (unit_of_pieces ps)
