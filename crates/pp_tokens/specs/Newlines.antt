-- Which line feeds are tokens (Scala Language Specification 2.13, 1.2; own: blank lines make no difference, and which
-- tokens can end and begin a statement is said of the tokens of this language).
use Rattle.std.specs.Prelude.{Bool, true, false, cond, ◌&&◌, List, [], ◌∷◌, ◌++◌, Option, Some, None}
use Rattle.pp_tokens.specs.declared.token.TokenKind.{TokenKind}
use Rattle.pp_tokens.specs.declared.token.TokenKind.TheVariants.{Name, Word, Number, Hex, Op, Mark, Hole, Newline, End}
use Rattle.pp_tokens.specs.declared.token.Token.{Token}
use Rattle.pp_tokens.specs.declared.token.Reserved.TheVariants.{Case, Catch, Class, Else, Extends, False, Finally}
use Rattle.pp_tokens.specs.declared.token.Reserved.TheVariants.{ForSome, Match, Null, Object, Return, This, True}
use Rattle.pp_tokens.specs.declared.token.Reserved.TheVariants.{«Type», With, Yield}
use Rattle.pp_tokens.specs.declared.token.Operator.TheVariants.{Assign, Arrow, Colon}
use Rattle.pp_tokens.specs.declared.token.Bracket.TheVariants.{OpenRound, CloseRound, OpenSquare, CloseSquare}
use Rattle.pp_tokens.specs.declared.token.Bracket.TheVariants.{OpenBrace, CloseBrace, Comma, Dot, Semicolon}
use Rattle.pp_tokens.specs.declared.newlines.Region.{Region}
use Rattle.pp_tokens.specs.declared.newlines.Region.TheVariants.{Round, Square, Brace, Case as CaseHead}

abbrev pub is_newline : TokenKind → Bool
is_newline Newline = true
is_newline _ = false

-- a statement can end with a number, a name, `_ ) ] } true false this null return type`
abbrev pub can_end : TokenKind → Bool
can_end Name = true
can_end (Number n) = true
can_end (Hex n) = true
can_end Hole = true
can_end (Mark CloseRound) = true
can_end (Mark CloseSquare) = true
can_end (Mark CloseBrace) = true
can_end (Word True) = true
can_end (Word False) = true
can_end (Word This) = true
can_end (Word Null) = true
can_end (Word Return) = true
can_end (Word «Type») = true
can_end _ = false

-- `case` before this token begins a declaration
abbrev pub declares : TokenKind → Bool
declares (Word Class) = true
declares (Word Object) = true
declares _ = false

-- A statement can begin with every token except `catch else extends finally forSome match with yield , . : ; = => [ ) ]
-- }` and the end of the source; with `case` only before `class` or `object`.
abbrev pub can_begin : TokenKind → TokenKind → Bool
can_begin (Word Case) next = declares next
can_begin (Word Catch) next = false
can_begin (Word Else) next = false
can_begin (Word Extends) next = false
can_begin (Word Finally) next = false
can_begin (Word ForSome) next = false
can_begin (Word Match) next = false
can_begin (Word With) next = false
can_begin (Word Yield) next = false
can_begin (Mark Comma) next = false
can_begin (Mark Dot) next = false
can_begin (Mark Semicolon) next = false
can_begin (Mark OpenSquare) next = false
can_begin (Mark CloseRound) next = false
can_begin (Mark CloseSquare) next = false
can_begin (Mark CloseBrace) next = false
can_begin (Op Colon) next = false
can_begin (Op Assign) next = false
can_begin (Op Arrow) next = false
can_begin Newline next = false
can_begin End next = false
can_begin _ next = true

-- the kind of the first token that is no line feed
abbrev pub next_kind : List Token → TokenKind
next_kind [] = End
next_kind (t ∷ ts) = cond (is_newline t.kind) (next_kind ts) t.kind

-- newlines are enabled: no region is open, or the innermost one is a pair of braces
abbrev pub enabled : List Region → Bool
enabled [] = true
enabled (Brace ∷ rs) = true
enabled (r ∷ rs) = false

-- round and square brackets and braces open a region, and so does a `case` that begins no declaration
abbrev pub opened_by : TokenKind → TokenKind → Option Region
opened_by (Mark OpenRound) next = Some Round
opened_by (Mark OpenSquare) next = Some Square
opened_by (Mark OpenBrace) next = Some Brace
opened_by (Word Case) next = cond (declares next) None (Some CaseHead)
opened_by _ next = None

-- a region ends with its own closing bracket, that of a `case` with its `=>`
abbrev pub is_closed_by : Region → TokenKind → Bool
is_closed_by Round (Mark CloseRound) = true
is_closed_by Square (Mark CloseSquare) = true
is_closed_by Brace (Mark CloseBrace) = true
is_closed_by CaseHead (Op Arrow) = true
is_closed_by _ _ = false

-- the regions, the innermost first, without that one if it ends with the token
abbrev pub left_by : TokenKind → List Region → List Region
left_by kind [] = []
left_by kind (r ∷ rs) = cond (is_closed_by r kind) rs (r ∷ rs)

abbrev pub with_region : Option Region → TokenKind → List Region → List Region
with_region (Some r) kind rs = r ∷ rs
with_region None kind rs = left_by kind rs

-- the regions behind a token
abbrev pub inside : TokenKind → TokenKind → List Region → List Region
inside kind next rs = with_region (opened_by kind next) kind rs

-- the first of the line feeds since the last token
abbrev pub first_feed : Option Token → Token → Option Token
first_feed None t = Some t
first_feed (Some u) t = Some u

-- a token, and before it the newline that stands there, where one is wanted
abbrev pub behind_feed : Option Token → Token → List Token
behind_feed None t = t ∷ []
behind_feed (Some u) t = u ∷ t ∷ []

abbrev pub kept : Bool → Option Token → Token → List Token
kept true waiting t = behind_feed waiting t
kept false waiting t = t ∷ []

-- The tokens without the line feeds that end no statement. The regions rs are open, the innermost first; ended tells
-- whether a statement can end with the last token, and waiting is the first line feed since then. One newline stands
-- before a token where there is a line feed since the token before, a statement can end with that one and begin with
-- this one, and newlines are enabled.
abbrev pub newlines : List Region → Bool → Option Token → List Token → List Token
newlines rs ended waiting [] = []
newlines rs ended waiting (t ∷ ts) =
    cond (is_newline t.kind) (newlines rs ended (first_feed waiting t) ts)
    (kept (ended && can_begin t.kind (next_kind ts) && enabled rs) waiting t
    ++ newlines (inside t.kind (next_kind ts) rs) (can_end t.kind) None ts)
