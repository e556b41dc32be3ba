-- The operators and the marks.
use Rattle.std.specs.Prelude.{ℕ, Bool, not, cond, ◌&&◌, ◌||◌, ◌+◌, List, [], ◌∷◌, take, Option, Some, None, find, codes}
use Rattle.pp_tokens.specs.declared.token.Operator.{Operator}
use Rattle.pp_tokens.specs.declared.token.Operator.TheVariants.{Plus, Minus, Times, Over, Percent, Equal, Differs, Less}
use Rattle.pp_tokens.specs.declared.token.Operator.TheVariants.{AtMost, More, AtLeast, AndAlso, OrElse, Not, And, Or}
use Rattle.pp_tokens.specs.declared.token.Operator.TheVariants.{Xor, Flip, Shl, Shr, Ushr, Assign, Arrow, Colon, At}
use Rattle.pp_tokens.specs.declared.token.Bracket.{Bracket}
use Rattle.pp_tokens.specs.declared.token.Bracket.TheVariants.{OpenRound, CloseRound, OpenSquare, CloseSquare}
use Rattle.pp_tokens.specs.declared.token.Bracket.TheVariants.{OpenBrace, CloseBrace, Comma, Dot, Semicolon}
use Rattle.pp_tokens.specs.declared.token.TokenKind.TheVariants.{Op, Mark}
use Rattle.pp_tokens.specs.declared.front.Fault.TheVariants.{BadChar}
use Rattle.pp_tokens.specs.declared.front.Front.{Front}
use Rattle.pp_tokens.specs.declared.front.Front.TheVariants.{Takes, Bad}
use Rattle.pp_tokens.specs.Characters.{is_operator_char, opens_line, opens_block}
use Rattle.pp_tokens.specs.Words.{spells}

abbrev pub operator_text : Operator → List ℕ
operator_text Plus = codes "+"
operator_text Minus = codes "-"
operator_text Times = codes "*"
operator_text Over = codes "/"
operator_text Percent = codes "%"
operator_text Equal = codes "=="
operator_text Differs = codes "!="
operator_text Less = codes "<"
operator_text AtMost = codes "<="
operator_text More = codes ">"
operator_text AtLeast = codes ">="
operator_text AndAlso = codes "&&"
operator_text OrElse = codes "||"
operator_text Not = codes "!"
operator_text And = codes "&"
operator_text Or = codes "|"
operator_text Xor = codes "^"
operator_text Flip = codes "~"
operator_text Shl = codes "<<"
operator_text Shr = codes ">>"
operator_text Ushr = codes ">>>"
operator_text Assign = codes "="
operator_text Arrow = codes "=>"
operator_text Colon = codes ":"
operator_text At = codes "@"

abbrev pub operators : List Operator
operators = Plus ∷ Minus ∷ Times ∷ Over ∷ Percent ∷ Equal ∷ Differs ∷ Less ∷ AtMost ∷ More ∷ AtLeast ∷ AndAlso ∷ OrElse
    ∷ Not ∷ And ∷ Or ∷ Xor ∷ Flip ∷ Shl ∷ Shr ∷ Ushr ∷ Assign ∷ Arrow ∷ Colon ∷ At ∷ []

-- the operator with these characters, if there is one
abbrev pub operator_of : List ℕ → Option Operator
operator_of cs = find (λ o. spells cs (operator_text o)) operators

-- a run of operator characters goes on with c: it is one, and no comment begins with it
abbrev pub runs_on : ℕ → List ℕ → Bool
runs_on c cs = is_operator_char c && not (opens_line c cs || opens_block c cs)

-- how long the run of operator characters is that stops before a comment
abbrev pub run_len : List ℕ → ℕ
run_len [] = 0
run_len (c ∷ cs) = cond (runs_on c cs) (1 + run_len cs) 0

-- an operator is the whole run, any other run is a fault
abbrev pub run_front : Option Operator → ℕ → Front
run_front (Some o) n = Takes (Some (Op o)) n
run_front None n = Bad BadChar

abbrev pub operator_front : List ℕ → Front
operator_front cs = run_front (operator_of (take (run_len cs) cs)) (run_len cs)

abbrev pub mark_text : Bracket → List ℕ
mark_text OpenRound = codes "("
mark_text CloseRound = codes ")"
mark_text OpenSquare = codes "["
mark_text CloseSquare = codes "]"
mark_text OpenBrace = codes "{"
mark_text CloseBrace = codes "}"
mark_text Comma = codes ","
mark_text Dot = codes "."
mark_text Semicolon = codes ";"

abbrev pub marks : List Bracket
marks = OpenRound ∷ CloseRound ∷ OpenSquare ∷ CloseSquare ∷ OpenBrace ∷ CloseBrace ∷ Comma ∷ Dot ∷ Semicolon ∷ []

-- the mark that is this character, if it is one
abbrev pub mark_of : ℕ → Option Bracket
mark_of c = find (λ b. spells (c ∷ []) (mark_text b)) marks

abbrev pub mark_front : Option Bracket → Front
mark_front (Some b) = Takes (Some (Mark b)) 1
mark_front None = Bad BadChar
