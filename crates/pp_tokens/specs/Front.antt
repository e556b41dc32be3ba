-- What stands at the front of characters. At each place the longest token is taken.
use Rattle.std.specs.Prelude.{ℕ, cond, ◌+◌, List, [], ◌∷◌, take, drop, Option, Some, None, codes, false}
use Rattle.std.specs.List.{prefix_len}
use Rattle.std.specs.Char.{is_ascii_digit}
use Rattle.unicode_ident.specs.Ident.{is_xid_continue}
use Rattle.pp_tokens.specs.declared.token.TokenKind.{TokenKind}
use Rattle.pp_tokens.specs.declared.token.TokenKind.TheVariants.{Name, Word, Hole, Newline}
use Rattle.pp_tokens.specs.declared.token.Reserved.{Reserved}
use Rattle.pp_tokens.specs.declared.front.Fault.TheVariants.{BadChar, OpenComment}
use Rattle.pp_tokens.specs.declared.front.Front.{Front}
use Rattle.pp_tokens.specs.declared.front.Front.TheVariants.{Takes, Bad}
use Rattle.pp_tokens.specs.Characters.{is_line_feed, is_blank, starts_name, is_operator_char, opens_line, opens_block}
use Rattle.pp_tokens.specs.Comments.{line_len, block_len}
use Rattle.pp_tokens.specs.Numbers.{number_front}
use Rattle.pp_tokens.specs.Operators.{operator_front, mark_of, mark_front}
use Rattle.pp_tokens.specs.Words.{spells, word_of}

-- characters that spell no reserved word are a name
abbrev pub word_or_name : Option Reserved → TokenKind
word_or_name (Some w) = Word w
word_or_name None = Name

-- what the characters of a name are: an underscore alone, a reserved word or a name
abbrev pub kind_of : List ℕ → TokenKind
kind_of cs = cond (spells cs (codes "_")) Hole (word_or_name (word_of cs))

-- a name is its first character and all that follow and continue names
abbrev pub name_front : List ℕ → Front
name_front cs =
    let n = 1 + prefix_len is_xid_continue (drop 1 cs) in
    Takes (Some (kind_of (take n cs))) n

-- a block comment has an end, or is a fault
abbrev pub ended_comment : Option ℕ → Front
ended_comment (Some n) = Takes None (2 + n)
ended_comment None = Bad OpenComment

abbrev pub comment_front : List ℕ → Front
comment_front cs = ended_comment (block_len 1 false (drop 2 cs))

-- what stands at the front of c and then the characters
abbrev pub front : ℕ → List ℕ → Front
front c cs =
    cond (is_line_feed c) (Takes (Some Newline) 1)
    (cond (is_blank c) (Takes None 1)
    (cond (opens_line c cs) (Takes None (line_len (c ∷ cs)))
    (cond (opens_block c cs) (comment_front (c ∷ cs))
    (cond (starts_name c) (name_front (c ∷ cs))
    (cond (is_ascii_digit c) (number_front (c ∷ cs))
    (cond (is_operator_char c) (operator_front (c ∷ cs))
    (mark_front (mark_of c))))))))

-- the same of characters, of which there is one
abbrev pub front_of : List ℕ → Front
front_of [] = Bad BadChar
front_of (c ∷ cs) = front c cs
