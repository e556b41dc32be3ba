-- What single tokens mean: the names with a meaning of their own, the operators with their levels, the numbers.
-- Source: Stainless documentation, for the words; Scala Language Specification 2.13, 6.12.3, for the levels; else own.
use Rattle.std.specs.Prelude.{ℕ, Bool, true, false, cond, ◌&&◌, ◌||◌, ◌==◌, nat_le, nat_lt, List, [], ◌∷◌, Option, Some}
use Rattle.std.specs.Prelude.{None, ℤ, neg_ℤ, slice_range, bytes_eq, codes}
use Rattle.std.specs.Int.{w32, cast_signed, int_wrap}
use Rattle.pp_tokens.specs.declared.token.Token.{Token}
use Rattle.pp_tokens.specs.declared.token.TokenKind.{TokenKind}
use Rattle.pp_tokens.specs.declared.token.TokenKind.TheVariants.{Word as Reserve, Number, Hex, Op, Mark, Newline}
use Rattle.pp_tokens.specs.declared.token.Reserved.TheVariants.{Class, Trait}
use Rattle.pp_tokens.specs.declared.token.Operator.{Operator}
use Rattle.pp_tokens.specs.declared.token.Operator.TheVariants.{Plus, Minus, Times, Over, Percent, Equal, Differs, Less}
use Rattle.pp_tokens.specs.declared.token.Operator.TheVariants.{AtMost, More, AtLeast, AndAlso, OrElse, Not, And, Or}
use Rattle.pp_tokens.specs.declared.token.Operator.TheVariants.{Xor, Flip, Shl, Shr, Ushr}
use Rattle.pp_tokens.specs.declared.token.Bracket.TheVariants.{Semicolon, Dot}
use Rattle.pp_tree.specs.declared.operator.BinaryOp.{BinaryOp}
use Rattle.pp_tree.specs.declared.operator.BinaryOp.TheVariants as binary
use Rattle.pp_tree.specs.declared.operator.UnaryOp.{UnaryOp}
use Rattle.pp_tree.specs.declared.operator.UnaryOp.TheVariants as unary
use Rattle.pp_tree.specs.Plain.{Word}

-- the bytes of a token
abbrev pub word : Word → Token → Word
word text t = slice_range text t.from t.to

-- The name of the result in `holds` and in a claim with a hole.
abbrev pub res : Word
res = codes "res"

-- What a name may stand for in an expression: the words of contracts and of the two types stand there only where the
-- grammar shows them.
pub data Role : Type 0 where
  plain : Role
  require_word : Role
  decreases_word : Role
  ensuring_word : Role
  holds_word : Role
  assert_word : Role
  int_word : Role
  boolean_word : Role

abbrev pub role : Word → Role
role w =
    cond (bytes_eq w (codes "require")) require_word (cond (bytes_eq w (codes "decreases")) decreases_word
    (cond (bytes_eq w (codes "ensuring")) ensuring_word (cond (bytes_eq w (codes "holds")) holds_word
    (cond (bytes_eq w (codes "assert")) assert_word (cond (bytes_eq w (codes "Int")) int_word
    (cond (bytes_eq w (codes "Boolean")) boolean_word plain))))))

-- the bounds of `Int`: `MinValue` and `MaxValue`
abbrev pub bound_of : Word → Option ℤ
bound_of w =
    cond (bytes_eq w (codes "MinValue")) (Some (cast_signed w32 2147483648))
    (cond (bytes_eq w (codes "MaxValue")) (Some (cast_signed w32 2147483647)) None)

-- a path that begins so is that of a library whose imports are passed over
abbrev pub is_library : Word → Bool
is_library w = bytes_eq w (codes "stainless") || bytes_eq w (codes "leon")

-- the annotations that are passed over
abbrev pub is_known_annotation : Word → Bool
is_known_annotation w = bytes_eq w (codes "induct") || bytes_eq w (codes "inline")

-- a name that binds in a pattern where no `(` follows: its first character is `a` to `z` or `_`
abbrev pub binds : Word → Bool
binds [] = false
binds (c ∷ cs) = (nat_le 97 c && nat_le c 122) || (c == 95)

-- `;` and newlines stand between statements, members and items
abbrev pub is_semi : TokenKind → Bool
is_semi Newline = true
is_semi (Mark Semicolon) = true
is_semi _ = false

-- ---- operators

abbrev pub unary_of : Operator → Option UnaryOp
unary_of Minus = Some unary.Neg
unary_of Not = Some unary.Not
unary_of Flip = Some unary.Flip
unary_of _ = None

abbrev pub binary_of : Operator → Option BinaryOp
binary_of Plus = Some binary.Add
binary_of Minus = Some binary.Sub
binary_of Times = Some binary.Mul
binary_of Over = Some binary.Div
binary_of Percent = Some binary.Rem
binary_of Equal = Some binary.Equal
binary_of Differs = Some binary.Differ
binary_of Less = Some binary.Less
binary_of AtMost = Some binary.AtMost
binary_of More = Some binary.More
binary_of AtLeast = Some binary.AtLeast
binary_of AndAlso = Some binary.AndAlso
binary_of OrElse = Some binary.OrElse
binary_of And = Some binary.And
binary_of Or = Some binary.Or
binary_of Xor = Some binary.Xor
binary_of Shl = Some binary.Shl
binary_of Shr = Some binary.Shr
binary_of Ushr = Some binary.Ushr
binary_of _ = None

-- The levels, from weakest to strongest: level 1 is that of `ensuring` and `holds`, 2 to 8 are those of the operators
-- with two operands, 9 is that of a prefix. All associate to the left.
abbrev pub level : BinaryOp → ℕ
level binary.Or = 2
level binary.OrElse = 2
level binary.Xor = 3
level binary.And = 4
level binary.AndAlso = 4
level binary.Equal = 5
level binary.Differ = 5
level binary.Less = 6
level binary.AtMost = 6
level binary.More = 6
level binary.AtLeast = 6
level binary.Shl = 6
level binary.Shr = 6
level binary.Ushr = 6
level binary.Add = 7
level binary.Sub = 7
level binary.Mul = 8
level binary.Div = 8
level binary.Rem = 8

-- the level of any infix expression, and that of an operand with its prefix
abbrev pub loosest : ℕ
loosest = 2

abbrev pub tightest : ℕ
tightest = 9

-- ---- numbers

-- the word with these bits, in two's complement, and its wrapped negation
abbrev pub word_of_bits : ℕ → ℤ
word_of_bits n = cast_signed w32 n

abbrev pub negation_of_bits : ℕ → ℤ
negation_of_bits n = int_wrap w32 (neg_ℤ (cast_signed w32 n))

-- the number of a token that stands by itself: a decimal one is below 2147483648
abbrev pub number_of : TokenKind → Option ℤ
number_of (Number n) = cond (nat_lt n 2147483648) (Some (word_of_bits n)) None
number_of (Hex n) = Some (word_of_bits n)
number_of _ = None

-- the number of a token with a minus sign before it, where a space stands between the two
abbrev pub negated_of : TokenKind → Option ℤ
negated_of (Number n) = cond (nat_lt n 2147483648) (Some (negation_of_bits n)) None
negated_of (Hex n) = Some (negation_of_bits n)
negated_of _ = None

-- .. and where none does: here a decimal one may be 2147483648
abbrev pub negative_of : TokenKind → Option ℤ
negative_of (Number n) = cond (nat_le n 2147483648) (Some (negation_of_bits n)) None
negative_of (Hex n) = Some (negation_of_bits n)
negative_of _ = None

abbrev pub is_number : TokenKind → Bool
is_number (Number n) = true
is_number (Hex n) = true
is_number _ = false

abbrev pub is_minus : TokenKind → Bool
is_minus (Op Minus) = true
is_minus _ = false

-- A minus sign directly before a number, with no space between, is its sign. Here the sign ends at the offset.
abbrev pub is_signed : ℕ → Token → Bool
is_signed end t = is_number t.kind && (end == t.from)

abbrev pub is_sign : Token → List Token → Bool
is_sign m [] = false
is_sign m (t ∷ ts) = is_minus m.kind && is_signed m.to t

-- ---- heads of declarations

-- the word that begins a class (false) or a trait (true)
abbrev pub is_trait_word : TokenKind → Option Bool
is_trait_word (Reserve Class) = Some false
is_trait_word (Reserve Trait) = Some true
is_trait_word _ = None

-- a path goes on with a dot
abbrev pub is_dot : TokenKind → Bool
is_dot (Mark Dot) = true
is_dot _ = false

abbrev pub begins_dot : List Token → Bool
begins_dot [] = false
begins_dot (t ∷ ts) = is_dot t.kind
