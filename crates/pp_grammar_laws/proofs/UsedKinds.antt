-- Tokens that the grammar uses aren't reserved words that it doesn't use.
use Rattle.pp_grammar.specs.LeftOut.{is_unused}
use Rattle.pp_grammar.specs.Units.{Modifiers, modified}
use Rattle.pp_grammar.specs.Words.{is_semi, is_trait_word, negated_of, negative_of, number_of}
use Rattle.pp_tokens.specs.declared.token.Reserved.TheVariants.{Abstract, Case, Class, Final, Sealed, Trait}
use Rattle.pp_tokens.specs.declared.token.TokenKind.{TokenKind}
use Rattle.pp_tokens.specs.declared.token.TokenKind.TheVariants.{Hex, Mark, Newline, Number, Word as Reserve}
use Rattle.std.proofs.Common.{Bool, Some, false, refl, true, ℤ, ◌≡◌}

pub semi_used : (k : TokenKind) → is_semi k ≡ true → is_unused k ≡ false
semi_used Newline is = refl
semi_used (Mark b) is = refl
semi_used _ is = absurd (cc)

pub number_used : (k : TokenKind) (z : ℤ) → number_of k ≡ Some z → is_unused k ≡ false
number_used (Number m) z is = refl
number_used (Hex m) z is = refl
number_used _ z is = absurd (cc)

pub negative_used : (k : TokenKind) (z : ℤ) → negative_of k ≡ Some z → is_unused k ≡ false
negative_used (Number m) z is = refl
negative_used (Hex m) z is = refl
negative_used _ z is = absurd (cc)

pub negated_used : (k : TokenKind) (z : ℤ) → negated_of k ≡ Some z → is_unused k ≡ false
negated_used (Number m) z is = refl
negated_used (Hex m) z is = refl
negated_used _ z is = absurd (cc)

pub modifier_used : (m z : Modifiers) (k : TokenKind) → modified m k ≡ Some z → is_unused k ≡ false
modifier_used m z (Reserve Sealed) is = refl
modifier_used m z (Reserve Abstract) is = refl
modifier_used m z (Reserve Final) is = refl
modifier_used m z (Reserve Case) is = refl
modifier_used m z _ is = absurd (cc)

pub trait_used : (k : TokenKind) (b : Bool) → is_trait_word k ≡ Some b → is_unused k ≡ false
trait_used (Reserve Class) b is = refl
trait_used (Reserve Trait) b is = refl
trait_used _ b is = absurd (cc)
