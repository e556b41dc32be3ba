-- What stands at the front is right.
use Rattle.std.proofs.Common.{ℕ, ◌≡◌, List, [], ◌∷◌, inl, ap, refl, arith, true, Some, None}
use Rattle.std.specs.Char.{is_ascii_digit}
use Rattle.pp_tokens.specs.declared.token.TokenKind.TheVariants.{Newline}
use Rattle.pp_tokens.specs.declared.front.Front.TheVariants.{Takes}
use Rattle.pp_tokens.specs.Characters.{is_line_feed, is_blank, starts_name, is_operator_char, opens_line, opens_block}
use Rattle.pp_tokens.specs.Front.{front_of}
use Rattle.pp_tokens.proofs.Booleans.{same_number}
use Rattle.pp_tokens.proofs.Right.{IsRight, by_test}
use Rattle.pp_tokens.proofs.RightComments.{line_right, block_right}
use Rattle.pp_tokens.proofs.RightNames.{name_right}
use Rattle.pp_tokens.proofs.RightNumbers.{number_right}
use Rattle.pp_tokens.proofs.RightOperators.{operator_right, mark_right}

feed_right : (c : ℕ) (cs : List ℕ) → is_line_feed c ≡ true → IsRight (Takes (Some Newline) 1) (c ∷ cs)
feed_right c cs h = record {
  right = ap (λ (x : ℕ). x ∷ []) (same_number c 10 h);
  some = omega arith;
  within =
      omega arith;
}

blank_right : (c : ℕ) (cs : List ℕ) → is_blank c ≡ true → IsRight (Takes None 1) (c ∷ cs)
blank_right c cs h = record {
  right = inl (record { character = c; whole = refl; blank = h });
  some =
      omega arith;
  within = omega arith;
}

pub front_right : (cs : List ℕ) → IsRight (front_of cs) cs
front_right [] = tt
front_right (c ∷ cs) =
    by_test (is_line_feed c) _ _ (c ∷ cs) (feed_right c cs)
    (λ _. by_test (is_blank c) _ _ (c ∷ cs) (blank_right c cs)
    (λ _. by_test (opens_line c cs) _ _ (c ∷ cs) (line_right c cs)
    (λ line. by_test (opens_block c cs) _ _ (c ∷ cs) (block_right c cs)
    (λ block. by_test (starts_name c) _ _ (c ∷ cs) (name_right c cs)
    (λ _. by_test (is_ascii_digit c) _ _ (c ∷ cs) (number_right c cs)
    (λ _. by_test (is_operator_char c) _ _ (c ∷ cs) (λ char. operator_right c cs char line block)
    (λ _. mark_right c cs)))))))
