-- Which tokens spell a pattern. Source: own, after the Scala Language Specification 2.13, 8.1.
use Rattle.std.specs.Prelude.{ℕ, ℤ, ◌≡◌, true, false, List, ◌∷◌, Option, Some, None}
use Rattle.pp_tokens.specs.declared.token.Token.{Token}
use Rattle.pp_tokens.specs.declared.token.TokenKind.TheVariants.{Name, Word as Reserve, Op, Mark, Hole}
use Rattle.pp_tokens.specs.declared.token.Reserved.TheVariants.{True, False}
use Rattle.pp_tokens.specs.declared.token.Operator.TheVariants.{Minus, At}
use Rattle.pp_tokens.specs.declared.token.Bracket.TheVariants.{OpenRound, CloseRound, Comma}
use Rattle.pp_tree.specs.Plain.{Word, PatternTree, any, int_pattern, bool_pattern, ctor_pattern, PatternTrees}
use Rattle.pp_tree.specs.Plain.{no_patterns, more_patterns}
use Rattle.pp_grammar.specs.Words.{word, binds, is_sign, number_of, negative_of, negated_of}

-- the pattern under the name w, which stands at the offset; a pattern has room for one name
abbrev pub named_at : ℕ → Word → PatternTree → Option PatternTree
named_at at w (any a None) = Some (any at (Some w))
named_at at w (int_pattern a None n) = Some (int_pattern at (Some w) n)
named_at at w (bool_pattern a None b) = Some (bool_pattern at (Some w) b)
named_at at w (ctor_pattern a None c ps) = Some (ctor_pattern at (Some w) c ps)
named_at at w _ = None

mutual
  -- pattern = [name "@"] plain
  pub data IsPattern (text : Word) : List Token → List Token → PatternTree → Type 0 where
    unnamed : {ts us : List Token} {p : PatternTree} → IsPlain text ts us p → IsPattern text ts us p
    named_pattern : {ts us : List Token} {p q : PatternTree} (n a : Token) → n.kind ≡ Name → a.kind ≡ Op At
        → IsPlain text ts us p → named_at n.from (word text n) p ≡ Some q → IsPattern text (n ∷ a ∷ ts) us q

  -- plain
  pub data IsPlain (text : Word) : List Token → List Token → PatternTree → Type 0 where
    anything : {us : List Token} (t : Token) → t.kind ≡ Hole → IsPlain text (t ∷ us) us (any t.from None)
    binding : {us : List Token} (t : Token) → t.kind ≡ Name → binds (word text t) ≡ true
        → IsPlain text (t ∷ us) us (any t.from (Some (word text t)))
    constructor_alone : {us : List Token} (t : Token) → t.kind ≡ Name → binds (word text t) ≡ false
        → IsPlain text (t ∷ us) us (ctor_pattern t.from None (word text t) no_patterns)
    number_pattern : {us : List Token} {n : ℤ} (t : Token) → number_of t.kind ≡ Some n
        → IsPlain text (t ∷ us) us (int_pattern t.from None n)
    -- with no space between the two
    signed_pattern : {us : List Token} {n : ℤ} (m t : Token) → m.kind ≡ Op Minus → is_sign m (t ∷ us) ≡ true
        → negative_of t.kind ≡ Some n → IsPlain text (m ∷ t ∷ us) us (int_pattern m.from None n)
    -- with a space between the two
    negated_pattern : {us : List Token} {n : ℤ} (m t : Token) → m.kind ≡ Op Minus → is_sign m (t ∷ us) ≡ false
        → negated_of t.kind ≡ Some n → IsPlain text (m ∷ t ∷ us) us (int_pattern m.from None n)
    true_pattern : {us : List Token} (t : Token) → t.kind ≡ Reserve True
        → IsPlain text (t ∷ us) us (bool_pattern t.from None true)
    false_pattern : {us : List Token} (t : Token) → t.kind ≡ Reserve False
        → IsPlain text (t ∷ us) us (bool_pattern t.from None false)
    pattern_in_round : {ts us : List Token} {p : PatternTree} (o c : Token) → o.kind ≡ Mark OpenRound
        → IsPattern text ts (c ∷ us) p → c.kind ≡ Mark CloseRound → IsPlain text (o ∷ ts) us p
    constructor_of_none : {us : List Token} (t o c : Token) → t.kind ≡ Name → o.kind ≡ Mark OpenRound
        → c.kind ≡ Mark CloseRound
        → IsPlain text (t ∷ o ∷ c ∷ us) us (ctor_pattern t.from None (word text t) no_patterns)
    constructor_of : {ts us : List Token} {ps : PatternTrees} (t o : Token) → t.kind ≡ Name → o.kind ≡ Mark OpenRound
        → IsPatterns text ts us ps → IsPlain text (t ∷ o ∷ ts) us (ctor_pattern t.from None (word text t) ps)

  -- pattern {"," pattern} ")"
  pub data IsPatterns (text : Word) : List Token → List Token → PatternTrees → Type 0 where
    last_pattern : {ts us : List Token} {p : PatternTree} (c : Token) → IsPattern text ts (c ∷ us) p
        → c.kind ≡ Mark CloseRound → IsPatterns text ts us (more_patterns p no_patterns)
    one_more_pattern : {ts us vs : List Token} {p : PatternTree} {ps : PatternTrees} (c : Token)
        → IsPattern text ts (c ∷ us) p → c.kind ≡ Mark Comma → IsPatterns text us vs ps
        → IsPatterns text ts vs (more_patterns p ps)
