-- Sizes and offsets of patterns.
use Rattle.pp_grammar.specs.Patterns.{IsPattern, IsPatterns, IsPlain, anything, binding, constructor_alone}
use Rattle.pp_grammar.specs.Patterns.{constructor_of, constructor_of_none, false_pattern, last_pattern, named_at}
use Rattle.pp_grammar.specs.Patterns.{named_pattern, negated_pattern, number_pattern, one_more_pattern}
use Rattle.pp_grammar.specs.Patterns.{pattern_in_round, signed_pattern, true_pattern, unnamed}
use Rattle.pp_grammar.specs.Words.{word}
use Rattle.pp_grammar_laws.proofs.Sized.{Ok, Sized, head, tail}
use Rattle.pp_tokens.specs.declared.token.Token.{Token}
use Rattle.pp_tree.specs.Offsets.{PatternOffsets, PatternsOffsets}
use Rattle.pp_tree.specs.Plain.{PatternTree, PatternTrees, Word, any, bool_pattern, ctor_pattern, int_pattern}
use Rattle.pp_tree.specs.Plain.{more_patterns, no_patterns}
use Rattle.std.proofs.Common.{List, None, Option, Some, arith, false, subst, true, ℕ, ℤ, ◌∷◌, ◌≡◌}

module _ (text : Word) (n : ℕ) (P : ℕ → Type 0) where
  abbrev MaybePattern : Option PatternTree → Type 0
  MaybePattern None = Unit {0}
  MaybePattern (Some q) = PatternOffsets P q

  named_offsets : (at : ℕ) (w : Word) (p q : PatternTree) → named_at at w p ≡ Some q → P at → PatternOffsets P p
      → PatternOffsets P q
  named_offsets at w (any a None) q e b o = let P2 : Option PatternTree → Type 0 = λ x. MaybePattern x in subst P2 e b
  named_offsets at w (int_pattern a None z) q e b o = let P2 : Option PatternTree
      → Type 0 = λ x. MaybePattern x in subst P2 e b
  named_offsets at w (bool_pattern a None z) q e b o = let P2 : Option PatternTree
      → Type 0 = λ x. MaybePattern x in subst P2 e b
  named_offsets at w (ctor_pattern a None c ps) q e b o = let P2 : Option PatternTree
      → Type 0 = λ x. MaybePattern x in subst P2 e (b, o.1)
  named_offsets at w (any a (Some v)) q e b o = absurd (cc)
  named_offsets at w (int_pattern a (Some v) z) q e b o = absurd (cc)
  named_offsets at w (bool_pattern a (Some v) z) q e b o = absurd (cc)
  named_offsets at w (ctor_pattern a (Some v) c ps) q e b o = absurd (cc)

  pattern_named : (ts : List Token) (us : List Token) (p q : PatternTree) (m a : Token)
      → named_at m.from (word text m) p ≡ Some q → (Ok n P ts → Sized n P ts us 0 1 (PatternOffsets P p))
      → Ok n P (m ∷ a ∷ ts) → Sized n P (m ∷ a ∷ ts) us 0 1 (PatternOffsets P q)
  pattern_named ts us p q m a e d1 ok =
      let s1 = d1 (tail n P (tail n P ok)) in
      record {
        good = named_offsets m.from (word text m) p q e (head n P ok) s1.good;
        left = s1.left;
        small = omega
            (arith, s1.small);
        quarter = omega (arith, s1.quarter);
      }

  pattern_unnamed : (ts : List Token) (us : List Token) (p : PatternTree) → (Ok n P ts
      → Sized n P ts us 0 1 (PatternOffsets P p)) → Ok n P ts → Sized n P ts us 0 1 (PatternOffsets P p)
  pattern_unnamed ts us p d1 ok =
      let s1 = d1 ok in
      record {
        good = assumption (s1.good);
        left = s1.left;
        small = omega (arith, s1.small, ok.few);
        quarter =
            omega (arith, s1.quarter, s1.small, ok.few);
      }

  plain_anything : (us : List Token) (t : Token) → Ok n P (t ∷ us) → Sized n P (t ∷ us) us 0 1 (PatternOffsets P
      (any t.from None))
  plain_anything us t ok =
      record {
        good = assumption (head n P ok);
        left = (tail n P ok);
        small = omega (arith, ok.few);
        quarter =
            omega (arith, ok.few);
      }

  plain_binding : (us : List Token) (t : Token) → Ok n P (t ∷ us) → Sized n P (t ∷ us) us 0 1 (PatternOffsets P
      (any t.from (Some (word text t))))
  plain_binding us t ok =
      record {
        good = assumption (head n P ok);
        left = (tail n P ok);
        small = omega (arith, ok.few);
        quarter =
            omega (arith, ok.few);
      }

  plain_constructor_alone : (us : List Token) (t : Token) → Ok n P (t ∷ us)
      → Sized n P (t ∷ us) us 0 1 (PatternOffsets P (ctor_pattern t.from None (word text t) no_patterns))
  plain_constructor_alone us t ok =
      record {
        good = assumption (head n P ok);
        left = (tail n P ok);
        small = omega (arith, ok.few);
        quarter =
            omega (arith, ok.few);
      }

  plain_number_pattern : (us : List Token) (z : ℤ) (t : Token) → Ok n P (t ∷ us)
      → Sized n P (t ∷ us) us 0 1 (PatternOffsets P (int_pattern t.from None z))
  plain_number_pattern us z t ok =
      record {
        good = assumption (head n P ok);
        left = (tail n P ok);
        small = omega (arith, ok.few);
        quarter =
            omega (arith, ok.few);
      }

  plain_signed_pattern : (us : List Token) (z : ℤ) (m : Token) (t : Token) → Ok n P (m ∷ t ∷ us)
      → Sized n P (m ∷ t ∷ us) us 0 1 (PatternOffsets P (int_pattern m.from None z))
  plain_signed_pattern us z m t ok =
      record {
        good = assumption (head n P ok, head n P ((tail n P ok)));
        left = (tail n P (tail n P ok));
        small =
            omega (arith, ok.few);
        quarter = omega (arith, ok.few);
      }

  plain_negated_pattern : (us : List Token) (z : ℤ) (m : Token) (t : Token) → Ok n P (m ∷ t ∷ us)
      → Sized n P (m ∷ t ∷ us) us 0 1 (PatternOffsets P (int_pattern m.from None z))
  plain_negated_pattern us z m t ok =
      record {
        good = assumption (head n P ok, head n P ((tail n P ok)));
        left = (tail n P (tail n P ok));
        small =
            omega (arith, ok.few);
        quarter = omega (arith, ok.few);
      }

  plain_true_pattern : (us : List Token) (t : Token) → Ok n P (t ∷ us) → Sized n P (t ∷ us) us 0 1 (PatternOffsets
      P (bool_pattern t.from None true))
  plain_true_pattern us t ok =
      record {
        good = assumption (head n P ok);
        left = (tail n P ok);
        small = omega (arith, ok.few);
        quarter =
            omega (arith, ok.few);
      }

  plain_false_pattern : (us : List Token) (t : Token) → Ok n P (t ∷ us)
      → Sized n P (t ∷ us) us 0 1 (PatternOffsets P (bool_pattern t.from None false))
  plain_false_pattern us t ok =
      record {
        good = assumption (head n P ok);
        left = (tail n P ok);
        small = omega (arith, ok.few);
        quarter =
            omega (arith, ok.few);
      }

  plain_pattern_in_round : (ts : List Token) (us : List Token) (p : PatternTree) (o : Token) (c : Token)
      → (Ok n P ts → Sized n P ts (c ∷ us) 0 1 (PatternOffsets P p)) → Ok n P (o ∷ ts)
      → Sized n P (o ∷ ts) us 0 1 (PatternOffsets P p)
  plain_pattern_in_round ts us p o c d1 ok =
      let s1 = d1 (tail n P ok) in
      record {
        good = assumption (head n P ok, s1.good, head n P s1.left);
        left = (tail n P s1.left);
        small = omega
            (arith, s1.small, ok.few);
        quarter = omega (arith, s1.quarter, s1.small, ok.few);
      }

  plain_constructor_of_none : (us : List Token) (t : Token) (o : Token) (c : Token) → Ok n P (t ∷ o ∷ c ∷ us)
      → Sized n P (t ∷ o ∷ c ∷ us) us 0 1 (PatternOffsets P (ctor_pattern t.from None (word text t) no_patterns))
  plain_constructor_of_none us t o c ok =
      record {
        good = assumption (head n P ok, head n P ((tail n P ok)), head n P ((tail n P (tail n P ok))));
        left
            = (tail n P (tail n P (tail n P ok)));
        small = omega (arith, ok.few);
        quarter = omega (arith, ok.few);
      }

  plain_constructor_of : (ts : List Token) (us : List Token) (ps : PatternTrees) (t : Token) (o : Token)
      → (Ok n P ts → Sized n P ts us 0 0 (PatternsOffsets P ps)) → Ok n P (t ∷ o ∷ ts)
      → Sized n P (t ∷ o ∷ ts) us 0 1 (PatternOffsets P (ctor_pattern t.from None (word text t) ps))
  plain_constructor_of ts us ps t o d1 ok =
      let s1 = d1 (tail n P (tail n P ok)) in
      record {
        good = assumption (head n P ok, head n P ((tail n P ok)), s1.good);
        left = s1.left;
        small = omega
            (arith, s1.small, ok.few);
        quarter = omega (arith, s1.quarter, s1.small, ok.few);
      }

  patterns_last_pattern : (ts : List Token) (us : List Token) (p : PatternTree) (c : Token) → (Ok n P ts
      → Sized n P ts (c ∷ us) 0 1 (PatternOffsets P p)) → Ok n P ts → Sized n P ts us 0 0 (PatternsOffsets P
      (more_patterns p no_patterns))
  patterns_last_pattern ts us p c d1 ok =
      let s1 = d1 ok in
      record {
        good = assumption (s1.good, head n P s1.left);
        left = (tail n P s1.left);
        small = omega (
          arith,
          s1.small,
          ok.few,
        );
        quarter = omega (arith, s1.quarter, s1.small, ok.few);
      }

  patterns_one_more_pattern : (ts : List Token) (us : List Token) (vs : List Token) (p : PatternTree) (ps :
      PatternTrees) (c : Token) → (Ok n P ts → Sized n P ts (c ∷ us) 0 1 (PatternOffsets P p)) → (Ok n P us
      → Sized n P us vs 0 0 (PatternsOffsets P ps)) → Ok n P ts → Sized n P ts vs 0 0 (PatternsOffsets P
      (more_patterns p ps))
  patterns_one_more_pattern ts us vs p ps c d1 d2 ok =
      let s1 = d1 ok in
      let s2 = d2 (tail n P s1.left) in
      record {
        good = assumption (s1.good, head n P s1.left, s2.good);
        left = s2.left;
        small = omega (
          arith,
          s1.small,
          s2.small,
          ok.few,
        );
        quarter = omega (arith, s1.quarter, s2.quarter, s1.small, s2.small, ok.few);
      }

  mutual
    pub size_pattern : {ts us : List Token} {p : PatternTree} → IsPattern text ts us p → Ok n P ts
        → Sized n P ts us 0 1 (PatternOffsets P p)
    size_pattern (unnamed {ts = ts} {us = us} {p = p} d1) = pattern_unnamed ts us p (size_plain d1)
    size_pattern (named_pattern {ts = ts} {us = us} {p = p} {q = q} m a _ _ d1 e) = pattern_named ts us p q m a e
        (size_plain d1)

    pub size_plain : {ts us : List Token} {p : PatternTree} → IsPlain text ts us p → Ok n P ts
        → Sized n P ts us 0 1 (PatternOffsets P p)
    size_plain (anything {us = us} t _) = plain_anything us t
    size_plain (binding {us = us} t _ _) = plain_binding us t
    size_plain (constructor_alone {us = us} t _ _) = plain_constructor_alone us t
    size_plain (number_pattern {us = us} {n = z} t _) = plain_number_pattern us z t
    size_plain (signed_pattern {us = us} {n = z} m t _ _ _) = plain_signed_pattern us z m t
    size_plain (negated_pattern {us = us} {n = z} m t _ _ _) = plain_negated_pattern us z m t
    size_plain (true_pattern {us = us} t _) = plain_true_pattern us t
    size_plain (false_pattern {us = us} t _) = plain_false_pattern us t
    size_plain (pattern_in_round {ts = ts} {us = us} {p = p} o c _ d1 _) = plain_pattern_in_round ts us p o c
        (size_pattern d1)
    size_plain (constructor_of_none {us = us} t o c _ _ _) = plain_constructor_of_none us t o c
    size_plain (constructor_of {ts = ts} {us = us} {ps = ps} t o _ _ d1) = plain_constructor_of ts us ps t o
        (size_patterns d1)

    pub size_patterns : {ts us : List Token} {p : PatternTrees} → IsPatterns text ts us p → Ok n P ts
        → Sized n P ts us 0 0 (PatternsOffsets P p)
    size_patterns (last_pattern {ts = ts} {us = us} {p = p} c d1 _) = patterns_last_pattern ts us p c (size_pattern
        d1)
    size_patterns (one_more_pattern {ts = ts} {us = us} {vs = vs} {p = p} {ps = ps} c d1 _ d2) =
        patterns_one_more_pattern ts us vs p ps c (size_pattern d1) (size_patterns d2)
