-- The automaton reads each pattern that is spelled.
use Rattle.pp_grammar.specs.Frames.{Frame, Parsed, after_pattern_name, go, have_pattern, naming, pattern_args}
use Rattle.pp_grammar.specs.Frames.{pattern_args_open, pattern_round, want_pattern}
use Rattle.pp_grammar.specs.Joining.{patterns_onto}
use Rattle.pp_grammar.specs.Patterns.{IsPattern, IsPatterns, IsPlain, anything, binding, constructor_alone}
use Rattle.pp_grammar.specs.Patterns.{constructor_of, constructor_of_none, false_pattern, last_pattern, named_at}
use Rattle.pp_grammar.specs.Patterns.{named_pattern, negated_pattern, number_pattern, one_more_pattern}
use Rattle.pp_grammar.specs.Patterns.{pattern_in_round, signed_pattern, true_pattern, unnamed}
use Rattle.pp_grammar.specs.StepTypes.{on_have_pattern, on_int_pattern, on_named_pattern, on_naming}
use Rattle.pp_grammar.specs.StepTypes.{on_pattern_args_open, on_pattern_at, on_pattern_name, on_want_pattern}
use Rattle.pp_grammar.specs.StepTypes.{pattern_of_name}
use Rattle.pp_grammar.specs.Words.{binds, is_sign, negated_of, negative_of, number_of, word}
use Rattle.pp_grammar_complete.proofs.Steps.{Ends, Run, go_on, goes_on, sign_is, take_step}
use Rattle.pp_tokens.specs.declared.token.Bracket.TheVariants.{CloseBrace, CloseRound, CloseSquare, Comma, Dot}
use Rattle.pp_tokens.specs.declared.token.Bracket.TheVariants.{OpenBrace, OpenRound, OpenSquare, Semicolon}
use Rattle.pp_tokens.specs.declared.token.Operator.TheVariants.{At, Minus}
use Rattle.pp_tokens.specs.declared.token.Token.{Token}
use Rattle.pp_tokens.specs.declared.token.TokenKind.{TokenKind}
use Rattle.pp_tokens.specs.declared.token.TokenKind.TheVariants.{Hex, Mark, Number, Op}
use Rattle.pp_tree.specs.Plain.{PatternTree, PatternTrees, Word, any, ctor_pattern, int_pattern, no_patterns}
use Rattle.std.proofs.Common.{Bool, List, None, Option, Some, [], ap, cond, false, refl, sym, true, ℕ, ℤ, ◌∙◌, ◌∷◌}
use Rattle.std.proofs.Common.{◌≡◌}

-- a name with `@` is on top
abbrev pub is_naming : List Frame → Bool
is_naming (naming at w ∷ s) = true
is_naming _ = false

module _ (text : Word) (d : Parsed) (b : Bool) where
  pattern_name_is : (t : Token) (s : List Frame) (at : ℕ) (w : Word) (k : TokenKind) → goes_on k ≡ false
      → on_pattern_name text t s at w k ≡ on_have_pattern text t s (pattern_of_name text t at w) k
  pattern_name_is t s at w (Mark OpenRound) unlike = absurd (cc)
  pattern_name_is t s at w (Op At) unlike = absurd (cc)
  pattern_name_is t s at w _ unlike = refl

  named_pattern_by : (ts : List Token) (s : List Frame) (at : ℕ) (w : Word) (p : PatternTree)
      → cond (binds w) (any at (Some w)) (ctor_pattern at None w no_patterns) ≡ p → Ends ts
      → Run text d b ts s (after_pattern_name at w) ≡ Run text d b ts s (have_pattern p)
  named_pattern_by [] s at w p is fin = absurd fin
  named_pattern_by (t ∷ ts) s at w p is fin =
      go_on text d b t ts _ _ (pattern_name_is t s at w t.kind fin)
      ∙ ap (λ (x : PatternTree). Run text d b (t ∷ ts) s (have_pattern x)) is

  -- numbers
  number_step : (t : Token) (s : List Frame) (n : ℤ) (k : TokenKind) → number_of k ≡ Some n
      → on_want_pattern text t s k ≡ go s (have_pattern (int_pattern t.from None n))
  number_step t s n (Number m) is = ap (on_int_pattern text t s t.from) is
  number_step t s n (Hex m) is = ap (on_int_pattern text t s t.from) is
  number_step t s n _ is = absurd (cc)

  minus_step : (m t : Token) (us : List Token) (s : List Frame) (x : Bool) (n : ℤ) → m.kind ≡ Op Minus
      → is_sign m (t ∷ us) ≡ x → cond x (negative_of t.kind) (negated_of t.kind) ≡ Some n
      → Run text d b (m ∷ t ∷ us) s want_pattern ≡ Run text d b us s (have_pattern (int_pattern m.from None n))
  minus_step m t us s x n is e r =
      take_step text d b m (t ∷ us) s want_pattern _ is
      ∙ go_on text d b t us _ _ (ap (λ y. on_int_pattern text t s m.from (cond y (negative_of t.kind) (negated_of
      t.kind))) (sign_is m t us x is e) ∙ ap (on_int_pattern text t s m.from) r)

  -- the first argument of a constructor
  begins_args : (t : Token) (s : List Frame) (at : ℕ) (w : Word) (k : TokenKind) → (k ≡ Mark CloseRound → ⊥)
      → on_pattern_args_open text t s at w k ≡ on_want_pattern text t (pattern_args at w [] ∷ s) k
  begins_args t s at w (Mark CloseRound) unlike = absurd (unlike refl)
  begins_args t s at w (Mark OpenRound) unlike = refl
  begins_args t s at w (Mark OpenSquare) unlike = refl
  begins_args t s at w (Mark CloseSquare) unlike = refl
  begins_args t s at w (Mark OpenBrace) unlike = refl
  begins_args t s at w (Mark CloseBrace) unlike = refl
  begins_args t s at w (Mark Comma) unlike = refl
  begins_args t s at w (Mark Dot) unlike = refl
  begins_args t s at w (Mark Semicolon) unlike = refl
  begins_args t s at w _ unlike = refl

  abbrev NotClosing : List Token → Type 0
  NotClosing [] = ⊥
  NotClosing (t ∷ ts) = t.kind ≡ Mark CloseRound → ⊥

  number_unlike : (k : TokenKind) (n : ℤ) → number_of k ≡ Some n → k ≡ Mark CloseRound → ⊥
  number_unlike k n is e = let f = sym (ap number_of e) ∙ is in cc

  unlike_by : (t : Token) (k : TokenKind) → t.kind ≡ k → (k ≡ Mark CloseRound → ⊥) → t.kind ≡ Mark CloseRound → ⊥
  unlike_by t k is unlike e = unlike (sym is ∙ e)

  plain_begins : {ts us : List Token} {p : PatternTree} → IsPlain text ts us p → NotClosing ts
  plain_begins (anything t is) = unlike_by t _ is (λ e. cc)
  plain_begins (binding t is e) = unlike_by t _ is (λ e. cc)
  plain_begins (constructor_alone t is e) = unlike_by t _ is (λ e. cc)
  plain_begins (number_pattern {n = n} t is) = number_unlike t.kind n is
  plain_begins (signed_pattern m t is e r) = unlike_by m _ is (λ e. cc)
  plain_begins (negated_pattern m t is e r) = unlike_by m _ is (λ e. cc)
  plain_begins (true_pattern t is) = unlike_by t _ is (λ e. cc)
  plain_begins (false_pattern t is) = unlike_by t _ is (λ e. cc)
  plain_begins (pattern_in_round o c is p e) = unlike_by o _ is (λ e. cc)
  plain_begins (constructor_of_none t o c is e f) = unlike_by t _ is (λ e. cc)
  plain_begins (constructor_of t o is e ps) = unlike_by t _ is (λ e. cc)

  pattern_begins : {ts us : List Token} {p : PatternTree} → IsPattern text ts us p → NotClosing ts
  pattern_begins (unnamed p) = plain_begins p
  pattern_begins (named_pattern n a is e p q) = unlike_by n _ is (λ e. cc)

  patterns_begin : {ts us : List Token} {ps : PatternTrees} → IsPatterns text ts us ps → NotClosing ts
  patterns_begin (last_pattern c p is) = pattern_begins p
  patterns_begin (one_more_pattern c p is ps) = pattern_begins p

  opens_args : (ts : List Token) (s : List Frame) (at : ℕ) (w : Word) → NotClosing ts
      → Run text d b ts s (pattern_args_open at w) ≡ Run text d b ts (pattern_args at w [] ∷ s) want_pattern
  opens_args [] s at w unlike = absurd unlike
  opens_args (t ∷ ts) s at w unlike = go_on text d b t ts _ _ (begins_args t s at w t.kind unlike)

  -- behind a pattern with its name
  without_name : (t : Token) (s : List Frame) (q : PatternTree) (k : TokenKind) → is_naming s ≡ false
      → on_named_pattern text t s q k ≡ on_have_pattern text t s q k
  without_name t [] q k is = refl
  without_name t (naming at w ∷ s) q k is = absurd (cc)
  without_name t (_ ∷ s) q k is = refl

  pattern_at_step : (t : Token) (s : List Frame) (at : ℕ) (w : Word) → is_naming s ≡ false
      → on_pattern_at text t s at w ≡ go (naming at w ∷ s) want_pattern
  pattern_at_step t [] at w is = refl
  pattern_at_step t (naming a v ∷ s) at w is = absurd (cc)
  pattern_at_step t (_ ∷ s) at w is = refl

  with_name : (ts : List Token) (s : List Frame) (at : ℕ) (w : Word) (p q : PatternTree) → is_naming s ≡ false
      → named_at at w p ≡ Some q → Ends ts
      → Run text d b ts (naming at w ∷ s) (have_pattern p) ≡ Run text d b ts s (have_pattern q)
  with_name [] s at w p q is e fin = absurd fin
  with_name (t ∷ ts) s at w p q is e fin =
      go_on text d b t ts _ _ (ap (λ (x : Option PatternTree). on_naming text t s x p t.kind) e
      ∙ without_name t s q t.kind is)

  mutual
    reaches_plain : {ts us : List Token} {p : PatternTree} → IsPlain text ts us p → (s : List Frame) → Ends us
        → Run text d b ts s want_pattern ≡ Run text d b us s (have_pattern p)
    reaches_plain {us = us} (anything t is) s fin = take_step text d b t us s want_pattern _ is
    reaches_plain {us = us} (binding t is e) s fin =
        let at : ℕ = t.from in let w : Word = word text t in
        take_step text d b t us s want_pattern _ is
        ∙ named_pattern_by us s at w _ (ap (λ x. cond x (any at (Some w)) (ctor_pattern at None w no_patterns)) e) fin
    reaches_plain {us = us} (constructor_alone t is e) s fin =
        let at : ℕ = t.from in let w : Word = word text t in
        take_step text d b t us s want_pattern _ is
        ∙ named_pattern_by us s at w _ (ap (λ x. cond x (any at (Some w)) (ctor_pattern at None w no_patterns)) e) fin
    reaches_plain {us = us} (number_pattern {n = n} t is) s fin = go_on text d b t us _ _ (number_step t s n t.kind
        is)
    reaches_plain {us = us} (signed_pattern {n = n} m t is e r) s fin = minus_step m t us s true n is e r
    reaches_plain {us = us} (negated_pattern {n = n} m t is e r) s fin = minus_step m t us s false n is e r
    reaches_plain {us = us} (true_pattern t is) s fin = take_step text d b t us s want_pattern _ is
    reaches_plain {us = us} (false_pattern t is) s fin = take_step text d b t us s want_pattern _ is
    reaches_plain {us = us} {p = p} (pattern_in_round {ts = ts} o c is r is_c) s fin =
        take_step text d b o ts s want_pattern _ is ∙ reaches_pattern r (pattern_round ∷ s) refl (ap goes_on is_c)
        ∙ take_step text d b c us (pattern_round ∷ s) (have_pattern p) _ is_c
    reaches_plain {us = us} (constructor_of_none t o c is is_o is_c) s fin =
        take_step text d b t (o ∷ c ∷ us) s want_pattern _ is
        ∙ take_step text d b o (c ∷ us) s (after_pattern_name t.from (word text t)) _ is_o
        ∙ take_step text d b c us s (pattern_args_open t.from (word text t)) _ is_c
    reaches_plain {us = us} (constructor_of {ts = ts} t o is is_o r) s fin =
        take_step text d b t (o ∷ ts) s want_pattern _ is
        ∙ take_step text d b o ts s (after_pattern_name t.from (word text t)) _ is_o
        ∙ opens_args ts s t.from (word text t) (patterns_begin r) ∙ reaches_patterns r s t.from (word text t) []

    pub reaches_pattern : {ts us : List Token} {p : PatternTree} → IsPattern text ts us p → (s : List Frame)
        → is_naming s ≡ false → Ends us → Run text d b ts s want_pattern ≡ Run text d b us s (have_pattern p)
    reaches_pattern (unnamed p) s is fin = reaches_plain p s fin
    reaches_pattern {us = us} (named_pattern {ts = ts} {p = p} {q = q} n a is_n is_a r e) s is fin =
        let at : ℕ = n.from in let w : Word = word text n in
        take_step text d b n (a ∷ ts) s want_pattern _ is_n
        ∙ take_step text d b a ts s (after_pattern_name at w) _ is_a
        ∙ go_on text d b a ts _ _ (pattern_at_step a s at w is)
        ∙ reaches_plain r (naming at w ∷ s) fin ∙ with_name us s at w p q is e fin

    reaches_patterns : {ts us : List Token} {ps : PatternTrees} → IsPatterns text ts us ps → (s : List Frame) (at : ℕ)
        (w : Word) (ds : List PatternTree) → Run text d b ts (pattern_args at w ds ∷ s) want_pattern
        ≡ Run text d b us s (have_pattern (ctor_pattern at None w (patterns_onto ds ps)))
    reaches_patterns {us = us} (last_pattern {p = p} c r is) s at w ds =
        reaches_pattern r (pattern_args at w ds ∷ s) refl (ap goes_on is)
        ∙ take_step text d b c us (pattern_args at w ds ∷ s) (have_pattern p) _ is
    reaches_patterns (one_more_pattern {us = us} {p = p} c r is rs) s at w ds =
        reaches_pattern r (pattern_args at w ds ∷ s) refl (ap goes_on is)
        ∙ take_step text d b c us (pattern_args at w ds ∷ s) (have_pattern p) _ is
        ∙ reaches_patterns rs s at w (p ∷ ds)
