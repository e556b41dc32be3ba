-- Each step behind a pattern keeps what the modes say.
use Rattle.pp_grammar.specs.Exprs.{no_guard}
use Rattle.pp_grammar.specs.Frames.{Frame, naming}
use Rattle.pp_grammar.specs.Patterns.{IsPattern, IsPlain, binding, constructor_alone, constructor_of}
use Rattle.pp_grammar.specs.Patterns.{constructor_of_none, last_pattern, named_at, named_pattern, pattern_in_round}
use Rattle.pp_grammar.specs.Patterns.{unnamed}
use Rattle.pp_grammar.specs.StepTypes.{on_case_pattern, on_have_pattern, on_named_pattern, on_naming, on_pattern_arg}
use Rattle.pp_grammar.specs.StepTypes.{on_pattern_args_open, on_pattern_at, on_pattern_name, on_pattern_round}
use Rattle.pp_grammar.specs.StepTypes.{pattern_of_name}
use Rattle.pp_grammar.specs.Types.{no_semi}
use Rattle.pp_grammar.specs.Words.{binds, word}
use Rattle.pp_grammar_sound.proofs.Fronts.{FrontPatterns, patterns_behind, patterns_more, patterns_none}
use Rattle.pp_grammar_sound.proofs.Modes.{Moved, at_have_pattern, at_pattern_args_open, at_want, at_want_pattern}
use Rattle.pp_grammar_sound.proofs.Modes.{at_want_stat}
use Rattle.pp_grammar_sound.proofs.Opens.{Opens, opens_cases, opens_guarding, opens_if_then, opens_naming}
use Rattle.pp_grammar_sound.proofs.Opens.{opens_pattern_args, opens_pattern_round, opens_stat, stat_arm, stat_assert}
use Rattle.pp_grammar_sound.proofs.Opens.{stat_braces, stat_head, stat_val, then_at}
use Rattle.pp_grammar_sound.proofs.SoundTypes.{keeps_want_pattern}
use Rattle.pp_tokens.specs.declared.token.Bracket.TheVariants.{CloseRound, Comma, OpenRound}
use Rattle.pp_tokens.specs.declared.token.Operator.TheVariants.{Arrow, At}
use Rattle.pp_tokens.specs.declared.token.Reserved.TheVariants.{If}
use Rattle.pp_tokens.specs.declared.token.Token.{Token}
use Rattle.pp_tokens.specs.declared.token.TokenKind.{TokenKind}
use Rattle.pp_tokens.specs.declared.token.TokenKind.TheVariants.{Mark, Name, Op, Word as Reserve}
use Rattle.pp_tree.specs.Plain.{PatternTree, Word, any, ctor_pattern, no_patterns}
use Rattle.std.proofs.Common.{Bool, List, None, Option, Some, [], cond, false, refl, true, ℕ, ◌∷◌, ◌≡◌}

module _ (text : Word) (t : Token) (ts us : List Token) where
  keeps_pattern_arg : {vs ws : List Token} {s : List Frame} {ps : List PatternTree} {p : PatternTree} (n o : Token)
      (k : TokenKind) → t.kind ≡ k → Opens text ts s (n ∷ o ∷ vs) → n.kind ≡ Name → o.kind ≡ Mark OpenRound
      → FrontPatterns text vs ws ps → IsPattern text ws (t ∷ us) p
      → Moved text ts t us (on_pattern_arg text t s n.from (word text n) ps p k)
  keeps_pattern_arg n o (Mark Comma) is op is_n is_o f p =
      at_want_pattern (opens_pattern_args n o op is_n is_o (patterns_more t f p is))
  keeps_pattern_arg n o (Mark CloseRound) is op is_n is_o f p =
      at_have_pattern op (constructor_of n o is_n is_o (patterns_behind text f (last_pattern t p is)))
  keeps_pattern_arg n o _ is op is_n is_o f p = tt

  keeps_pattern_round : {vs : List Token} {s : List Frame} {p : PatternTree} (o : Token) (k : TokenKind) → t.kind ≡ k
      → Opens text ts s (o ∷ vs) → o.kind ≡ Mark OpenRound → IsPattern text vs (t ∷ us) p
      → Moved text ts t us (on_pattern_round text t s p k)
  keeps_pattern_round o (Mark CloseRound) is op is_o p = at_have_pattern op (pattern_in_round o t is_o p is)
  keeps_pattern_round o _ is op is_o p = tt

  keeps_case_pattern : {vs : List Token} {s : List Frame} {p : PatternTree} (k : TokenKind) → t.kind ≡ k
      → Opens text ts s vs → IsPattern text vs (t ∷ us) p → Moved text ts t us (on_case_pattern text t s p k)
  keeps_case_pattern (Reserve If) is op p = at_want (opens_guarding t op p is)
  keeps_case_pattern (Op Arrow) is op p = at_want_stat (stat_arm t op p no_guard is no_semi)
  keeps_case_pattern _ is op p = tt

  keeps_named_pattern : {vs : List Token} {s : List Frame} {p : PatternTree} (k : TokenKind) → t.kind ≡ k
      → Opens text ts s vs → IsPattern text vs (t ∷ us) p → Moved text ts t us (on_named_pattern text t s p k)
  keeps_named_pattern k is (opens_pattern_round o op is_o) p = keeps_pattern_round o k is op is_o p
  keeps_named_pattern k is (opens_pattern_args n o op is_n is_o f) p = keeps_pattern_arg n o k is op is_n is_o f p
  keeps_named_pattern k is (opens_cases m o c op fl x e1 e2 f e3) p =
      keeps_case_pattern k is (opens_cases m o c op fl x e1 e2 f e3) p
  keeps_named_pattern k is (opens_if_then (then_at i o c op e1 e2 f e3 e4 e5)) a = tt
  keeps_named_pattern k is (opens_stat (stat_braces o op e g)) a = tt
  keeps_named_pattern k is (opens_stat (stat_arm b op p g e gap)) a = tt
  keeps_named_pattern k is (opens_stat (stat_val v n q op e1 e2 e3 e4 e5 e6)) a = tt
  keeps_named_pattern k is (opens_stat (stat_assert b o c op e1 e2 e3 e4 e5 e6)) a = tt
  keeps_named_pattern k is (opens_stat (stat_head h)) a = tt
  keeps_named_pattern k is _ a = tt

  keeps_naming : {vs : List Token} {s : List Frame} {p : PatternTree} (n a : Token) (k : TokenKind) → t.kind ≡ k
      → Opens text ts s (n ∷ a ∷ vs) → n.kind ≡ Name → a.kind ≡ Op At → IsPlain text vs (t ∷ us) p
      → (q : Option PatternTree) → named_at n.from (word text n) p ≡ q
      → Moved text ts t us (on_naming text t s q p k)
  keeps_naming n a k is op is_n is_a p (Some q) e = keeps_named_pattern k is op (named_pattern n a is_n is_a p e)
  keeps_naming n a k is op is_n is_a p None e = tt

  pub keeps_have_pattern : {vs : List Token} {s : List Frame} {p : PatternTree} (k : TokenKind) → t.kind ≡ k
      → Opens text ts s vs → IsPlain text vs (t ∷ us) p → Moved text ts t us (on_have_pattern text t s p k)
  keeps_have_pattern k is (opens_naming n a op is_n is_a) p = keeps_naming n a k is op is_n is_a p _ refl
  keeps_have_pattern k is (opens_pattern_round o op is_o) p =
      keeps_named_pattern k is (opens_pattern_round o op is_o) (unnamed p)
  keeps_have_pattern k is (opens_pattern_args n o op is_n is_o f) p =
      keeps_named_pattern k is (opens_pattern_args n o op is_n is_o f) (unnamed p)
  keeps_have_pattern k is (opens_cases m o c op fl x e1 e2 f e3) p =
      keeps_named_pattern k is (opens_cases m o c op fl x e1 e2 f e3) (unnamed p)
  keeps_have_pattern k is (opens_if_then (then_at i o c op e1 e2 f e3 e4 e5)) a = tt
  keeps_have_pattern k is (opens_stat (stat_braces o op e g)) a = tt
  keeps_have_pattern k is (opens_stat (stat_arm b op p g e gap)) a = tt
  keeps_have_pattern k is (opens_stat (stat_val v n q op e1 e2 e3 e4 e5 e6)) a = tt
  keeps_have_pattern k is (opens_stat (stat_assert b o c op e1 e2 e3 e4 e5 e6)) a = tt
  keeps_have_pattern k is (opens_stat (stat_head h)) a = tt
  keeps_have_pattern k is _ a = tt

  -- a name alone
  pattern_name_is : (n : Token) → n.kind ≡ Name
      → IsPlain text (n ∷ t ∷ us) (t ∷ us) (pattern_of_name text t n.from (word text n))
  pattern_name_is n is =
      let at : ℕ = n.from in let w : Word = word text n in
      let P : Bool → Type 0 = λ b. binds w ≡ b → IsPlain text (n ∷ t ∷ us) (t ∷ us) (cond b (any at (Some w))
      (ctor_pattern at None w no_patterns)) in
      elim (binds w) as P [ true ↦ λ e. binding n is e | false ↦ λ e. constructor_alone n is e ] refl

  keeps_pattern_at : {s : List Frame} (n : Token) → t.kind ≡ Op At → Opens text ts s (n ∷ t ∷ us) → n.kind ≡ Name
      → Moved text ts t us (on_pattern_at text t s n.from (word text n))
  keeps_pattern_at {s = naming a v ∷ s} n is op is_n = tt
  keeps_pattern_at {s = []} n is op is_n = at_want_pattern (opens_naming n t op is_n is)
  keeps_pattern_at {s = _ ∷ s} n is op is_n = at_want_pattern (opens_naming n t op is_n is)

  pub keeps_pattern_name : {s : List Frame} (n : Token) (k : TokenKind) → t.kind ≡ k → Opens text ts s (n ∷ t ∷ us)
      → n.kind ≡ Name → Moved text ts t us (on_pattern_name text t s n.from (word text n) k)
  keeps_pattern_name n (Mark OpenRound) is op is_n = at_pattern_args_open n t op is_n is
  keeps_pattern_name n (Op At) is op is_n = keeps_pattern_at n is op is_n
  keeps_pattern_name n k is op is_n = keeps_have_pattern k is op (pattern_name_is n is_n)

  pub keeps_pattern_args_open : {s : List Frame} (n o : Token) (k : TokenKind) → t.kind ≡ k
      → Opens text ts s (n ∷ o ∷ t ∷ us) → n.kind ≡ Name → o.kind ≡ Mark OpenRound
      → Moved text ts t us (on_pattern_args_open text t s n.from (word text n) k)
  keeps_pattern_args_open n o (Mark CloseRound) is op is_n is_o =
      at_have_pattern op (constructor_of_none n o t is_n is_o is)
  keeps_pattern_args_open n o k is op is_n is_o =
      keeps_want_pattern text t ts us k is (opens_pattern_args n o op is_n is_o patterns_none)
