-- The faults of each step in an expression.
use Rattle.pp_tree.specs.declared.operator.UnaryOp.TheVariants as unary_op
use Rattle.std.specs.Prelude.{nat_le}
use Rattle.pp_grammar.specs.Frames.{CaseText, Contracts, Frame, Placed, after_assert, after_val, args, arm, asserting}
use Rattle.pp_grammar.specs.Frames.{body_of, braces, cases_of, claiming, claiming_hole, guarding, head_braces, if_test}
use Rattle.pp_grammar.specs.Frames.{if_then, in_braces, in_parentheses, in_tuple, measuring, post_of, prefixing}
use Rattle.pp_grammar.specs.Frames.{requiring, round, tuple_or_round, val_value}
use Rattle.pp_grammar.specs.Joining.{Operand, Sealed as SealedBlock, floor, seal, takes_hole, unwind}
use Rattle.pp_grammar.specs.StepExprs.{on_args_open, on_binary, on_bound, on_brace_closed, on_case_ended}
use Rattle.pp_grammar.specs.StepExprs.{on_claim_brace, on_claim_round, on_claim_semi, on_comma, on_dot, on_dot_name}
use Rattle.pp_grammar.specs.StepExprs.{on_else, on_end, on_ensuring, on_expr_end, on_guard, on_have, on_have_matched}
use Rattle.pp_grammar.specs.StepExprs.{on_have_negative, on_head_closed, on_holds, on_hole_end, on_if, on_int}
use Rattle.pp_grammar.specs.StepExprs.{on_int_dot, on_match, on_match_closed, on_match_dot, on_match_word}
use Rattle.pp_grammar.specs.StepExprs.{on_matched_dot, on_measured, on_minus, on_name, on_name_types, on_negative}
use Rattle.pp_grammar.specs.StepExprs.{on_negative_dot, on_negative_field, on_next_case, on_number, on_operand}
use Rattle.pp_grammar.specs.StepExprs.{on_operand_name, on_operator, on_post_operand, on_post_word, on_required}
use Rattle.pp_grammar.specs.StepExprs.{on_round_closed, on_sealed_brace, on_sealed_case, on_semi, on_semicolon}
use Rattle.pp_grammar.specs.StepExprs.{on_unwound, on_want, on_want_case, on_want_else, on_want_then}
use Rattle.pp_grammar.specs.Words.{Role, binary_of, bound_of, ensuring_word, holds_word, int_word, is_signed, level}
use Rattle.pp_grammar.specs.Words.{loosest, negative_of, number_of, plain, res, role, tightest, word}
use Rattle.pp_grammar_laws.proofs.Faults.{GoodContracts, GoodFrames, GoodMove, NameOk, good_cond, good_late, good_seal}
use Rattle.pp_grammar_laws.proofs.Faults.{good_unwind, refused}
use Rattle.pp_tokens.specs.declared.token.Bracket.TheVariants.{CloseBrace, CloseRound, Comma, Dot, OpenBrace, OpenRound}
use Rattle.pp_tokens.specs.declared.token.Bracket.TheVariants.{OpenSquare, Semicolon}
use Rattle.pp_tokens.specs.declared.token.Operator.TheVariants.{Arrow, Flip, Minus, Not}
use Rattle.pp_tokens.specs.declared.token.Reserved.TheVariants.{Case, Else, False, If, Match, True}
use Rattle.pp_tokens.specs.declared.token.Token.{Token}
use Rattle.pp_tokens.specs.declared.token.TokenKind.{TokenKind}
use Rattle.pp_tokens.specs.declared.token.TokenKind.TheVariants.{Hex, Hole, Mark, Name, Newline, Number, Op}
use Rattle.pp_tokens.specs.declared.token.TokenKind.TheVariants.{Word as Reserve}
use Rattle.pp_tree.specs.Plain.{Tree, TypeTree, TypeTrees, Word, apply, name, no_trees}
use Rattle.pp_tree.specs.declared.operator.BinaryOp.{BinaryOp}
use Rattle.std.proofs.Common.{Bool, List, None, Option, Some, [], false, true, ℕ, ℤ, ◌∷◌, ◌≡◌}

module _ (text : Word) (B : ℕ → Type 0) (L : Word → ℕ → Type 0) (t : Token) (bt : B t.from)
    (nt : t.kind ≡ Name → NameOk B L (word text t) t.from) where
  pub good_on_number : (x0 : List Frame) (x1 : Option ℤ) → GoodFrames B L x0 → GoodMove B L (on_number text t x0 x1)
  good_on_number s (Some n) ok = assumption (bt, ok)
  good_on_number s None ok = refused text B L t bt nt

  pub good_on_operand_name : (x0 : List Frame) (x1 : Role) → GoodFrames B L x0
      → GoodMove B L (on_operand_name text t x0 x1)
  good_on_operand_name s plain ok = assumption (bt, ok)
  good_on_operand_name s int_word ok = assumption (bt, ok)
  good_on_operand_name s r ok = refused text B L t bt nt

  pub good_on_want : (x0 : List Frame) (x1 : TokenKind) → GoodFrames B L x0 → GoodMove B L (on_want text t x0 x1)
  good_on_want s (Number n) ok = good_on_number s (number_of (Number n)) (assumption (bt, ok))
  good_on_want s (Hex n) ok = good_on_number s (number_of (Hex n)) (assumption (bt, ok))
  good_on_want s Name ok = good_on_operand_name s (role (word text t)) (assumption (bt, ok))
  good_on_want s (Reserve True) ok = assumption (bt, ok)
  good_on_want s (Reserve False) ok = assumption (bt, ok)
  good_on_want s Hole ok = good_cond B L (takes_hole s) _ _ (assumption (bt, ok)) (refused text B L t bt nt)
  good_on_want s (Op Minus) ok =
      good_cond B L (nat_le (floor s) tightest) _ _ (assumption (bt, ok)) (refused text B L t bt nt)
  good_on_want s (Op Not) ok =
      good_cond B L (nat_le (floor s) tightest) _ _ (assumption (bt, ok)) (refused text B L t bt nt)
  good_on_want s (Op Flip) ok =
      good_cond B L (nat_le (floor s) tightest) _ _ (assumption (bt, ok)) (refused text B L t bt nt)
  good_on_want s (Mark OpenRound) ok = assumption (bt, ok)
  good_on_want s (Mark OpenBrace) ok = assumption (bt, ok)
  good_on_want s (Reserve If) ok =
      good_cond B L (nat_le (floor s) 0) _ _ (assumption (bt, ok)) (refused text B L t bt nt)
  good_on_want s k ok = refused text B L t bt nt

  pub good_on_negative : (x0 : List Frame) (x1 : ℕ) (x2 : Option ℤ) → GoodFrames B L x0
      → GoodMove B L (on_negative text t x0 x1 x2)
  good_on_negative s at (Some n) ok = assumption (bt, ok)
  good_on_negative s at None ok = refused text B L t bt nt

  pub good_on_minus : (x0 : List Frame) (x1 : ℕ) (x2 : ℕ) (x3 : TokenKind) → GoodFrames B L x0
      → GoodMove B L (on_minus text t x0 x1 x2 x3)
  good_on_minus s at end k ok = good_cond B L (is_signed end t) _ _ (good_on_negative s at (negative_of k)
      (assumption (bt, ok))) (good_on_want (prefixing at unary_op.Neg ∷ s) k (assumption (bt, ok)))

  pub good_on_if : (x0 : List Frame) (x1 : ℕ) (x2 : TokenKind) → GoodFrames B L x0
      → GoodMove B L (on_if text t x0 x1 x2)
  good_on_if s at (Mark OpenRound) ok = assumption (bt, ok)
  good_on_if s at k ok = refused text B L t bt nt

  pub good_on_want_then : (x0 : List Frame) (x1 : TokenKind) → GoodFrames B L x0
      → GoodMove B L (on_want_then text t x0 x1)
  good_on_want_then s Newline ok = assumption (bt, ok)
  good_on_want_then s k ok = good_on_want s k (assumption (bt, ok))

  pub good_on_claim_round : (x0 : List Frame) (x1 : Word) (x2 : Option TypeTree) (x3 : Tree) → GoodFrames B L x0
      → GoodMove B L (on_claim_round text t x0 x1 x2 x3)
  good_on_claim_round (post_of at b in_parentheses ∷ s) w a e ok = assumption (bt, ok)
  good_on_claim_round s w a e ok = refused text B L t bt nt

  pub good_on_claim_brace : (x0 : List Frame) (x1 : Word) (x2 : Option TypeTree) (x3 : Tree) → GoodFrames B L x0
      → GoodMove B L (on_claim_brace text t x0 x1 x2 x3)
  good_on_claim_brace (post_of at b in_braces ∷ s) w a e ok = assumption (bt, ok)
  good_on_claim_brace s w a e ok = refused text B L t bt nt

  pub good_on_claim_semi : (x0 : List Frame) (x1 : Word) (x2 : Option TypeTree) (x3 : Tree) → GoodFrames B L x0
      → GoodMove B L (on_claim_semi text t x0 x1 x2 x3)
  good_on_claim_semi (post_of at b in_braces ∷ s) w a e ok = assumption (bt, ok)
  good_on_claim_semi s w a e ok = refused text B L t bt nt

  pub good_on_required : (x0 : List Frame) (x1 : Tree) → GoodFrames B L x0 → GoodMove B L (on_required text t x0 x1)
  good_on_required (head_braces c ∷ s) e ok = assumption (bt, ok)
  good_on_required s e ok = refused text B L t bt nt

  pub good_on_measured : (x0 : List Frame) (x1 : ℕ) (x2 : List Tree) → GoodFrames B L x0 → B x1
      → GoodMove B L (on_measured text t x0 x1 x2)
  good_on_measured (head_braces c ∷ s) at es g h0 = (((g.0.0, good_late B L c.requirements at h0), g.1), tt)
  good_on_measured s at es g h0 = refused text B L t bt nt

  pub good_on_round_closed : (x0 : List Frame) (x1 : Tree) → GoodFrames B L x0
      → GoodMove B L (on_round_closed text t x0 x1)
  good_on_round_closed (round ∷ s) e g = (g.1, tt)
  good_on_round_closed (args at w ts es ∷ s) e g = (g.1, tt)
  good_on_round_closed (if_test at ∷ s) e g = ((tt, g.1), tt)
  good_on_round_closed (asserting at ∷ s) e g = ((tt, g.1), tt)
  good_on_round_closed (requiring ∷ s) e g = good_on_required s e g.1
  good_on_round_closed (measuring at es ∷ s) e g = good_on_measured s at (e ∷ es) g.1 g.0
  good_on_round_closed (tuple_or_round ∷ s) e g = (g.1, tt)
  good_on_round_closed (in_tuple es ∷ s) e g = (g.1, tt)
  good_on_round_closed (claiming w a ∷ s) e g = good_on_claim_round s w a e g.1
  good_on_round_closed s e g = refused text B L t bt nt

  pub good_on_comma : (x0 : List Frame) (x1 : Tree) → GoodFrames B L x0 → GoodMove B L (on_comma text t x0 x1)
  good_on_comma (args at w ts es ∷ s) e ok = assumption (bt, ok)
  good_on_comma (measuring at es ∷ s) e ok = assumption (bt, ok)
  good_on_comma (tuple_or_round ∷ s) e ok = assumption (bt, ok)
  good_on_comma (in_tuple es ∷ s) e ok = assumption (bt, ok)
  good_on_comma s e ok = refused text B L t bt nt

  pub good_on_else : (x0 : List Frame) (x1 : Tree) → GoodFrames B L x0 → GoodMove B L (on_else text t x0 x1)
  good_on_else (if_then at c ∷ s) e ok = assumption (bt, ok)
  good_on_else s e ok = refused text B L t bt nt

  pub good_on_head_closed : (x0 : List Frame) (x1 : Contracts) (x2 : Option Placed) (x3 : Tree)
      → GoodFrames B L x0 → GoodContracts B L x1 → GoodMove B L (on_head_closed text t x0 x1 x2 x3)
  good_on_head_closed (body_of h a d ∷ s) c (Some p) e g h0 = ((h0, g.1), tt)
  good_on_head_closed (body_of h a d ∷ s) c None e g h0 = (g, tt)
  good_on_head_closed s c p e g h0 = refused text B L t bt nt

  pub good_on_match_closed : (x0 : List Frame) (x1 : CaseText) → GoodFrames B L x0
      → GoodMove B L (on_match_closed text t x0 x1)
  good_on_match_closed (cases_of at x cs ∷ s) c ok = assumption (bt, ok)
  good_on_match_closed s c ok = refused text B L t bt nt

  pub good_on_next_case : (x0 : List Frame) (x1 : CaseText) → GoodFrames B L x0
      → GoodMove B L (on_next_case text t x0 x1)
  good_on_next_case (cases_of at x cs ∷ s) c ok = assumption (bt, ok)
  good_on_next_case s c ok = refused text B L t bt nt

  pub good_on_brace_closed : (x0 : List Frame) (x1 : Tree) → GoodFrames B L x0
      → GoodMove B L (on_brace_closed text t x0 x1)
  good_on_brace_closed (braces ∷ s) e g = (g.1, tt)
  good_on_brace_closed (head_braces c ∷ s) e g = good_on_head_closed s c c.first e g.1 g.0
  good_on_brace_closed (arm p q ∷ s) e g = good_on_match_closed s (record { pattern = p; guard = q; body = e }) g.1
  good_on_brace_closed (claiming w a ∷ s) e g = good_on_claim_brace s w a e g.1
  good_on_brace_closed (body_of h a c ∷ s) e g = tt
  good_on_brace_closed s e g = refused text B L t bt nt

  pub good_on_case_ended : (x0 : List Frame) (x1 : Tree) → GoodFrames B L x0
      → GoodMove B L (on_case_ended text t x0 x1)
  good_on_case_ended (arm p q ∷ s) e g = good_on_next_case s (record { pattern = p; guard = q; body = e }) g.1
  good_on_case_ended s e g = refused text B L t bt nt

  pub good_on_semi : (x0 : List Frame) (x1 : Tree) → GoodFrames B L x0 → GoodMove B L (on_semi text t x0 x1)
  good_on_semi (val_value at w a ∷ s) e ok = assumption (bt, ok)
  good_on_semi (after_val at w a x ∷ s) e ok = assumption (bt, ok)
  good_on_semi (after_assert at x ∷ s) e ok = assumption (bt, ok)
  good_on_semi (braces ∷ s) e ok = assumption (bt, ok)
  good_on_semi (head_braces c ∷ s) e ok = assumption (bt, ok)
  good_on_semi (arm p g ∷ s) e ok = assumption (bt, ok)
  good_on_semi (claiming w a ∷ s) e ok = good_on_claim_semi s w a e (assumption (bt, ok))
  good_on_semi (body_of h a c ∷ s) e ok = tt
  good_on_semi s e ok = refused text B L t bt nt

  pub good_on_semicolon : (x0 : List Frame) (x1 : Tree) → GoodFrames B L x0 → GoodMove B L (on_semicolon text t x0 x1)
  good_on_semicolon (if_then at c ∷ s) e ok = assumption (bt, ok)
  good_on_semicolon s e ok = good_on_semi s e (assumption (bt, ok))

  pub good_on_sealed_brace : (x0 : SealedBlock) → GoodFrames B L x0.frames → GoodMove B L (on_sealed_brace text t x0)
  good_on_sealed_brace b g = good_on_brace_closed b.frames b.tree g

  pub good_on_sealed_case : (x0 : SealedBlock) → GoodFrames B L x0.frames → GoodMove B L (on_sealed_case text t x0)
  good_on_sealed_case b g = good_on_case_ended b.frames b.tree g

  pub good_on_expr_end : (x0 : List Frame) (x1 : Tree) (x2 : TokenKind) → GoodFrames B L x0
      → GoodMove B L (on_expr_end text t x0 x1 x2)
  good_on_expr_end s e (Mark CloseRound) g = good_on_round_closed s e g
  good_on_expr_end s e (Mark Comma) g = good_on_comma s e g
  good_on_expr_end s e (Mark CloseBrace) g = good_on_sealed_brace (seal s e) (good_seal B L s e g)
  good_on_expr_end s e (Mark Semicolon) g = good_on_semicolon s e g
  good_on_expr_end s e Newline g = good_on_semi s e g
  good_on_expr_end s e (Reserve Else) g = good_on_else s e g
  good_on_expr_end s e (Reserve Case) g = good_on_sealed_case (seal s e) (good_seal B L s e g)
  good_on_expr_end s e k g = refused text B L t bt nt

  pub good_on_hole_end : (x0 : List Frame) (x1 : Tree) (x2 : TokenKind) → GoodFrames B L x0
      → GoodMove B L (on_hole_end text t x0 x1 x2)
  good_on_hole_end (claiming_hole ∷ s) e (Mark CloseRound) ok = good_on_claim_round s res None e (assumption (bt, ok))
  good_on_hole_end (claiming_hole ∷ s) e (Mark CloseBrace) ok = good_on_claim_brace s res None e (assumption (bt, ok))
  good_on_hole_end (claiming_hole ∷ s) e (Mark Semicolon) ok = good_on_claim_semi s res None e (assumption (bt, ok))
  good_on_hole_end (claiming_hole ∷ s) e Newline ok = good_on_claim_semi s res None e (assumption (bt, ok))
  good_on_hole_end s e k ok = refused text B L t bt nt

  pub good_on_end : (x0 : List Frame) (x1 : Tree) (x2 : Bool) (x3 : TokenKind) → GoodFrames B L x0
      → GoodMove B L (on_end text t x0 x1 x2 x3)
  good_on_end s e true k ok = good_on_hole_end s e k (assumption (bt, ok))
  good_on_end s e false k ok = good_on_expr_end s e k (assumption (bt, ok))

  pub good_on_unwound : (x0 : Operand) (x1 : TokenKind) → GoodFrames B L x0.frames
      → GoodMove B L (on_unwound text t x0 x1)
  good_on_unwound u k g = good_on_end u.frames u.tree u.holed k g

  pub good_on_operator : (x0 : BinaryOp) (x1 : Operand) → GoodFrames B L x1.frames
      → GoodMove B L (on_operator text t x0 x1)
  good_on_operator op u g = assumption (bt, g)

  pub good_on_guard : (x0 : List Frame) (x1 : Tree) (x2 : Bool) → GoodFrames B L x0
      → GoodMove B L (on_guard text t x0 x1 x2)
  good_on_guard (guarding p ∷ s) e false ok = assumption (bt, ok)
  good_on_guard s e h ok = refused text B L t bt nt

  pub good_on_match : (x0 : List Frame) (x1 : Tree) (x2 : Bool) → GoodFrames B L x0
      → GoodMove B L (on_match text t x0 x1 x2)
  good_on_match s e true ok = refused text B L t bt nt
  good_on_match s e false ok = good_cond B L (nat_le (floor s) 0) _ _ (assumption (bt, ok)) (refused text B L t bt nt)

  pub good_on_ensuring : (x0 : List Frame) (x1 : Tree) (x2 : Bool) → GoodFrames B L x0
      → GoodMove B L (on_ensuring text t x0 x1 x2)
  good_on_ensuring (body_of h a c ∷ s) e false ok = assumption (bt, ok)
  good_on_ensuring s e h ok = refused text B L t bt nt

  pub good_on_holds : (x0 : List Frame) (x1 : Tree) (x2 : Bool) → GoodFrames B L x0
      → GoodMove B L (on_holds text t x0 x1 x2)
  good_on_holds (body_of h a c ∷ s) e false ok = assumption (bt, ok)
  good_on_holds s e h ok = refused text B L t bt nt

  pub good_on_post_word : (x0 : List Frame) (x1 : Tree) (x2 : Bool) (x3 : Role) → GoodFrames B L x0
      → GoodMove B L (on_post_word text t x0 x1 x2 x3)
  good_on_post_word s e h ensuring_word ok = good_on_ensuring s e h (assumption (bt, ok))
  good_on_post_word s e h holds_word ok = good_on_holds s e h (assumption (bt, ok))
  good_on_post_word s e h r ok = refused text B L t bt nt

  pub good_on_post_operand : (x0 : Operand) → GoodFrames B L x0.frames → GoodMove B L (on_post_operand text t x0)
  good_on_post_operand u g = good_on_post_word u.frames u.tree u.holed (role (word text t)) g

  pub good_on_binary : (x0 : List Frame) (x1 : Tree) (x2 : Bool) (x3 : Option BinaryOp) → GoodFrames B L x0
      → GoodMove B L (on_binary text t x0 x1 x2 x3)
  good_on_binary s e h (Some op) g = good_on_operator op (unwind (level op) s e h) (good_unwind B L (level op) s e
      h g)
  good_on_binary s e h None g = refused text B L t bt nt

  pub good_on_operand : (x0 : List Frame) (x1 : Tree) (x2 : Bool) (x3 : TokenKind) → GoodFrames B L x0
      → GoodMove B L (on_operand text t x0 x1 x2 x3)
  good_on_operand s e h (Op Arrow) g = let u = unwind loosest s e h in good_on_guard u.frames u.tree u.holed
      (good_unwind B L loosest s e h g)
  good_on_operand s e h (Op o) g = good_on_binary s e h (binary_of o) g
  good_on_operand s e h (Reserve Match) g = let u = unwind loosest s e h in
      good_on_match u.frames u.tree u.holed (good_unwind B L loosest s e h g)
  good_on_operand s e h Name g = good_on_post_operand (unwind loosest s e h) (good_unwind B L loosest s e h g)
  good_on_operand s e h k g = good_on_unwound (unwind 0 s e h) k (good_unwind B L 0 s e h g)

  pub good_on_have : (x0 : List Frame) (x1 : Tree) (x2 : Bool) (x3 : TokenKind) → GoodFrames B L x0
      → GoodMove B L (on_have text t x0 x1 x2 x3)
  good_on_have s e h (Mark Dot) ok = assumption (bt, ok)
  good_on_have s e h k ok = good_on_operand s e h k (assumption (bt, ok))

  pub good_on_dot_name : (x0 : List Frame) (x1 : Tree) (x2 : Bool) (x3 : Role) → GoodFrames B L x0
      → GoodMove B L (on_dot_name text t x0 x1 x2 x3)
  good_on_dot_name s e h plain ok = assumption (bt, ok)
  good_on_dot_name s e h r ok = good_on_post_word s e h r (assumption (bt, ok))

  pub good_on_dot : (x0 : List Frame) (x1 : Tree) (x2 : Bool) (x3 : TokenKind) → GoodFrames B L x0
      → GoodMove B L (on_dot text t x0 x1 x2 x3)
  good_on_dot s e h Name ok = good_on_dot_name s e h (role (word text t)) (assumption (bt, ok))
  good_on_dot s e h k ok = refused text B L t bt nt

  pub good_on_have_negative : (x0 : List Frame) (x1 : Tree) (x2 : TokenKind) → GoodFrames B L x0
      → GoodMove B L (on_have_negative text t x0 x1 x2)
  good_on_have_negative s e (Mark Dot) ok = assumption (bt, ok)
  good_on_have_negative s e k ok = good_on_operand s e false k (assumption (bt, ok))

  pub good_on_negative_field : (x0 : List Frame) (x1 : Tree) (x2 : Role) → GoodFrames B L x0
      → GoodMove B L (on_negative_field text t x0 x1 x2)
  good_on_negative_field s e plain ok = assumption (bt, ok)
  good_on_negative_field s e r ok = refused text B L t bt nt

  pub good_on_negative_dot : (x0 : List Frame) (x1 : Tree) (x2 : TokenKind) → GoodFrames B L x0
      → GoodMove B L (on_negative_dot text t x0 x1 x2)
  good_on_negative_dot s e Name ok = good_on_negative_field s e (role (word text t)) (assumption (bt, ok))
  good_on_negative_dot s e k ok = refused text B L t bt nt

  pub good_on_match_dot : (x0 : List Frame) (x1 : Tree) → GoodFrames B L x0 → GoodMove B L (on_match_dot text t x0 x1)
  good_on_match_dot (body_of h a c ∷ s) e ok = assumption (bt, ok)
  good_on_match_dot s e ok = refused text B L t bt nt

  pub good_on_have_matched : (x0 : List Frame) (x1 : Tree) (x2 : TokenKind) → GoodFrames B L x0
      → GoodMove B L (on_have_matched text t x0 x1 x2)
  good_on_have_matched s e (Mark Dot) g = good_on_match_dot s e g
  good_on_have_matched s e Name g = good_on_post_word s e false (role (word text t)) g
  good_on_have_matched s e k g = good_on_unwound (unwind 0 s e false) k (good_unwind B L 0 s e false g)

  pub good_on_matched_dot : (x0 : List Frame) (x1 : Tree) (x2 : TokenKind) → GoodFrames B L x0
      → GoodMove B L (on_matched_dot text t x0 x1 x2)
  good_on_matched_dot s e Name ok = good_on_post_word s e false (role (word text t)) (assumption (bt, ok))
  good_on_matched_dot s e k ok = refused text B L t bt nt

  pub good_on_name : (x0 : List Frame) (x1 : ℕ) (x2 : Word) (x3 : TokenKind) → GoodFrames B L x0
      → GoodMove B L (on_name text t x0 x1 x2 x3)
  good_on_name s at w (Mark OpenSquare) ok = assumption (bt, ok)
  good_on_name s at w (Mark OpenRound) ok = assumption (bt, ok)
  good_on_name s at w k ok = good_on_have s (name at w) false k (assumption (bt, ok))

  pub good_on_name_types : (x0 : List Frame) (x1 : ℕ) (x2 : Word) (x3 : TypeTrees) (x4 : TokenKind)
      → GoodFrames B L x0 → GoodMove B L (on_name_types text t x0 x1 x2 x3 x4)
  good_on_name_types s at w ts (Mark OpenRound) ok = assumption (bt, ok)
  good_on_name_types s at w ts k ok = good_on_have s (apply at w ts no_trees) false k (assumption (bt, ok))

  pub good_on_args_open : (x0 : List Frame) (x1 : ℕ) (x2 : Word) (x3 : TypeTrees) (x4 : TokenKind)
      → GoodFrames B L x0 → GoodMove B L (on_args_open text t x0 x1 x2 x3 x4)
  good_on_args_open s at w ts (Mark CloseRound) ok = assumption (bt, ok)
  good_on_args_open s at w ts k ok = good_on_want (args at w ts [] ∷ s) k (assumption (bt, ok))

  pub good_on_int : (x0 : List Frame) (x1 : ℕ) (x2 : TokenKind) → GoodFrames B L x0 → B x1
      → GoodMove B L (on_int text t x0 x1 x2)
  good_on_int s at (Mark Dot) ok h0 = assumption (bt, ok, h0)
  good_on_int s at k ok h0 = assumption (bt, ok, h0)

  pub good_on_bound : (x0 : List Frame) (x1 : ℕ) (x2 : Option ℤ) → GoodFrames B L x0
      → GoodMove B L (on_bound text t x0 x1 x2)
  good_on_bound s at (Some n) ok = assumption (bt, ok)
  good_on_bound s at None ok = refused text B L t bt nt

  pub good_on_int_dot : (x0 : List Frame) (x1 : ℕ) (x2 : TokenKind) → GoodFrames B L x0
      → GoodMove B L (on_int_dot text t x0 x1 x2)
  good_on_int_dot s at Name ok = good_on_bound s at (bound_of (word text t)) (assumption (bt, ok))
  good_on_int_dot s at k ok = refused text B L t bt nt

  pub good_on_match_word : (x0 : List Frame) (x1 : ℕ) (x2 : Tree) (x3 : TokenKind) → GoodFrames B L x0
      → GoodMove B L (on_match_word text t x0 x1 x2 x3)
  good_on_match_word s at e (Mark OpenBrace) ok = assumption (bt, ok)
  good_on_match_word s at e k ok = refused text B L t bt nt

  pub good_on_want_case : (x0 : List Frame) (x1 : TokenKind) → GoodFrames B L x0
      → GoodMove B L (on_want_case text t x0 x1)
  good_on_want_case s (Reserve Case) ok = assumption (bt, ok)
  good_on_want_case s k ok = refused text B L t bt nt

  pub good_on_want_else : (x0 : List Frame) (x1 : Tree) (x2 : TokenKind) → GoodFrames B L x0
      → GoodMove B L (on_want_else text t x0 x1 x2)
  good_on_want_else s e (Reserve Else) ok = good_on_else s e (assumption (bt, ok))
  good_on_want_else s e k ok = refused text B L t bt nt
