-- The faults of each step in statements, contracts, postconditions and heads.
use Rattle.pp_grammar.specs.Frames.{Contracts, Frame, Head, Kind, Placed, body_of, claiming_hole, head_braces, header}
use Rattle.pp_grammar.specs.Frames.{measuring, of_class, of_def, round}
use Rattle.pp_grammar.specs.Joining.{has_measure, seal}
use Rattle.pp_grammar.specs.StepBodies.{misplaced_name, on_after_body, on_after_claim, on_after_decreases}
use Rattle.pp_grammar.specs.StepBodies.{on_after_ensuring, on_after_last, on_after_params, on_after_require}
use Rattle.pp_grammar.specs.StepBodies.{on_after_stat, on_after_tuple, on_after_type_param, on_after_type_params}
use Rattle.pp_grammar.specs.StepBodies.{on_assert_word, on_class_params, on_contracted_dot, on_contracted_end}
use Rattle.pp_grammar.specs.StepBodies.{on_contracted_name, on_contracted_operand, on_contracted_operator, on_decreases}
use Rattle.pp_grammar.specs.StepBodies.{on_decreases_word, on_def_params, on_have_contracted, on_head_name}
use Rattle.pp_grammar.specs.StepBodies.{on_lambda_closed, on_lambda_name, on_lambda_round, on_lambda_round_name}
use Rattle.pp_grammar.specs.StepBodies.{on_lambda_typed, on_late_name, on_late_round, on_measure_open, on_misplaced}
use Rattle.pp_grammar.specs.StepBodies.{on_no_params, on_object_name, on_param_name, on_params_open, on_require}
use Rattle.pp_grammar.specs.StepBodies.{on_require_word, on_stat_name, on_tuple_closed, on_type_param, on_val_name}
use Rattle.pp_grammar.specs.StepBodies.{on_val_word, on_want_body, on_want_lambda, on_want_lambda_or_semi, on_want_name}
use Rattle.pp_grammar.specs.StepBodies.{on_want_object_name, on_want_param, on_want_stat, on_want_type_param}
use Rattle.pp_grammar.specs.Words.{Role, assert_word, binary_of, decreases_word, ensuring_word, holds_word, int_word}
use Rattle.pp_grammar.specs.Words.{plain, require_word, role, word}
use Rattle.pp_grammar_laws.proofs.FaultExprs.{good_on_claim_brace, good_on_have, good_on_int, good_on_measured}
use Rattle.pp_grammar_laws.proofs.FaultExprs.{good_on_name, good_on_operand_name, good_on_post_word}
use Rattle.pp_grammar_laws.proofs.FaultExprs.{good_on_sealed_brace, good_on_sealed_case, good_on_want}
use Rattle.pp_grammar_laws.proofs.Faults.{GoodContracts, GoodFrames, GoodMove, GoodOffset, GoodPlaced, NameOk}
use Rattle.pp_grammar_laws.proofs.Faults.{good_first, good_seal, refused}
use Rattle.pp_tokens.specs.declared.token.Bracket.TheVariants.{CloseBrace, CloseRound, CloseSquare, Comma, Dot}
use Rattle.pp_tokens.specs.declared.token.Bracket.TheVariants.{OpenBrace, OpenRound, OpenSquare, Semicolon}
use Rattle.pp_tokens.specs.declared.token.Operator.TheVariants.{Arrow, Assign, Colon}
use Rattle.pp_tokens.specs.declared.token.Reserved.TheVariants.{Case, Extends, Match, Val}
use Rattle.pp_tokens.specs.declared.token.Token.{Token}
use Rattle.pp_tokens.specs.declared.token.TokenKind.{TokenKind}
use Rattle.pp_tokens.specs.declared.token.TokenKind.TheVariants.{Mark, Name, Newline, Op, Word as Reserve}
use Rattle.pp_tree.specs.Plain.{PostTree, Tree, TypeTree, Word, name}
use Rattle.pp_tree.specs.declared.operator.BinaryOp.{BinaryOp}
use Rattle.std.proofs.Common.{Bool, List, None, Option, Some, [], false, refl, true, ℕ, ◌∷◌, ◌≡◌}

module _ (text : Word) (B : ℕ → Type 0) (L : Word → ℕ → Type 0) (t : Token) (bt : B t.from)
    (nt : t.kind ≡ Name → NameOk B L (word text t) t.from) where
  pub good_on_require_word : (x0 : List Frame) (x1 : Contracts) (x2 : Option ℕ) → GoodFrames B L x0
      → GoodContracts B L x1 → GoodOffset B L x2 → L (word text t) t.from
      → GoodMove B L (on_require_word text t x0 x1 x2)
  good_on_require_word s c (Some at) g h0 h1 h2 = h1
  good_on_require_word s c None g h0 h1 h2 = (((good_first B L c.first _ h0.0 (h2, bt), h0.1), g), tt)

  pub good_on_decreases_word : (x0 : List Frame) (x1 : Contracts) (x2 : Bool) → GoodFrames B L x0
      → GoodContracts B L x1 → L (word text t) t.from → GoodMove B L (on_decreases_word text t x0 x1 x2)
  good_on_decreases_word s c true g h0 h2 = bt
  good_on_decreases_word s c false g h0 h2 = (((good_first B L c.first _ h0.0 (h2, bt), h0.1), g), bt)

  pub good_on_require : (x0 : List Frame) → GoodFrames B L x0 → L (word text t) t.from
      → GoodMove B L (on_require text t x0)
  good_on_require (head_braces c ∷ s) g h = good_on_require_word s c c.late g.1 g.0 g.0.1 h
  good_on_require s g h = refused text B L t bt nt

  pub good_on_decreases : (x0 : List Frame) → GoodFrames B L x0 → L (word text t) t.from
      → GoodMove B L (on_decreases text t x0)
  good_on_decreases (head_braces c ∷ s) g h = good_on_decreases_word s c (has_measure c.measure) g.1 g.0 h
  good_on_decreases s g h = refused text B L t bt nt

  pub good_on_stat_name : (x0 : List Frame) (x1 : Role) → GoodFrames B L x0 → role (word text t) ≡ x1
      → NameOk B L (word text t) t.from → GoodMove B L (on_stat_name text t x0 x1)
  good_on_stat_name s assert_word g e n = assumption (bt, g)
  good_on_stat_name s require_word g e n = good_on_require s g (n.requires e)
  good_on_stat_name s decreases_word g e n = good_on_decreases s g (n.decreases e)
  good_on_stat_name s r g e n = good_on_operand_name text B L t bt nt s r g

  pub good_on_want_stat : (x0 : List Frame) (x1 : TokenKind) → GoodFrames B L x0 → t.kind ≡ x1
      → GoodMove B L (on_want_stat text t x0 x1)
  good_on_want_stat s Newline g e = assumption (bt, g)
  good_on_want_stat s (Mark Semicolon) g e = assumption (bt, g)
  good_on_want_stat s (Reserve Val) g e = assumption (bt, g)
  good_on_want_stat s Name g e = good_on_stat_name s (role (word text t)) g refl (nt e)
  good_on_want_stat s k g e = good_on_want text B L t bt nt s k g

  pub good_on_after_stat : (x0 : List Frame) (x1 : TokenKind) → GoodFrames B L x0
      → GoodMove B L (on_after_stat text t x0 x1)
  good_on_after_stat s Newline ok = assumption (bt, ok)
  good_on_after_stat s (Mark Semicolon) ok = assumption (bt, ok)
  good_on_after_stat s k ok = refused text B L t bt nt

  pub good_on_after_last : (x0 : List Frame) (x1 : Tree) (x2 : TokenKind) → GoodFrames B L x0
      → GoodMove B L (on_after_last text t x0 x1 x2)
  good_on_after_last s e Newline g = assumption (bt, g)
  good_on_after_last s e (Mark Semicolon) g = assumption (bt, g)
  good_on_after_last s e (Mark CloseBrace) g = good_on_sealed_brace text B L t bt nt (seal s e) (good_seal B L s e g)
  good_on_after_last s e (Reserve Case) g = good_on_sealed_case text B L t bt nt (seal s e) (good_seal B L s e g)
  good_on_after_last s e k g = refused text B L t bt nt

  pub good_on_val_word : (x0 : List Frame) (x1 : ℕ) (x2 : TokenKind) → GoodFrames B L x0
      → GoodMove B L (on_val_word text t x0 x1 x2)
  good_on_val_word s at Name ok = assumption (bt, ok)
  good_on_val_word s at k ok = refused text B L t bt nt

  pub good_on_val_name : (x0 : List Frame) (x1 : ℕ) (x2 : Word) (x3 : TokenKind) → GoodFrames B L x0
      → GoodMove B L (on_val_name text t x0 x1 x2 x3)
  good_on_val_name s at w (Op Colon) ok = assumption (bt, ok)
  good_on_val_name s at w (Op Assign) ok = assumption (bt, ok)
  good_on_val_name s at w k ok = refused text B L t bt nt

  pub good_on_assert_word : (x0 : List Frame) (x1 : ℕ) (x2 : TokenKind) → GoodFrames B L x0
      → GoodMove B L (on_assert_word text t x0 x1 x2)
  good_on_assert_word s at (Mark OpenRound) ok = assumption (bt, ok)
  good_on_assert_word s at k ok = refused text B L t bt nt

  pub good_on_after_require : (x0 : List Frame) (x1 : TokenKind) → GoodFrames B L x0
      → GoodMove B L (on_after_require text t x0 x1)
  good_on_after_require s (Mark OpenRound) ok = assumption (bt, ok)
  good_on_after_require s k ok = refused text B L t bt nt

  pub good_on_after_decreases : (x0 : List Frame) (x1 : ℕ) (x2 : TokenKind) → GoodFrames B L x0 → B x1
      → GoodMove B L (on_after_decreases text t x0 x1 x2)
  good_on_after_decreases s at (Mark OpenRound) ok h0 = assumption (bt, ok, h0)
  good_on_after_decreases s at k ok h0 = refused text B L t bt nt

  pub good_on_measure_open : (x0 : List Frame) (x1 : TokenKind) → GoodFrames B L x0
      → GoodMove B L (on_measure_open text t x0 x1)
  good_on_measure_open s (Mark OpenRound) ok = assumption (bt, ok)
  good_on_measure_open s k ok = good_on_want text B L t bt nt s k (assumption (bt, ok))

  pub good_on_tuple_closed : (x0 : List Frame) (x1 : List Tree) → GoodFrames B L x0
      → GoodMove B L (on_tuple_closed text t x0 x1)
  good_on_tuple_closed (measuring at [] ∷ s) es g = good_on_measured text B L t bt nt s at es g.1 g.0
  good_on_tuple_closed (measuring at (x ∷ xs) ∷ s) es g = refused text B L t bt nt
  good_on_tuple_closed s es g = refused text B L t bt nt

  pub good_on_after_tuple : (x0 : List Frame) (x1 : List Tree) (x2 : TokenKind) → GoodFrames B L x0
      → GoodMove B L (on_after_tuple text t x0 x1 x2)
  good_on_after_tuple s es (Mark CloseRound) ok = good_on_tuple_closed s es (assumption (bt, ok))
  good_on_after_tuple s es k ok = refused text B L t bt nt

  pub good_on_want_body : (x0 : List Frame) (x1 : TokenKind) → GoodFrames B L x0
      → GoodMove B L (on_want_body text t x0 x1)
  good_on_want_body s (Mark OpenBrace) ok = assumption (bt, ok)
  good_on_want_body s k ok = good_on_want text B L t bt nt s k (assumption (bt, ok))

  pub good_on_contracted_end : (x0 : List Frame) (x1 : Tree) → GoodFrames B L x0
      → GoodMove B L (on_contracted_end text t x0 x1)
  good_on_contracted_end (body_of h a c ∷ s) e ok = tt
  good_on_contracted_end s e ok = refused text B L t bt nt

  pub good_on_misplaced : (x0 : Option Placed) → GoodPlaced B L x0 → GoodMove B L (on_misplaced text t x0)
  good_on_misplaced (Some p) h = h
  good_on_misplaced None h = refused text B L t bt nt

  pub good_on_contracted_operand : (x0 : List Frame) → GoodFrames B L x0
      → GoodMove B L (on_contracted_operand text t x0)
  good_on_contracted_operand (body_of h a c ∷ s) g = good_on_misplaced c.first g.0.0
  good_on_contracted_operand s g = refused text B L t bt nt

  pub good_on_contracted_operator : (x0 : List Frame) (x1 : Option BinaryOp) → GoodFrames B L x0
      → GoodMove B L (on_contracted_operator text t x0 x1)
  good_on_contracted_operator s (Some op) ok = good_on_contracted_operand s (assumption (bt, ok))
  good_on_contracted_operator s None ok = refused text B L t bt nt

  pub good_on_have_contracted : (x0 : List Frame) (x1 : Tree) (x2 : TokenKind) → GoodFrames B L x0
      → GoodMove B L (on_have_contracted text t x0 x1 x2)
  good_on_have_contracted s e (Mark Dot) ok = assumption (bt, ok)
  good_on_have_contracted s e Name ok = good_on_post_word text B L t bt nt s e false (role (word text t))
      (assumption (bt, ok))
  good_on_have_contracted s e Newline ok = good_on_contracted_end s e (assumption (bt, ok))
  good_on_have_contracted s e (Mark Semicolon) ok = good_on_contracted_end s e (assumption (bt, ok))
  good_on_have_contracted s e (Mark CloseBrace) ok = good_on_contracted_end s e (assumption (bt, ok))
  good_on_have_contracted s e (Op o) ok = good_on_contracted_operator s (binary_of o) (assumption (bt, ok))
  good_on_have_contracted s e (Reserve Match) ok = good_on_contracted_operand s (assumption (bt, ok))
  good_on_have_contracted s e k ok = refused text B L t bt nt

  pub good_on_contracted_name : (x0 : List Frame) (x1 : Tree) (x2 : Role) → GoodFrames B L x0
      → GoodMove B L (on_contracted_name text t x0 x1 x2)
  good_on_contracted_name s e ensuring_word ok = good_on_post_word text B L t bt nt s e false ensuring_word
      (assumption (bt, ok))
  good_on_contracted_name s e holds_word ok = good_on_post_word text B L t bt nt s e false holds_word (assumption
      (bt, ok))
  good_on_contracted_name s e r ok = good_on_contracted_operand s (assumption (bt, ok))

  pub good_on_contracted_dot : (x0 : List Frame) (x1 : Tree) (x2 : TokenKind) → GoodFrames B L x0
      → GoodMove B L (on_contracted_dot text t x0 x1 x2)
  good_on_contracted_dot s e Name ok = good_on_contracted_name s e (role (word text t)) (assumption (bt, ok))
  good_on_contracted_dot s e k ok = refused text B L t bt nt

  pub good_on_after_ensuring : (x0 : List Frame) (x1 : ℕ) (x2 : Tree) (x3 : TokenKind) → GoodFrames B L x0
      → GoodMove B L (on_after_ensuring text t x0 x1 x2 x3)
  good_on_after_ensuring s at e (Mark OpenRound) ok = assumption (bt, ok)
  good_on_after_ensuring s at e (Mark OpenBrace) ok = assumption (bt, ok)
  good_on_after_ensuring s at e k ok = refused text B L t bt nt

  pub good_on_want_lambda : (x0 : List Frame) (x1 : TokenKind) → GoodFrames B L x0 → t.kind ≡ x1
      → GoodMove B L (on_want_lambda text t x0 x1)
  good_on_want_lambda s Name g e = (g, nt e)
  good_on_want_lambda s (Mark OpenRound) g e = (g, tt)
  good_on_want_lambda s k g e = good_on_want text B L t bt nt (claiming_hole ∷ s) k (tt, g)

  pub good_on_want_lambda_or_semi : (x0 : List Frame) (x1 : TokenKind) → GoodFrames B L x0 → t.kind ≡ x1
      → GoodMove B L (on_want_lambda_or_semi text t x0 x1)
  good_on_want_lambda_or_semi s Newline g e = (g, tt)
  good_on_want_lambda_or_semi s (Mark Semicolon) g e = (g, tt)
  good_on_want_lambda_or_semi s k g e = good_on_want_lambda s k g e

  good_misplaced_name : (at : ℕ) (w : Word) (r : Role) → NameOk B L w at → role w ≡ r
      → GoodMove B L (misplaced_name text t at w r)
  good_misplaced_name at w require_word n e = (n.requires e, n.begins)
  good_misplaced_name at w decreases_word n e = (n.decreases e, n.begins)
  good_misplaced_name at w r n e = n.begins

  pub good_on_late_name : (x0 : List Frame) (x1 : ℕ) (x2 : Word) (x3 : Role) (x4 : TokenKind) → GoodFrames B L x0
      → NameOk B L x2 x1 → role x2 ≡ x3 → GoodMove B L (on_late_name text t x0 x1 x2 x3 x4)
  good_on_late_name s at w plain k g n e = good_on_name text B L t bt nt s at w k g
  good_on_late_name s at w int_word k g n e = good_on_int text B L t bt nt s at k g n.begins
  good_on_late_name s at w r k g n e = good_misplaced_name at w r n e

  pub good_on_lambda_name : (x0 : List Frame) (x1 : ℕ) (x2 : Word) (x3 : TokenKind) → GoodFrames B L x0
      → NameOk B L x2 x1 → GoodMove B L (on_lambda_name text t x0 x1 x2 x3)
  good_on_lambda_name s at w (Op Arrow) g n = ((tt, g), tt)
  good_on_lambda_name s at w (Op Colon) g n = ((tt, g), tt)
  good_on_lambda_name s at w k g n = good_on_late_name (claiming_hole ∷ s) at w (role w) k (tt, g) n refl

  pub good_on_lambda_round : (x0 : List Frame) (x1 : TokenKind) → GoodFrames B L x0 → t.kind ≡ x1
      → GoodMove B L (on_lambda_round text t x0 x1)
  good_on_lambda_round s Name g e = (g, nt e)
  good_on_lambda_round s k g e = good_on_want text B L t bt nt (round ∷ claiming_hole ∷ s) k (tt, (tt, g))

  pub good_on_lambda_round_name : (x0 : List Frame) (x1 : ℕ) (x2 : Word) (x3 : TokenKind) → GoodFrames B L x0
      → NameOk B L x2 x1 → GoodMove B L (on_lambda_round_name text t x0 x1 x2 x3)
  good_on_lambda_round_name s at w (Mark CloseRound) g n = (g, n)
  good_on_lambda_round_name s at w (Op Colon) g n = ((tt, g), tt)
  good_on_lambda_round_name s at w k g n = good_on_late_name (round ∷ claiming_hole ∷ s) at w (role w) k (
    tt,
    (
      tt,
      g,
    ),
  ) n refl

  pub good_on_late_round : (x0 : List Frame) (x1 : ℕ) (x2 : Word) (x3 : Role) (x4 : TokenKind)
      → GoodFrames B L x0 → NameOk B L x2 x1 → role x2 ≡ x3 → GoodMove B L (on_late_round text t x0 x1 x2 x3 x4)
  good_on_late_round s at w plain k g n e = good_on_have text B L t bt nt s (name at w) false k g
  good_on_late_round s at w r k g n e = good_misplaced_name at w r n e

  pub good_on_lambda_closed : (x0 : List Frame) (x1 : ℕ) (x2 : Word) (x3 : TokenKind) → GoodFrames B L x0
      → NameOk B L x2 x1 → GoodMove B L (on_lambda_closed text t x0 x1 x2 x3)
  good_on_lambda_closed s at w (Op Arrow) g n = ((tt, g), tt)
  good_on_lambda_closed s at w k g n = good_on_late_round (claiming_hole ∷ s) at w (role w) k (tt, g) n refl

  pub good_on_lambda_typed : (x0 : List Frame) (x1 : Word) (x2 : TypeTree) (x3 : TokenKind) → GoodFrames B L x0
      → GoodMove B L (on_lambda_typed text t x0 x1 x2 x3)
  good_on_lambda_typed s w a (Op Arrow) ok = assumption (bt, ok)
  good_on_lambda_typed s w a k ok = refused text B L t bt nt

  pub good_on_after_claim : (x0 : List Frame) (x1 : Word) (x2 : Option TypeTree) (x3 : Tree) (x4 : TokenKind)
      → GoodFrames B L x0 → GoodMove B L (on_after_claim text t x0 x1 x2 x3 x4)
  good_on_after_claim s w a e Newline ok = assumption (bt, ok)
  good_on_after_claim s w a e (Mark Semicolon) ok = assumption (bt, ok)
  good_on_after_claim s w a e (Mark CloseBrace) ok = good_on_claim_brace text B L t bt nt s w a e (assumption (
    bt,
    ok,
  ))
  good_on_after_claim s w a e k ok = refused text B L t bt nt

  pub good_on_after_body : (x0 : List Frame) (x1 : Tree) (x2 : Option PostTree) → GoodFrames B L x0
      → GoodMove B L (on_after_body text t x0 x1 x2)
  good_on_after_body (body_of h a c ∷ s) e p ok = tt
  good_on_after_body s e p ok = refused text B L t bt nt

  pub good_on_want_name : (x0 : List Frame) (x1 : Kind) (x2 : TokenKind) → GoodFrames B L x0
      → GoodMove B L (on_want_name text t x0 x1 x2)
  good_on_want_name s kind Name ok = assumption (bt, ok)
  good_on_want_name s kind k ok = refused text B L t bt nt

  pub good_on_class_params : (x0 : List Frame) (x1 : Bool) (x2 : Bool) (x3 : Bool) (x4 : Head) (x5 : TokenKind)
      → GoodFrames B L x0 → GoodMove B L (on_class_params text t x0 x1 x2 x3 x4 x5)
  good_on_class_params s sealed case trait h (Reserve Extends) ok = assumption (bt, ok)
  good_on_class_params s sealed case trait h k ok = tt

  pub good_on_def_params : (x0 : List Frame) (x1 : Head) (x2 : TokenKind) → GoodFrames B L x0
      → GoodMove B L (on_def_params text t x0 x1 x2)
  good_on_def_params s h (Op Colon) ok = assumption (bt, ok)
  good_on_def_params s h k ok = refused text B L t bt nt

  pub good_on_after_params : (x0 : List Frame) (x1 : TokenKind) → GoodFrames B L x0
      → GoodMove B L (on_after_params text t x0 x1)
  good_on_after_params (header (of_class sealed case trait) h ∷ s) k ok = good_on_class_params s sealed case trait
      h k (assumption (bt, ok))
  good_on_after_params (header of_def h ∷ s) k ok = good_on_def_params s h k (assumption (bt, ok))
  good_on_after_params s k ok = refused text B L t bt nt

  pub good_on_after_type_params : (x0 : List Frame) (x1 : TokenKind) → GoodFrames B L x0
      → GoodMove B L (on_after_type_params text t x0 x1)
  good_on_after_type_params s (Mark OpenRound) ok = assumption (bt, ok)
  good_on_after_type_params s k ok = good_on_after_params s k (assumption (bt, ok))

  pub good_on_head_name : (x0 : List Frame) (x1 : TokenKind) → GoodFrames B L x0
      → GoodMove B L (on_head_name text t x0 x1)
  good_on_head_name s (Mark OpenSquare) ok = assumption (bt, ok)
  good_on_head_name s k ok = good_on_after_type_params s k (assumption (bt, ok))

  pub good_on_type_param : (x0 : List Frame) → GoodFrames B L x0 → GoodMove B L (on_type_param text t x0)
  good_on_type_param (header kind h ∷ s) ok = assumption (bt, ok)
  good_on_type_param s ok = refused text B L t bt nt

  pub good_on_want_type_param : (x0 : List Frame) (x1 : TokenKind) → GoodFrames B L x0
      → GoodMove B L (on_want_type_param text t x0 x1)
  good_on_want_type_param s Name ok = good_on_type_param s (assumption (bt, ok))
  good_on_want_type_param s k ok = refused text B L t bt nt

  pub good_on_after_type_param : (x0 : List Frame) (x1 : TokenKind) → GoodFrames B L x0
      → GoodMove B L (on_after_type_param text t x0 x1)
  good_on_after_type_param s (Mark Comma) ok = assumption (bt, ok)
  good_on_after_type_param s (Mark CloseSquare) ok = assumption (bt, ok)
  good_on_after_type_param s k ok = refused text B L t bt nt

  pub good_on_want_param : (x0 : List Frame) (x1 : TokenKind) → GoodFrames B L x0
      → GoodMove B L (on_want_param text t x0 x1)
  good_on_want_param s Name ok = assumption (bt, ok)
  good_on_want_param s k ok = refused text B L t bt nt

  pub good_on_no_params : (x0 : List Frame) → GoodFrames B L x0 → GoodMove B L (on_no_params text t x0)
  good_on_no_params (header kind h ∷ s) ok = assumption (bt, ok)
  good_on_no_params s ok = refused text B L t bt nt

  pub good_on_params_open : (x0 : List Frame) (x1 : TokenKind) → GoodFrames B L x0
      → GoodMove B L (on_params_open text t x0 x1)
  good_on_params_open s (Mark CloseRound) ok = good_on_no_params s (assumption (bt, ok))
  good_on_params_open s k ok = good_on_want_param s k (assumption (bt, ok))

  pub good_on_param_name : (x0 : List Frame) (x1 : ℕ) (x2 : Word) (x3 : TokenKind) → GoodFrames B L x0
      → GoodMove B L (on_param_name text t x0 x1 x2 x3)
  good_on_param_name s at w (Op Colon) ok = assumption (bt, ok)
  good_on_param_name s at w k ok = refused text B L t bt nt

  pub good_on_want_object_name : (x0 : List Frame) (x1 : TokenKind) → GoodFrames B L x0
      → GoodMove B L (on_want_object_name text t x0 x1)
  good_on_want_object_name s Name ok = assumption (bt, ok)
  good_on_want_object_name s k ok = refused text B L t bt nt

  pub good_on_object_name : (x0 : List Frame) (x1 : ℕ) (x2 : Word) (x3 : TokenKind) → GoodFrames B L x0
      → GoodMove B L (on_object_name text t x0 x1 x2 x3)
  good_on_object_name s at w (Reserve Extends) ok = assumption (bt, ok)
  good_on_object_name s at w k ok = refused text B L t bt nt
