-- What a fault may say: its offset begins a token, and its name is one that is left out. Here B tells of an offset that
-- a token begins there, and L of a name and an offset that the name is left out there.
use Rattle.std.specs.Prelude.{nat_le}
use Rattle.pp_grammar.specs.Frames.{Contracts, Fault, Frame, Mode, Move, Placed, after_assert, after_decreases}
use Rattle.pp_grammar.specs.Frames.{after_int, after_lambda_closed, after_lambda_name, after_lambda_round_name}
use Rattle.pp_grammar.specs.Frames.{after_pattern_minus, after_pattern_name, after_val, body_of, ends, go, have_pattern}
use Rattle.pp_grammar.specs.Frames.{head_braces, if_rest, left, measuring, naming, pattern_args, pattern_args_open}
use Rattle.pp_grammar.specs.Frames.{prefixing, stop, syntax_at, unsupported_at}
use Rattle.pp_grammar.specs.Joining.{Operand, first_or, late_behind, seal, unwind}
use Rattle.pp_grammar.specs.Patterns.{named_at}
use Rattle.pp_grammar.specs.StepTypes.{fault_at, pattern_place, refuse, refused_name}
use Rattle.pp_grammar.specs.Words.{Role, decreases_word, level, require_word, role, tightest, word}
use Rattle.pp_tokens.specs.declared.token.Token.{Token}
use Rattle.pp_tokens.specs.declared.token.TokenKind.{TokenKind}
use Rattle.pp_tokens.specs.declared.token.TokenKind.TheVariants.{Name}
use Rattle.pp_tree.specs.Plain.{PatternTree, Tree, Word, any, assert_in, binary, bool_pattern, choice, ctor_pattern}
use Rattle.pp_tree.specs.Plain.{int_pattern, unary, val_in}
use Rattle.std.proofs.Common.{Bool, List, None, Option, Some, [], cond, false, refl, true, ℕ, ◌||◌, ◌∷◌, ◌≡◌}

-- a name that stands at the offset
pub record NameOk (B : ℕ → Type 0) (L : Word → ℕ → Type 0) (w : Word) (at : ℕ) : Type 0 where
  pub requires : role w ≡ require_word → L w at
  pub decreases : role w ≡ decreases_word → L w at
  pub begins : B at

module _ (B : ℕ → Type 0) (L : Word → ℕ → Type 0) where
  abbrev pub GoodFault : Fault → Type 0
  GoodFault (syntax_at n) = B n
  GoodFault (unsupported_at w n) = L w n × B n

  abbrev pub GoodPlaced : Option Placed → Type 0
  GoodPlaced None = Unit {0}
  GoodPlaced (Some p) = L p.word p.at × B p.at

  abbrev pub GoodOffset : Option ℕ → Type 0
  GoodOffset None = Unit {0}
  GoodOffset (Some n) = B n

  abbrev pub GoodContracts : Contracts → Type 0
  GoodContracts c = GoodPlaced c.first × GoodOffset c.late

  abbrev pub GoodPattern : Option PatternTree → Type 0
  GoodPattern None = Unit {0}
  GoodPattern (Some p) = B (pattern_place p)

  -- what a frame keeps that a fault may name
  abbrev pub GoodFrame : Frame → Type 0
  GoodFrame (head_braces c) = GoodContracts c
  GoodFrame (body_of h a c) = GoodContracts c
  GoodFrame (measuring at es) = B at
  GoodFrame (naming at w) = B at
  GoodFrame (pattern_args at w ps) = B at
  GoodFrame _ = Unit {0}

  abbrev pub GoodFrames : List Frame → Type 0
  GoodFrames [] = Unit {0}
  GoodFrames (f ∷ s) = GoodFrame f × GoodFrames s

  abbrev pub GoodMode : Mode → Type 0
  GoodMode (after_int at) = B at
  GoodMode (after_pattern_name at w) = B at
  GoodMode (after_pattern_minus at end) = B at
  GoodMode (pattern_args_open at w) = B at
  GoodMode (have_pattern p) = B (pattern_place p)
  GoodMode (after_decreases at) = B at
  GoodMode (after_lambda_name at w) = NameOk B L w at
  GoodMode (after_lambda_round_name at w) = NameOk B L w at
  GoodMode (after_lambda_closed at w) = NameOk B L w at
  GoodMode _ = Unit {0}

  abbrev pub GoodMove : Move → Type 0
  GoodMove (go s m) = GoodFrames s × GoodMode m
  GoodMove (stop f) = GoodFault f
  GoodMove (ends x) = Unit {0}

  pub good_cond : (c : Bool) (m n : Move) → GoodMove m → GoodMove n → GoodMove (cond c m n)
  good_cond true m n a b = a
  good_cond false m n a b = b

  good_choice : (P : Operand → Type 0) (c : Bool) (u v : Operand) → P u → P v → P (cond c u v)
  good_choice P true u v a b = a
  good_choice P false u v a b = b

  pub good_unwind : (p : ℕ) (s : List Frame) (e : Tree) (h : Bool) → GoodFrames s → GoodFrames (unwind p s e h).frames
  good_unwind p [] e h g = g
  good_unwind p (prefixing a op ∷ s) e h g =
      let P : Operand → Type 0 = λ u. GoodFrames u.frames in
      good_choice P (nat_le p tightest) _ _ (good_unwind p s (unary a op e) h g.1) g
  good_unwind p (left a op x k ∷ s) e h g =
      let P : Operand → Type 0 = λ u. GoodFrames u.frames in
      good_choice P (nat_le p (level op)) _ _ (good_unwind p s (binary a op x e) (k || h) g.1) g
  good_unwind p (if_rest a c x ∷ s) e h g =
      let P : Operand → Type 0 = λ u. GoodFrames u.frames in
      good_choice P (nat_le p 0) _ _ (good_unwind p s (choice a c x e) h g.1) g
  good_unwind p (_ ∷ s) e h g = g

  pub good_seal : (s : List Frame) (e : Tree) → GoodFrames s → GoodFrames (seal s e).frames
  good_seal [] e g = g
  good_seal (after_val a w t x ∷ s) e g = good_seal s (val_in a w t x e) g.1
  good_seal (after_assert a x ∷ s) e g = good_seal s (assert_in a x e) g.1
  good_seal (_ ∷ s) e g = g

  pub good_named : (at : ℕ) (w : Word) (p : PatternTree) → B at → GoodPattern (named_at at w p)
  good_named at w (any a None) b = b
  good_named at w (int_pattern a None n) b = b
  good_named at w (bool_pattern a None n) b = b
  good_named at w (ctor_pattern a None n ps) b = b
  good_named at w (any a (Some v)) b = tt
  good_named at w (int_pattern a (Some v) n) b = tt
  good_named at w (bool_pattern a (Some v) n) b = tt
  good_named at w (ctor_pattern a (Some v) n ps) b = tt

  pub good_late : (es : List Tree) (at : ℕ) → B at → GoodOffset (late_behind es at)
  good_late [] at b = tt
  good_late (e ∷ es) at b = b

  pub good_first : (x : Option Placed) (p : Placed) → GoodPlaced x → GoodPlaced (Some p) → GoodPlaced (first_or x p)
  good_first None p a b = b
  good_first (Some q) p a b = a

module _ (text : Word) (B : ℕ → Type 0) (L : Word → ℕ → Type 0) (t : Token) (bt : B t.from)
    (nt : t.kind ≡ Name → NameOk B L (word text t) t.from) where
  refused_name_good : (r : Role) → role (word text t) ≡ r → NameOk B L (word text t) t.from
      → GoodFault B L (refused_name text t r)
  refused_name_good require_word is n = (n.requires is, n.begins)
  refused_name_good decreases_word is n = (n.decreases is, n.begins)
  refused_name_good _ is n = n.begins

  pub fault_good : (k : TokenKind) → t.kind ≡ k → GoodFault B L (fault_at text t k)
  fault_good Name is = refused_name_good (role (word text t)) refl (nt is)
  fault_good _ is = bt

  pub refused : GoodMove B L (refuse text t)
  refused = fault_good t.kind refl
