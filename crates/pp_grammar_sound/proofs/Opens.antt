-- What the frames of the automaton say of the tokens that were read since the beginning of a declaration.
use Rattle.std.proofs.Common.{ℕ, ◌≤◌, ◌≡◌, List, [], ◌∷◌, Bool, true, false, Option, Some, None}
use Rattle.pp_tokens.specs.declared.token.Token.{Token}
use Rattle.pp_tokens.specs.declared.token.TokenKind.TheVariants.{Name, Word as Reserve, Op, Mark, Hole}
use Rattle.pp_tokens.specs.declared.token.Reserved.TheVariants.{Case, Def, Else, Extends, If, Match, Object, Val}
use Rattle.pp_tokens.specs.declared.token.Operator.{Operator}
use Rattle.pp_tokens.specs.declared.token.Operator.TheVariants.{Assign, Arrow, Colon, At}
use Rattle.pp_tokens.specs.declared.token.Bracket.TheVariants.{OpenRound, CloseRound, OpenSquare, OpenBrace, Comma, Dot}
use Rattle.pp_tree.specs.declared.operator.BinaryOp.{BinaryOp}
use Rattle.pp_tree.specs.declared.operator.UnaryOp.{UnaryOp}
use Rattle.pp_tree.specs.Plain.{Word, TypeTree, TypeTrees, PatternTree, Tree, apply, name, Trees, ParamTree}
use Rattle.pp_grammar.specs.Words.{word, res, role, plain, require_word, decreases_word, ensuring_word, assert_word}
use Rattle.pp_grammar.specs.Words.{unary_of, binary_of, level, loosest, tightest, is_sign, is_trait_word}
use Rattle.pp_grammar.specs.Types.{IsGap, IsSemis, IsBreaks, IsType, IsAscription}
use Rattle.pp_grammar.specs.Patterns.{IsPattern}
use Rattle.pp_grammar.specs.Exprs.{IsExpr, IsInfix, IsSimple, IsPrimary, IsFields, IsArguments, IsGuard, IsSemicolon}
use Rattle.pp_grammar.specs.Bodies.{IsHole, IsLambda, Contract, require, decreases, IsContract, IsHead, IsClosed}
use Rattle.pp_grammar.specs.Units.{IsAnnotations, IsTypeParams, IsParamList, Modifiers, unmodified, IsModified}
use Rattle.pp_grammar.specs.Frames.{Head, Kind, of_class, of_def, Placed, Contracts, CaseText, in_parentheses}
use Rattle.pp_grammar.specs.Frames.{in_braces, Frame, header, param_type, result_type, parent_type, object_parent}
use Rattle.pp_grammar.specs.Frames.{body_of, head_braces, requiring, measuring, tuple_or_round, in_tuple, post_of}
use Rattle.pp_grammar.specs.Frames.{claiming, claiming_hole, result_name_type, result_name_type_in_round, type_args}
use Rattle.pp_grammar.specs.Frames.{naming, pattern_round, pattern_args, round, name_types, args, prefixing, left}
use Rattle.pp_grammar.specs.Frames.{if_test, if_then, if_rest, cases_of, guarding, arm, braces, val_type, val_value}
use Rattle.pp_grammar.specs.Frames.{after_val, asserting, after_assert}
use Rattle.pp_grammar.specs.Joining.{onto, floor, takes_hole, no_contracts, with_word, has_measure}
use Rattle.pp_grammar_sound.proofs.Fronts.{Front, FrontTypes, FrontPatterns, FrontCases, FrontNames, FrontParams}

-- ---- the parts of a head that are read

pub data Phase : Type 0 where
  named : Phase
  wanting_type_param : Phase
  behind_type_param : Phase
  behind_type_params : Phase
  params_opened : Phase
  wanting_param : Phase
  behind_params : Phase

abbrev pub head_of : Word → Token → List Word → Bool → List ParamTree → Head
head_of text n ws listed ps = record {
  at = n.from;
  name = word text n;
  type_params = ws;
  listed = listed;
  params =
      ps;
}

-- the contracts, the last first, with requirements, measure, and whether the measure is last
pub data Shaped : List Contract → List Tree → List Tree → Option ℕ → Type 0 where
  one_requirement : {e : Tree} → Shaped (require e ∷ []) (e ∷ []) [] None
  more_requirements : {e x : Tree} {cs : List Contract} {r : List Tree} → Shaped cs (x ∷ r) [] None
      → Shaped (require e ∷ cs) (e ∷ x ∷ r) [] None
  measure_first : {e : Tree} {es : List Tree} → Shaped (decreases (e ∷ es) ∷ []) [] (e ∷ es) None
  requirements_behind : {e x : Tree} {es r : List Tree} {cs : List Contract} → Shaped cs r (e ∷ es) None
      → Shaped (require x ∷ cs) (x ∷ r) (e ∷ es) None
  measure_last : {e x : Tree} {es r : List Tree} {cs : List Contract} {at : ℕ} → Shaped cs (x ∷ r) [] None
      → Shaped (decreases (e ∷ es) ∷ cs) (x ∷ r) (e ∷ es) (Some at)

module _ (text : Word) where
  -- up to a name, the words before it
  pub data Begins : List Token → List Token → Kind → Token → Type 0 where
    begins_def : {ts us : List Token} (d n : Token) → IsAnnotations text ts (d ∷ n ∷ us) → d.kind ≡ Reserve Def
        → n.kind ≡ Name → Begins ts us of_def n
    begins_class : {ts us vs : List Token} {m : Modifiers} {trait : Bool} (k n : Token) → IsAnnotations text ts us
        → IsModified us (k ∷ n ∷ vs) unmodified m → is_trait_word k.kind ≡ Some trait → n.kind ≡ Name
        → Begins ts vs (of_class m.sealed m.case trait) n

  pub data HeadAt : List Token → Phase → Kind → Head → List Token → Type 0 where
    head_named : {ts us : List Token} {kind : Kind} (n : Token) → Begins ts us kind n
        → HeadAt ts named kind (head_of text n [] false []) us
    head_type_param : {ts us vs : List Token} {kind : Kind} {ws : List Word} (n o : Token) → Begins ts (o ∷ us) kind n
        → o.kind ≡ Mark OpenSquare → FrontNames text us vs ws
        → HeadAt ts wanting_type_param kind (head_of text n ws false []) vs
    head_behind_type_param : {ts us vs : List Token} {kind : Kind} {ws : List Word} (n o m : Token)
        → Begins ts (o ∷ us) kind n → o.kind ≡ Mark OpenSquare → FrontNames text us (m ∷ vs) ws → m.kind ≡ Name
        → HeadAt ts behind_type_param kind (head_of text n (word text m ∷ ws) false []) vs
    head_type_params : {ts us vs : List Token} {kind : Kind} {ws : List Word} (n : Token) → Begins ts us kind n
        → IsTypeParams text us vs (onto ws []) → HeadAt ts behind_type_params kind (head_of text n ws false []) vs
    head_params_open : {ts us vs : List Token} {kind : Kind} {ws : List Word} (n o : Token) → Begins ts us kind n
        → IsTypeParams text us (o ∷ vs) (onto ws []) → o.kind ≡ Mark OpenRound
        → HeadAt ts params_opened kind (head_of text n ws false []) vs
    head_param : {ts us vs xs : List Token} {kind : Kind} {ws : List Word} {ps : List ParamTree} (n o : Token)
        → Begins ts us kind n → IsTypeParams text us (o ∷ vs) (onto ws []) → o.kind ≡ Mark OpenRound
        → FrontParams text vs xs ps → HeadAt ts wanting_param kind (head_of text n ws false ps) xs
    head_params : {ts us vs xs : List Token} {kind : Kind} {ws : List Word} {listed : Bool} {ps : List ParamTree}
        (n : Token) → Begins ts us kind n → IsTypeParams text us vs (onto ws [])
        → IsParamList text vs xs listed (onto ps []) → HeadAt ts behind_params kind (head_of text n ws listed ps) xs

  -- up to the `=` of a function
  pub data Signature : List Token → List Token → Head → TypeTree → Type 0 where
    signature : {ts us vs : List Token} {h : Head} {a : TypeTree} (c q : Token)
        → HeadAt ts behind_params of_def h (c ∷ us) → c.kind ≡ Op Colon → IsType text us (q ∷ vs) a
        → q.kind ≡ Op Assign → Signature ts vs h a

  -- ---- contracts

  -- at least one contract, each with its semis
  pub data FrontContracts : List Token → List Token → List Contract → Type 0 where
    first_contract : {ts us vs ws : List Token} {c : Contract} → IsGap ts us → IsContract text us vs c → IsSemis vs ws
        → FrontContracts ts ws (c ∷ [])
    next_contract : {ts us vs ws : List Token} {c : Contract} {cs : List Contract} → FrontContracts ts us cs
        → IsContract text us vs c → IsSemis vs ws → FrontContracts ts ws (c ∷ cs)

  -- behind the brace at the head of a body, its contracts and their semis
  pub data ContractsAt : List Token → List Token → Contracts → Type 0 where
    contracts_none : {ts us : List Token} → IsGap ts us → ContractsAt ts us no_contracts
    contracts_some : {ts us : List Token} {cs : List Contract} {r m : List Tree} {l : Option ℕ} (p : Placed)
        → FrontContracts ts us cs → Shaped cs r m l
        → ContractsAt ts us (record { requirements = r; measure = m; first = Some p; late = l })

  pub data HeadBlock : List Token → List Token → Head → TypeTree → Contracts → Type 0 where
    head_block_at : {ts us vs : List Token} {h : Head} {a : TypeTree} {c : Contracts} (o : Token)
        → Signature ts (o ∷ us) h a → o.kind ≡ Mark OpenBrace → ContractsAt us vs c → HeadBlock ts vs h a c

  -- .. where the last contract's semis are wanted
  pub data HeadBlockEnd : List Token → List Token → Head → TypeTree → Contracts → Type 0 where
    head_block_end : {ts us vs : List Token} {h : Head} {a : TypeTree} {c : Contracts} (o : Token)
        → Signature ts (o ∷ us) h a → o.kind ≡ Mark OpenBrace
        → ((ws : List Token) → IsSemis vs ws → ContractsAt us ws c) → HeadBlockEnd ts vs h a c

  -- ---- operands

  -- the hole with its fields
  pub data IsHoleOperand : List Token → List Token → Tree → Type 0 where
    hole_operand : {us vs : List Token} {e : Tree} (h : Token) → h.kind ≡ Hole
        → IsFields text us vs (name h.from res) e → IsHoleOperand (h ∷ us) vs e

  -- an operand, with the hole or without
  abbrev pub SimpleText : Bool → List Token → List Token → Tree → Type 0
  SimpleText false ts us e = IsSimple text ts us e
  SimpleText true ts us e = IsHoleOperand ts us e

  -- an infix expression of level l, with the hole or without
  abbrev pub InfixText : Bool → ℕ → List Token → List Token → Tree → Type 0
  InfixText false l ts us e = IsInfix text l ts us e
  InfixText true l ts us e = IsHole text l ts us e

  -- only where a hole may stand is one
  abbrev pub HoleFits : Bool → List Frame → Type 0
  HoleFits false s = Unit {0}
  HoleFits true s = takes_hole s ≡ true

  -- what stands before the arguments of an application
  abbrev pub Applies : List Token → List Token → ℕ → Word → TypeTrees → Type 0
  Applies ts us at w tys =
      (vs : List Token) (es : Trees) → IsArguments text us vs es → IsPrimary text ts vs (apply at w tys es)

  -- what stands before the claim of a lambda
  abbrev pub Claims : List Token → List Token → Word → Option TypeTree → Type 0
  Claims ts us w t = (vs : List Token) (e : Tree) → IsExpr text us vs e → IsLambda text ts vs w t e

  -- ---- frames

  mutual
    pub data Opens : List Token → List Frame → List Token → Type 0 where
      opens_param_type : {ts us : List Token} {kind : Kind} {h : Head} (n c : Token)
          → HeadAt ts wanting_param kind h (n ∷ c ∷ us) → n.kind ≡ Name → c.kind ≡ Op Colon
          → Opens ts (param_type n.from (word text n) ∷ header kind h ∷ []) us
      opens_result_type : {ts us : List Token} {h : Head} (c : Token) → HeadAt ts behind_params of_def h (c ∷ us)
          → c.kind ≡ Op Colon → Opens ts (result_type ∷ header of_def h ∷ []) us
      opens_parent_type : {ts us : List Token} {sealed case trait : Bool} {h : Head} (x : Token)
          → HeadAt ts behind_params (of_class sealed case trait) h (x ∷ us) → x.kind ≡ Reserve Extends
          → Opens ts (parent_type ∷ header (of_class sealed case trait) h ∷ []) us
      opens_object_parent : {ts us : List Token} (c k n x : Token) → IsAnnotations text ts (c ∷ k ∷ n ∷ x ∷ us)
          → c.kind ≡ Reserve Case → k.kind ≡ Reserve Object → n.kind ≡ Name → x.kind ≡ Reserve Extends
          → Opens ts (object_parent n.from (word text n) ∷ []) us
      opens_body : {ts us : List Token} {h : Head} {a : TypeTree} → Signature ts us h a
          → Opens ts (body_of h a no_contracts ∷ []) us
      opens_requiring : {ts us : List Token} {h : Head} {a : TypeTree} {c : Contracts} (w o : Token)
          → HeadBlock ts (w ∷ o ∷ us) h a c → w.kind ≡ Name → role (word text w) ≡ require_word → c.late ≡ None
          → o.kind ≡ Mark OpenRound
          → Opens ts (requiring ∷ head_braces (with_word c (word text w) w.from) ∷ body_of h a no_contracts ∷ []) us
      opens_measuring : {ts us vs : List Token} {h : Head} {a : TypeTree} {c : Contracts} {es : List Tree}
          (w o : Token) → HeadBlock ts (w ∷ o ∷ us) h a c → w.kind ≡ Name → role (word text w) ≡ decreases_word
          → has_measure c.measure ≡ false → o.kind ≡ Mark OpenRound → Front text us vs es
          → Opens ts (measuring w.from es ∷ head_braces (with_word c (word text w) w.from) ∷ body_of h a
          no_contracts ∷ []) vs
      opens_tuple_or_round : {ts us : List Token} {h : Head} {a : TypeTree} {c : Contracts} (w o p : Token)
          → HeadBlock ts (w ∷ o ∷ p ∷ us) h a c → w.kind ≡ Name → role (word text w) ≡ decreases_word
          → has_measure c.measure ≡ false → o.kind ≡ Mark OpenRound → p.kind ≡ Mark OpenRound
          → Opens ts (tuple_or_round ∷ measuring w.from [] ∷ head_braces (with_word c (word text w) w.from) ∷
          body_of h a no_contracts ∷ []) us
      opens_tuple : {ts us vs xs : List Token} {h : Head} {a : TypeTree} {c : Contracts} {x : Tree} {es : List Tree}
          (w o p q : Token) → HeadBlock ts (w ∷ o ∷ p ∷ us) h a c → w.kind ≡ Name
          → role (word text w) ≡ decreases_word → has_measure c.measure ≡ false → o.kind ≡ Mark OpenRound
          → p.kind ≡ Mark OpenRound → IsExpr text us (q ∷ vs) x → q.kind ≡ Mark Comma → Front text vs xs es
          → (ds : List Tree) → ((fs : List Tree) → onto ds fs ≡ x ∷ onto es fs)
          → Opens ts (in_tuple ds ∷ measuring w.from [] ∷ head_braces (with_word c (word text w) w.from) ∷ body_of
          h a no_contracts ∷ []) xs
      opens_claiming : {ts us vs : List Token} {s : List Frame} {w : Word} {t : Option TypeTree} → PostAt ts s us
          → Claims us vs w t → Opens ts (claiming w t ∷ s) vs
      opens_claiming_hole : {ts us : List Token} {s : List Frame} → PostAt ts s us → Opens ts (claiming_hole ∷ s) us
      opens_result_name_type : {ts us : List Token} {s : List Frame} (n c : Token) → PostAt ts s (n ∷ c ∷ us)
          → n.kind ≡ Name → c.kind ≡ Op Colon → Opens ts (result_name_type (word text n) ∷ s) us
      opens_result_name_type_in_round : {ts us : List Token} {s : List Frame} (o n c : Token)
          → PostAt ts s (o ∷ n ∷ c ∷ us) → o.kind ≡ Mark OpenRound → n.kind ≡ Name → c.kind ≡ Op Colon
          → Opens ts (result_name_type_in_round (word text n) ∷ s) us
      opens_type_args : {ts us vs : List Token} {s : List Frame} {tys : List TypeTree} (n o : Token)
          → Opens ts s (n ∷ o ∷ us) → n.kind ≡ Name → o.kind ≡ Mark OpenSquare → FrontTypes text us vs tys
          → Opens ts (type_args n.from (word text n) tys ∷ s) vs
      opens_naming : {ts us : List Token} {s : List Frame} (n a : Token) → Opens ts s (n ∷ a ∷ us) → n.kind ≡ Name
          → a.kind ≡ Op At → Opens ts (naming n.from (word text n) ∷ s) us
      opens_pattern_round : {ts us : List Token} {s : List Frame} (o : Token) → Opens ts s (o ∷ us)
          → o.kind ≡ Mark OpenRound → Opens ts (pattern_round ∷ s) us
      opens_pattern_args : {ts us vs : List Token} {s : List Frame} {ps : List PatternTree} (n o : Token)
          → Opens ts s (n ∷ o ∷ us) → n.kind ≡ Name → o.kind ≡ Mark OpenRound → FrontPatterns text us vs ps
          → Opens ts (pattern_args n.from (word text n) ps ∷ s) vs
      opens_round : {ts us : List Token} {s : List Frame} (o : Token) → Opens ts s (o ∷ us) → o.kind ≡ Mark OpenRound
          → Opens ts (round ∷ s) us
      opens_name_types : {ts us vs : List Token} {s : List Frame} {tys : List TypeTree} (n o : Token)
          → Opens ts s (n ∷ o ∷ us) → n.kind ≡ Name → role (word text n) ≡ plain → o.kind ≡ Mark OpenSquare
          → FrontTypes text us vs tys → Opens ts (name_types n.from (word text n) tys ∷ s) vs
      opens_args : {ts us vs ws : List Token} {s : List Frame} {at : ℕ} {w : Word} {tys : TypeTrees} {es : List Tree}
          (o : Token) → Opens ts s us → Applies us (o ∷ vs) at w tys → o.kind ≡ Mark OpenRound → Front text vs ws es
          → Opens ts (args at w tys es ∷ s) ws
      opens_prefixing : {ts us : List Token} {s : List Frame} (t : Token) (o : Operator) (op : UnaryOp)
          → Opens ts s (t ∷ us) → t.kind ≡ Op o → unary_of o ≡ Some op → is_sign t us ≡ false → floor s ≤ tightest
          → Opens ts (prefixing t.from op ∷ s) us
      opens_left : {ts us vs : List Token} {s : List Frame} {x : Tree} (g : Bool) (t : Token) (o : Operator)
          (op : BinaryOp) → Opens ts s us → floor s ≤ level op → InfixText g (level op) us (t ∷ vs) x → HoleFits g s
          → t.kind ≡ Op o → binary_of o ≡ Some op → Opens ts (left t.from op x g ∷ s) vs
      opens_if_test : {ts us : List Token} {s : List Frame} (i o : Token) → Opens ts s (i ∷ o ∷ us)
          → i.kind ≡ Reserve If → o.kind ≡ Mark OpenRound → floor s ≤ 0 → Opens ts (if_test i.from ∷ s) us
      opens_if_then : {ts us : List Token} {s : List Frame} → ThenAt ts s us → Opens ts s us
      opens_if_rest : {ts us vs ws xs ys : List Token} {s : List Frame} {x a : Tree} (i o c e : Token)
          → Opens ts s (i ∷ o ∷ us) → i.kind ≡ Reserve If → o.kind ≡ Mark OpenRound → floor s ≤ 0
          → IsExpr text us (c ∷ vs) x → c.kind ≡ Mark CloseRound → IsBreaks vs ws → IsExpr text ws xs a
          → IsSemicolon xs (e ∷ ys) → e.kind ≡ Reserve Else → Opens ts (if_rest i.from x a ∷ s) ys
      opens_cases : {ts us vs ws : List Token} {s : List Frame} {x : Tree} {cs : List CaseText} (m o c : Token)
          → Opens ts s us → floor s ≤ 0 → IsInfix text loosest us (m ∷ o ∷ vs) x → m.kind ≡ Reserve Match
          → o.kind ≡ Mark OpenBrace → FrontCases text vs (c ∷ ws) cs → c.kind ≡ Reserve Case
          → Opens ts (cases_of m.from x cs ∷ s) ws
      opens_guarding : {ts us vs : List Token} {s : List Frame} {p : PatternTree} (i : Token) → Opens ts s us
          → IsPattern text us (i ∷ vs) p → i.kind ≡ Reserve If → Opens ts (guarding p ∷ s) vs
      opens_val_type : {ts us : List Token} {s : List Frame} (v n c : Token) → StatAt ts s (v ∷ n ∷ c ∷ us)
          → v.kind ≡ Reserve Val → n.kind ≡ Name → c.kind ≡ Op Colon → Opens ts (val_type v.from (word text n) ∷ s) us
      opens_val_value : {ts us vs : List Token} {s : List Frame} {a : Option TypeTree} (v n q : Token)
          → StatAt ts s (v ∷ n ∷ us) → v.kind ≡ Reserve Val → n.kind ≡ Name → IsAscription text us (q ∷ vs) a
          → q.kind ≡ Op Assign → Opens ts (val_value v.from (word text n) a ∷ s) vs
      opens_asserting : {ts us : List Token} {s : List Frame} (a o : Token) → StatAt ts s (a ∷ o ∷ us) → a.kind ≡ Name
          → role (word text a) ≡ assert_word → o.kind ≡ Mark OpenRound → Opens ts (asserting a.from ∷ s) us
      opens_stat : {ts us : List Token} {s : List Frame} → StatAt ts s us → Opens ts s us

    -- before the first branch of an `if`, behind newlines
    pub data ThenAt : List Token → List Frame → List Token → Type 0 where
      then_at : {ts us vs ws : List Token} {s : List Frame} {x : Tree} (i o c : Token) → Opens ts s (i ∷ o ∷ us)
          → i.kind ≡ Reserve If → o.kind ≡ Mark OpenRound → floor s ≤ 0 → IsExpr text us (c ∷ vs) x
          → c.kind ≡ Mark CloseRound → IsBreaks vs ws → ThenAt ts (if_then i.from x ∷ s) ws

    -- where a statement may come, behind semis
    pub data StatAt : List Token → List Frame → List Token → Type 0 where
      stat_braces : {ts us vs : List Token} {s : List Frame} (o : Token) → Opens ts s (o ∷ us)
          → o.kind ≡ Mark OpenBrace → IsGap us vs → StatAt ts (braces ∷ s) vs
      stat_arm : {ts us vs ws xs : List Token} {s : List Frame} {p : PatternTree} {g : Option Tree} (a : Token)
          → Opens ts s us → IsPattern text us vs p → IsGuard text vs (a ∷ ws) g → a.kind ≡ Op Arrow → IsGap ws xs
          → StatAt ts (arm p g ∷ s) xs
      stat_val : {ts us vs ws xs : List Token} {s : List Frame} {a : Option TypeTree} {x : Tree} (v n q : Token)
          → StatAt ts s (v ∷ n ∷ us) → v.kind ≡ Reserve Val → n.kind ≡ Name → IsAscription text us (q ∷ vs) a
          → q.kind ≡ Op Assign → IsExpr text vs ws x → IsSemis ws xs
          → StatAt ts (after_val v.from (word text n) a x ∷ s) xs
      stat_assert : {ts us vs ws : List Token} {s : List Frame} {x : Tree} (a o c : Token) → StatAt ts s (a ∷ o ∷ us)
          → a.kind ≡ Name → role (word text a) ≡ assert_word → o.kind ≡ Mark OpenRound → IsExpr text us (c ∷ vs) x
          → c.kind ≡ Mark CloseRound → IsSemis vs ws → StatAt ts (after_assert a.from x ∷ s) ws
      stat_head : {ts us : List Token} {h : Head} {a : TypeTree} {c : Contracts} → HeadBlock ts us h a c
          → StatAt ts (head_braces c ∷ body_of h a no_contracts ∷ []) us

    -- behind `ensuring` and its bracket, and semis where they may stand
    pub data PostAt : List Token → List Frame → List Token → Type 0 where
      post_round_at : {ts us : List Token} {s : List Frame} {w : Token} {b : Tree} (o : Token)
          → EnsuringAt ts s w b (o ∷ us) → o.kind ≡ Mark OpenRound → PostAt ts (post_of w.from b in_parentheses ∷
          s) us
      post_braces_at : {ts us vs : List Token} {s : List Frame} {w : Token} {b : Tree} (o : Token)
          → EnsuringAt ts s w b (o ∷ us) → o.kind ≡ Mark OpenBrace → IsGap us vs
          → PostAt ts (post_of w.from b in_braces ∷ s) vs

    -- behind the word `ensuring` and the body b
    pub data EnsuringAt : List Token → List Frame → Token → Tree → List Token → Type 0 where
      ensuring_at : {ts us vs : List Token} {h : Head} {a : TypeTree} {c : Contracts} {b : Tree} (w : Token)
          → Signature ts us h a → IsHead text us (w ∷ vs) (onto c.requirements []) c.measure b → w.kind ≡ Name
          → role (word text w) ≡ ensuring_word → EnsuringAt ts (body_of h a c ∷ []) w b vs
      dot_ensuring_at : {ts us vs : List Token} {h : Head} {a : TypeTree} {c : Contracts} {b : Tree} (dot w : Token)
          → Signature ts us h a → IsClosed text us (dot ∷ w ∷ vs) (onto c.requirements []) c.measure b
          → dot.kind ≡ Mark Dot → w.kind ≡ Name → role (word text w) ≡ ensuring_word
          → EnsuringAt ts (body_of h a c ∷ []) w b vs
