-- What each mode of the automaton says of the tokens that were read since the beginning of a declaration.
use Rattle.std.proofs.Common.{ℕ, ◌≤◌, ◌≡◌, List, [], ◌∷◌, Bool, true, false, Option, Some, None}
use Rattle.pp_tokens.specs.declared.token.Token.{Token}
use Rattle.pp_tokens.specs.declared.token.TokenKind.TheVariants.{Name, Word as Reserve, Op, Mark}
use Rattle.pp_tokens.specs.declared.token.Reserved.TheVariants.{Case, Def, If, Match, Object, Val}
use Rattle.pp_tokens.specs.declared.token.Operator.TheVariants.{Minus, Colon}
use Rattle.pp_tokens.specs.declared.token.Bracket.TheVariants.{OpenRound, CloseRound, OpenSquare, OpenBrace, Comma, Dot}
use Rattle.pp_tokens.specs.declared.token.Bracket.TheVariants.{Semicolon}
use Rattle.pp_tree.specs.Plain.{Word, TypeTree, TypeTrees, PatternTree, Tree, PostTree}
use Rattle.pp_grammar.specs.Words.{word, role, plain, require_word, decreases_word, assert_word, loosest, tightest}
use Rattle.pp_grammar.specs.Words.{is_sign, is_trait_word}
use Rattle.pp_grammar.specs.Types.{IsGap, IsType}
use Rattle.pp_grammar.specs.Patterns.{IsPlain}
use Rattle.pp_grammar.specs.Exprs.{IsExpr, IsInfix, IsFields, IsMatched}
use Rattle.pp_grammar.specs.Bodies.{IsLambda, IsContractBlock, IsMeasure, IsBody}
use Rattle.pp_grammar.specs.Units.{IsAnnotations, Modifiers, unmodified, IsModified}
use Rattle.pp_grammar.specs.Frames.{Head, Kind, of_class, of_def, Contracts, in_braces, Frame, header, body_of}
use Rattle.pp_grammar.specs.Frames.{head_braces, measuring, post_of, cases_of, after_assert}
use Rattle.pp_grammar.specs.Joining.{onto, floor, no_contracts, with_word, has_measure}
use Rattle.pp_tree.specs.Plain.{int, DeclTree}
use Rattle.pp_grammar.specs.Words.{int_word, negative_of}
use Rattle.pp_grammar.specs.Types.{IsTypes}
use Rattle.pp_grammar.specs.Units.{IsDef, IsClass}
use Rattle.pp_grammar.specs.Frames.{Mode, want, have, after_name, after_name_types, args_open, after_int, after_int_dot}
use Rattle.pp_grammar.specs.Frames.{after_minus, have_negative, after_negative_dot, after_dot, after_if, want_then}
use Rattle.pp_grammar.specs.Frames.{want_else, after_match, want_case, have_matched, after_matched_dot, want_pattern}
use Rattle.pp_grammar.specs.Frames.{after_pattern_name, after_pattern_minus, pattern_args_open, have_pattern, want_type}
use Rattle.pp_grammar.specs.Frames.{after_type_name, have_type, want_stat, after_stat, after_last, after_val_word}
use Rattle.pp_grammar.specs.Frames.{after_val_name, after_assert_word, after_require, after_decreases, measure_open}
use Rattle.pp_grammar.specs.Frames.{after_tuple, want_body, have_contracted, after_contracted_dot, after_ensuring}
use Rattle.pp_grammar.specs.Frames.{want_lambda_or_semi, want_lambda, after_lambda_name, after_lambda_round}
use Rattle.pp_grammar.specs.Frames.{after_lambda_round_name, after_lambda_closed, after_lambda_typed, after_claim}
use Rattle.pp_grammar.specs.Frames.{after_body, want_name, after_head_name, want_type_param, after_type_param}
use Rattle.pp_grammar.specs.Frames.{after_type_params, params_open, want_param, after_param_name, after_params}
use Rattle.pp_grammar.specs.Frames.{want_object_name, after_object_name, Move, go, stop, ends}
use Rattle.pp_grammar_sound.proofs.Opens.{named, wanting_type_param, behind_type_param, behind_type_params}
use Rattle.pp_grammar_sound.proofs.Opens.{params_opened, wanting_param, behind_params, HeadAt, Signature, HeadBlock}
use Rattle.pp_grammar_sound.proofs.Opens.{HeadBlockEnd, SimpleText, HoleFits, Applies, Opens, ThenAt, StatAt, PostAt}
use Rattle.pp_grammar_sound.proofs.Opens.{EnsuringAt}
use Rattle.std.proofs.Common.{ℤ}

module _ (text : Word) where
  -- a number with its sign, and its fields
  pub data IsNegative : List Token → List Token → Tree → Type 0 where
    negative_at : {us vs : List Token} {n : ℤ} {e : Tree} (m t : Token) → m.kind ≡ Op Minus
        → is_sign m (t ∷ us) ≡ true → negative_of t.kind ≡ Some n → IsFields text us vs (int m.from n) e
        → IsNegative (m ∷ t ∷ us) vs e

  -- a class or a function
  pub data Declares : List Token → List Token → DeclTree → Type 0 where
    declares_def : {ts us : List Token} {x : DeclTree} → IsDef text ts us x → Declares ts us x
    declares_class : {ts us : List Token} {x : DeclTree} → IsClass text ts us x → Declares ts us x

  pub data Stands : List Token → List Frame → Mode → List Token → Type 0 where
    at_want : {ts us : List Token} {s : List Frame} → Opens text ts s us → Stands ts s want us
    at_have : {ts us vs : List Token} {s : List Frame} {e : Tree} (h : Bool) → Opens text ts s us
        → SimpleText text h us vs e → HoleFits text h s → Stands ts s (have e h) vs
    at_after_name : {ts us : List Token} {s : List Frame} (n : Token) → Opens text ts s (n ∷ us) → n.kind ≡ Name
        → role (word text n) ≡ plain → Stands ts s (after_name n.from (word text n)) us
    at_after_name_types : {ts us vs : List Token} {s : List Frame} {tys : TypeTrees} (n o : Token)
        → Opens text ts s (n ∷ o ∷ us) → n.kind ≡ Name → role (word text n) ≡ plain → o.kind ≡ Mark OpenSquare
        → IsTypes text us vs tys → Stands ts s (after_name_types n.from (word text n) tys) vs
    at_args_open : {ts us vs : List Token} {s : List Frame} {at : ℕ} {w : Word} {tys : TypeTrees} (o : Token)
        → Opens text ts s us → Applies text us (o ∷ vs) at w tys → o.kind ≡ Mark OpenRound
        → Stands ts s (args_open at w tys) vs
    at_after_int : {ts us : List Token} {s : List Frame} (i : Token) → Opens text ts s (i ∷ us) → i.kind ≡ Name
        → role (word text i) ≡ int_word → Stands ts s (after_int i.from) us
    at_after_int_dot : {ts us : List Token} {s : List Frame} (i d : Token) → Opens text ts s (i ∷ d ∷ us)
        → i.kind ≡ Name → role (word text i) ≡ int_word → d.kind ≡ Mark Dot → Stands ts s (after_int_dot i.from) us
    at_after_minus : {ts us : List Token} {s : List Frame} (m : Token) → Opens text ts s (m ∷ us)
        → m.kind ≡ Op Minus → floor s ≤ tightest → Stands ts s (after_minus m.from m.to) us
    at_have_negative : {ts us vs : List Token} {s : List Frame} {e : Tree} → Opens text ts s us → IsNegative us vs e
        → floor s ≤ tightest → Stands ts s (have_negative e) vs
    at_after_negative_dot : {ts us vs : List Token} {s : List Frame} {e : Tree} (d : Token) → Opens text ts s us
        → IsNegative us (d ∷ vs) e → floor s ≤ tightest → d.kind ≡ Mark Dot → Stands ts s (after_negative_dot e) vs
    at_after_dot : {ts us vs : List Token} {s : List Frame} {e : Tree} (h : Bool) (d : Token) → Opens text ts s us
        → SimpleText text h us (d ∷ vs) e → HoleFits text h s → d.kind ≡ Mark Dot → Stands ts s (after_dot e h) vs
    at_after_if : {ts us : List Token} {s : List Frame} (i : Token) → Opens text ts s (i ∷ us) → i.kind ≡ Reserve If
        → floor s ≤ 0 → Stands ts s (after_if i.from) us
    at_want_then : {ts us : List Token} {s : List Frame} → ThenAt text ts s us → Stands ts s want_then us
    at_want_else : {ts us vs : List Token} {s : List Frame} {e : Tree} (c : Token) → Opens text ts s us
        → IsExpr text us (c ∷ vs) e → c.kind ≡ Mark Semicolon → Stands ts s (want_else e) vs
    at_after_match : {ts us vs : List Token} {s : List Frame} {e : Tree} (m : Token) → Opens text ts s us
        → floor s ≤ 0
        → IsInfix text loosest us (m ∷ vs) e → m.kind ≡ Reserve Match → Stands ts s (after_match m.from e) vs
    at_want_case : {ts us vs : List Token} {s : List Frame} {e : Tree} (m o : Token) → Opens text ts s us
        → floor s ≤ 0 → IsInfix text loosest us (m ∷ o ∷ vs) e → m.kind ≡ Reserve Match → o.kind ≡ Mark OpenBrace
        → Stands ts (cases_of m.from e [] ∷ s) want_case vs
    at_have_matched : {ts us vs : List Token} {s : List Frame} {e : Tree} → Opens text ts s us → floor s ≤ 0
        → IsMatched text us vs e → Stands ts s (have_matched e) vs
    at_after_matched_dot : {ts us vs : List Token} {s : List Frame} {e : Tree} (d : Token) → Opens text ts s us
        → IsMatched text us (d ∷ vs) e → d.kind ≡ Mark Dot → Stands ts s (after_matched_dot e) vs
    at_want_pattern : {ts us : List Token} {s : List Frame} → Opens text ts s us → Stands ts s want_pattern us
    at_after_pattern_name : {ts us : List Token} {s : List Frame} (n : Token) → Opens text ts s (n ∷ us)
        → n.kind ≡ Name → Stands ts s (after_pattern_name n.from (word text n)) us
    at_after_pattern_minus : {ts us : List Token} {s : List Frame} (m : Token) → Opens text ts s (m ∷ us)
        → m.kind ≡ Op Minus → Stands ts s (after_pattern_minus m.from m.to) us
    at_pattern_args_open : {ts us : List Token} {s : List Frame} (n o : Token) → Opens text ts s (n ∷ o ∷ us)
        → n.kind ≡ Name → o.kind ≡ Mark OpenRound → Stands ts s (pattern_args_open n.from (word text n)) us
    at_have_pattern : {ts us vs : List Token} {s : List Frame} {p : PatternTree} → Opens text ts s us
        → IsPlain text us vs p → Stands ts s (have_pattern p) vs
    at_want_type : {ts us : List Token} {s : List Frame} → Opens text ts s us → Stands ts s want_type us
    at_after_type_name : {ts us : List Token} {s : List Frame} (n : Token) → Opens text ts s (n ∷ us) → n.kind ≡ Name
        → Stands ts s (after_type_name n.from (word text n)) us
    at_have_type : {ts us vs : List Token} {s : List Frame} {a : TypeTree} → Opens text ts s us → IsType text us vs a
        → Stands ts s (have_type a) vs
    at_want_stat : {ts us : List Token} {s : List Frame} → StatAt text ts s us → Stands ts s want_stat us
    at_after_asserted : {ts us vs : List Token} {s : List Frame} {x : Tree} (a o c : Token)
        → StatAt text ts s (a ∷ o ∷ us) → a.kind ≡ Name → role (word text a) ≡ assert_word → o.kind ≡ Mark OpenRound
        → IsExpr text us (c ∷ vs) x → c.kind ≡ Mark CloseRound → Stands ts (after_assert a.from x ∷ s) after_stat vs
    at_after_contract : {ts us : List Token} {h : Head} {a : TypeTree} {c : Contracts} → HeadBlockEnd text ts us h a c
        → Stands ts (head_braces c ∷ body_of h a no_contracts ∷ []) after_stat us
    at_after_last : {ts us vs ws : List Token} {s : List Frame} {e : Tree} → StatAt text ts s us
        → IsExpr text us vs e → IsGap vs ws → Stands ts s (after_last e) ws
    at_after_val_word : {ts us : List Token} {s : List Frame} (v : Token) → StatAt text ts s (v ∷ us)
        → v.kind ≡ Reserve Val → Stands ts s (after_val_word v.from) us
    at_after_val_name : {ts us : List Token} {s : List Frame} (v n : Token) → StatAt text ts s (v ∷ n ∷ us)
        → v.kind ≡ Reserve Val → n.kind ≡ Name → Stands ts s (after_val_name v.from (word text n)) us
    at_after_assert_word : {ts us : List Token} {s : List Frame} (a : Token) → StatAt text ts s (a ∷ us)
        → a.kind ≡ Name → role (word text a) ≡ assert_word → Stands ts s (after_assert_word a.from) us
    at_after_require : {ts us : List Token} {h : Head} {a : TypeTree} {c : Contracts} (w : Token)
        → HeadBlock text ts (w ∷ us) h a c → w.kind ≡ Name → role (word text w) ≡ require_word → c.late ≡ None
        → Stands ts (head_braces (with_word c (word text w) w.from) ∷ body_of h a no_contracts ∷ []) after_require us
    at_after_decreases : {ts us : List Token} {h : Head} {a : TypeTree} {c : Contracts} (w : Token)
        → HeadBlock text ts (w ∷ us) h a c → w.kind ≡ Name → role (word text w) ≡ decreases_word
        → has_measure c.measure ≡ false
        → Stands ts (head_braces (with_word c (word text w) w.from) ∷ body_of h a no_contracts ∷ [])
        (after_decreases w.from) us
    at_measure_open : {ts us : List Token} {h : Head} {a : TypeTree} {c : Contracts} (w o : Token)
        → HeadBlock text ts (w ∷ o ∷ us) h a c → w.kind ≡ Name → role (word text w) ≡ decreases_word
        → has_measure c.measure ≡ false → o.kind ≡ Mark OpenRound
        → Stands ts (measuring w.from [] ∷ head_braces (with_word c (word text w) w.from) ∷ body_of h a
        no_contracts ∷ []) measure_open us
    at_after_tuple : {ts us vs xs : List Token} {h : Head} {a : TypeTree} {c : Contracts} {x : Tree} {m : List Tree}
        (w o p q : Token) → HeadBlock text ts (w ∷ o ∷ p ∷ us) h a c → w.kind ≡ Name
        → role (word text w) ≡ decreases_word → has_measure c.measure ≡ false → o.kind ≡ Mark OpenRound
        → p.kind ≡ Mark OpenRound → IsExpr text us (q ∷ vs) x → q.kind ≡ Mark Comma → IsMeasure text vs xs m
        → (ds : List Tree) → onto ds [] ≡ x ∷ m
        → Stands ts (measuring w.from [] ∷ head_braces (with_word c (word text w) w.from) ∷ body_of h a
        no_contracts ∷ []) (after_tuple ds) xs
    at_want_body : {ts us : List Token} {h : Head} {a : TypeTree} → Signature text ts us h a
        → Stands ts (body_of h a no_contracts ∷ []) want_body us
    at_have_contracted : {ts us vs : List Token} {h : Head} {a : TypeTree} {c : Contracts} {e : Tree}
        → Signature text ts us h a → IsContractBlock text us vs (onto c.requirements []) c.measure e
        → Stands ts (body_of h a c ∷ []) (have_contracted e) vs
    at_after_contracted_dot : {ts us vs : List Token} {h : Head} {a : TypeTree} {c : Contracts} {e : Tree} (d : Token)
        → Signature text ts us h a → IsContractBlock text us (d ∷ vs) (onto c.requirements []) c.measure e
        → d.kind ≡ Mark Dot → Stands ts (body_of h a c ∷ []) (after_contracted_dot e) vs
    at_after_ensuring : {ts us : List Token} {s : List Frame} {w : Token} {b : Tree} → EnsuringAt text ts s w b us
        → Stands ts s (after_ensuring w.from b) us
    at_want_lambda_or_semi : {ts us vs : List Token} {s : List Frame} {w : Token} {b : Tree} (o : Token)
        → EnsuringAt text ts s w b (o ∷ us) → o.kind ≡ Mark OpenBrace → IsGap us vs
        → Stands ts (post_of w.from b in_braces ∷ s) want_lambda_or_semi vs
    at_want_lambda : {ts us : List Token} {s : List Frame} → PostAt text ts s us → Stands ts s want_lambda us
    at_after_lambda_name : {ts us : List Token} {s : List Frame} (n : Token) → PostAt text ts s (n ∷ us)
        → n.kind ≡ Name → Stands ts s (after_lambda_name n.from (word text n)) us
    at_after_lambda_round : {ts us : List Token} {s : List Frame} (o : Token) → PostAt text ts s (o ∷ us)
        → o.kind ≡ Mark OpenRound → Stands ts s after_lambda_round us
    at_after_lambda_round_name : {ts us : List Token} {s : List Frame} (o n : Token) → PostAt text ts s (o ∷ n ∷ us)
        → o.kind ≡ Mark OpenRound → n.kind ≡ Name → Stands ts s (after_lambda_round_name n.from (word text n)) us
    at_after_lambda_closed : {ts us : List Token} {s : List Frame} (o n c : Token) → PostAt text ts s (o ∷ n ∷ c ∷ us)
        → o.kind ≡ Mark OpenRound → n.kind ≡ Name → c.kind ≡ Mark CloseRound
        → Stands ts s (after_lambda_closed n.from (word text n)) us
    at_after_lambda_typed : {ts us vs : List Token} {s : List Frame} {a : TypeTree} (o n c e : Token)
        → PostAt text ts s (o ∷ n ∷ c ∷ us) → o.kind ≡ Mark OpenRound → n.kind ≡ Name → c.kind ≡ Op Colon
        → IsType text us (e ∷ vs) a → e.kind ≡ Mark CloseRound → Stands ts s (after_lambda_typed (word text n) a) vs
    at_after_claim : {ts us vs ws : List Token} {s : List Frame} {w : Word} {a : Option TypeTree} {e : Tree}
        → PostAt text ts s us → IsLambda text us vs w a e → IsGap vs ws → Stands ts s (after_claim w a e) ws
    at_after_body : {ts us vs : List Token} {h : Head} {a : TypeTree} {c : Contracts} {e : Tree} {p : Option PostTree}
        → Signature text ts us h a → IsBody text us vs (onto c.requirements []) c.measure e p
        → Stands ts (body_of h a c ∷ []) (after_body e p) vs
    at_want_def_name : {ts us : List Token} (d : Token) → IsAnnotations text ts (d ∷ us) → d.kind ≡ Reserve Def
        → Stands ts [] (want_name of_def) us
    at_want_class_name : {ts us vs : List Token} {m : Modifiers} {trait : Bool} (k : Token) → IsAnnotations text ts us
        → IsModified us (k ∷ vs) unmodified m → is_trait_word k.kind ≡ Some trait
        → Stands ts [] (want_name (of_class m.sealed m.case trait)) vs
    at_after_head_name : {ts us : List Token} {kind : Kind} {h : Head} → HeadAt text ts named kind h us
        → Stands ts (header kind h ∷ []) after_head_name us
    at_want_type_param : {ts us : List Token} {kind : Kind} {h : Head} → HeadAt text ts wanting_type_param kind h us
        → Stands ts (header kind h ∷ []) want_type_param us
    at_after_type_param : {ts us : List Token} {kind : Kind} {h : Head} → HeadAt text ts behind_type_param kind h us
        → Stands ts (header kind h ∷ []) after_type_param us
    at_after_type_params : {ts us : List Token} {kind : Kind} {h : Head} → HeadAt text ts behind_type_params kind h us
        → Stands ts (header kind h ∷ []) after_type_params us
    at_params_open : {ts us : List Token} {kind : Kind} {h : Head} → HeadAt text ts params_opened kind h us
        → Stands ts (header kind h ∷ []) params_open us
    at_want_param : {ts us : List Token} {kind : Kind} {h : Head} → HeadAt text ts wanting_param kind h us
        → Stands ts (header kind h ∷ []) want_param us
    at_after_param_name : {ts us : List Token} {kind : Kind} {h : Head} (n : Token)
        → HeadAt text ts wanting_param kind h (n ∷ us) → n.kind ≡ Name
        → Stands ts (header kind h ∷ []) (after_param_name n.from (word text n)) us
    at_after_params : {ts us : List Token} {kind : Kind} {h : Head} → HeadAt text ts behind_params kind h us
        → Stands ts (header kind h ∷ []) after_params us
    at_want_object_name : {ts us : List Token} (c k : Token) → IsAnnotations text ts (c ∷ k ∷ us)
        → c.kind ≡ Reserve Case → k.kind ≡ Reserve Object → Stands ts [] want_object_name us
    at_after_object_name : {ts us : List Token} (c k n : Token) → IsAnnotations text ts (c ∷ k ∷ n ∷ us)
        → c.kind ≡ Reserve Case → k.kind ≡ Reserve Object → n.kind ≡ Name
        → Stands ts [] (after_object_name n.from (word text n)) us

  -- what a move says, where the tokens ts begin the declaration and us follow the token t
  abbrev pub Moved : List Token → Token → List Token → Move → Type 0
  Moved ts t us (go s m) = Stands ts s m us
  Moved ts t us (stop f) = Unit {0}
  Moved ts t us (ends x) = Declares ts (t ∷ us) x
