-- The numbers of trees that tokens spell are Ints.
use Rattle.std.proofs.Common.{◌≡◌, ℕ, List, [], ◌∷◌, ◌++◌, Option, Some, None, subst}
use Rattle.pp_grammar.specs.Bodies.{Contract, IsBody, IsClosed, IsContract, IsContractBlock, IsContracts, IsHead}
use Rattle.pp_grammar.specs.Bodies.{IsHole, IsLambda, IsMeasure, IsPost, block_alone, closed_block, closed_matched}
use Rattle.pp_grammar.specs.Bodies.{closed_simple, components, contract_block, decreases, dot_ensuring, dot_holds}
use Rattle.pp_grammar.specs.Bodies.{ensuring, expr_alone, head_block, head_infix, head_matched, holds, hole}
use Rattle.pp_grammar.specs.Bodies.{hole_on_left, hole_on_right, last_component, looser_hole, measure}
use Rattle.pp_grammar.specs.Bodies.{measure_of_tuple, no_contract, of_hole, of_name, of_name_in_round, of_typed_name}
use Rattle.pp_grammar.specs.Bodies.{one_more_component, one_more_contract, post_in_braces, post_in_round}
use Rattle.pp_grammar.specs.Bodies.{prefixed_hole, require, requirement, requirements}
use Rattle.pp_grammar.specs.Exprs.{IsArguments, IsBlock, IsCase, IsCases, IsExpr, IsExprs, IsFields, IsGuard, IsInfix}
use Rattle.pp_grammar.specs.Exprs.{IsMatched, IsPrefix, IsPrimary, IsRest, IsSimple, IsStats, arguments, assert_stat}
use Rattle.pp_grammar.specs.Exprs.{at_types, at_types_on_arguments, block, bound, case_of, false_word, guard, if_else}
use Rattle.pp_grammar.specs.Exprs.{in_block, in_round, infix_expr, last_case, last_expr, last_of_exprs, looser}
use Rattle.pp_grammar.specs.Exprs.{match_of, matched, name_alone, negative, no_arguments, no_field, no_guard}
use Rattle.pp_grammar.specs.Exprs.{no_prefix, number, on_arguments, one_field, one_more_case, one_more_expr, operand}
use Rattle.pp_grammar.specs.Exprs.{operator, prefixed, rest, simple, true_word, val_stat}
use Rattle.pp_grammar.specs.Patterns.{IsPattern, IsPatterns, IsPlain, anything, binding, constructor_alone}
use Rattle.pp_grammar.specs.Patterns.{constructor_of, constructor_of_none, false_pattern, last_pattern, named_at}
use Rattle.pp_grammar.specs.Patterns.{named_pattern, negated_pattern, number_pattern, one_more_pattern}
use Rattle.pp_grammar.specs.Patterns.{pattern_in_round, signed_pattern, true_pattern, unnamed}
use Rattle.pp_grammar.specs.Words.{word}
use Rattle.pp_plain_names.proofs.Left.{AllOf, left_ascription, left_breaks, left_case, left_closed}
use Rattle.pp_plain_names.proofs.Left.{left_contract, left_contracts, left_expr, left_gap, left_guard, left_head}
use Rattle.pp_plain_names.proofs.Left.{left_hole, left_infix, left_pattern, left_semicolon}
use Rattle.pp_plain_names.proofs.Left.{left_semis, left_type, left_types}
use Rattle.pp_tokens.specs.declared.token.Token.{Token}
use Rattle.pp_tree.specs.Plain.{CaseTrees, PatternTree, PatternTrees, PostTree, Tree, Trees, TypeTree, Word, any}
use Rattle.pp_tree.specs.Plain.{bool_pattern, ctor_pattern, int_pattern}
use Rattle.pp_tree.specs.Shown.{case_before}
use Rattle.pp_types_laws.specs.Literals.{CasesInts, ExprInts, ExprsInts, ListInts, PatternInts, PatternsInts, PostInts}
use Rattle.pp_ordinary.proofs.Numbers.{IsNarrow, bound_int, negated_int, negative_int, number_int}

-- a pattern under a name has the same numbers
named_ints : (at : ℕ) (w : Word) (p q : PatternTree) → named_at at w p ≡ Some q → PatternInts p → PatternInts q
named_ints at w (any a None) q e h = let is : any at (Some w) ≡ q = cc in subst PatternInts is tt
named_ints at w (int_pattern a None n) q e h =
    let is : int_pattern at (Some w) n ≡ q = cc in subst PatternInts is h
named_ints at w (bool_pattern a None b) q e h =
    let is : bool_pattern at (Some w) b ≡ q = cc in subst PatternInts is tt
named_ints at w (ctor_pattern a None c ps) q e h =
    let is : ctor_pattern at (Some w) c ps ≡ q = cc in subst PatternInts is h
named_ints at w (any a (Some v)) q e h = cc
named_ints at w (int_pattern a (Some v) n) q e h = cc
named_ints at w (bool_pattern a (Some v) b) q e h = cc
named_ints at w (ctor_pattern a (Some v) c ps) q e h = cc

abbrev MaybeInts : Option Tree → Type 0
MaybeInts None = Unit {0}
MaybeInts (Some g) = ExprInts g

before_ints : (p : PatternTree) (g : Option Tree) (b : Tree) (cs : CaseTrees) → PatternInts p → MaybeInts g
    → ExprInts b → CasesInts cs → CasesInts (case_before p g b cs)
before_ints p None b cs hp hg hb hs = (hp, hb, hs)
before_ints p (Some g) b cs hp hg hb hs = (hp, hg, hb, hs)

-- the token's number is narrow
abbrev pub Narrow : Token → Type 0
Narrow t = IsNarrow t.kind

module _ (text : Word) where
  abbrev pub AllNarrow : List Token → Type 0
  AllNarrow = AllOf text Narrow

  mutual
    ints_pattern : {ts us : List Token} {p : PatternTree} → IsPattern text ts us p → AllNarrow ts → PatternInts p
    ints_pattern (unnamed d1) ok = ints_plain d1 ok
    ints_pattern (named_pattern {p = p} {q = q} n a e1 e2 d3 is) ok =
        named_ints n.from (word text n) p q is (ints_plain d3 ok.1.1)

    ints_plain : {ts us : List Token} {p : PatternTree} → IsPlain text ts us p → AllNarrow ts → PatternInts p
    ints_plain (anything t e1) ok = tt
    ints_plain (binding t e1 _) ok = tt
    ints_plain (constructor_alone t e1 _) ok = tt
    ints_plain (number_pattern {n = n} t e1) ok = number_int t.kind n ok.0 e1
    ints_plain (signed_pattern {n = n} m t e1 _ e3) ok = negative_int t.kind n e3
    ints_plain (negated_pattern {n = n} m t e1 _ e3) ok = negated_int t.kind n e3
    ints_plain (true_pattern t e1) ok = tt
    ints_plain (false_pattern t e1) ok = tt
    ints_plain (pattern_in_round o c e1 d2 e3) ok = ints_pattern d2 ok.1
    ints_plain (constructor_of_none t o c e1 e2 e3) ok = tt
    ints_plain (constructor_of t o e1 e2 d3) ok = ints_patterns d3 ok.1.1

    ints_patterns : {ts us : List Token} {ps : PatternTrees} → IsPatterns text ts us ps → AllNarrow ts
        → PatternsInts ps
    ints_patterns (last_pattern c d1 e2) ok = (ints_pattern d1 ok, tt)
    ints_patterns (one_more_pattern c d1 e2 d3) ok =
        (ints_pattern d1 ok, ints_patterns d3 (left_pattern text Narrow d1 ok).1)

  ints_fields : {ts us : List Token} {e d : Tree} → IsFields text ts us e d → ExprInts e → ExprInts d
  ints_fields no_field h = h
  ints_fields (one_field dot t e1 e2 _ d4) h = ints_fields d4 h

  mutual
    ints_expr : {ts us : List Token} {e : Tree} → IsExpr text ts us e → AllNarrow ts → ExprInts e
    ints_expr (if_else i o c e e1 e2 d3 e4 d5 d6 d7 e8 d9) ok =
        let then = left_breaks text Narrow d5 (left_expr text Narrow d3 ok.1.1).1 in (
          ints_expr d3 ok.1.1,
          ints_expr d6 then,
          ints_expr d9 (left_semicolon text Narrow d7 (left_expr text Narrow d6 then)).1,
        )
    ints_expr (matched d1) ok = ints_matched d1 ok
    ints_expr (infix_expr d1) ok = ints_infix d1 ok

    ints_matched : {ts us : List Token} {e : Tree} → IsMatched text ts us e → AllNarrow ts → ExprInts e
    ints_matched (match_of m o d1 e2 e3 d4) ok =
        (ints_infix d1 ok, ints_cases d4 (left_infix text Narrow d1 ok).1.1)

    ints_cases : {ts us : List Token} {cs : CaseTrees} → IsCases text ts us cs → AllNarrow ts → CasesInts cs
    ints_cases (last_case {p = p} {g = g} {b = b} c d1 e2) ok =
        let h = ints_case d1 ok in before_ints p g b _ h.0 h.1 h.2 tt
    ints_cases (one_more_case {p = p} {g = g} {b = b} {cs = cs} d1 d2) ok =
        let h = ints_case d1 ok in before_ints p g b cs h.0 h.1 h.2 (ints_cases d2 (left_case text Narrow d1 ok))

    ints_case : {ts us : List Token} {p : PatternTree} {g : Option Tree} {b : Tree} → IsCase text ts us p g b
        → AllNarrow ts → PatternInts p × MaybeInts g × ExprInts b
    ints_case (case_of c a e1 d2 d3 e4 d5) ok =
        let behind = left_pattern text Narrow d2 ok.1 in
        (ints_pattern d2 ok.1, ints_guard d3 behind, ints_rest d5 (left_guard text Narrow d3 behind).1)

    ints_guard : {ts us : List Token} {g : Option Tree} → IsGuard text ts us g → AllNarrow ts → MaybeInts g
    ints_guard no_guard ok = tt
    ints_guard (guard i e1 d2) ok = ints_infix d2 ok.1

    ints_rest : {ts us : List Token} {e : Tree} → IsRest text ts us e → AllNarrow ts → ExprInts e
    ints_rest (rest d1 d2 d3) ok = ints_stats d2 (left_gap text Narrow d1 ok)

    ints_stats : {ts us : List Token} {e : Tree} → IsStats text ts us e → AllNarrow ts → ExprInts e
    ints_stats (last_expr d1) ok = ints_expr d1 ok
    ints_stats (val_stat v n q e1 e2 d3 e4 d5 d6 d7) ok =
        let behind = (left_ascription text Narrow d3 ok.1.1).1 in
        (ints_expr d5 behind, ints_stats d7 (left_semis text Narrow d6 (left_expr text Narrow d5 behind)))
    ints_stats (assert_stat a o c e1 _ e3 d4 e5 d6 d7) ok = (
      ints_expr d4 ok.1.1,
      ints_stats d7 (left_semis text Narrow d6 (left_expr text Narrow d4 ok.1.1).1),
    )

    ints_block : {ts us : List Token} {e : Tree} → IsBlock text ts us e → AllNarrow ts → ExprInts e
    ints_block (block o c e1 d2 e3) ok = ints_rest d2 ok.1

    ints_infix : {ts us : List Token} {l : ℕ} {e : Tree} → IsInfix text l ts us e → AllNarrow ts → ExprInts e
    ints_infix (looser d1) ok = ints_infix d1 ok
    ints_infix (operand d1) ok = ints_prefix d1 ok
    ints_infix (operator t o op d1 e2 _ d4) ok = (ints_infix d1 ok, ints_infix d4 (left_infix text Narrow d1 ok).1)

    ints_prefix : {ts us : List Token} {e : Tree} → IsPrefix text ts us e → AllNarrow ts → ExprInts e
    ints_prefix (no_prefix d1) ok = ints_simple d1 ok
    ints_prefix (prefixed t o op e1 _ _ d4) ok = ints_simple d4 ok.1
    ints_prefix (negative {n = n} m t e1 _ e3 d4) ok = ints_fields d4 (negative_int t.kind n e3)

    ints_simple : {ts us : List Token} {e : Tree} → IsSimple text ts us e → AllNarrow ts → ExprInts e
    ints_simple (simple d1 d2) ok = ints_fields d2 (ints_primary d1 ok)

    ints_primary : {ts us : List Token} {e : Tree} → IsPrimary text ts us e → AllNarrow ts → ExprInts e
    ints_primary (number {n = n} t e1) ok = number_int t.kind n ok.0 e1
    ints_primary (true_word t e1) ok = tt
    ints_primary (false_word t e1) ok = tt
    ints_primary (bound {n = n} i dot t e1 _ e3 e4 e5) ok = bound_int (word text t) n e5
    ints_primary (name_alone t e1 _) ok = tt
    ints_primary (at_types t o e1 _ e3 d4) ok = tt
    ints_primary (on_arguments t e1 _ d3) ok = ints_arguments d3 ok.1
    ints_primary (at_types_on_arguments t o e1 _ e3 d4 d5) ok = ints_arguments d5 (left_types text Narrow d4 ok.1.1)
    ints_primary (in_round o c e1 d2 e3) ok = ints_expr d2 ok.1
    ints_primary (in_block d1) ok = ints_block d1 ok

    ints_arguments : {ts us : List Token} {es : Trees} → IsArguments text ts us es → AllNarrow ts → ExprsInts es
    ints_arguments (no_arguments o c e1 e2) ok = tt
    ints_arguments (arguments o e1 d2) ok = ints_exprs d2 ok.1

    ints_exprs : {ts us : List Token} {es : Trees} → IsExprs text ts us es → AllNarrow ts → ExprsInts es
    ints_exprs (last_of_exprs c d1 e2) ok = (ints_expr d1 ok, tt)
    ints_exprs (one_more_expr c d1 e2 d3) ok = (ints_expr d1 ok, ints_exprs d3 (left_expr text Narrow d1 ok).1)

  -- ---- bodies

  ints_hole : {ts us : List Token} {l : ℕ} {e : Tree} → IsHole text l ts us e → AllNarrow ts → ExprInts e
  ints_hole (looser_hole d1) ok = ints_hole d1 ok
  ints_hole (hole h e1 d2) ok = ints_fields d2 tt
  ints_hole (prefixed_hole t h o op e1 _ e3 d4) ok = ints_fields d4 tt
  ints_hole (hole_on_left t o op d1 e2 _ d4) ok = (ints_hole d1 ok, ints_infix d4 (left_hole text Narrow d1 ok).1)
  ints_hole (hole_on_right t o op d1 e2 _ d4) ok = (ints_infix d1 ok, ints_hole d4 (left_infix text Narrow d1 ok).1)

  ints_lambda : {ts us : List Token} {w : Word} {t : Option TypeTree} {e : Tree} → IsLambda text ts us w t e
      → AllNarrow ts → ExprInts e
  ints_lambda (of_name n a e1 e2 d3) ok = ints_expr d3 ok.1.1
  ints_lambda (of_name_in_round o n c a e1 e2 d3 e4 e5 d6) ok =
      ints_expr d6 (left_ascription text Narrow d3 ok.1.1).1.1
  ints_lambda (of_typed_name n c a e1 e2 d3 e4 d5) ok = ints_expr d5 (left_type text Narrow d3 ok.1.1).1
  ints_lambda (of_hole d1) ok = ints_hole d1 ok

  ints_post : {ts us : List Token} {w : Word} {t : Option TypeTree} {e : Tree} → IsPost text ts us w t e
      → AllNarrow ts → ExprInts e
  ints_post (post_in_round o c e1 d2 e3) ok = ints_lambda d2 ok.1
  ints_post (post_in_braces o c e1 d2 d3 d4 e5) ok = ints_lambda d3 (left_gap text Narrow d2 ok.1)

  ints_measure : {ts us : List Token} {es : List Tree} → IsMeasure text ts us es → AllNarrow ts → ListInts es
  ints_measure (last_component c d1 e2) ok = (ints_expr d1 ok, tt)
  ints_measure (one_more_component c d1 e2 d3) ok = (ints_expr d1 ok, ints_measure d3 (left_expr text Narrow d1 ok).1)

  abbrev ContractInts : Contract → Type 0
  ContractInts (require e) = ExprInts e
  ContractInts (decreases es) = ListInts es

  ints_contract : {ts us : List Token} {c : Contract} → IsContract text ts us c → AllNarrow ts → ContractInts c
  ints_contract (requirement w o c e1 _ e3 d4 e5) ok = ints_expr d4 ok.1.1
  ints_contract (measure w o e1 _ e3 d4) ok = ints_measure d4 ok.1.1
  ints_contract (measure_of_tuple w o p c d e1 _ e3 e4 d5 e6 d7 e8) ok =
      (ints_expr d5 ok.1.1.1, ints_measure d7 (left_expr text Narrow d5 ok.1.1.1).1)

  both_ints : (es fs : List Tree) → ListInts es → ListInts fs → ListInts (es ++ fs)
  both_ints [] fs h k = k
  both_ints (e ∷ es) fs h k = (h.0, both_ints es fs h.1 k)

  with_contract : (c : Contract) (cs : List Contract) → ContractInts c
      → ListInts (requirements cs) × ListInts (components cs)
      → ListInts (requirements (c ∷ cs)) × ListInts (components (c ∷ cs))
  with_contract (require e) cs h k = ((h, k.0), k.1)
  with_contract (decreases es) cs h k = (k.0, both_ints es (components cs) h k.1)

  ints_contracts : {ts us : List Token} {cs : List Contract} → IsContracts text ts us cs → AllNarrow ts
      → ListInts (requirements cs) × ListInts (components cs)
  ints_contracts no_contract ok = (tt, tt)
  ints_contracts (one_more_contract {c = c} {cs = cs} d1 d2 d3) ok =
      with_contract c cs (ints_contract d1 ok)
      (ints_contracts d3 (left_semis text Narrow d2 (left_contract text Narrow d1 ok)))

  -- the numbers of the requirements, of the measure and of the body
  abbrev HeadInts : List Tree → List Tree → Tree → Type 0
  HeadInts pre parts e = ListInts pre × ListInts parts × ExprInts e

  ints_contract_block : {ts us : List Token} {pre measure : List Tree} {e : Tree}
      → IsContractBlock text ts us pre measure e → AllNarrow ts → HeadInts pre measure e
  ints_contract_block (contract_block o c e1 d2 d3 _ d5 d6 e7) ok =
      let behind = left_gap text Narrow d2 ok.1 in
      let h = ints_contracts d3 behind in
      (h.0, h.1, ints_stats d5 (left_contracts text Narrow d3 behind))

  ints_head : {ts us : List Token} {pre measure : List Tree} {e : Tree} → IsHead text ts us pre measure e
      → AllNarrow ts → HeadInts pre measure e
  ints_head (head_infix d1) ok = (tt, tt, ints_infix d1 ok)
  ints_head (head_matched d1) ok = (tt, tt, ints_matched d1 ok)
  ints_head (head_block d1) ok = ints_contract_block d1 ok

  ints_closed : {ts us : List Token} {pre measure : List Tree} {e : Tree} → IsClosed text ts us pre measure e
      → AllNarrow ts → HeadInts pre measure e
  ints_closed (closed_simple d1) ok = (tt, tt, ints_simple d1 ok)
  ints_closed (closed_matched d1) ok = (tt, tt, ints_matched d1 ok)
  ints_closed (closed_block d1) ok = ints_contract_block d1 ok

  pub ints_body : {ts us : List Token} {pre measure : List Tree} {e : Tree} {p : Option PostTree}
      → IsBody text ts us pre measure e p → AllNarrow ts
      → ListInts pre × ListInts measure × ExprInts e × PostInts p
  ints_body (ensuring w d1 e2 _ d4) ok =
      let h = ints_head d1 ok in (h.0, h.1, h.2, ints_post d4 (left_head text Narrow d1 ok).1)
  ints_body (holds w d1 e2 _) ok = let h = ints_head d1 ok in (h.0, h.1, h.2, tt)
  ints_body (dot_ensuring dot w d1 e2 e3 _ d5) ok =
      let h = ints_closed d1 ok in (h.0, h.1, h.2, ints_post d5 (left_closed text Narrow d1 ok).1.1)
  ints_body (dot_holds dot w d1 e2 e3 _) ok = let h = ints_closed d1 ok in (h.0, h.1, h.2, tt)
  ints_body (expr_alone d1) ok = (tt, tt, ints_expr d1 ok, tt)
  ints_body (block_alone d1) ok = let h = ints_contract_block d1 ok in (h.0, h.1, h.2, tt)
