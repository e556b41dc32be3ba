-- Sizes and offsets of expressions.
use Rattle.pp_grammar.specs.Exprs.{IsArguments, IsBlock, IsCase, IsCases, IsExpr, IsExprs, IsFields, IsGuard, IsInfix}
use Rattle.pp_grammar.specs.Exprs.{IsMatched, IsPrefix, IsPrimary, IsRest, IsSemicolon, IsSimple, IsStats, arguments}
use Rattle.pp_grammar.specs.Exprs.{assert_stat, at_types, at_types_on_arguments, block, bound, case_of, false_word}
use Rattle.pp_grammar.specs.Exprs.{guard, if_else, in_block, in_round, infix_expr, last_case, last_expr, last_of_exprs}
use Rattle.pp_grammar.specs.Exprs.{looser, match_of, matched, name_alone, negative, no_arguments, no_field, no_guard}
use Rattle.pp_grammar.specs.Exprs.{no_prefix, no_semicolon, number, on_arguments, one_field, one_more_case}
use Rattle.pp_grammar.specs.Exprs.{one_more_expr, operand, operator, prefixed, rest, semicolon, simple, true_word}
use Rattle.pp_grammar.specs.Exprs.{val_stat}
use Rattle.pp_grammar_laws.proofs.SizePatterns.{size_pattern}
use Rattle.pp_grammar_laws.proofs.SizeTypes.{size_ascription, size_breaks, size_gap, size_semis, size_types}
use Rattle.pp_grammar_laws.proofs.Sized.{Ok, Sized, head, tail}
use Rattle.pp_tokens.specs.declared.token.Token.{Token}
use Rattle.pp_tree.specs.Count.{AllFewCases, CasesFewCases, FewCases, MaybeFewCases, case_count, case_nodes}
use Rattle.pp_tree.specs.Count.{maybe_nodes, nodes, nodes_of}
use Rattle.pp_tree.specs.Offsets.{AllOffsets, CaseOffsets, MaybeOffsets, Offsets, PatternOffsets}
use Rattle.pp_tree.specs.Plain.{CaseTrees, PatternTree, Tree, Trees, Word}
use Rattle.std.proofs.Common.{List, Option, arith, length, ℕ, ◌*◌, ◌+◌, ◌≤◌}
use Rattle.pp_grammar_laws.proofs.SizeBlocks.{block_block, case_case_of, cases_last_case, cases_one_more_case}
use Rattle.pp_grammar_laws.proofs.SizeBlocks.{expr_if_else, expr_infix_expr, expr_matched, guard_guard, guard_no_guard}
use Rattle.pp_grammar_laws.proofs.SizeBlocks.{matched_match_of, rest_rest, semicolon_no_semicolon, semicolon_semicolon}
use Rattle.pp_grammar_laws.proofs.SizeBlocks.{stats_assert_stat, stats_last_expr, stats_val_stat}
use Rattle.pp_grammar_laws.proofs.SizeOperands.{arguments_arguments, arguments_no_arguments, exprs_last_of_exprs}
use Rattle.pp_grammar_laws.proofs.SizeOperands.{exprs_one_more_expr, infix_looser, infix_operand, infix_operator}
use Rattle.pp_grammar_laws.proofs.SizeOperands.{prefix_negative, prefix_no_prefix, prefix_prefixed, primary_at_types}
use Rattle.pp_grammar_laws.proofs.SizeOperands.{primary_at_types_on_arguments, primary_bound, primary_false_word}
use Rattle.pp_grammar_laws.proofs.SizeOperands.{primary_in_block, primary_in_round, primary_name_alone, primary_number}
use Rattle.pp_grammar_laws.proofs.SizeOperands.{primary_on_arguments, primary_true_word, simple_simple}

module _ (text : Word) (n : ℕ) (P : ℕ → Type 0) where
  pub size_fields : {us vs : List Token} {e x : Tree} → IsFields text us vs e x → Ok n P us
      → Offsets P e × FewCases n e
      → Sized n P us vs 0 0 ((Offsets P x × FewCases n x) × (nodes x + length vs ≤ nodes e + length us))
  size_fields no_field ok good = record {
    good = (good, omega arith);
    left = ok;
    small = omega arith;
    quarter =
        omega arith;
  }
  size_fields (one_field dot t is_d is r f) ok good =
      let s = size_fields f (tail n P (tail n P ok)) ((head n P (tail n P ok), good.0), good.1) in
      record {
        good = (s.good.0, omega (arith, s.good.1));
        left = s.left;
        small = omega (arith, s.small);
        quarter =
            omega (arith, s.small);
      }

  pub size_semicolon : {ts us : List Token} → IsSemicolon ts us → Ok n P ts → Sized n P ts us 0 0 (Unit {0})
  size_semicolon (no_semicolon {ts = ts}) = semicolon_no_semicolon text n P ts
  size_semicolon (semicolon {ts = ts} t _) = semicolon_semicolon text n P ts t

  mutual
    pub size_expr : {ts us : List Token} {e : Tree} → IsExpr text ts us e → Ok n P ts
        → Sized n P ts us (nodes e) 0 (Offsets P e × FewCases n e)
    size_expr (if_else {ts = ts} {us = us} {vs = vs} {ws = ws} {xs = xs} {ys = ys} {x = x} {a = a} {b = b} i o c e
        _ _ d1 _ d2 d3 d4 _ d5) =
        expr_if_else text n P ts us vs ws xs ys x a b i o c e (size_expr d1) (size_breaks text n P
        d2) (size_expr d3) (size_semicolon d4) (size_expr d5)
    size_expr (matched {ts = ts} {us = us} {e = e} d1) = expr_matched text n P ts us e (size_matched d1)
    size_expr (infix_expr {ts = ts} {us = us} {e = e} d1) = expr_infix_expr text n P ts us e (size_infix d1)

    pub size_matched : {ts us : List Token} {e : Tree} → IsMatched text ts us e → Ok n P ts
        → Sized n P ts us (nodes e) 0 (Offsets P e × FewCases n e)
    size_matched (match_of {ts = ts} {us = us} {vs = vs} {x = x} {cs = cs} m o d1 _ _ d2) =
        matched_match_of text n P ts us
        vs x cs m o (size_infix d1) (size_cases d2)

    pub size_cases : {ts us : List Token} {e : CaseTrees} → IsCases text ts us e → Ok n P ts
        → Sized n P ts us (case_nodes e) (4 * case_count e) (CaseOffsets P e × CasesFewCases n e)
    size_cases (last_case {ts = ts} {us = us} {p = p} {g = g} {b = b} c d1 _) = cases_last_case text n P ts us p g b c
        (size_case d1)
    size_cases (one_more_case {ts = ts} {us = us} {vs = vs} {p = p} {g = g} {b = b} {cs = cs} d1 d2) =
        cases_one_more_case text n P ts us vs p g b cs (size_case d1) (size_cases d2)

    pub size_case : {ts us : List Token} {p : PatternTree} {e : Option Tree} {x : Tree} → IsCase text ts us p e x
        → Ok n P ts → Sized n P ts us (maybe_nodes e + nodes x) 4 (PatternOffsets P p × MaybeOffsets P e × Offsets
        P x × MaybeFewCases n e × FewCases n x)
    size_case (case_of {ts = ts} {us = us} {vs = vs} {ws = ws} {p = p} {g = g} {b = b} c a _ d1 d2 _ d3) =
        case_case_of text n P ts us vs ws p g b c a (size_pattern text n P d1) (size_guard d2) (size_rest d3)

    pub size_guard : {ts us : List Token} {e : Option Tree} → IsGuard text ts us e → Ok n P ts
        → Sized n P ts us (maybe_nodes e) 0 (MaybeOffsets P e × MaybeFewCases n e)
    size_guard (no_guard {ts = ts}) = guard_no_guard text n P ts
    size_guard (guard {ts = ts} {us = us} {g = g} i _ d1) = guard_guard text n P ts us g i (size_infix d1)

    pub size_rest : {ts us : List Token} {e : Tree} → IsRest text ts us e → Ok n P ts
        → Sized n P ts us (nodes e) 0 (Offsets P e × FewCases n e)
    size_rest (rest {ts = ts} {us = us} {vs = vs} {ws = ws} {e = e} d1 d2 d3) =
        rest_rest text n P ts us vs ws e (size_gap
        text n P d1) (size_stats d2) (size_gap text n P d3)

    pub size_stats : {ts us : List Token} {e : Tree} → IsStats text ts us e → Ok n P ts
        → Sized n P ts us (nodes e) 0 (Offsets P e × FewCases n e)
    size_stats (last_expr {ts = ts} {us = us} {e = e} d1) = stats_last_expr text n P ts us e (size_expr d1)
    size_stats (val_stat {ts = ts} {us = us} {vs = vs} {ws = ws} {xs = xs} {t = t} {a = a} {b = b} v z q _ _ d1 _
        d2 d3 d4) = stats_val_stat text n P ts us vs ws xs t a b v z q (size_ascription text n P d1) (size_expr d2)
        (size_semis text n P d3) (size_stats d4)
    size_stats (assert_stat {ts = ts} {us = us} {vs = vs} {ws = ws} {x = x} {b = b} a o c _ _ _ d1 _ d2 d3) =
        stats_assert_stat text n P ts us vs ws x b a o c (size_expr d1) (size_semis text n P d2) (size_stats d3)

    pub size_block : {ts us : List Token} {e : Tree} → IsBlock text ts us e → Ok n P ts
        → Sized n P ts us (nodes e) 0 (Offsets P e × FewCases n e)
    size_block (block {ts = ts} {us = us} {e = e} o c _ d1 _) = block_block text n P ts us e o c (size_rest d1)

    pub size_infix : {ts us : List Token} {l : ℕ} {e : Tree} → IsInfix text l ts us e → Ok n P ts
        → Sized n P ts us (nodes e) 0 (Offsets P e × FewCases n e)
    size_infix (looser {l = l} {ts = ts} {us = us} {e = e} d1) = infix_looser text n P l ts us e (size_infix d1)
    size_infix (operand {ts = ts} {us = us} {e = e} d1) = infix_operand text n P ts us e (size_prefix d1)
    size_infix (operator {ts = ts} {us = us} {vs = vs} {a = a} {b = b} t o op d1 _ _ d2) =
        infix_operator text n P ts us vs
        a b t o op (size_infix d1) (size_infix d2)

    pub size_prefix : {ts us : List Token} {e : Tree} → IsPrefix text ts us e → Ok n P ts
        → Sized n P ts us (nodes e) 0 (Offsets P e × FewCases n e)
    size_prefix (no_prefix {ts = ts} {us = us} {e = e} d1) = prefix_no_prefix text n P ts us e (size_simple d1)
    size_prefix (prefixed {ts = ts} {us = us} {e = e} t o op _ _ _ d1) = prefix_prefixed text n P ts us e t o op
        (size_simple d1)
    size_prefix (negative {us = us} {vs = vs} {n = z} {e = e} m t _ _ _ d1) = prefix_negative text n P us vs z e m t
        (size_fields d1)

    pub size_simple : {ts us : List Token} {e : Tree} → IsSimple text ts us e → Ok n P ts
        → Sized n P ts us (nodes e) 0 (Offsets P e × FewCases n e)
    size_simple (simple {ts = ts} {us = us} {vs = vs} {e = e} {d = d} d1 d2) = simple_simple text n P ts us vs e d
        (size_primary d1) (size_fields d2)

    pub size_primary : {ts us : List Token} {e : Tree} → IsPrimary text ts us e → Ok n P ts
        → Sized n P ts us (nodes e) 0 (Offsets P e × FewCases n e)
    size_primary (number {us = us} {n = z} t _) = primary_number text n P us z t
    size_primary (true_word {us = us} t _) = primary_true_word text n P us t
    size_primary (false_word {us = us} t _) = primary_false_word text n P us t
    size_primary (bound {us = us} {n = z} i dot t _ _ _ _ _) = primary_bound text n P us z i dot t
    size_primary (name_alone {us = us} t _ _) = primary_name_alone text n P us t
    size_primary (at_types {ts = ts} {us = us} {args = tys} t o _ _ _ d1) = primary_at_types text n P ts us tys t o
        (size_types text n P d1)
    size_primary (on_arguments {ts = ts} {us = us} {es = es} t _ _ d1) = primary_on_arguments text n P ts us es t
        (size_arguments d1)
    size_primary (at_types_on_arguments {ts = ts} {us = us} {vs = vs} {args = tys} {es = es} t o _ _ _ d1 d2) =
        primary_at_types_on_arguments text n P ts us vs tys es t o (size_types text n P d1) (size_arguments d2)
    size_primary (in_round {ts = ts} {us = us} {e = e} o c _ d1 _) =
        primary_in_round text n P ts us e o c (size_expr d1)
    size_primary (in_block {ts = ts} {us = us} {e = e} d1) = primary_in_block text n P ts us e (size_block d1)

    pub size_arguments : {ts us : List Token} {e : Trees} → IsArguments text ts us e → Ok n P ts
        → Sized n P ts us (nodes_of e) 0 (AllOffsets P e × AllFewCases n e)
    size_arguments (no_arguments {us = us} o c _ _) = arguments_no_arguments text n P us o c
    size_arguments (arguments {ts = ts} {us = us} {es = es} o _ d1) =
        arguments_arguments text n P ts us es o (size_exprs d1)

    pub size_exprs : {ts us : List Token} {e : Trees} → IsExprs text ts us e → Ok n P ts
        → Sized n P ts us (nodes_of e) 0 (AllOffsets P e × AllFewCases n e)
    size_exprs (last_of_exprs {ts = ts} {us = us} {e = e} c d1 _) =
        exprs_last_of_exprs text n P ts us e c (size_expr d1)
    size_exprs (one_more_expr {ts = ts} {us = us} {vs = vs} {e = e} {es = es} c d1 _ d2) =
        exprs_one_more_expr text n P ts
        us vs e es c (size_expr d1) (size_exprs d2)
