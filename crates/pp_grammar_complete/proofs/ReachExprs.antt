-- The automaton reads each expression that is spelled: the induction.
use Rattle.pp_grammar.specs.Exprs.{IsArguments, IsCase, IsCases, IsExpr, IsExprs, IsGuard, IsInfix, IsMatched, IsPrefix}
use Rattle.pp_grammar.specs.Exprs.{IsPrimary, IsRest, IsSimple, IsStats, arguments, assert_stat, at_types}
use Rattle.pp_grammar.specs.Exprs.{at_types_on_arguments, block, bound, case_of, false_word, guard, if_else, in_block}
use Rattle.pp_grammar.specs.Exprs.{in_round, infix_expr, last_case, last_expr, last_of_exprs, looser, match_of, matched}
use Rattle.pp_grammar.specs.Exprs.{name_alone, negative, no_arguments, no_guard, no_prefix, number, on_arguments}
use Rattle.pp_grammar.specs.Exprs.{one_more_case, one_more_expr, operand, operator, prefixed, rest, simple, true_word}
use Rattle.pp_grammar.specs.Exprs.{val_stat}
use Rattle.pp_grammar.specs.Frames.{Parsed, want}
use Rattle.pp_grammar.specs.Words.{tightest}
use Rattle.pp_grammar_complete.proofs.ExprParts.{ReachesArguments, ReachesCase, ReachesCases, ReachesExpr, ReachesExprs}
use Rattle.pp_grammar_complete.proofs.ExprParts.{ReachesGuard, ReachesInfix, ReachesMatched, ReachesRest, ReachesSimple}
use Rattle.pp_grammar_complete.proofs.ExprParts.{ReachesStats, application_reached, arguments_reached, block_reached}
use Rattle.pp_grammar_complete.proofs.ExprParts.{bound_reached, case_reached, cases_of_last, cases_of_more, expr_of_if}
use Rattle.pp_grammar_complete.proofs.ExprParts.{expr_of_infix, expr_of_matched, generic_application_reached}
use Rattle.pp_grammar_complete.proofs.ExprParts.{guard_ends, infix_of_negative, infix_of_operator, infix_of_prefix}
use Rattle.pp_grammar_complete.proofs.ExprParts.{infix_of_simple, infix_of_tighter, last_argument_reached, matched_of}
use Rattle.pp_grammar_complete.proofs.ExprParts.{name_reached, no_arguments_reached, number_reached}
use Rattle.pp_grammar_complete.proofs.ExprParts.{one_more_argument_reached, rest_reached, round_reached}
use Rattle.pp_grammar_complete.proofs.ExprParts.{simple_with_fields, stats_of_assert, stats_of_expr, stats_of_val}
use Rattle.pp_grammar_complete.proofs.ExprParts.{types_reached, with_guard, without_guard}
use Rattle.pp_grammar_complete.proofs.Starts.{expr_starts, exprs_start, simple_starts}
use Rattle.pp_grammar_complete.proofs.StatSteps.{cases_head}
use Rattle.pp_grammar_complete.proofs.Steps.{goes_on, take_step}
use Rattle.pp_tokens.specs.declared.token.Token.{Token}
use Rattle.pp_tree.specs.Plain.{CaseTrees, PatternTree, Tree, Trees, Word}
use Rattle.std.proofs.Common.{Bool, List, Option, ap, ℕ}

module _ (text : Word) (d : Parsed) (b : Bool) where
  -- ---- the induction

  mutual
    pub reaches_expr : {ts us : List Token} {e : Tree} → IsExpr text ts us e → ReachesExpr text d b ts us e
    reaches_expr (infix_expr r) = expr_of_infix text d b (reaches_infix r)
    reaches_expr (matched r) = expr_of_matched text d b (reaches_matched r)
    reaches_expr (if_else i o c e is is_o r1 is_c br r2 sc is_e r3) =
        expr_of_if text d b i o c e is is_o (reaches_expr r1) is_c br (expr_starts text r2) (reaches_expr r2) sc
        is_e (reaches_expr r3)

    pub reaches_matched : {ts us : List Token} {e : Tree} → IsMatched text ts us e → ReachesMatched text d b ts us e
    reaches_matched (match_of m o r is is_o cs) =
        matched_of text d b m o (reaches_infix r) is is_o (cases_head text d b cs) (reaches_cases cs)

    reaches_cases : {ts us : List Token} {cs : CaseTrees} → IsCases text ts us cs → ReachesCases text d b ts us cs
    reaches_cases (last_case c r is) = cases_of_last text d b c (reaches_case r) is
    reaches_cases (one_more_case r cs) = cases_of_more text d b (reaches_case r) (cases_head text d b cs)
        (reaches_cases cs)

    reaches_case : {ts us : List Token} {p : PatternTree} {g : Option Tree} {e : Tree} → IsCase text ts us p g e
        → ReachesCase text d b ts us p g e
    reaches_case (case_of c a is r1 r2 is_a r3) =
        case_reached text d b c a r1 (guard_ends text d b r2 (ap goes_on is_a)) (reaches_guard r2) is_a
        (reaches_rest r3)

    reaches_guard : {us vs : List Token} {g : Option Tree} → IsGuard text us vs g → ReachesGuard text d b us vs g
    reaches_guard {us = us} no_guard = without_guard text d b us
    reaches_guard (guard i is r) = with_guard text d b i is (reaches_infix r)

    pub reaches_rest : {ts us : List Token} {e : Tree} → IsRest text ts us e → ReachesRest text d b ts us e
    reaches_rest (rest g r h) = rest_reached text d b g (reaches_stats r) h

    pub reaches_stats : {ts us : List Token} {e : Tree} → IsStats text ts us e → ReachesStats text d b ts us e
    reaches_stats (last_expr r) = stats_of_expr text d b (expr_starts text r) (reaches_expr r)
    reaches_stats (val_stat v n q is is_n asc is_q r1 sm r2) =
        stats_of_val text d b v n q is is_n asc is_q (reaches_expr r1) sm (reaches_stats r2)
    reaches_stats (assert_stat a o c is r is_o r1 is_c sm r2) =
        stats_of_assert text d b a o c is r is_o (reaches_expr r1) is_c sm (reaches_stats r2)

    pub reaches_infix : {l : ℕ} {ts us : List Token} {e : Tree} → IsInfix text l ts us e
        → ReachesInfix text d b l ts us e
    reaches_infix (looser r) = infix_of_tighter text d b (reaches_infix r)
    reaches_infix (operand r) = reaches_prefix r
    reaches_infix (operator t o op r1 is is_op r2) =
        infix_of_operator text d b t o op (reaches_infix r1) is is_op (reaches_infix r2)

    reaches_prefix : {ts us : List Token} {e : Tree} → IsPrefix text ts us e → ReachesInfix text d b tightest ts us e
    reaches_prefix (no_prefix r) = infix_of_simple text d b (reaches_simple r)
    reaches_prefix (prefixed t o op is is_op sign r) =
        infix_of_prefix text d b t o op is is_op sign (simple_starts text r) (reaches_simple r)
    reaches_prefix (negative m t is sign is_n r) = infix_of_negative text d b m t is sign is_n r

    pub reaches_simple : {ts us : List Token} {e : Tree} → IsSimple text ts us e → ReachesSimple text d b ts us e
    reaches_simple (simple r g) = simple_with_fields text d b (reaches_primary r) g

    reaches_primary : {ts us : List Token} {e : Tree} → IsPrimary text ts us e → ReachesSimple text d b ts us e
    reaches_primary (number t is) = number_reached text d b t is
    reaches_primary {us = us} (true_word t is) = record { reach = λ s f. take_step text d b t us s want _ is }
    reaches_primary {us = us} (false_word t is) = record { reach = λ s f. take_step text d b t us s want _ is }
    reaches_primary (bound i dot t is r is_d is_t e) = bound_reached text d b i dot t is r is_d is_t e
    reaches_primary (name_alone t is r) = name_reached text d b t is r
    reaches_primary (at_types t o is r is_o rs) = types_reached text d b t o is r is_o rs
    reaches_primary (on_arguments t is r es) = application_reached text d b t is r (reaches_arguments es)
    reaches_primary (at_types_on_arguments t o is r is_o rs es) =
        generic_application_reached text d b t o is r is_o rs (reaches_arguments es)
    reaches_primary (in_round o c is r is_c) = round_reached text d b o c is (reaches_expr r) is_c
    reaches_primary (in_block (block o c is r is_c)) = block_reached text d b o c is (reaches_rest r) is_c

    reaches_arguments : {ts us : List Token} {es : Trees} → IsArguments text ts us es
        → ReachesArguments text d b ts us es
    reaches_arguments (no_arguments o c is is_c) = no_arguments_reached text d b o c is is_c
    reaches_arguments (arguments o is rs) = arguments_reached text d b o is (exprs_start text rs) (reaches_exprs rs)

    reaches_exprs : {ts us : List Token} {es : Trees} → IsExprs text ts us es → ReachesExprs text d b ts us es
    reaches_exprs (last_of_exprs c r is) = last_argument_reached text d b c (reaches_expr r) is
    reaches_exprs (one_more_expr c r is rs) = one_more_argument_reached text d b c (reaches_expr r) is
        (reaches_exprs rs)
