-- An expression weighs no more than the tokens that spell it.
use Rattle.std.proofs.Common.{arith, ℕ, ◌+◌, ◌≤◌, List, ◌≡◌, Option, Some, None}
use Rattle.pp_grammar.specs.Exprs.{IsArguments, IsBlock, IsCase, IsCases, IsExpr, IsExprs, IsFields, IsGuard, IsInfix}
use Rattle.pp_grammar.specs.Exprs.{IsMatched, IsPrefix, IsPrimary, IsRest, IsSimple, IsStats, arguments, assert_stat}
use Rattle.pp_grammar.specs.Exprs.{at_types, at_types_on_arguments, block, bound, case_of, false_word, guard, if_else}
use Rattle.pp_grammar.specs.Exprs.{in_block, in_round, infix_expr, last_case, last_expr, last_of_exprs, looser}
use Rattle.pp_grammar.specs.Exprs.{match_of, matched, name_alone, negative, no_arguments, no_field, no_guard}
use Rattle.pp_grammar.specs.Exprs.{no_prefix, number, on_arguments, one_field, one_more_case, one_more_expr, operand}
use Rattle.pp_grammar.specs.Exprs.{operator, prefixed, rest, simple, true_word, val_stat}
use Rattle.pp_ordinary.proofs.WeighTypes.{le_ascription, le_breaks, le_gap, le_pattern, le_semicolon, le_semis}
use Rattle.pp_ordinary.proofs.WeighTypes.{le_types}
use Rattle.pp_ordinary.proofs.Weights.{weigh, weigh_all, weigh_cases, weigh_maybe, weight}
use Rattle.pp_tokens.specs.declared.token.Token.{Token}
use Rattle.pp_tree.specs.Plain.{CaseTrees, PatternTree, Tree, Trees, Word, no_cases}
use Rattle.pp_tree.specs.Shown.{case_before}

module _ (text : Word) (mass : ℕ → ℕ) where
  before_weight : (p : PatternTree) (g : Option Tree) (b : Tree) (cs : CaseTrees)
      → weigh_cases mass (case_before p g b cs) ≡ weigh_maybe mass g + weigh mass b + weigh_cases mass cs
  before_weight p None b cs = omega arith
  before_weight p (Some g) b cs = omega arith

  pub le_fields : {ts us : List Token} {e : Tree} {d : Tree} → IsFields text ts us e d
      → weigh mass d + weight mass us ≤ weigh mass e + weight mass ts
  le_fields no_field = omega arith
  le_fields (one_field dot t e1 e2 _ d4) = omega (arith, le_fields d4)

  mutual
    pub le_expr : {ts us : List Token} {e : Tree} → IsExpr text ts us e
        → weigh mass e + weight mass us ≤ weight mass ts
    le_expr (if_else i o c e e1 e2 d3 e4 d5 d6 d7 e8 d9) =
        omega (arith, le_expr d3, le_breaks text mass d5, le_expr d6, le_semicolon text mass d7, le_expr d9)
    le_expr (matched d1) = omega (arith, le_matched d1)
    le_expr (infix_expr d1) = omega (arith, le_infix d1)

    pub le_matched : {ts us : List Token} {e : Tree} → IsMatched text ts us e
        → weigh mass e + weight mass us ≤ weight mass ts
    le_matched (match_of m o d1 e2 e3 d4) = omega (arith, le_infix d1, le_cases d4)

    pub le_cases : {ts us : List Token} {cs : CaseTrees} → IsCases text ts us cs
        → weigh_cases mass cs + weight mass us ≤ weight mass ts
    le_cases (last_case {p = p} {g = g} {b = b} c d1 e2) = omega (arith, le_case d1, before_weight p g b no_cases)
    le_cases (one_more_case {p = p} {g = g} {b = b} {cs = cs} d1 d2) =
        omega (arith, le_case d1, le_cases d2, before_weight p g b cs)

    pub le_case : {ts us : List Token} {p : PatternTree} {g : Option Tree} {b : Tree} → IsCase text ts us p g b
        → weigh_maybe mass g + weigh mass b + weight mass us ≤ weight mass ts
    le_case (case_of c a e1 d2 d3 e4 d5) = omega (arith, le_pattern text mass d2, le_guard d3, le_rest d5)

    pub le_guard : {ts us : List Token} {g : Option Tree} → IsGuard text ts us g
        → weigh_maybe mass g + weight mass us ≤ weight mass ts
    le_guard no_guard = omega arith
    le_guard (guard i e1 d2) = omega (arith, le_infix d2)

    pub le_rest : {ts us : List Token} {e : Tree} → IsRest text ts us e
        → weigh mass e + weight mass us ≤ weight mass ts
    le_rest (rest d1 d2 d3) = omega (arith, le_gap text mass d1, le_stats d2, le_gap text mass d3)

    pub le_stats : {ts us : List Token} {e : Tree} → IsStats text ts us e
        → weigh mass e + weight mass us ≤ weight mass ts
    le_stats (last_expr d1) = omega (arith, le_expr d1)
    le_stats (val_stat v n q e1 e2 d3 e4 d5 d6 d7) =
        omega (arith, le_ascription text mass d3, le_expr d5, le_semis text mass d6, le_stats d7)
    le_stats (assert_stat a o c e1 _ e3 d4 e5 d6 d7) = omega (arith, le_expr d4, le_semis text mass d6, le_stats d7)

    pub le_block : {ts us : List Token} {e : Tree} → IsBlock text ts us e
        → weigh mass e + weight mass us ≤ weight mass ts
    le_block (block o c e1 d2 e3) = omega (arith, le_rest d2)

    pub le_infix : {ts us : List Token} {l : ℕ} {e : Tree} → IsInfix text l ts us e
        → weigh mass e + weight mass us ≤ weight mass ts
    le_infix (looser d1) = omega (arith, le_infix d1)
    le_infix (operand d1) = omega (arith, le_prefix d1)
    le_infix (operator t o op d1 e2 _ d4) = omega (arith, le_infix d1, le_infix d4)

    pub le_prefix : {ts us : List Token} {e : Tree} → IsPrefix text ts us e
        → weigh mass e + weight mass us ≤ weight mass ts
    le_prefix (no_prefix d1) = omega (arith, le_simple d1)
    le_prefix (prefixed t o op e1 _ _ d4) = omega (arith, le_simple d4)
    le_prefix (negative m t e1 _ e3 d4) = omega (arith, le_fields d4)

    pub le_simple : {ts us : List Token} {e : Tree} → IsSimple text ts us e
        → weigh mass e + weight mass us ≤ weight mass ts
    le_simple (simple d1 d2) = omega (arith, le_primary d1, le_fields d2)

    pub le_primary : {ts us : List Token} {e : Tree} → IsPrimary text ts us e
        → weigh mass e + weight mass us ≤ weight mass ts
    le_primary (number t e1) = omega arith
    le_primary (true_word t e1) = omega arith
    le_primary (false_word t e1) = omega arith
    le_primary (bound i dot t e1 _ e3 e4 _) = omega arith
    le_primary (name_alone t e1 _) = omega arith
    le_primary (at_types t o e1 _ e3 d4) = omega (arith, le_types text mass d4)
    le_primary (on_arguments t e1 _ d3) = omega (arith, le_arguments d3)
    le_primary (at_types_on_arguments t o e1 _ e3 d4 d5) = omega (arith, le_types text mass d4, le_arguments d5)
    le_primary (in_round o c e1 d2 e3) = omega (arith, le_expr d2)
    le_primary (in_block d1) = omega (arith, le_block d1)

    pub le_arguments : {ts us : List Token} {es : Trees} → IsArguments text ts us es
        → weigh_all mass es + weight mass us ≤ weight mass ts
    le_arguments (no_arguments o c e1 e2) = omega arith
    le_arguments (arguments o e1 d2) = omega (arith, le_exprs d2)

    pub le_exprs : {ts us : List Token} {es : Trees} → IsExprs text ts us es
        → weigh_all mass es + weight mass us ≤ weight mass ts
    le_exprs (last_of_exprs c d1 e2) = omega (arith, le_expr d1)
    le_exprs (one_more_expr c d1 e2 d3) = omega (arith, le_expr d1, le_exprs d3)
