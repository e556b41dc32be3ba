-- Behind what is spelled as a type or a pattern stand tokens that weigh no more than all of them.
use Rattle.std.proofs.Common.{arith, ℕ, ◌≤◌, List, Option}
use Rattle.pp_grammar.specs.Exprs.{IsSemicolon, no_semicolon, semicolon}
use Rattle.pp_grammar.specs.Patterns.{IsPattern, IsPatterns, IsPlain, anything, binding, constructor_alone}
use Rattle.pp_grammar.specs.Patterns.{constructor_of, constructor_of_none, false_pattern, last_pattern, named_pattern}
use Rattle.pp_grammar.specs.Patterns.{negated_pattern, number_pattern, one_more_pattern, pattern_in_round}
use Rattle.pp_grammar.specs.Patterns.{signed_pattern, true_pattern, unnamed}
use Rattle.pp_grammar.specs.Types.{IsAscription, IsBreak, IsBreaks, IsGap, IsSemis, IsType, IsTypes, ascribed}
use Rattle.pp_grammar.specs.Types.{last_type, more_newlines, no_newline, no_newlines, no_semi, no_type, one_more_type}
use Rattle.pp_grammar.specs.Types.{one_newline, one_semi, semis, type_name, type_of}
use Rattle.pp_ordinary.proofs.Weights.{weight}
use Rattle.pp_tokens.specs.declared.token.Token.{Token}
use Rattle.pp_tree.specs.Plain.{PatternTree, PatternTrees, TypeTree, TypeTrees, Word}

module _ (text : Word) (mass : ℕ → ℕ) where
  pub le_gap : {ts us : List Token} → IsGap ts us → weight mass us ≤ weight mass ts
  le_gap no_semi = omega arith
  le_gap (one_semi t e1 d2) = omega (arith, le_gap d2)

  pub le_semis : {ts us : List Token} → IsSemis ts us → weight mass us ≤ weight mass ts
  le_semis (semis t e1 d2) = omega (arith, le_gap d2)

  pub le_break : {ts us : List Token} → IsBreak ts us → weight mass us ≤ weight mass ts
  le_break no_newline = omega arith
  le_break (one_newline t e1) = omega arith

  pub le_breaks : {ts us : List Token} → IsBreaks ts us → weight mass us ≤ weight mass ts
  le_breaks no_newlines = omega arith
  le_breaks (more_newlines t e1 d2) = omega (arith, le_breaks d2)

  mutual
    pub le_type : {ts us : List Token} {a : TypeTree} → IsType text ts us a → weight mass us ≤ weight mass ts
    le_type (type_name t e1) = omega arith
    le_type (type_of t o e1 e2 d3) = omega (arith, le_types d3)

    pub le_types : {ts us : List Token} {args : TypeTrees} → IsTypes text ts us args → weight mass us ≤ weight mass ts
    le_types (last_type c d1 e2) = omega (arith, le_type d1)
    le_types (one_more_type c d1 e2 d3) = omega (arith, le_type d1, le_types d3)

  pub le_ascription : {ts us : List Token} {a : Option TypeTree} → IsAscription text ts us a
      → weight mass us ≤ weight mass ts
  le_ascription no_type = omega arith
  le_ascription (ascribed c e1 d2) = omega (arith, le_type d2)

  mutual
    pub le_pattern : {ts us : List Token} {p : PatternTree} → IsPattern text ts us p → weight mass us ≤ weight mass ts
    le_pattern (unnamed d1) = omega (arith, le_plain d1)
    le_pattern (named_pattern n a e1 e2 d3 _) = omega (arith, le_plain d3)

    pub le_plain : {ts us : List Token} {p : PatternTree} → IsPlain text ts us p → weight mass us ≤ weight mass ts
    le_plain (anything t e1) = omega arith
    le_plain (binding t e1 _) = omega arith
    le_plain (constructor_alone t e1 _) = omega arith
    le_plain (number_pattern t e1) = omega arith
    le_plain (signed_pattern m t e1 _ e3) = omega arith
    le_plain (negated_pattern m t e1 _ e3) = omega arith
    le_plain (true_pattern t e1) = omega arith
    le_plain (false_pattern t e1) = omega arith
    le_plain (pattern_in_round o c e1 d2 e3) = omega (arith, le_pattern d2)
    le_plain (constructor_of_none t o c e1 e2 e3) = omega arith
    le_plain (constructor_of t o e1 e2 d3) = omega (arith, le_patterns d3)

    pub le_patterns : {ts us : List Token} {ps : PatternTrees} → IsPatterns text ts us ps
        → weight mass us ≤ weight mass ts
    le_patterns (last_pattern c d1 e2) = omega (arith, le_pattern d1)
    le_patterns (one_more_pattern c d1 e2 d3) = omega (arith, le_pattern d1, le_patterns d3)

  pub le_semicolon : {ts us : List Token} → IsSemicolon ts us → weight mass us ≤ weight mass ts
  le_semicolon no_semicolon = omega arith
  le_semicolon (semicolon t e1) = omega arith
