-- Lists that are read in part: what stands before the next item, with the last item first.
use Rattle.std.proofs.Common.{◌≡◌, List, [], ◌∷◌, true, Option}
use Rattle.pp_tokens.specs.declared.token.Token.{Token}
use Rattle.pp_tokens.specs.declared.token.TokenKind.TheVariants.{Name, Op, Mark, Newline}
use Rattle.pp_tokens.specs.declared.token.Operator.TheVariants.{Colon}
use Rattle.pp_tokens.specs.declared.token.Bracket.TheVariants.{Comma}
use Rattle.pp_tree.specs.Plain.{Word, TypeTree, TypeTrees, PatternTree, PatternTrees, Tree, Trees, CaseTrees, ParamTree}
use Rattle.pp_grammar.specs.Words.{word, is_semi, role, plain}
use Rattle.pp_grammar.specs.Types.{IsGap, no_semi, one_semi, IsSemis, semis, IsBreaks, no_newlines, more_newlines}
use Rattle.pp_grammar.specs.Types.{IsType, IsTypes, one_more_type}
use Rattle.pp_grammar.specs.Patterns.{IsPattern, IsPatterns, one_more_pattern}
use Rattle.pp_grammar.specs.Exprs.{IsExpr, IsExprs, one_more_expr, IsCase, IsCases, one_more_case, IsFields, no_field}
use Rattle.pp_grammar.specs.Exprs.{one_field}
use Rattle.pp_grammar.specs.Bodies.{IsMeasure, one_more_component}
use Rattle.pp_grammar.specs.Units.{IsNames, one_more_name, IsParams, one_more_param, param_at}
use Rattle.pp_grammar.specs.Frames.{CaseText}
use Rattle.pp_grammar.specs.Joining.{onto, trees_onto, types_onto, patterns_onto, cases_onto}
use Rattle.pp_tree.specs.Plain.{field}
use Rattle.pp_tokens.specs.declared.token.Bracket.TheVariants.{Dot}

-- one more semi at the end
pub gap_goes_on : {ts us : List Token} (t : Token) → is_semi t.kind ≡ true → IsGap ts (t ∷ us) → IsGap ts us
gap_goes_on t is no_semi = one_semi t is no_semi
gap_goes_on t is (one_semi u is_u g) = one_semi u is_u (gap_goes_on t is g)

pub semis_go_on : {ts us : List Token} (t : Token) → is_semi t.kind ≡ true → IsSemis ts (t ∷ us) → IsSemis ts us
semis_go_on t is (semis u is_u g) = semis u is_u (gap_goes_on t is g)

pub breaks_go_on : {ts us : List Token} (t : Token) → t.kind ≡ Newline → IsBreaks ts (t ∷ us) → IsBreaks ts us
breaks_go_on t is no_newlines = more_newlines t is no_newlines
breaks_go_on t is (more_newlines u is_u g) = more_newlines u is_u (breaks_go_on t is g)

module _ (text : Word) where
  -- one more field at the end
  pub fields_go_on : {us vs : List Token} {e d : Tree} (dot t : Token) → IsFields text us (dot ∷ t ∷ vs) e d
      → dot.kind ≡ Mark Dot → t.kind ≡ Name → role (word text t) ≡ plain
      → IsFields text us vs e (field t.from d (word text t))
  fields_go_on dot t no_field is_dot is_name is_plain = one_field dot t is_dot is_name is_plain no_field
  fields_go_on dot t (one_field a b is_a is_b plain_b f) is_dot is_name is_plain =
      one_field a b is_a is_b plain_b (fields_go_on dot t f is_dot is_name is_plain)

  -- expressions before a comma
  pub data Front : List Token → List Token → List Tree → Type 0 where
    front_none : {ts : List Token} → Front ts ts []
    front_more : {ts us vs : List Token} {e : Tree} {ds : List Tree} (c : Token) → Front ts us ds
        → IsExpr text us (c ∷ vs) e → c.kind ≡ Mark Comma → Front ts vs (e ∷ ds)

  pub exprs_behind : {ts us vs : List Token} {ds : List Tree} {es : Trees} → Front ts us ds → IsExprs text us vs es
      → IsExprs text ts vs (trees_onto ds es)
  exprs_behind front_none r = r
  exprs_behind (front_more c f e is) r = exprs_behind f (one_more_expr c e is r)

  pub measure_behind : {ts us vs : List Token} {ds es : List Tree} → Front ts us ds → IsMeasure text us vs es
      → IsMeasure text ts vs (onto ds es)
  measure_behind front_none r = r
  measure_behind (front_more c f e is) r = measure_behind f (one_more_component c e is r)

  -- types before a comma
  pub data FrontTypes : List Token → List Token → List TypeTree → Type 0 where
    types_none : {ts : List Token} → FrontTypes ts ts []
    types_more : {ts us vs : List Token} {a : TypeTree} {ds : List TypeTree} (c : Token) → FrontTypes ts us ds
        → IsType text us (c ∷ vs) a → c.kind ≡ Mark Comma → FrontTypes ts vs (a ∷ ds)

  pub types_behind : {ts us vs : List Token} {ds : List TypeTree} {es : TypeTrees} → FrontTypes ts us ds
      → IsTypes text us vs es → IsTypes text ts vs (types_onto ds es)
  types_behind types_none r = r
  types_behind (types_more c f e is) r = types_behind f (one_more_type c e is r)

  -- patterns before a comma
  pub data FrontPatterns : List Token → List Token → List PatternTree → Type 0 where
    patterns_none : {ts : List Token} → FrontPatterns ts ts []
    patterns_more : {ts us vs : List Token} {p : PatternTree} {ds : List PatternTree} (c : Token)
        → FrontPatterns ts us ds → IsPattern text us (c ∷ vs) p → c.kind ≡ Mark Comma → FrontPatterns ts vs (p ∷ ds)

  pub patterns_behind : {ts us vs : List Token} {ds : List PatternTree} {es : PatternTrees} → FrontPatterns ts us ds
      → IsPatterns text us vs es → IsPatterns text ts vs (patterns_onto ds es)
  patterns_behind patterns_none r = r
  patterns_behind (patterns_more c f e is) r = patterns_behind f (one_more_pattern c e is r)

  -- cases before another one
  pub data FrontCases : List Token → List Token → List CaseText → Type 0 where
    cases_none : {ts : List Token} → FrontCases ts ts []
    cases_more : {ts us vs : List Token} {p : PatternTree} {g : Option Tree} {b : Tree} {ds : List CaseText}
        → FrontCases ts us ds → IsCase text us vs p g b
        → FrontCases ts vs (record { pattern = p; guard = g; body = b } ∷ ds)

  pub cases_behind : {ts us vs : List Token} {ds : List CaseText} {cs : CaseTrees} → FrontCases ts us ds
      → IsCases text us vs cs → IsCases text ts vs (cases_onto ds cs)
  cases_behind cases_none r = r
  cases_behind (cases_more f c) r = cases_behind f (one_more_case c r)

  -- names before a comma
  pub data FrontNames : List Token → List Token → List Word → Type 0 where
    names_none : {ts : List Token} → FrontNames ts ts []
    names_more : {ts us : List Token} {ns : List Word} (n c : Token) → FrontNames ts (n ∷ c ∷ us) ns → n.kind ≡ Name
        → c.kind ≡ Mark Comma → FrontNames ts us (word text n ∷ ns)

  pub names_behind : {ts us vs : List Token} {ds es : List Word} → FrontNames ts us ds → IsNames text us vs es
      → IsNames text ts vs (onto ds es)
  names_behind names_none r = r
  names_behind (names_more n c f is_n is_c) r = names_behind f (one_more_name n c is_n is_c r)

  -- parameters before a comma
  pub data FrontParams : List Token → List Token → List ParamTree → Type 0 where
    params_none : {ts : List Token} → FrontParams ts ts []
    params_more : {ts us vs : List Token} {a : TypeTree} {ds : List ParamTree} (n c e : Token)
        → FrontParams ts (n ∷ c ∷ us) ds → n.kind ≡ Name → c.kind ≡ Op Colon → IsType text us (e ∷ vs) a
        → e.kind ≡ Mark Comma → FrontParams ts vs (param_at text n a ∷ ds)

  pub params_behind : {ts us vs : List Token} {ds es : List ParamTree} → FrontParams ts us ds → IsParams text us vs es
      → IsParams text ts vs (onto ds es)
  params_behind params_none r = r
  params_behind (params_more n c e f is_n is_c a is_e) r =
      params_behind f (one_more_param n c e is_n is_c a is_e r)
