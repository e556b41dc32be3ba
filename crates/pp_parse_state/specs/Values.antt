-- The values that the parser's words, heads, contracts and lists stand for. Source: own.
use Rattle.std.specs.Prelude.{List, [], ◌∷◌, map, option_map}
use Rattle.pp_tree.specs.declared.expr.Case.{Case}
use Rattle.pp_tree.specs.declared.expr.ExprKind.TheViews.{out-Case}
use Rattle.pp_tree.specs.Shown.{tree_of, pattern_of, param_of}
use Rattle.pp_grammar.specs.Frames as plain
use Rattle.pp_parse_state.specs.declared.frame.Around.{Around}
use Rattle.pp_parse_state.specs.declared.frame.Around.TheVariants.{Parentheses, Braces as CurlyBraces}
use Rattle.pp_parse_state.specs.declared.frame.Contracts.{Contracts}
use Rattle.pp_parse_state.specs.declared.frame.Head.{Head}
use Rattle.pp_parse_state.specs.declared.frame.Kind.{Kind}
use Rattle.pp_parse_state.specs.declared.frame.Kind.TheVariants.{Class, Def}
use Rattle.pp_parse_state.specs.declared.frame.Placed.{Placed}

-- what the items of a list stand for, the last first, before others
abbrev pub stacked : {A B : Type 0} → (A → B) → List A → List B → List B
stacked f [] ys = ys
stacked f (x ∷ xs) ys = stacked f xs (f x ∷ ys)

abbrev pub placed_of : Placed → plain.Placed
placed_of p = record { word = p.word.now; at = p.at }

abbrev pub kind_of : Kind → plain.Kind
kind_of (Class sealed case is_trait) = plain.of_class sealed case is_trait
kind_of Def = plain.of_def

abbrev pub head_of : Head → plain.Head
head_of h = record {
  at = h.at;
  name = h.name.now;
  type_params = stacked (λ p. p.now) h.type_params.items [];
  listed = h.listed;
  params = stacked (λ p. param_of p.now.tree) h.params.items [];
}

abbrev pub contracts_of : Contracts → plain.Contracts
contracts_of c = record {
  requirements = stacked (λ e. tree_of e.now.tree) c.requirements.items [];
  measure = map (λ e. tree_of e.now.tree) c.measure.items;
  first = option_map placed_of c.first;
  late = c.late;
}

abbrev pub around_of : Around → plain.Around
around_of Parentheses = plain.in_parentheses
around_of CurlyBraces = plain.in_braces

abbrev pub case_text : Case → plain.CaseText
case_text c = record {
  pattern = pattern_of (out-Case c).pattern;
  guard = option_map tree_of (out-Case c).guard;
  body = tree_of (out-Case c).body;
}
