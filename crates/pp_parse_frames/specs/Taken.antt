-- What lies on the stack once parts on top of it are taken together. Source: own.
use Rattle.std.specs.Prelude.{ℕ, List, ◌∷◌, None, Some}
use Rattle.pp_tree.specs.Plain.{Word, no_types, no_trees, no_patterns, apply, type_text, ctor_pattern}
use Rattle.pp_tree.specs.Plain.{PostTree}
use Rattle.pp_grammar.specs.Frames as plain
use Rattle.pp_grammar.specs.Joining.{types_onto, trees_onto, patterns_onto, with_measure, with_requirement, with_word}
use Rattle.pp_grammar.specs.Joining.{with_list, with_param, with_type_param}
use Rattle.pp_parse_state.specs.Parts.{top_contracts, top_expr_list, top_given_type, top_guard, top_head}
use Rattle.pp_parse_state.specs.Parts.{top_pattern_list, top_type_list}
use Rattle.pp_parse_state.specs.Shown.{Shown, expr_on, frames_of, name_on, pattern_on, type_on, with_contracts}
use Rattle.pp_parse_state.specs.Shown.{with_expr, with_expr_list, with_head, with_pattern, with_pattern_list, with_post}
use Rattle.pp_parse_state.specs.Shown.{with_type, with_type_list, without_contracts, without_expr, without_expr_list}
use Rattle.pp_parse_state.specs.Shown.{without_given_type, without_guard, without_head, without_name, without_pattern}
use Rattle.pp_parse_state.specs.Shown.{without_pattern_list, without_type, without_type_list}

-- ---- lists: the part on top has joined the list

abbrev pub expr_listed : Shown → Shown
expr_listed s = with_expr_list (expr_on s ∷ top_expr_list s.parts) (without_expr_list (without_expr s))

abbrev pub type_listed : Shown → Shown
type_listed s = with_type_list (type_on s ∷ top_type_list s.parts) (without_type_list (without_type s))

abbrev pub pattern_listed : Shown → Shown
pattern_listed s =
    with_pattern_list (pattern_on s ∷ top_pattern_list s.parts) (without_pattern_list (without_pattern s))

-- ---- a name and a list became one

-- the written type
abbrev pub type_whole : ℕ → Shown → Shown
type_whole at s =
    with_type (type_text at (name_on s) (types_onto (top_type_list s.parts) no_types))
    (without_type_list (without_name s))

-- the constructor's pattern
abbrev pub pattern_whole : ℕ → Shown → Shown
pattern_whole at s =
    with_pattern (ctor_pattern at None (name_on s) (patterns_onto (top_pattern_list s.parts) no_patterns))
    (without_pattern_list (without_name s))

-- the call, with its arguments
abbrev pub applied : ℕ → Shown → Shown
applied at s =
    with_expr (apply at (name_on s) (types_onto (top_type_list s.parts) no_types)
    (trees_onto (top_expr_list s.parts) no_trees))
    (without_expr_list (without_type_list (without_name s)))

-- the call without arguments
abbrev pub applied_alone : ℕ → Shown → Shown
applied_alone at s =
    with_expr (apply at (name_on s) (types_onto (top_type_list s.parts) no_types) no_trees)
    (without_type_list (without_name s))

-- ---- cases

-- the case whose pattern, guard and body are on top, and the frames under it
abbrev pub case_on : Shown → plain.CaseText
case_on s = record { pattern = pattern_on s; guard = top_guard s.parts; body = expr_on s }

abbrev pub under_case : Shown → List plain.Frame
under_case s = frames_of (without_pattern (without_guard (without_expr s)))

-- ---- heads

-- the head on top has one type parameter more
abbrev pub type_param_added : Word → Shown → Shown
type_param_added w s = with_head (with_type_param (top_head s.parts) w) (without_head s)

-- .. one parameter more, of the name and the type on top
abbrev pub param_added : ℕ → Shown → Shown
param_added at s =
    with_head (with_param (top_head s.parts) at (name_on s) (type_on s)) (without_head (without_name (without_type s)))

-- .. a list of parameters
abbrev pub params_ended : Shown → Shown
params_ended s = with_head (with_list (top_head s.parts)) (without_head s)

-- ---- contracts and claims

-- the contracts on top have one requirement more, the expression on top
abbrev pub requirement_added : Shown → Shown
requirement_added s =
    with_contracts (with_requirement (top_contracts s.parts) (expr_on s)) (without_contracts (without_expr s))

-- .. the measure of the expressions on top
abbrev pub measure_added : ℕ → Shown → Shown
measure_added at s =
    with_contracts (with_measure (top_contracts s.parts) at (top_expr_list s.parts))
    (without_contracts (without_expr_list s))

-- .. this word as their first, where they had none
abbrev pub word_added : Word → ℕ → Shown → Shown
word_added w at s = with_contracts (with_word (top_contracts s.parts) w at) (without_contracts s)

-- the postcondition whose name, type and claim are on top
abbrev pub post_on : ℕ → Shown → PostTree
post_on at s = record { at = at; name = name_on s; of = top_given_type s.parts; claim = expr_on s }

-- what lies below these three
abbrev pub without_claim : Shown → Shown
without_claim s = without_name (without_given_type (without_expr s))

-- they become a postcondition
abbrev pub claimed : ℕ → Shown → Shown
claimed at s = with_post (Some (post_on at s)) (without_claim s)

-- the frames under a claim
abbrev pub under_claim : Shown → List plain.Frame
under_claim s = frames_of (without_claim s)
