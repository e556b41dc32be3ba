-- The roles that the parser's values stand for. Source: own.
use Rattle.pp_grammar.specs.Words as plain
use Rattle.pp_parse_state.specs.declared.words.Role.{Role}
use Rattle.pp_parse_state.specs.declared.words.Role.TheVariants.{Plain, Require, Decreases, Ensuring, Holds, Assert}
use Rattle.pp_parse_state.specs.declared.words.Role.TheVariants.{Int, Boolean}

abbrev pub role_of : Role → plain.Role
role_of Plain = plain.plain
role_of Require = plain.require_word
role_of Decreases = plain.decreases_word
role_of Ensuring = plain.ensuring_word
role_of Holds = plain.holds_word
role_of Assert = plain.assert_word
role_of Int = plain.int_word
role_of Boolean = plain.boolean_word
