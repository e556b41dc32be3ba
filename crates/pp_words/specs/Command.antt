-- The command, in the words of `clap`: options with one value each, and FILEs. Source: own; the crate `clap`.
use Rattle.std.specs.Prelude.{Bool, ◌||◌, false, if◌then◌else◌, bytes_eq, codes, List, [], ◌∷◌, Some, true}
use Rattle.clap.specs.Words.{App, Kinds, Row, Rule, Text, fault_of, matches_of, new_app, new_rule, with_rule}
use Rattle.clap.specs.declared.builder.action.ArgAction.TheVariants as action

-- an option that takes one value, as the next word or after `=`, and stands once at most
abbrev pub option_rule : Text → Rule
option_rule name = record (new_rule name) { long = Some name; action = Some action.Set }

-- the FILEs, anywhere among the options
abbrev pub file_rule : Rule
file_rule = record (new_rule (codes "file")) { action = Some action.Append }

-- a command whose words don't include the program's name, without flags for help and version
abbrev pub bare : App → App
bare app = record app {
  top = record app.top
      { no_binary_name = true; disable_help_flag = true; disable_version_flag = true };
}

abbrev pub with_limits : App → App
with_limits app = with_rule (with_rule (with_rule (with_rule app
    (option_rule (codes "rounds"))) (option_rule (codes "depth"))) (option_rule (codes "lemmas")))
    (option_rule (codes "gates"))

abbrev pub with_run : App → App
with_run app = with_rule (with_rule app (option_rule (codes "function"))) (option_rule (codes "fuel"))

unfoldable pub command : App
command =
    with_rule (with_rule (with_run (with_rule (with_limits
    (with_rule (bare (new_app (codes "pureproof"))) (option_rule (codes "mode"))))
    (option_rule (codes "order")))) (option_rule (codes "seed"))) file_rule

-- a word `-` stands before `--`
abbrev pub has_lone_hyphen : List Text → Bool
has_lone_hyphen [] = false
has_lone_hyphen (word ∷ words) =
    if bytes_eq word (codes "--") then false else (bytes_eq word (codes "-") || has_lone_hyphen words)

-- what is wrong with the words by the rules of the command
unfoldable pub faults_in : List Text → Kinds
faults_in words = fault_of command words

-- the values that the command reads in the words
unfoldable pub values_in : List Text → List Row
values_in words = matches_of command words
