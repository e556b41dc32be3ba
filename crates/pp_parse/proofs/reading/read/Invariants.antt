use Rattle.std.proofs.Common.{◌≡◌, drop}
use Rattle.pp_grammar.specs.Automaton.{run, start}
use Rattle.pp_parse_state.specs.Shown.{shown}
use Rattle.pp_parse_items.specs.Shown.{parsed_of, state_of}
use Rattle.pp_parse.proofs.reading.read.Given as goal

abbrev pub invariant-loop-t : goal.invariant-loop-t
invariant-loop-t l = run l.text (drop l.t-index l.tokens) (state_of (parsed_of l.parsed) (shown l.stack) l.place)
    ≡ run l.text l.tokens start
