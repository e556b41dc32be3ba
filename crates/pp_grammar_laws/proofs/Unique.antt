-- What soundness and completeness of the automaton say of the grammar.
use Rattle.pp_grammar.specs.Automaton.{run, start}
use Rattle.pp_grammar.specs.Frames.{Fault, done, failed}
use Rattle.pp_grammar.specs.Units.{SpellsUnit}
use Rattle.pp_grammar_complete.proofs.Complete.{complete}
use Rattle.pp_grammar_laws.specs.Laws.{SpellsNone}
use Rattle.pp_tokens.specs.declared.token.Token.{Token}
use Rattle.pp_tree.specs.Plain.{UnitTree, Word}
use Rattle.std.proofs.Common.{List, sym, ◌∙◌, ◌≡◌}

-- the automaton's answer is the one unit that the tokens spell
pub unique : (text : Word) (ts : List Token) (u v : UnitTree) → SpellsUnit text ts u → SpellsUnit text ts v → u ≡ v
unique text ts u v first second =
    let a = complete text ts u first in let b = complete text ts v second in
    let same : done u ≡ done v = sym a ∙ b in cc

-- where it answers a fault, they spell none
pub failed_spells_none : (text : Word) (ts : List Token) (f : Fault) → run text ts start ≡ failed f
    → SpellsNone text ts
failed_spells_none text ts f is u spelled = let e : failed f ≡ done u = sym is ∙ complete text ts u spelled in cc
