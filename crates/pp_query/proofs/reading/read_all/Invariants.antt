use Rattle.std.proofs.Common.{take}
use Rattle.pp_clause.specs.Assignment.{assigned}
use Rattle.pp_domain.specs.Naming.{Naming}
use Rattle.pp_domain.specs.Symbols.{SymbolsStand}
use Rattle.pp_bounded_trees.specs.Meaning.{bounded_sense}
use Rattle.pp_query.proofs.reading.read_all.Given as goal

abbrev pub invariant-loop-symbol : goal.invariant-loop-symbol
invariant-loop-symbol l =
    (n : Naming) → SymbolsStand bounded_sense l.domain (assigned l.assignment) n (take l.symbol-index l.symbols)
    l.values
