use Rattle.pp_bounded_samples.proofs.Symbols.{trees_of_sort}
use Rattle.pp_bounded_cases.proofs.trying.ask_both.Goals as goal

pub ask_all-requires-clause-symbols : goal.ask_all-requires-clause-symbols
ask_all-requires-clause-symbols c = trees_of_sort _ _ _ _ c.requires.pair.left.node c.requires.pair.right.node
