use Rattle.std.proofs.Common.{take}
use Rattle.pp_domain.specs.Symbols.{AreSymbols}
use Rattle.pp_named_trees.specs.Meaning.{named_sense}
use Rattle.pp_bounded_cases.proofs.calls.fields_for.Given as goal

abbrev pub invariant-loop-place : goal.invariant-loop-place
invariant-loop-place l = record { sorted : AreSymbols named_sense l.trees l.circuit (take l.place l.sorts) l.fields }
