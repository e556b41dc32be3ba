use Rattle.std.proofs.Common.{◌≡◌, drop}
use Rattle.pp_names.specs.Places.{has}
use Rattle.pp_sorts.specs.Words.{words_of}
use Rattle.pp_declared.proofs.well_formed.has_name.Given as goal

abbrev pub invariant-loop-other : goal.invariant-loop-other
invariant-loop-other l = has l.name (words_of l.names) ≡ has l.name (words_of (drop l.other-index l.names))
