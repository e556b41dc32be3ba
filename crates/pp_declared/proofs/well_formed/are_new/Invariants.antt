use Rattle.std.proofs.Common.{◌≡◌, [], take, drop}
use Rattle.pp_declared.specs.WellFormed.{are_new_after}
use Rattle.pp_sorts.specs.Words.{words_of}
use Rattle.pp_declared.proofs.well_formed.are_new.Given as goal

abbrev pub invariant-loop-i : goal.invariant-loop-i
invariant-loop-i l = are_new_after [] (words_of l.names)
    ≡ are_new_after (words_of (take l.i l.names)) (words_of (drop l.i l.names))
