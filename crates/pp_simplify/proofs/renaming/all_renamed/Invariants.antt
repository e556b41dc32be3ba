use Rattle.std.proofs.Common.{◌≡◌, map, take}
use Rattle.pp_simplify.specs.Names.{named}
use Rattle.pp_simplify.proofs.renaming.all_renamed.Given as goal

abbrev pub invariant-loop-number : goal.invariant-loop-number
invariant-loop-number l = l.renamed ≡ map (named l.names) (take l.number-index l.numbers)
