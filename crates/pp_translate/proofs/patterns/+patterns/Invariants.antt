use Rattle.std.proofs.Common.{◌≡◌, take, map}
use Rattle.pp_translation.specs.Patterns.{each_at, pattern_at}
use Rattle.pp_translate.proofs.patterns.+patterns.Given as goal

abbrev pub invariant-each_at-loop-i : goal.invariant-each_at-loop-i
invariant-each_at-loop-i l = l.done ≡ each_at (map (pattern_at l.typed l.numbers.roots) (take l.i l.patterns)) l.sorts
