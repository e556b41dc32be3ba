use Rattle.std.proofs.Common.{◌≡◌, take}
use Rattle.pp_translation.specs.Numbered.{unguarded_at}
use Rattle.pp_translate.proofs.exprs.unguarded.Given as goal

abbrev pub invariant-loop-c : goal.invariant-loop-c
invariant-loop-c l = l.patterns ≡ unguarded_at l.typed l.target.numbers.roots l.sort (take l.c-index l.cases)
