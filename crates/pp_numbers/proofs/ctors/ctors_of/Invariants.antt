use Rattle.std.proofs.Common.{◌≡◌, take}
use Rattle.pp_translation.specs.Numbers.{ctors_from}
use Rattle.pp_numbers.proofs.ctors.ctors_of.Given as goal

abbrev pub invariant-loop-d : goal.invariant-loop-d
invariant-loop-d l = l.ctors ≡ ctors_from l.typed l.numbers.roots 0 (take l.d l.numbers.roots)
