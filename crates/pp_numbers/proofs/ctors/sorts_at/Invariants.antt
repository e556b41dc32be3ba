use Rattle.std.proofs.Common.{◌≡◌, take, map}
use Rattle.pp_translation.specs.Numbers.{sort_at}
use Rattle.pp_numbers.proofs.ctors.sorts_at.Given as goal

abbrev pub invariant-loop-sort : goal.invariant-loop-sort
invariant-loop-sort l = l.done ≡ map (sort_at l.numbers.roots l.args) (take l.sort-index l.sorts)
