use Rattle.std.proofs.Common.{◌≡◌, []}
use Rattle.pp_names.specs.Places.{lists_of, grouped_from}
use Rattle.pp_names.proofs.by_root.empty_lists.Given as goal

abbrev pub invariant-loop : goal.invariant-loop
invariant-loop l = lists_of l.lists ≡ grouped_from 0 l.counter []
