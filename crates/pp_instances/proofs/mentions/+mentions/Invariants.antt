use Rattle.std.proofs.Common.{◌≡◌, ◌++◌, map, take}
use Rattle.pp_list.specs.Joined.{joined}
use Rattle.pp_instances.specs.Uses.{mentions, case_mentions}
use Rattle.pp_instances.proofs.mentions.+mentions.Given as goal

abbrev pub invariant-add_all-loop-e : goal.invariant-add_all-loop-e
invariant-add_all-loop-e l = l.found ≡ l.initial.found ++ joined (map mentions (take l.e-index l.es))

abbrev pub invariant-add_cases-loop-c : goal.invariant-add_cases-loop-c
invariant-add_cases-loop-c l = l.found ≡ l.initial.found ++ joined (map case_mentions (take l.c-index l.cases))
