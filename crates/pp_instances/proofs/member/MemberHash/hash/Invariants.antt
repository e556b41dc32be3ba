use Rattle.std.proofs.Common.{◌≡◌, take, map}
use Rattle.std.specs.Prelude.{fold}
use Rattle.pp_list.specs.Joined.{joined}
use Rattle.pp_instances.specs.Same.{fed_sort}
use Rattle.pp_instances.proofs.member.MemberHash.hash.Given as goal

abbrev pub invariant-loop-sort : goal.invariant-loop-sort
invariant-loop-sort g l =
    l.state ≡ fold g.H.Hasher.write l.initial.state (joined (map fed_sort (take l.sort-index l.sort-items)))
