use Rattle.pp_instances.specs.Same.{fed_sort}
use Rattle.pp_instances.proofs.Fed.{fed_more}
use Rattle.pp_instances.proofs.member.MemberHash.hash.Goals as goal

pub loop-sort-preserved : goal.loop-sort-preserved
loop-sort-preserved g c =
    fed_more g.H.Hasher.write fed_sort c.hash_into.new.state c.as_slice-sort-items.result.now c.loop-sort.sort-index
    c.sort-item.result c.loop-sort-test.true c.sort-item.is c.loop-sort.invariant c.hash_sort.ensures
