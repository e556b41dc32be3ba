use Rattle.std.proofs.Common.{arith}
use Rattle.pp_instances.specs.Same.{fed_sort}
use Rattle.pp_instances.proofs.Fed.{fed_more, root_fed}
use Rattle.pp_instances.proofs.member.+hash_sort.Goals as goal

pub loop-part-preserved : goal.loop-part-preserved
loop-part-preserved g t c =
    fed_more g.H.Hasher.write fed_sort c.write_u32-in-Root.new.self c.as_slice-part-items.result.now
    c.loop-part.part-index c.part-item.result c.loop-part-test.true c.part-item.is c.loop-part.invariant
    c.hash_sort.ensures

pub returns-after-loop-part : goal.returns-after-loop-part
returns-after-loop-part g t c =
    root_fed g.H.Hasher.write c.args.state.now c.args.sort.now c.in-Root.r c.in-Root.parts
    c.as_slice-part-items.result.now c.loop-part.part-index c.in-Root.is c.as_slice-part-items.ensures
    c.write_u8-in-Root.ensures c.write_u32-in-Root.ensures c.loop-part.invariant
    (omega (arith, c.loop-part-test.false))
