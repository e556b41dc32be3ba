use Rattle.std.proofs.Common.{arith, sym}
use Rattle.pp_tokens.proofs.PartsOf.{taken, next_part}
use Rattle.pp_tokens.proofs.cutting.cut.Goals as goal

pub split_at-requires : goal.split_at-requires
split_at-requires c = (taken c.loop-rest.rest.now c.in-Takes.kind c.in-Takes.n (sym c.in-Takes.ensures)).within

pub loop-rest-smaller : goal.loop-rest-smaller
loop-rest-smaller c =
    let t = taken c.loop-rest.rest.now c.in-Takes.kind c.in-Takes.n (sym c.in-Takes.ensures) in
    omega (arith, t.some, t.within, c.split_at.ensures.back_len)

pub loop-rest-preserved : goal.loop-rest-preserved
loop-rest-preserved c =
    next_part c.args.cs.now c.loop-rest.rest.now c.loop-rest.at c.loop-rest.out.items c.loop-rest.invariant
    c.in-Takes.kind c.in-Takes.n c.width.result c.split_at.result.0.now c.split_at.result.1.now c.put.new.out.items
    (sym c.in-Takes.ensures) c.split_at.ensures.front c.split_at.ensures.back c.width.ensures
    c.in_ok-put-in-Takes.ensures
