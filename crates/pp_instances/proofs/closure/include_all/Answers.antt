use Rattle.std.proofs.Common.{◌+◌, ◌∷◌, [], take, map, Contains, subst, sym}
use Rattle.pp_instances.specs.Growth.{Gains}
use Rattle.pp_instances.specs.Uses.{at_args}
use Rattle.pp_instances.proofs.Grown.{gains_then, bursts_then, why_not, in_mapped, mapped_one}
use Rattle.pp_instances.proofs.closure.include_all.Goals as goal

pub returns-in-Err-clause-gains : goal.returns-in-Err-clause-gains
returns-in-Err-clause-gains c =
    let i = c.loop-i.i in
    let f = at_args c.args.args.now in
    let mentions = c.args.mentions.now in
    let one = mapped_one f mentions i c.index-mentions-i.result c.in_ok-member.member c.loop-i-test.true
    c.index-mentions-i.is c.in_ok-member.ensures in
    why_not
    (λ b. bursts_then 512 c.args.members.now (map f (take i mentions)) c.loop-i.members (c.in_ok-member.member ∷ [])
    (map f mentions) c.loop-i.invariant.gains b
    (λ n h. in_mapped f mentions (i + 1) n (subst (λ l. Contains l n) (sym one) h)))
    c.in-Err.e c.in-Err.ensures.gains

pub loop-i-preserved : goal.loop-i-preserved
loop-i-preserved c =
    let i = c.loop-i.i in
    let f = at_args c.args.args.now in
    let mentions = c.args.mentions.now in
    let one = mapped_one f mentions i c.index-mentions-i.result c.in_ok-member.member c.loop-i-test.true
    c.index-mentions-i.is c.in_ok-member.ensures in
    record {
      gains = subst (λ l. Gains c.args.members.now l c.include.new.members) (sym one)
          (gains_then c.args.members.now (map f (take i mentions)) c.loop-i.members (c.in_ok-member.member ∷ [])
          c.include.new.members c.loop-i.invariant.gains c.in-Ok.ensures.gains);
      few = c.in-Ok.ensures.few;
    }
