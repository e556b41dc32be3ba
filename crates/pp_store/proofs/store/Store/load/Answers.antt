use Rattle.std.proofs.Common.{ap, refl}
use Rattle.pp_prog.specs.declared.value.Value.TheViews.{out-Value}
use Rattle.pp_store.specs.Work.{step_of}
use Rattle.pp_store.proofs.Loading.{loaded, loaded_less, loaded_next}
use Rattle.pp_store.proofs.store.Store.load.Goals as goal

pub loop-next-smaller-in-Continue-branch-2 : goal.loop-next-smaller-in-Continue-branch-2
loop-next-smaller-in-Continue-branch-2 c =
    loaded_less c.loop-next.pending c.pop.new.self c.in-Some.next c.in-Some.ensures c.in-Load.value.now
    (out-Value c.in-Load.value.now) c.load_next.new.pending c.loop-next.helds c.load_next.new.helds
    (ap step_of c.in-Load.is) refl c.in_ok-load_next-in-Load.ensures

pub loop-next-preserved-in-Continue-branch-2 : goal.loop-next-preserved-in-Continue-branch-2
loop-next-preserved-in-Continue-branch-2 c =
    loaded_next c.loop-next.pending c.pop.new.self c.in-Some.next c.in-Some.ensures c.args.self.now c.loop-next.self
    c.args.value.now c.loop-next.helds c.loop-next.invariant c.in-Load.value.now (out-Value c.in-Load.value.now)
    c.load_next.new.pending c.load_next.new.helds (ap step_of c.in-Load.is) refl c.in_ok-load_next-in-Load.ensures

pub returns-clause-loaded : goal.returns-clause-loaded
returns-clause-loaded c =
    loaded c.args.self.now c.loop-next.self c.args.value.now c.loop-next.pending c.loop-next.helds c.pop-2.new.self
    c.in-Some-pop.held c.loop-next.invariant c.in_default.ensures.0 c.in-Some-pop.ensures
