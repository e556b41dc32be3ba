use Rattle.pp_store.specs.Values.{value_of}
use Rattle.pp_store.proofs.Tasks.{built, built_less, unloaded_less, unloaded_next}
use Rattle.pp_store.proofs.store.Store.unload.Goals as goal

pub loop-task-smaller-in-Continue-branch-2 : goal.loop-task-smaller-in-Continue-branch-2
loop-task-smaller-in-Continue-branch-2 c =
    unloaded_less c.args.self.now c.loop-task.tasks c.pop.new.self c.in-Some.task c.in-Some.ensures c.in-Unload.held
    c.unload_next.new.tasks c.loop-task.values c.unload_next.new.values c.in-Unload.is
    c.in_ok-unload_next-in-Unload.ensures

pub loop-task-smaller : goal.loop-task-smaller
loop-task-smaller c =
    built_less c.args.self.now c.loop-task.tasks c.pop.new.self c.in-Some.task c.in-Some.ensures c.in-Build.ctor
    c.in-Build.count c.in-Build.is

pub loop-task-preserved-in-Continue-branch-2 : goal.loop-task-preserved-in-Continue-branch-2
loop-task-preserved-in-Continue-branch-2 c =
    unloaded_next c.args.self.now c.loop-task.tasks c.pop.new.self c.in-Some.task c.in-Some.ensures
    (value_of c.args.self.now c.args.held) c.loop-task.values c.loop-task.invariant c.in-Unload.held
    c.unload_next.new.tasks c.unload_next.new.values c.in-Unload.is c.in_ok-unload_next-in-Unload.ensures

pub loop-task-preserved : goal.loop-task-preserved
loop-task-preserved c =
    built c.args.self.now c.loop-task.tasks c.pop.new.self c.in-Some.task c.in-Some.ensures
    (value_of c.args.self.now c.args.held) c.loop-task.values c.loop-task.invariant c.in-Build.ctor c.in-Build.count
    c.build.new.values c.in-Build.is c.in_ok-build-in-Build.ensures
