use Rattle.std.proofs.Common.{take, arith}
use Rattle.pp_names.specs.Find.{owners_of}
use Rattle.pp_names.specs.Places.{lists_of}
use Rattle.pp_names.proofs.Owners.{owner_within, owner_turn}
use Rattle.pp_names.proofs.by_root.ctors_by_root.Goals as goal

pub push_at-requires : goal.push_at-requires
push_at-requires c =
    (owner_within c.args.ctors.now (lists_of c.loop-i.lists) c.args.roots c.loop-i.i (take c.loop-i.i
    (owners_of c.args.ctors.now)) c.index-ctors-i.result
    (omega (arith, c.loop-i-test.true, c.requires.count)) c.requires.within c.loop-i.invariant).1

pub loop-i-preserved : goal.loop-i-preserved
loop-i-preserved c =
    owner_turn c.args.ctors.now (lists_of c.loop-i.lists) (lists_of c.push_at.new.lists) c.args.roots c.loop-i.i
    c.index-ctors-i.result
    (omega (arith, c.loop-i-test.true, c.requires.count)) c.requires.within c.loop-i.invariant c.in_ok-push_at.ensures
