use Rattle.std.proofs.Common.{Bool, subst}
use Rattle.pp_store.specs.Pairs.{IsSame, IsSplit}
use Rattle.pp_store.proofs.Pairs.{pending_held, pending_split}
use Rattle.pp_store.proofs.store.Store.same.Goals as goal

pub split-requires-in-Some-clause-left : goal.split-requires-in-Some-clause-left
split-requires-in-Some-clause-left c =
    (pending_held c.args.self.now (IsSame c.args.self.now (record { left = c.args.a; right = c.args.b }))
    c.loop-pair.pending c.pop.new.self c.in-Some.pair c.loop-pair.invariant c.in-Some.ensures).0

pub split-requires-in-Some-clause-right : goal.split-requires-in-Some-clause-right
split-requires-in-Some-clause-right c =
    (pending_held c.args.self.now (IsSame c.args.self.now (record { left = c.args.a; right = c.args.b }))
    c.loop-pair.pending c.pop.new.self c.in-Some.pair c.loop-pair.invariant c.in-Some.ensures).1

pub loop-pair-preserved : goal.loop-pair-preserved
loop-pair-preserved c =
    pending_split c.args.self.now (IsSame c.args.self.now (record { left = c.args.a; right = c.args.b }))
    c.loop-pair.pending c.pop.new.self c.in-Some.pair c.loop-pair.invariant c.in-Some.ensures
    c.split-in-Some.new.pending
    (subst (λ (b : Bool). IsSplit c.args.self.now c.in-Some.pair c.pop.new.self c.split-in-Some.new.pending b)
    c.if-not-branch-2.false c.in_ok-split-2.ensures)
