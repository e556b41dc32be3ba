use Rattle.std.proofs.Common.{ap}
use Rattle.pp_store.specs.Values.{value_of}
use Rattle.pp_store.proofs.Differing.{one_kind}
use Rattle.pp_store.proofs.Nodes.{tree_at}
use Rattle.pp_store.proofs.Pairs.{split_leaf}
use Rattle.pp_store.proofs.store.Store.split.Goals as goal
use Rattle.pp_store.proofs.store.Store.split.Goals.{in_default-via-in-Tree+in_default, in_default-via-in_default}

pub returns-in_default : goal.returns-in_default
returns-in_default c =
    split_leaf c.args.self.now c.args.pair c.args.pending.now c.is.result
    (λ yes. ap (value_of c.args.self.now) (c.is.ensures.0 yes))
    (λ same. c.is.ensures.1 (one_kind c.args.self.now
    (λ k lt. tree_at c.self.inside.fields.items c.self.inside.nodes.items c.args.self.now k c.self.invariant
    c.self.view_is lt)
    c.args.pair.left c.args.pair.right c.requires.left c.requires.right
    (λ j k l r. elim c.in_default.branch [
      | in_default-via-in-Tree+in_default w ↦ w.in_default.not-Tree-1 k r
      | in_default-via-in_default w ↦ w.in_default.not-Tree-0 j l
    ])
    same))
