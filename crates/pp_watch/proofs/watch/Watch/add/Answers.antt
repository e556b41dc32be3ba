use Rattle.std.proofs.Common.{◌∷◌, []}
use Rattle.pp_watch.proofs.Watched.{watching_append}
use Rattle.pp_watch.proofs.Guarded.{visited_append}
use Rattle.pp_watch.proofs.watch.Watch.add.Goals as goal

pub invariant_of-self : goal.invariant_of-self
invariant_of-self c = rw c.in_err-number.ensures.err c.self.invariant

pub invariant_of-self-2 : goal.invariant_of-self-2
invariant_of-self-2 c =
    let s = c.self.inside.state in
    let w = c.self.invariant.watching in
    rw c.in_ok-number.ensures.ok (record {
      watching = watching_append s.trail.clauses (c.args.clause ∷ []) s.trail.vars s.heads.items s.lists w;
      visited = visited_append s.trail.clauses
          (c.args.clause ∷ []) s.heads.items s.trail.steps s.visited s.levels.items w.few c.self.invariant.visited;
    })
