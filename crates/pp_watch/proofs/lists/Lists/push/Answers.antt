use Rattle.pp_trail.specs.Marks.{code}
use Rattle.pp_watch.proofs.Rows.{pushed_row}
use Rattle.pp_watch.proofs.lists.Lists.push.Goals as goal

pub returns-clause-ok : goal.returns-clause-ok
returns-clause-ok c = pushed_row c.self.inside.items.items c.args.self.now c.index.result
    (code c.args.lit) c.index_mut.result.now
    c.push.new.self c.args.watcher c.self.view_is c.index.ensures c.requires c.index_mut.ensures.value
    c.in_ok-push.ensures.items
