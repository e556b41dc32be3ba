use Rattle.std.proofs.Common.{refl}
use Rattle.std.specs.Vec.{with_item}
use Rattle.pp_trail.specs.Marks.{code}
use Rattle.pp_watch.proofs.Rows.{written_row}
use Rattle.pp_watch.proofs.lists.Lists.set.Goals as goal

pub returns : goal.returns
returns c = written_row c.self.inside.items.items c.args.self.now c.index.result (code c.args.lit)
    c.index_mut.result.now (with_item c.index_mut.result.now c.args.place c.args.watcher) c.args.place c.args.watcher
    c.self.view_is c.index.ensures c.requires.within c.index_mut.ensures.value refl
