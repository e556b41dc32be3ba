use Rattle.std.proofs.Common.{ap, ◌∙◌, get_or, List}
use Rattle.pp_watch.specs.declared.watcher.Watcher.{Watcher}
use Rattle.pp_trail.specs.Marks.{code}
use Rattle.pp_watch.proofs.Rows.{removed_row, old_row}
use Rattle.pp_watch.proofs.lists.Lists.remove.Goals as goal

pub returns-clause-value : goal.returns-clause-value
returns-clause-value c = c.swap_remove.ensures.value
    ∙ ap (λ (ws : List Watcher). get_or ws c.args.place c.swap_remove.result)
    (old_row c.self.inside.items.items c.args.self.now c.index.result (code c.args.lit) c.index_mut.result.now
    c.self.view_is c.index.ensures c.requires.within c.index_mut.ensures.value)

pub returns-clause-lists : goal.returns-clause-lists
returns-clause-lists c = removed_row c.self.inside.items.items c.args.self.now c.index.result
    (code c.args.lit) c.index_mut.result.now
    c.swap_remove.new.self c.args.place c.swap_remove.result c.self.view_is c.index.ensures c.requires.within
    c.index_mut.ensures.value c.swap_remove.ensures.items
