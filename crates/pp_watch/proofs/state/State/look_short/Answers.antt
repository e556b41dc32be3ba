use Rattle.std.proofs.Common.{sym, ◌∙◌}
use Rattle.pp_watch.proofs.Looked.{entry_at, looked_true, numbered_watcher}
use Rattle.pp_watch.proofs.state.State.look_short.Goals as goal

pub returns-then-is_true-clause-looked : goal.returns-then-is_true-clause-looked
returns-then-is_true-clause-looked c =
    let entry = entry_at c.args.self.now c.args.lit c.args.place c.args.watcher c.requires.sound c.requires.place
    c.requires.watcher in
    looked_true c.args.self.now c.args.lit c.args.place c.args.watcher c.requires.looked c.requires.place
    c.requires.watcher
    (record {
      literal = c.args.watcher.third;
      held = (entry.short c.requires.short).held;
      itself = sym c.is_true.ensures ∙ c.if-is_true.true;
    })

pub force-requires-clause-clause : goal.force-requires-clause-clause
force-requires-clause-clause c = numbered_watcher c.args.self.now c.args.lit c.args.place c.args.watcher
    c.requires.sound c.requires.place c.requires.watcher c.clauses-clauses.ensures.up_to

pub force-requires-then-is_false-2-clause-clause : goal.force-requires-then-is_false-2-clause-clause
force-requires-then-is_false-2-clause-clause c = numbered_watcher c.args.self.now c.args.lit c.args.place
    c.args.watcher c.requires.sound c.requires.place c.requires.watcher c.clauses-clauses.ensures.up_to
