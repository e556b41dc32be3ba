use Rattle.std.proofs.Common.{refl}
use Rattle.pp_watch.proofs.Looked.{IsDropped, write_blocker, code_from_watcher}
use Rattle.pp_watch.proofs.state.State.block.Goals as goal

pub set-requires-clause-within : goal.set-requires-clause-within
set-requires-clause-within c =
    code_from_watcher c.args.self.now.lists c.args.lit c.args.place c.requires.beside.within

-- the state with the new blocker
written : (c : goal.After-set) → IsDropped c.args.self.now c.args.lit c.args.place (record {
  trail = c.args.self.now.trail;
  heads = c.args.self.now.heads;
  lists = c.set.new.self;
  levels = c.args.self.now.levels;
  visited = c.args.self.now.visited;
})
written c = write_blocker c.args.self.now _ c.args.lit c.args.place c.args.number c.args.other c.args.blocker
    c.requires.sound c.requires.looked c.requires.beside c.requires.held c.requires.itself refl refl refl refl
    c.set.ensures

pub returns-clause-advances : goal.returns-clause-advances
returns-clause-advances c = (written c).advances

pub returns-clause-looked : goal.returns-clause-looked
returns-clause-looked c = (written c).looked

pub returns-clause-within : goal.returns-clause-within
returns-clause-within c = (written c).within
