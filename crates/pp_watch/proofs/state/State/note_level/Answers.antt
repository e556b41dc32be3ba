use Rattle.std.proofs.Common.{◌∙◌, ◌≡◌, sym, ap, length}
use Rattle.pp_watch.proofs.Guarded.{visited_cut, level_more}
use Rattle.pp_watch.proofs.Closed.{closed_from_visited}
use Rattle.pp_watch.proofs.state.State.note_level.Goals as goal

pub returns-clause-sound : goal.returns-clause-sound
returns-clause-sound c =
    let len : c.args.self.now.visited ≡ length c.steps-len.result.now = c.requires.visited ∙ sym
    (ap length c.steps-len.ensures.value) in
    record {
      watching = c.requires.sound.watching;
      visited = rw (c.in_ok-push.ensures.items, ← len)
          (level_more c.args.self.now.trail.clauses c.args.self.now.heads.items c.args.self.now.trail.steps
          c.args.self.now.visited c.cut.new.levels.items
          (visited_cut c.args.self.now.trail.clauses c.args.self.now.heads.items c.args.self.now.trail.steps
          c.args.self.now.visited c.args.self.now.levels.items
          (length c.steps-len.result.now) c.cut.new.levels.items c.requires.sound.visited c.cut.ensures)
          c.requires.visited);
    }

pub returns-clause-closed : goal.returns-clause-closed
returns-clause-closed c = closed_from_visited _ _ _ _ c.args.self.now.trail.steps c.args.self.now.visited _
    c.steps-len.ensures.trail c.requires.sound.watching c.requires.sound.visited c.requires.heads c.requires.visited
