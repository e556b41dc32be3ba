use Rattle.std.proofs.Common.{ap, ◌∙◌, ◌-◌, ◌≡◌, List, ℕ, length}
use Rattle.std.specs.Prelude.{slice_get}
use Rattle.std.proofs.lemmas.List.{length-take-le}
use Rattle.pp_trail.specs.Trail.{Trail}
use Rattle.pp_watch.proofs.Guarded.{visited_undo, last_is}
use Rattle.pp_watch.proofs.state.State.undo.Goals as goal

pub returns-in-Some-clause-sound : goal.returns-in-Some-clause-sound
returns-in-Some-clause-sound c =
    let kept : length c.steps-kept.result.now ≡ c.args.len = ap length c.steps-kept.ensures.value
    ∙ ap (λ (t : Trail). length t.steps) c.undo.ensures
    ∙ length-take-le c.args.len c.args.self.now.trail.steps c.requires.within in
    let at = last_is c.cut.new.levels.items c.in-Some.level.now
    (c.in-Some.ensures.value ∙ ap (λ (xs : List ℕ). slice_get xs (length xs - 1)) c.deref.ensures.value) in
    rw c.undo.ensures (record {
      watching = c.requires.sound.watching;
      visited = visited_undo c.args.self.now.trail.clauses c.args.self.now.heads.items c.args.self.now.trail.steps
          c.args.self.now.visited c.args.self.now.levels.items c.args.len c.cut.new.levels.items c.in-Some.level.now
          c.requires.sound.visited c.requires.within (rw kept at c.cut.ensures) at.0 at.1;
    })
