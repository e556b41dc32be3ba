use Rattle.std.proofs.Common.{refl, sym, subst, arith, ◌-◌, List}
use Rattle.std.specs.Vec.{with_item}
use Rattle.pp_clause.specs.Literal.{Literal}
use Rattle.pp_watch.specs.Watching.{IsShort}
use Rattle.pp_watch.proofs.States.{code_of_clause}
use Rattle.pp_watch.proofs.Looked.{IsDropped, move_watcher, code_from_watcher}
use Rattle.pp_watch.proofs.state.State.rewatch.Goals as goal

pub push-requires : goal.push-requires
push-requires c =
    let low = c.requires.beside.low in
    code_of_clause _ _ c.args.number (c.args.number - 1) _ c.args.new.lit _ _ c.requires.clause
    (omega arith) c.requires.new.held c.requires.sound.watching

-- the state after the watcher has moved
moved : (c : goal.After-remove) → IsDropped c.args.self.now c.args.lit c.args.place (record {
  trail = c.args.self.now.trail;
  heads = with_item c.args.self.now.heads (c.args.number - 1)
      (record { first = c.args.new.lit; second = c.args.other; look = c.args.new.place });
  lists = c.remove.new.self;
  levels = c.args.self.now.levels;
  visited = c.args.self.now.visited;
})
moved c =
    let low = c.requires.beside.low in
    move_watcher c.args.self.now _ c.args.lit c.args.place c.args.number c.args.other c.args.new.lit
    c.third.result c.args.new.place c.push.new.self c.remove.result
    c.requires.sound c.requires.looked c.requires.beside c.requires.negated c.requires.apart c.requires.new
    (λ ne. subst (λ (z : List Literal). IsShort z c.args.new.lit c.args.other c.third.result)
    (sym c.lits_of.ensures.at) (c.third.ensures ne))
    (code_from_watcher c.args.self.now.lists c.args.lit c.args.place c.requires.beside.within)
    (code_of_clause _ _ c.args.number (c.args.number - 1) _ c.args.new.lit _ _ c.requires.clause
    (omega arith) c.requires.new.held c.requires.sound.watching)
    refl refl refl refl c.in_ok-push.ensures.ok c.remove.ensures.value c.remove.ensures.lists

pub returns-clause-advances : goal.returns-clause-advances
returns-clause-advances c = (moved c).advances

pub returns-clause-looked : goal.returns-clause-looked
returns-clause-looked c = (moved c).looked

pub returns-clause-within : goal.returns-clause-within
returns-clause-within c = (moved c).within
