use Rattle.std.proofs.Common.{refl, sym, ◌∙◌, ◌≡◌, inl, inr, subst, ◌-◌}
use Rattle.std.proofs.lemmas.List.{get_or_default}
use Rattle.pp_watch.specs.declared.head.Head.{Head}
use Rattle.pp_watch.specs.declared.watcher.Watcher.{Watcher}
use Rattle.pp_watch.specs.Lists.{watchers_of}
use Rattle.pp_watch.specs.Watching.{head_at}
use Rattle.pp_watch.specs.Looking.{Watches}
use Rattle.pp_watch.proofs.Looked.{IsDropped, drop_watcher, code_from_watcher, entry_at, head_is}
use Rattle.pp_watch.proofs.state.State.look_at_head.Goals as goal

-- the state without the watcher, whose clause watches other literals
dropped : (c : goal.After-remove) → IsDropped c.args.self.now c.args.lit c.args.place
    (record {
      trail = c.args.self.now.trail;
      heads = c.args.self.now.heads;
      lists = c.remove.new.self;
      levels =
          c.args.self.now.levels;
      visited = c.args.self.now.visited;
    })
dropped c =
    let w = c.remove.result in
    let same : c.remove.result ≡ c.args.watcher = c.remove.ensures.value
    ∙ get_or_default (watchers_of c.args.self.now.lists c.args.lit) c.args.place c.remove.result
    c.args.watcher c.requires.place ∙ sym c.requires.watcher in
    let entry = entry_at c.args.self.now c.args.lit c.args.place c.args.watcher c.requires.sound
    c.requires.place c.requires.watcher in
    let head = head_is c.args.self.now c.args.lit c.args.watcher c.index-head.result.now entry c.index-head.ensures in
    let far : Watches c.index-head.result.now c.args.lit → ⊥ = λ z. elim z [
      | inl e ↦ c.if-index.false (c.index.ensures ∙ e ∙ sym c.index-2.ensures)
      | inr e ↦ c.if-index-2.false (c.index-else-index.ensures ∙ e ∙ sym c.index-else-index-2.ensures)
    ] in
    drop_watcher c.args.self.now _ c.args.lit c.args.place c.remove.result c.requires.sound c.requires.looked
    c.requires.place
    (code_from_watcher c.args.self.now.lists c.args.lit c.args.place c.requires.place) c.remove.ensures.value
    (λ z. far (subst (λ (h : Head). Watches h c.args.lit) head
    (subst (λ (x : Watcher). Watches (head_at c.args.self.now.heads.items (x.number - 1)) c.args.lit) same z)))
    refl refl refl refl c.remove.ensures.lists

pub returns-else-index-2-clause-advances : goal.returns-else-index-2-clause-advances
returns-else-index-2-clause-advances c = (dropped c).advances

pub returns-else-index-2-clause-looked : goal.returns-else-index-2-clause-looked
returns-else-index-2-clause-looked c = (dropped c).looked

pub returns-else-index-2-clause-within : goal.returns-else-index-2-clause-within
returns-else-index-2-clause-within c = (dropped c).within
