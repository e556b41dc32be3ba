use Rattle.std.proofs.Common.{◌≡◌, true, List, refl, sym, subst}
use Rattle.pp_clause.specs.Literal.{Literal}
use Rattle.pp_clause.specs.Clause.{has}
use Rattle.pp_watch.specs.Watching.{IsShort}
use Rattle.pp_watch.proofs.States.{code_of_clause, clause_of_number}
use Rattle.pp_watch.proofs.Attached.{sound_watch, long_after}
use Rattle.pp_watch.proofs.state.State.watch.Goals as goal

pub push-requires : goal.push-requires
push-requires c = code_of_clause _ _ _ _ _ c.args.head.now.first _ _ c.requires.clause c.requires.next
    c.requires.can.first_held c.requires.sound.watching

pub push-requires-2 : goal.push-requires-2
push-requires-2 c = long_after _ _ c.args.head.now.first c.args.head.now.second _ c.in_ok-push.ensures.ok
    (code_of_clause _ _ _ _ _ c.args.head.now.second _ _ c.requires.clause c.requires.next
    c.requires.can.second_held c.requires.sound.watching)

pub third-requires : goal.third-requires
third-requires c = subst (λ (z : List Literal). has z c.args.head.now.second ≡ true)
    (clause_of_number _ _ _ _ _ c.lits_of-clause.ensures c.requires.next) c.requires.can.second_held

pub third-requires-2 : goal.third-requires-2
third-requires-2 c = subst (λ (z : List Literal). has z c.args.head.now.first ≡ true)
    (clause_of_number _ _ _ _ _ c.lits_of-clause.ensures c.requires.next) c.requires.can.first_held

pub returns-clause-sound : goal.returns-clause-sound
returns-clause-sound c =
    let same = sym (clause_of_number _ _ _ _ _ c.lits_of-clause.ensures c.requires.next) in
    sound_watch c.args.self.now _ c.args.head.now c.args.number c.third.result c.third-2.result c.push.new.self
    c.requires.sound c.requires.can c.requires.next
    (λ ne. subst (λ (z : List Literal). IsShort z c.args.head.now.first c.args.head.now.second c.third.result) same
    (c.third.ensures ne))
    (λ ne. subst (λ (z : List Literal). IsShort z c.args.head.now.second c.args.head.now.first c.third-2.result) same
    (c.third-2.ensures ne))
    (code_of_clause _ _ _ _ _ c.args.head.now.first _ _ c.requires.clause c.requires.next
    c.requires.can.first_held c.requires.sound.watching)
    (code_of_clause _ _ _ _ _ c.args.head.now.second _ _ c.requires.clause c.requires.next
    c.requires.can.second_held c.requires.sound.watching)
    refl refl refl c.in_ok-push-3.ensures.items c.in_ok-push.ensures.ok c.in_ok-push-2.ensures.ok
