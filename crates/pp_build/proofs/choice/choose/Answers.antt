use Rattle.pp_build.proofs.Performing.{leaves_by, room_for}
use Rattle.pp_build.proofs.TruthSteps.{choice_count, choice_of, choice_performed, choice_sorts}
use Rattle.pp_build.proofs.WordSteps.{choice_keeps_domain}
use Rattle.pp_build.proofs.choice.choose.Goals as goal

pub choose-requires-clause-choice : goal.choose-requires-clause-choice
choose-requires-clause-choice g c =
    choice_of _ _ g.met.D.Domain.lawful _ _ _ c.requires.fits _ _ _ _ c.literal-choice.ensures c.requires.can

pub choose-requires-clause-symbols : goal.choose-requires-clause-symbols
choose-requires-clause-symbols g c =
    choice_sorts _ _ g.met.D.Domain.lawful _ _ _ c.requires.fits _ _ _ _ _ c.register-left.ensures
    c.register-right.ensures c.requires.can

pub choose-requires-clause-room : goal.choose-requires-clause-room
choose-requires-clause-room g c =
    room_for _ _ _ _ _ _ _ (choice_count _ _ g.met.D.Domain.lawful _ _ _ c.requires.fits _ _ _ _ _
    c.register-left.ensures c.register-right.ensures) c.requires.can

pub returns-in_err-chosen-clause-moves : goal.returns-in_err-chosen-clause-moves
returns-in_err-chosen-clause-moves g c =
    leaves_by _ _ _ _ _ _ _ _ _ (choice_count _ _ g.met.D.Domain.lawful _ _ _ c.requires.fits _ _ _ _
    _ c.register-left.ensures c.register-right.ensures) c.choose.ensures.moves

pub returns-clause-moves : goal.returns-clause-moves
returns-clause-moves g c =
    leaves_by _ _ _ _ _ _ _ _ _ (choice_count _ _ g.met.D.Domain.lawful _ _ _ c.requires.fits _ _ _ _
    _ c.register-left.ensures c.register-right.ensures) c.choose.ensures.moves

pub returns-clause-performs : goal.returns-clause-performs
returns-clause-performs g c =
    choice_performed _ _ g.met.D.Domain.lawful _ _ _ c.requires.fits _ _ _ c.choose.ensures.moves
    c.choose.ensures.looks _ _ _ _ _ _ _
    c.literal-choice.ensures c.register-left.ensures c.register-right.ensures c.in_ok-chosen.ensures.answer

pub returns-in_err-chosen-clause-words : goal.returns-in_err-chosen-clause-words
returns-in_err-chosen-clause-words g c =
    choice_keeps_domain _ _ _ _ _ _ _ _ _ _ c.register-left.ensures c.choose.ensures.words

pub returns-clause-words : goal.returns-clause-words
returns-clause-words g c =
    choice_keeps_domain _ _ _ _ _ _ _ _ _ _ c.register-left.ensures c.choose.ensures.words
