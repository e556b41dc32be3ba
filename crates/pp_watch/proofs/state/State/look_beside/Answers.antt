use Rattle.std.proofs.Common.{sym, ◌∙◌}
use Rattle.pp_watch.proofs.States.{clause_at_number}
use Rattle.pp_watch.proofs.Looked.{beside_true, beside_single, beside_held, beside_near}
use Rattle.pp_watch.proofs.state.State.look_beside.Goals as goal

pub returns-then-index-clause-looked : goal.returns-then-index-clause-looked
returns-then-index-clause-looked c =
    beside_true c.args.self.now c.args.lit c.args.place c.args.number c.args.other c.requires.looked c.requires.beside
    (beside_single c.args.self.now c.args.lit c.args.place c.args.number c.args.other c.requires.sound
    c.requires.beside (sym c.index.ensures ∙ c.if-index.true ∙ c.index-2.ensures))

pub block-requires-clause-held : goal.block-requires-clause-held
block-requires-clause-held c =
    beside_held c.args.self.now c.args.lit c.args.place c.args.number c.args.other c.requires.sound c.requires.beside

pub rewatch-requires-clause-clause : goal.rewatch-requires-clause-clause
rewatch-requires-clause-clause c = clause_at_number _ _ _ _ c.lits_of.ensures

pub force-requires-clause-near : goal.force-requires-clause-near
force-requires-clause-near c =
    beside_near c.args.self.now c.args.lit c.args.place c.args.number c.args.other c.requires.sound c.requires.beside

pub force-requires-clause-clause : goal.force-requires-clause-clause
force-requires-clause-clause c = clause_at_number _ _ _ _ c.lits_of.ensures
