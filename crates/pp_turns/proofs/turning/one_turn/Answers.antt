use Rattle.std.proofs.Common.{ℕ, ◌<◌, length, sym, subst}
use Rattle.std.proofs.lemmas.Result.{on_ok_weaker}
use Rattle.pp_gate.proofs.Places.{at_read}
use Rattle.pp_sound.proofs.Owners.{owner_within}
use Rattle.pp_turns.proofs.OneTurn.{shared_after}
use Rattle.pp_turns.proofs.turning.one_turn.Goals as goal

pub index_mut-own-requires : goal.index_mut-own-requires
index_mut-own-requires c =
    let i = c.args.progress.function.0 in
    subst (λ (n : ℕ). i < n) (sym c.args.shared.now.ok.0)
    (subst (λ (n : ℕ). i < n) (sym c.requires.size)
    (owner_within c.args.program.now i c.args.progress.check.0 c.requires.come.own))

pub step-requires-clause-shared : goal.step-requires-clause-shared
step-requires-clause-shared c =
    let i = c.args.progress.function.0 in
    let within : i < length c.args.shared.now.items =
    subst (λ (n : ℕ). i < n) (sym c.requires.size)
    (owner_within c.args.program.now i c.args.progress.check.0 c.requires.come.own) in
    c.requires.shared i c.index_mut-own.result.now
    (at_read c.args.shared.now.items i c.index_mut-own.result.now within c.index_mut-own.ensures.value)

pub returns-clause-shared : goal.returns-clause-shared
returns-clause-shared c =
    on_ok_weaker c.step.result
    (λ own. shared_after c.args.program.now c.args.limits c.args.shared.now.items c.args.progress.function.0
    c.step.new.shared c.requires.shared own)
    c.step.ensures.shared
