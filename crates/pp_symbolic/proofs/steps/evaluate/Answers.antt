use Rattle.std.proofs.Common.{◌≡◌, subst, sym}
use Rattle.pp_prog.specs.Sorts.{param_sorts}
use Rattle.pp_build.specs.Built.{CanBuild}
use Rattle.pp_symbolic.proofs.Evaluated.{can_build, evaluated_after, moves_after, opened_left, opened_moves}
use Rattle.pp_symbolic.proofs.Evaluated.{opened_room, rest_gates}
use Rattle.pp_symbolic.proofs.steps.evaluate.Goals as goal

pub build-requires-clause-can : goal.build-requires-clause-can
build-requires-clause-can g c =
    let m = g.D.Domain.sense in
    let types = c.args.table.now in
    let params = param_sorts c.args.params.now in
    let can = c.requires.can.1 in
    let same : c.in_ok-registers.registers ≡ c.in_ok-arguments.arguments = c.in_ok-registers.ensures in
    let most = rest_gates m types c.requires.exact c.args.domain.now c.args.circuit.now params c.args.depth
    c.args.steps.now c.args.asked _ can in (
      most,
      subst (λ qs. CanBuild m types c.open_all.new.domain c.open_all.new.circuit c.args.steps.now qs most) (sym same)
          (can_build m types c.requires.exact c.args.domain.now c.args.circuit.now params c.args.depth
          c.args.steps.now c.args.asked _ can _ _ _ c.in_ok-arguments.ensures.answer
          (opened_moves _ _ c.requires.exact _ _ params c.args.depth _ _ c.open_all.ensures.moves)),
    )

pub returns-in_err-build-clause-moves : goal.returns-in_err-build-clause-moves
returns-in_err-build-clause-moves g c =
    let same : c.in_ok-registers.registers ≡ c.in_ok-arguments.arguments = c.in_ok-registers.ensures in
    λ most can.
    moves_after g.D.Domain.sense c.args.table.now c.requires.exact c.args.domain.now c.args.circuit.now
    (param_sorts c.args.params.now) c.args.depth c.args.steps.now c.args.asked most can _ _ _
    c.in_ok-arguments.ensures.answer
    (opened_moves _ _ c.requires.exact _ _ (param_sorts c.args.params.now) c.args.depth _ _ c.open_all.ensures.moves)
    _ _ _ same c.build.ensures.moves

pub returns-clause-moves : goal.returns-clause-moves
returns-clause-moves g c =
    let same : c.in_ok-registers.registers ≡ c.in_ok-arguments.arguments = c.in_ok-registers.ensures in
    λ most can.
    moves_after g.D.Domain.sense c.args.table.now c.requires.exact c.args.domain.now c.args.circuit.now
    (param_sorts c.args.params.now) c.args.depth c.args.steps.now c.args.asked most can _ _ _
    c.in_ok-arguments.ensures.answer
    (opened_moves _ _ c.requires.exact _ _ (param_sorts c.args.params.now) c.args.depth _ _ c.open_all.ensures.moves)
    _ _ _ same c.build.ensures.moves

pub returns-clause-evaluated : goal.returns-clause-evaluated
returns-clause-evaluated g c =
    let same : c.in_ok-registers.registers ≡ c.in_ok-arguments.arguments = c.in_ok-registers.ensures in
    λ most can.
    evaluated_after g.D.Domain.sense c.args.table.now c.requires.exact c.args.domain.now c.args.circuit.now
    (param_sorts c.args.params.now) c.args.depth c.args.steps.now c.args.asked most can _ _ _
    c.in_ok-arguments.ensures.answer
    (opened_moves _ _ c.requires.exact _ _ (param_sorts c.args.params.now) c.args.depth _ _ c.open_all.ensures.moves)
    _ _ _ same c.build.ensures.moves _
    c.in_ok-build.ensures.built g.met.D.Domain.lawful _ _ c.literal_at-fails.ensures.own c.ok.ensures

pub open_all-requires-clause-room : goal.open_all-requires-clause-room
open_all-requires-clause-room g c =
    let can = c.requires.can in
    opened_room g.D.Domain.sense _ c.requires.exact _ (param_sorts c.args.params.now) c.args.depth _ _
    c.args.domain.now can.0 can.1

pub returns-in_err-arguments-clause-moves : goal.returns-in_err-arguments-clause-moves
returns-in_err-arguments-clause-moves g c = λ most can.
    opened_left g.D.Domain.sense _ c.requires.exact _ _ (param_sorts c.args.params.now) c.args.depth _ _ _ _ most can
    c.open_all.ensures.moves

pub returns-in_err-registers-clause-moves : goal.returns-in_err-registers-clause-moves
returns-in_err-registers-clause-moves g c = λ most can.
    opened_left g.D.Domain.sense _ c.requires.exact _ _ (param_sorts c.args.params.now) c.args.depth _ _ _ _ most can
    c.open_all.ensures.moves
