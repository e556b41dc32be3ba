use Rattle.std.proofs.Common.{length, sym, ap, arith}
use Rattle.std.proofs.lemmas.List.{length-map, length-take-le}
use Rattle.pp_prog.specs.Sorts.{sort_of_param}
use Rattle.pp_symbolic.proofs.GuessBuilt.{all_moves, built_at, built_moves, can_start, conjunction_room}
use Rattle.pp_symbolic.proofs.GuessBuilt.{enough_registers}
use Rattle.pp_symbolic.proofs.GuessBuilt.{guessed, have_literals, later_at, words_at}
use Rattle.pp_symbolic.proofs.guessed.evaluate_guess.Goals as goal

pub build-requires-clause-can : goal.build-requires-clause-can
build-requires-clause-can g c =
    can_start _ _ c.requires.inexact _ _ c.requires.fresh _ _ c.requires.can _ c.as_slice.ensures _
    c.new-registers.ensures

pub returns-in_err-build-clause-moves : goal.returns-in_err-build-clause-moves
returns-in_err-build-clause-moves g c = λ can.
    let later = later_at _ _ c.requires.inexact _ _ c.requires.fresh _ _ can _ c.as_slice.ensures _
    c.new-registers.ensures _ _ c.build.ensures.moves in
    built_moves _ _ c.requires.inexact _ _ c.requires.fresh _ _ can _ _ later

pub all_true-requires-clause-circuit : goal.all_true-requires-clause-circuit
all_true-requires-clause-circuit g c =
    let later = later_at _ _ c.requires.inexact _ _ c.requires.fresh _ _ c.requires.can _ c.as_slice.ensures _
    c.new-registers.ensures _ _ c.build.ensures.moves in
    g.met.D.Domain.lawful.circuit _ _ _ later.fits

pub all_true-requires-clause-first : goal.all_true-requires-clause-first
all_true-requires-clause-first g c =
    let later = later_at _ _ c.requires.inexact _ _ c.requires.fresh _ _ c.requires.can _ c.as_slice.ensures _
    c.new-registers.ensures _ _ c.build.ensures.moves in
    rw c.ok.ensures (g.met.D.Domain.lawful.ok_of _ _ _ later.fits)

pub all_true-requires-clause-registers : goal.all_true-requires-clause-registers
all_true-requires-clause-registers g c =
    let later = later_at _ _ c.requires.inexact _ _ c.requires.fresh _ _ c.requires.can _ c.as_slice.ensures _
    c.new-registers.ensures _ _ c.build.ensures.moves in
    let built = built_at _ _ c.requires.inexact _ _ c.requires.fresh _ _ c.requires.can _ c.as_slice.ensures _
    c.new-registers.ensures _ _ _ c.in_ok-build.ensures.built in
    have_literals _ _ c.requires.inexact _ _ c.requires.fresh _ _ c.requires.can _ _ later _ built

pub all_true-requires-clause-room : goal.all_true-requires-clause-room
all_true-requires-clause-room g c =
    let later = later_at _ _ c.requires.inexact _ _ c.requires.fresh _ _ c.requires.can _ c.as_slice.ensures _
    c.new-registers.ensures _ _ c.build.ensures.moves in
    let room = conjunction_room _ _ c.requires.inexact _ _ c.requires.fresh _ _ c.requires.can _ _ later in
    let same = ap length c.as_slice-2.ensures in
    omega (arith, room, same)

pub returns-in_err-circuit_ok-clause-moves : goal.returns-in_err-circuit_ok-clause-moves
returns-in_err-circuit_ok-clause-moves g c = λ can.
    let later = later_at _ _ c.requires.inexact _ _ c.requires.fresh _ _ can _ c.as_slice.ensures _
    c.new-registers.ensures _ _ c.build.ensures.moves in
    let built = built_at _ _ c.requires.inexact _ _ c.requires.fresh _ _ can _ c.as_slice.ensures _
    c.new-registers.ensures _ _ _ c.in_ok-build.ensures.built in
    all_moves _ _ c.requires.inexact _ _ c.requires.fresh _ _ can _ _ later _ built g.met.D.Domain.lawful _
    c.as_slice-2.ensures _ c.all_true.ensures.adds

pub slice_bounds-from_slice-end : goal.slice_bounds-from_slice-end
slice_bounds-from_slice-end g c =
    let later = later_at _ _ c.requires.inexact _ _ c.requires.fresh _ _ c.requires.can _ c.as_slice.ensures _
    c.new-registers.ensures _ _ c.build.ensures.moves in
    let built = built_at _ _ c.requires.inexact _ _ c.requires.fresh _ _ c.requires.can _ c.as_slice.ensures _
    c.new-registers.ensures _ _ _ c.in_ok-build.ensures.built in
    let enough = enough_registers _ _ c.requires.inexact _ _ c.requires.fresh _ _ c.requires.can _ _ later _ built in
    let many = length-map c.args.params.now sort_of_param in
    let same = ap length c.as_slice-3.ensures in
    sym (length-take-le (length c.args.params.now) c.as_slice-3.result.now (omega (arith, enough, many, same)))

pub returns-in_err-arguments-clause-moves : goal.returns-in_err-arguments-clause-moves
returns-in_err-arguments-clause-moves g c = λ can.
    let later = later_at _ _ c.requires.inexact _ _ c.requires.fresh _ _ can _ c.as_slice.ensures _
    c.new-registers.ensures _ _ c.build.ensures.moves in
    let built = built_at _ _ c.requires.inexact _ _ c.requires.fresh _ _ can _ c.as_slice.ensures _
    c.new-registers.ensures _ _ _ c.in_ok-build.ensures.built in
    all_moves _ _ c.requires.inexact _ _ c.requires.fresh _ _ can _ _ later _ built g.met.D.Domain.lawful _
    c.as_slice-2.ensures _ c.all_true.ensures.adds

pub returns-clause-moves : goal.returns-clause-moves
returns-clause-moves g c = λ can.
    let later = later_at _ _ c.requires.inexact _ _ c.requires.fresh _ _ can _ c.as_slice.ensures _
    c.new-registers.ensures _ _ c.build.ensures.moves in
    let built = built_at _ _ c.requires.inexact _ _ c.requires.fresh _ _ can _ c.as_slice.ensures _
    c.new-registers.ensures _ _ _ c.in_ok-build.ensures.built in
    all_moves _ _ c.requires.inexact _ _ c.requires.fresh _ _ can _ _ later _ built g.met.D.Domain.lawful _
    c.as_slice-2.ensures _ c.all_true.ensures.adds

pub returns-clause-guessed : goal.returns-clause-guessed
returns-clause-guessed g c = λ can.
    let later = later_at _ _ c.requires.inexact _ _ c.requires.fresh _ _ can _ c.as_slice.ensures _
    c.new-registers.ensures _ _ c.build.ensures.moves in
    let built = built_at _ _ c.requires.inexact _ _ c.requires.fresh _ _ can _ c.as_slice.ensures _
    c.new-registers.ensures _ _ _ c.in_ok-build.ensures.built in
    guessed _ _ c.requires.inexact _ _ c.requires.fresh _ _ can _ _ later _ built g.met.D.Domain.lawful _
    c.as_slice-2.ensures _ c.all_true.ensures.adds
    (words_at _ _ c.requires.inexact _ _ c.requires.fresh _ _ can _ c.as_slice.ensures _ c.new-registers.ensures _
    c.build.new.circuit c.build.ensures.words) _ _ _ _
    (c.literal_at-fails.ensures.stands
    (have_literals _ _ c.requires.inexact _ _ c.requires.fresh _ _ can _ _ later _ built))
    c.ok.ensures c.in_ok-circuit_ok.ensures.stands
