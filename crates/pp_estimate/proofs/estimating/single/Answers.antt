use Rattle.std.proofs.Common.{◌∙◌, ap}
use Rattle.pp_prog.specs.Sorts.{param_sorts}
use Rattle.pp_estimate.specs.Cut.{cut}
use Rattle.pp_estimate.specs.Estimates.{inputs, shapes_to}
use Rattle.pp_estimate.proofs.Singles.{single_is}
use Rattle.pp_estimate.proofs.estimating.single.Goals as goal

pub returns-clause-single : goal.returns-clause-single
returns-clause-single c =
    single_is c.args.place.types.now c.args.place.functions.now c.args.f.now c.args.place.own c.args.place.fuel
    c.args.depth c.in_ok-frame.frame _ c.in_ok-inputs.inputs c.saturating_add.result c.saturating_mul-own.result
    c.instances_of.result c.saturating_add-2.result c.requires.own
    (c.as_slice-2.ensures ∙ c.in_ok-args.ensures
    ∙ ap (λ ps. shapes_to c.args.depth (param_sorts ps)) c.as_slice.ensures)
    c.in_ok-frame.ensures.frame
    (c.in_ok-inputs.ensures.inputs ∙ ap (λ ps. cut (inputs c.args.place.types.now c.args.depth (param_sorts ps)))
    c.as_slice-3.ensures)
    c.saturating_add.ensures c.saturating_mul-own.ensures c.instances_of.ensures c.saturating_add-2.ensures

pub returns-clause-sound : goal.returns-clause-sound
returns-clause-sound c = record { known = c.in_ok-frame.ensures.sound.known; rows = c.in_ok-inputs.ensures.rows }
