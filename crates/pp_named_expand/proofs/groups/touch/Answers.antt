use Rattle.std.proofs.Common.{◌∙◌, refl}
use Rattle.pp_named_expand.proofs.Touching.{few_rows, groups_read, touched, touched_none}
use Rattle.pp_named_expand.proofs.groups.touch.Goals as goal

pub returns-in_err-fields-clause-touched : goal.returns-in_err-fields-clause-touched
returns-in_err-fields-clause-touched c =
    touched_none c.args.table.now c.args.trees.now c.args.circuit.now c.requires.fits

pub groups_of-requires : goal.groups_of-requires
groups_of-requires c = few_rows c.args.table.now _ (c.as_slice.ensures ∙ c.in_ok-fields.ensures)

pub returns-in_err-groups-clause-touched : goal.returns-in_err-groups-clause-touched
returns-in_err-groups-clause-touched c =
    touched_none c.args.table.now c.args.trees.now c.args.circuit.now c.requires.fits

pub returns-in_ok-groups-clause-touched : goal.returns-in_ok-groups-clause-touched
returns-in_ok-groups-clause-touched c =
    touched c.args.table.now c.args.trees.now c.args.circuit.now _ c.requires.fits (c.if-is_empty.ensures.0 refl)
    (groups_read c.args.table.now _ _ (c.as_slice.ensures ∙ c.in_ok-fields.ensures) c.in_ok-groups.ensures)

pub returns-else-is_empty-clause-touched : goal.returns-else-is_empty-clause-touched
returns-else-is_empty-clause-touched c =
    touched_none c.args.table.now c.args.trees.now c.args.circuit.now c.requires.fits
