use Rattle.std.proofs.Common.{◌∙◌, ◌+◌, ap, drop}
use Rattle.pp_declared.specs.Declare.{imports_checked}
use Rattle.pp_declared.specs.Listed.{imports_from}
use Rattle.pp_declared.specs.Shown.{units_of}
use Rattle.pp_fault.specs.Part.{and_then}
use Rattle.pp_declared.proofs.Imported.{imports_step}
use Rattle.pp_fault.proofs.Parts.{stops_by}
use Rattle.pp_declared.proofs.imports.check_paths.Goals as goal

pub returns-in_err-check_unit : goal.returns-in_err-check_unit
returns-in_err-check_unit c =
    stops_by c.from_residual.result c.in_err-check_unit.field-0.0 _ _ _ c.from_residual.ensures
    (c.loop-i.invariant ∙ imports_step c.args.objects.now c.args.units.now c.loop-i.i _ c.loop-i-test.true)
    c.in_err-check_unit.ensures

pub loop-i-preserved : goal.loop-i-preserved
loop-i-preserved c =
    c.loop-i.invariant ∙ imports_step c.args.objects.now c.args.units.now c.loop-i.i _ c.loop-i-test.true
    ∙ ap (λ p. and_then p (λ done. imports_checked c.args.objects.now (imports_from (c.loop-i.i + 1 + 1) (units_of
    (drop (c.loop-i.i + 1) c.args.units.now))))) c.in_ok-check_unit.ensures
