use Rattle.std.proofs.Common.{subst}
use Rattle.pp_checks.specs.Rules.{IsFault}
use Rattle.pp_front.proofs.Refused.{broken_line}
use Rattle.pp_front.specs.Refuses.{contract_cycle, measure_shape, no_measure}
use Rattle.pp_front.proofs.planned.planned.Goals as goal

pub returns-in-Err-NoMeasure-clause-refused : goal.returns-in-Err-NoMeasure-clause-refused
returns-in-Err-NoMeasure-clause-refused c =
    let first = subst (IsFault c.args.program.now.types c.args.program.now.functions) c.in-Err-NoMeasure.field-0-is
    c.in-Err-NoMeasure.ensures in
    broken_line c.args.program.now c.breaks.result c.in-Err-NoMeasure.f _ _ first no_measure first.breaks.0
    c.breaks.ensures

pub returns-in-Err-MeasureShape-clause-refused : goal.returns-in-Err-MeasureShape-clause-refused
returns-in-Err-MeasureShape-clause-refused c =
    let first = subst (IsFault c.args.program.now.types c.args.program.now.functions) c.in-Err-MeasureShape.field-0-is
    c.in-Err-MeasureShape.ensures in
    broken_line c.args.program.now c.breaks-in-Err-MeasureShape.result c.in-Err-MeasureShape.f _ _ first measure_shape
    first.breaks.0
    c.breaks-in-Err-MeasureShape.ensures

pub returns-in-Err-ContractCycle-clause-refused : goal.returns-in-Err-ContractCycle-clause-refused
returns-in-Err-ContractCycle-clause-refused c =
    let first = subst (IsFault c.args.program.now.types c.args.program.now.functions) c.in-Err-ContractCycle.field-0-is
    c.in-Err-ContractCycle.ensures in
    broken_line c.args.program.now c.breaks-in-Err-ContractCycle.result c.in-Err-ContractCycle.f _ _ first
    contract_cycle first.breaks.0
    c.breaks-in-Err-ContractCycle.ensures
