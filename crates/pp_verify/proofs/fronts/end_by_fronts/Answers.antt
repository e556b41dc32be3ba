use Rattle.std.proofs.Common.{List, sym, subst}
use Rattle.std.specs.Prelude.{slice_get}
use Rattle.pp_eval.specs.Runs.{AreArguments}
use Rattle.pp_prog.specs.declared.value.Value.{Value}
use Rattle.pp_small.specs.Failing.{FailWith, IsLeastFuel}
use Rattle.pp_small.proofs.Counterexamples.{fail_with, least_counterexample, sorted}
use Rattle.pp_verify.proofs.RoundEnds.{invalid_by_fronts}
use Rattle.pp_verify.proofs.fronts.end_by_fronts.Goals as goal

pub least_fuel-requires-clause-arguments : goal.least_fuel-requires-clause-arguments
least_fuel-requires-clause-arguments c =
    let p = c.args.program.now in
    let limits = c.args.limits in
    let i = c.args.progress.function.0 in
    let found = c.in-Some.ensures.args p limits i c.in_ok-look.ensures in
    subst (λ (l : List Value). AreArguments p.types.ctors (slice_get p.functions i) l) (sym c.as_slice.ensures)
    (sorted p i c.args.progress.check limits.rounds limits.depth c.in-Some.args found.fails)

pub least_fuel-requires-clause-fails : goal.least_fuel-requires-clause-fails
least_fuel-requires-clause-fails c =
    let p = c.args.program.now in
    let limits = c.args.limits in
    let i = c.args.progress.function.0 in
    let check = c.args.progress.check in
    let found = c.in-Some.ensures.args p limits i c.in_ok-look.ensures in
    subst (λ (l : List Value). FailWith p i check l limits.rounds) (sym c.as_slice.ensures)
    (fail_with p i check limits.rounds limits.depth c.in-Some.args found.fails)

pub returns-in_ok-least-in-Some-clause-end : goal.returns-in_ok-least-in-Some-clause-end
returns-in_ok-least-in-Some-clause-end c =
    let p = c.args.program.now in
    let limits = c.args.limits in
    let i = c.args.progress.function.0 in
    let check = c.args.progress.check in
    let n = c.in_ok-least-in-Some.least in
    let found = c.in-Some.ensures.args p limits i c.in_ok-look.ensures in
    let least = subst (λ (l : List Value). IsLeastFuel p i check l n) c.as_slice.ensures
    c.in_ok-least-in-Some.ensures.least in
    let told = least_counterexample p i check limits.rounds n limits.depth c.in-Some.args found.fails least in
    invalid_by_fronts c.requires.come.before c.requires.fronted c.in-Some.args n c.in_ok-least-in-Some.ensures.most
    told.0 told.1

pub returns-in_ok-least-in-Some-clause-shared : goal.returns-in_ok-least-in-Some-clause-shared
returns-in_ok-least-in-Some-clause-shared c =
    c.take.ensures.shared c.args.program.now c.args.limits c.args.progress.function.0 c.in_ok-look.ensures

pub end_by_cases-requires-clause-shared : goal.end_by_cases-requires-clause-shared
end_by_cases-requires-clause-shared c =
    c.take.ensures.shared c.args.program.now c.args.limits c.args.progress.function.0 c.in_ok-look.ensures
