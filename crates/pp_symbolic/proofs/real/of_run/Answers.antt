use Rattle.std.proofs.Common.{◌≡◌, ◌-◌, ◌<◌, ◌^◌, List, length, sym, ◌∙◌, subst, arith}
use Rattle.std.proofs.lemmas.Bool.Decides.{nat_tests}
use Rattle.std.proofs.lemmas.List.{length-map}
use Rattle.pp_prog.specs.declared.expr.Function.{Function}
use Rattle.pp_prog.specs.Sorts.{param_sorts, sort_of_param}
use Rattle.pp_estimate.specs.Estimates.{estimate}
use Rattle.pp_compile.specs.Written.{IsRunOf}
use Rattle.pp_simplify.specs.Folded.{all_folded}
use Rattle.pp_simplify.specs.Pruned.{IsPruned}
use Rattle.pp_steps.specs.Frames.{run_steps}
use Rattle.pp_symbolic.proofs.Whole.{can_new, can_run, frame_run, if_ok, moves_run}
use Rattle.pp_symbolic.proofs.Whole.{name_in, on_ok, size_run}
use Rattle.pp_symbolic.proofs.real.of_run.Goals as goal

pub simplify-requires-clause-reads : goal.simplify-requires-clause-reads
simplify-requires-clause-reads g c =
    let p = c.args.program.now in
    let f = c.owner-f.result.now in
    let run = c.in_ok-run.run' in
    let is : IsRunOf (run_steps p.functions f c.args.check c.args.round) run =
    subst (λ (fs : List Function). IsRunOf (run_steps fs f c.args.check c.args.round) run) c.as_slice.ensures
    c.in_ok-run.ensures in
    let few : length run.steps < 2 ^ 32 =
    (let n = c.len.ensures in let t = c.if-len.false in grind (arith, nat_tests)) in
    let can = can_run g.D.Domain.sense g.met.D.Domain.lawful c.requires.exact p c.args.plan.now c.requires.plan
    c.args.check f
    c.owner-f.ensures c.args.round c.args.depth c.requires.depth.0 c.requires.size run is few
    c.args.domain.now c.args.circuit.now c.requires.fresh c.requires.empty in can.reads

pub simplify-requires-clause-asked : goal.simplify-requires-clause-asked
simplify-requires-clause-asked g c =
    let p = c.args.program.now in
    let f = c.owner-f.result.now in
    let run = c.in_ok-run.run' in
    let is : IsRunOf (run_steps p.functions f c.args.check c.args.round) run =
    subst (λ (fs : List Function). IsRunOf (run_steps fs f c.args.check c.args.round) run) c.as_slice.ensures
    c.in_ok-run.ensures in
    let few : length run.steps < 2 ^ 32 =
    (let n = c.len.ensures in let t = c.if-len.false in grind (arith, nat_tests)) in
    let can = can_run g.D.Domain.sense g.met.D.Domain.lawful c.requires.exact p c.args.plan.now c.requires.plan
    c.args.check f
    c.owner-f.ensures c.args.round c.args.depth c.requires.depth.0 c.requires.size run is few
    c.args.domain.now c.args.circuit.now c.requires.fresh c.requires.empty in can.stands

pub evaluate-requires-clause-can : goal.evaluate-requires-clause-can
evaluate-requires-clause-can g c =
    let p = c.args.program.now in
    let f = c.owner-f.result.now in
    let run = c.in_ok-run.run' in
    let is : IsRunOf (run_steps p.functions f c.args.check c.args.round) run =
    subst (λ (fs : List Function). IsRunOf (run_steps fs f c.args.check c.args.round) run) c.as_slice.ensures
    c.in_ok-run.ensures in
    let few : length run.steps < 2 ^ 32 =
    (let n = c.len.ensures in let t = c.if-len.false in grind (arith, nat_tests)) in
    let many : c.len-2.result ≡ length (param_sorts f.params) =
    c.len-2.ensures ∙ sym (length-map f.params sort_of_param) in
    let next = c.in_ok-fails.fails in
    let is_next : next ≡ name_in run.steps run.fails = c.in_ok-fails.ensures.asked in
    let pruned : IsPruned (length (param_sorts f.params)) next (all_folded run.steps).steps c.simplify.new.steps =
    subst (λ n. IsPruned n next (all_folded run.steps).steps c.simplify.new.steps) many c.in_ok-fails.ensures.pruned in
    let can = can_new g.D.Domain.sense g.met.D.Domain.lawful c.requires.exact p c.args.plan.now c.requires.plan
    c.args.check f
    c.owner-f.ensures c.args.round c.args.depth c.requires.depth.0 c.requires.size run is few
    c.args.domain.now c.args.circuit.now c.requires.fresh c.requires.empty c.simplify.new.steps next is_next pruned in
    rw c.types.ensures (rw c.as_slice-2.ensures (rw c.as_slice-3.ensures
    (estimate p.types p.functions p.checks c.args.check.0 c.args.round c.args.depth - 1, can)))

pub returns-clause-moves : goal.returns-clause-moves
returns-clause-moves g c =
    let p = c.args.program.now in
    let f = c.owner-f.result.now in
    let run = c.in_ok-run.run' in
    let is : IsRunOf (run_steps p.functions f c.args.check c.args.round) run =
    subst (λ (fs : List Function). IsRunOf (run_steps fs f c.args.check c.args.round) run) c.as_slice.ensures
    c.in_ok-run.ensures in
    let few : length run.steps < 2 ^ 32 =
    (let n = c.len.ensures in let t = c.if-len.false in grind (arith, nat_tests)) in
    let many : c.len-2.result ≡ length (param_sorts f.params) =
    c.len-2.ensures ∙ sym (length-map f.params sort_of_param) in
    let next = c.in_ok-fails.fails in
    let is_next : next ≡ name_in run.steps run.fails = c.in_ok-fails.ensures.asked in
    let pruned : IsPruned (length (param_sorts f.params)) next (all_folded run.steps).steps c.simplify.new.steps =
    subst (λ n. IsPruned n next (all_folded run.steps).steps c.simplify.new.steps) many c.in_ok-fails.ensures.pruned in
    moves_run g.D.Domain.sense g.met.D.Domain.lawful c.requires.exact p c.args.plan.now c.requires.plan
    c.args.check f
    c.owner-f.ensures c.args.round c.args.depth c.requires.depth.0 c.requires.size run is few
    c.args.domain.now c.args.circuit.now c.requires.fresh c.requires.empty c.simplify.new.steps next is_next pruned _ _
    (rw (← c.types.ensures) (rw (← c.as_slice-2.ensures) (rw (← c.as_slice-3.ensures) c.evaluate.ensures.moves)))

pub returns-clause-size : goal.returns-clause-size
returns-clause-size g c =
    let p = c.args.program.now in
    let f = c.owner-f.result.now in
    let run = c.in_ok-run.run' in
    let is : IsRunOf (run_steps p.functions f c.args.check c.args.round) run =
    subst (λ (fs : List Function). IsRunOf (run_steps fs f c.args.check c.args.round) run) c.as_slice.ensures
    c.in_ok-run.ensures in
    let few : length run.steps < 2 ^ 32 =
    (let n = c.len.ensures in let t = c.if-len.false in grind (arith, nat_tests)) in
    let many : c.len-2.result ≡ length (param_sorts f.params) =
    c.len-2.ensures ∙ sym (length-map f.params sort_of_param) in
    let next = c.in_ok-fails.fails in
    let is_next : next ≡ name_in run.steps run.fails = c.in_ok-fails.ensures.asked in
    let pruned : IsPruned (length (param_sorts f.params)) next (all_folded run.steps).steps c.simplify.new.steps =
    subst (λ n. IsPruned n next (all_folded run.steps).steps c.simplify.new.steps) many c.in_ok-fails.ensures.pruned in
    on_ok c.evaluate.result
    (size_run g.D.Domain.sense g.met.D.Domain.lawful c.requires.exact p c.args.plan.now c.requires.plan
    c.args.check f
    c.owner-f.ensures c.args.round c.args.depth c.requires.depth.0 c.requires.size run is few
    c.args.domain.now c.args.circuit.now c.requires.fresh c.requires.empty c.simplify.new.steps next is_next pruned
    c.evaluate.new.domain
    c.evaluate.new.circuit
    (rw (← c.types.ensures) (rw (← c.as_slice-2.ensures) (rw (← c.as_slice-3.ensures) c.evaluate.ensures.moves))))

pub returns-clause-frame : goal.returns-clause-frame
returns-clause-frame g c =
    let p = c.args.program.now in
    let f = c.owner-f.result.now in
    let run = c.in_ok-run.run' in
    let is : IsRunOf (run_steps p.functions f c.args.check c.args.round) run =
    subst (λ (fs : List Function). IsRunOf (run_steps fs f c.args.check c.args.round) run) c.as_slice.ensures
    c.in_ok-run.ensures in
    let few : length run.steps < 2 ^ 32 =
    (let n = c.len.ensures in let t = c.if-len.false in grind (arith, nat_tests)) in
    let many : c.len-2.result ≡ length (param_sorts f.params) =
    c.len-2.ensures ∙ sym (length-map f.params sort_of_param) in
    let next = c.in_ok-fails.fails in
    let is_next : next ≡ name_in run.steps run.fails = c.in_ok-fails.ensures.asked in
    let pruned : IsPruned (length (param_sorts f.params)) next (all_folded run.steps).steps c.simplify.new.steps =
    subst (λ n. IsPruned n next (all_folded run.steps).steps c.simplify.new.steps) many c.in_ok-fails.ensures.pruned in
    if_ok c.evaluate.result c.evaluate.ensures.evaluated
    (λ frame evaluates.
    frame_run g.D.Domain.sense g.met.D.Domain.lawful c.requires.exact p c.args.plan.now c.requires.plan
    c.args.check f
    c.owner-f.ensures c.args.round c.args.depth c.requires.depth.0 c.requires.size run is few
    c.args.domain.now c.args.circuit.now c.requires.fresh c.requires.empty c.simplify.new.steps next is_next pruned
    _ _ frame
    (rw (← c.types.ensures) (rw (← c.as_slice-2.ensures) (rw (← c.as_slice-3.ensures) evaluates))))
