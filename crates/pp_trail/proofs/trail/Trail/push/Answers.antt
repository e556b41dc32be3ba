use Rattle.std.proofs.Common.{◌≡◌, ◌≤◌, ◌++◌, ◌∷◌, [], ap, arith}
use Rattle.std.proofs.lemmas.Grind.{common_steps}
use Rattle.pp_trail.specs.declared.step.Step.{Step}
use Rattle.pp_trail.specs.Trail.{Trail}
use Rattle.pp_trail.proofs.Places.{IsAbsent}
use Rattle.pp_trail.proofs.Growing.{room_for, few_steps}
use Rattle.pp_trail.proofs.Sound.{sound_push}
use Rattle.pp_trail.proofs.trail.Trail.push.Goals as goal

pub overflow_cast-mark : goal.overflow_cast-mark
overflow_cast-mark c =
    let b = few_steps _ _ _ c.self.invariant.trail in
    let r = c.self.ranges in
    omega (arith, c.self.inside.steps.ok.0)

pub prove-unreachable-requires : goal.prove-unreachable-requires
prove-unreachable-requires c =
    let same = ap (λ (t : Trail). t.steps) c.self.view_is in
    let vars = ap (λ (t : Trail). t.vars) c.self.view_is in
    let absent : IsAbsent c.args.step.lit.var c.self.inside.steps.items = rw same c.requires.absent in
    let high : c.args.step.lit.var ≤ c.self.inside.vars = rw vars c.requires.up_to in
    let b = room_for _ _ _ c.args.step.lit.var c.self.invariant.trail
    (omega (arith, c.var-var.ensures.low, c.var-var.ensures.value)) high absent in
    let ok = c.push-pushed.ensures.succeeds (omega (arith, c.self.inside.steps.ok.0, c.self.invariant.room)) in
    grind (arith, common_steps, ok)

pub invariant_of-self : goal.invariant_of-self
invariant_of-self c =
    let step : Step = c.args.step in
    let old = c.self.inside.steps.items in
    let pushed : c.push-pushed.new.self.items ≡ old ++ step ∷ [] =
    grind (arith, common_steps, c.push-pushed.ensures.items, c.is_ok.ensures.value, c.if-prove.false) in
    let same = ap (λ (t : Trail). t.steps) c.self.view_is in
    let clauses = ap (λ (t : Trail). t.clauses) c.self.view_is in
    let vars = ap (λ (t : Trail). t.vars) c.self.view_is in
    let absent : IsAbsent step.lit.var old = rw same c.requires.absent in
    let high : step.lit.var ≤ c.self.inside.vars = rw vars c.requires.up_to in
    rw (
      pushed,
      c.is_positive.ensures,
      c.var-var.ensures.value,
      c.index-itself.ensures,
      c.index-opposite.ensures,
      c.negated.ensures,
    )
    (sound_push _ _ _ _ _ _ _ step c.len.result c.self.invariant c.push-pushed.ensures.capacity
    (omega (arith, c.var-var.ensures.low, c.var-var.ensures.value)) high absent
    (rw (clauses, same) c.requires.reason) (omega (arith, c.self.inside.steps.ok.0)))

pub returns-clause-room : goal.returns-clause-room
returns-clause-room c =
    let same = ap (λ (t : Trail). t.steps) c.self.view_is in
    let vars = ap (λ (t : Trail). t.vars) c.self.view_is in
    rw (← same, ← vars) (room_for _ _ _ c.args.step.lit.var c.self.invariant.trail
    (omega (arith, c.var-var.ensures.low, c.var-var.ensures.value)) (rw vars c.requires.up_to)
    (rw same c.requires.absent))
