use Rattle.std.proofs.Common.{arith}
use Rattle.pp_clause.specs.Literal.{opposite}
use Rattle.pp_trail.proofs.Sound.{sound_pop, last_up_to}
use Rattle.pp_trail.proofs.Truths.{code_within}
use Rattle.pp_trail.proofs.trail.Trail.pop.Goals as goal

pub index_mut-requires : goal.index_mut-requires
index_mut-requires c =
    let high = last_up_to _ _ _ _ c.in-Some.step c.self.invariant.trail c.in-Some.ensures.items in
    let every = c.self.invariant.every in
    omega (arith, c.var-var.ensures.value)

pub index_mut-requires-in-Some : goal.index_mut-requires-in-Some
index_mut-requires-in-Some c =
    let high = last_up_to _ _ _ _ c.in-Some.step c.self.invariant.trail c.in-Some.ensures.items in
    let every = c.self.invariant.every_truth in
    let within = code_within c.in-Some.step.lit _ high in
    omega (arith, c.index-itself.ensures)

pub index_mut-requires-in-Some-2 : goal.index_mut-requires-in-Some-2
index_mut-requires-in-Some-2 c =
    let high = last_up_to _ _ _ _ c.in-Some.step c.self.invariant.trail c.in-Some.ensures.items in
    let every = c.self.invariant.every_truth in
    let within = code_within (opposite c.in-Some.step.lit) _ high in
    let is = rw c.negated.ensures at c.index-opposite.ensures in
    omega (arith, is)

pub invariant_of-self : goal.invariant_of-self
invariant_of-self c =
    let high = last_up_to _ _ _ _ c.in-Some.step c.self.invariant.trail c.in-Some.ensures.items in
    rw (c.var-var.ensures.value, c.index-itself.ensures, c.index-opposite.ensures, c.negated.ensures)
    (sound_pop _ _ _ _ _ _ _ _ c.in-Some.step c.self.invariant c.in-Some.ensures.items c.pop.ensures.capacity high)
