use Rattle.std.proofs.Common.{◌≡◌, List, length, ap, arith}
use Rattle.pp_trail.specs.declared.step.Step.{Step}
use Rattle.pp_trail.specs.Trail.{lits, IsFalse}
use Rattle.pp_circuit_cases.proofs.Conflicts.{is_conflict}
use Rattle.pp_circuit_cases.proofs.learning.decide.Goals as goal

pub returns-in-Some : goal.returns-in-Some
returns-in-Some c =
    let old = c.args.watch.now in
    let new = c.propagate.new.self in
    let now : IsFalse new.clauses (lits new.steps) c.in-Some.number =
    rw c.in-Some.is at c.in_ok-number.ensures.conflict in
    let start : c.in-Ok.start ≡ length old.steps =
    (let e = c.in-Ok.ensures in let v = ap (λ (z : List Step). length z) c.trail.ensures.value in omega arith) in
    is_conflict old c.decide.new.self new c.args.lit c.in-Some.number c.in-Ok.start c.requires start
    c.decide.ensures.value c.in_ok-number.ensures.grows now
