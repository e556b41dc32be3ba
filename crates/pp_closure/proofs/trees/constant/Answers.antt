use Rattle.std.proofs.Common.{subst}
use Rattle.pp_closure.specs.Facts.{HasShape}
use Rattle.pp_closure.proofs.Values.{constant_zero}
use Rattle.pp_closure.proofs.trees.constant.Goals as goal

pub returns-in-Some : goal.returns-in-Some
returns-in-Some c ρ holds =
    constant_zero _ _ _ c.if-shape-eq0.true
    (subst (λ s. HasShape s (ρ c.args.number)) c.in-Some.is (c.known.ensures ρ holds).shape)
