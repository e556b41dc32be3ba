use Rattle.pp_closure.proofs.refuting.refute_on_demand.Goals as goal

pub returns-then-all : goal.returns-then-all
returns-then-all c = c.unknown.ensures _ _ _

pub returns-in-Some : goal.returns-in-Some
returns-in-Some c = c.unknown-in-Some.ensures _ _ _

pub returns : goal.returns
returns c = c.unknown-in-None.ensures _ _ _
