use Rattle.std.proofs.Common.{subst}
use Rattle.pp_gate.specs.Marks.{GivesMarked}
use Rattle.pp_gate.proofs.Cones.{asked_complete}
use Rattle.pp_gate.proofs.circuit.Circuit.clauses_of.Goals as goal

pub returns-clause-completed : goal.returns-clause-completed
returns-clause-completed c = λ s true.
    let marked = subst (GivesMarked s _) c.deref.ensures.value ((c.in_ok-all.ensures.value s).0 true) in
    asked_complete _ c.marked_clauses.ensures.circuit _ s c.requires.of
    (record { gives = λ k g at on. marked.gives k g at (c.in_ok-marks.ensures.every _ on) })
