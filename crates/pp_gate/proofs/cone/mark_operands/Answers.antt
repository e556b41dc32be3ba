use Rattle.std.proofs.Common.{inl, inr}
use Rattle.pp_gate.proofs.Marking.{marks_more}
use Rattle.pp_gate.proofs.cone.mark_operands.Goals as goal

pub returns-in-And : goal.returns-in-And
returns-in-And c =
    let two = marks_more _ _ _ _ _ c.mark-in-And.ensures c.mark-in-And-2.ensures in
    elim c.in-And.is [ inl e ↦ rw e two | inr e ↦ rw e two ]

pub returns-in-Mux : goal.returns-in-Mux
returns-in-Mux c =
    let two = marks_more _ _ _ _ _ c.mark.ensures c.mark-in-Mux.ensures in
    let three = marks_more _ _ _ _ _ two c.mark-in-Mux-2.ensures in
    elim c.in-Mux.is [ inl e ↦ rw e three | inr e ↦ rw e three ]
