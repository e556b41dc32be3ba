use Rattle.pp_bounded_samples.proofs.Going.{looked_more}
use Rattle.pp_bounded_cases.proofs.showing.show_parts.Goals.{then-is_ctor_of+in_ok-show_ctor, else-is_ctor_of}
use Rattle.pp_bounded_cases.proofs.showing.show_parts.Goals as goal

pub show_ctor-requires-clause-read : goal.show_ctor-requires-clause-read
show_ctor-requires-clause-read c = c.loop-number.invariant.reads _ _ c.requires

pub loop-number-preserved : goal.loop-number-preserved
loop-number-preserved c =
    elim c.if-is_ctor_of.branch [
      | then-is_ctor_of+in_ok-show_ctor w ↦ rw (w.domain-is, w.circuit-is)
          (looked_more _ _ _ _ _ _ _ c.loop-number.invariant w.in_ok-show_ctor.ensures)
      | else-is_ctor_of w ↦ rw (w.domain-is, w.circuit-is) c.loop-number.invariant
    ]
