use Rattle.std.proofs.Common.{take}
use Rattle.pp_learn.specs.Seen.{MarksAll, AreMet}
use Rattle.pp_learn.proofs.seen.mark_all.Given as goal

abbrev pub invariant-loop-lit : goal.invariant-loop-lit
invariant-loop-lit l = MarksAll l.initial.seen l.seen (take l.lit-index l.clause) × AreMet l.seen l.met.items
