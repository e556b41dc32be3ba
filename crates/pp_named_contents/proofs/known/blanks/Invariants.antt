use Rattle.std.proofs.Common.{take}
use Rattle.pp_named_contents.specs.Known.{AreBlankParts}
use Rattle.pp_named_contents.proofs.known.blanks.Given as goal

abbrev pub invariant-loop-place : goal.invariant-loop-place
invariant-loop-place l = record { blank : AreBlankParts l.circuit (take l.place l.sorts) l.fields }
