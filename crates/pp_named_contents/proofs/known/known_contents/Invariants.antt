use Rattle.pp_named_contents.specs.Known.{AreKnownTo}
use Rattle.pp_named_contents.proofs.known.known_contents.Given as goal

abbrev pub invariant-loop-place : goal.invariant-loop-place
invariant-loop-place l = record {
  known : AreKnownTo l.circuit l.first l.ctors l.place l.ctor l.fields l.all;
}
