use Rattle.pp_named_below.specs.Search.{AreTaken, Spends}
use Rattle.pp_named_below.proofs.search.take_fields.Given as goal

abbrev pub invariant-loop-place : goal.invariant-loop-place
invariant-loop-place l = record {
  spends : Spends l.initial.circuit l.circuit l.initial.search l.search;
  taken : AreTaken l.circuit l.new l.path l.fields l.initial.search l.search;
}
