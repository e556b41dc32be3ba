use Rattle.pp_sorts.proofs.Places.{NoneBefore}
use Rattle.pp_sorts.proofs.scope.place_of.Given as goal

abbrev pub invariant-loop-i : goal.invariant-loop-i
invariant-loop-i l = NoneBefore l.name l.texts l.i
