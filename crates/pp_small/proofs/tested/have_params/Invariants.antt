use Rattle.std.proofs.Common.{drop}
use Rattle.std.specs.Prelude.{IsTrue}
use Rattle.pp_prog.specs.Sorts.{have_sorts, param_sorts}
use Rattle.pp_small.proofs.tested.have_params.Given as goal

abbrev pub invariant-loop-place : goal.invariant-loop-place
invariant-loop-place l =
    IsTrue (have_sorts l.ctors (drop l.place l.values) (param_sorts (drop l.place l.params)))
    → IsTrue (have_sorts l.ctors l.values (param_sorts l.params))
