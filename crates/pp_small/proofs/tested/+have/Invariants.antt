use Rattle.std.proofs.Common.{drop}
use Rattle.std.specs.Prelude.{IsTrue}
use Rattle.pp_prog.specs.Sorts.{have_sorts}
use Rattle.pp_small.proofs.tested.+have.Given as goal

abbrev pub invariant-have_sorts-loop-place : goal.invariant-have_sorts-loop-place
invariant-have_sorts-loop-place l =
    IsTrue (have_sorts l.ctors (drop l.place l.values) (drop l.place l.sorts))
    → IsTrue (have_sorts l.ctors l.values l.sorts)
