use Rattle.std.proofs.Common.{◌≡◌, drop, map}
use Rattle.pp_generic.specs.Found.{learn, learn_all}
use Rattle.pp_generic.proofs.found.+learn.Given as goal

abbrev pub invariant-loop-i : goal.invariant-loop-i
invariant-loop-i l =
    learn_all (map learn l.xs) l.ys l.initial.found ≡ learn_all (map learn (drop l.i l.xs)) (drop l.i l.ys) l.found
