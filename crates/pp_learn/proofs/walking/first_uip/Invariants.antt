use Rattle.pp_learn.specs.Seen.{AreMet}
use Rattle.std.proofs.Common.{take}
use Rattle.pp_trail.specs.Trail.{lits}
use Rattle.pp_learn.specs.Conflict.{AreBeforePoint}
use Rattle.pp_learn.specs.Reached.{Reached}
use Rattle.pp_learn.proofs.Walks.{Seeks}
use Rattle.pp_learn.proofs.walking.first_uip.Given as goal

abbrev pub invariant-loop-below : goal.invariant-loop-below
invariant-loop-below l =
    record {
      reached : Reached l.clauses l.trail l.seen l.chain.items;
      seeks : Seeks l.trail l.seen l.start l.other l.place;
      met : AreMet l.seen l.met.items;
      first : AreBeforePoint l.clauses (lits (take l.start l.trail)) l.chain.items;
    }

abbrev pub decreases-loop-below : goal.decreases-loop-below
decreases-loop-below l = l.place
