use Rattle.std.proofs.Common.{arith, subst, sym}
use Rattle.pp_closure.specs.Facts.{AllTell}
use Rattle.pp_closure.proofs.Noted.{tell_set}
use Rattle.pp_closure.proofs.facts.Facts.set.Goals as goal

pub returns-then-number-len : goal.returns-then-number-len
returns-then-number-len c ρ holds told = record {
  classes = subst (AllTell ρ 0) (sym c.set.ensures)
      (tell_set ρ 0 _ _ _ _ holds.classes told (omega arith));
  possible = holds.possible;
}
