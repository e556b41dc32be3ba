use Rattle.std.proofs.Common.{◌≡◌, true, take}
use Rattle.pp_refute.specs.Checking.{is_clear_of}
use Rattle.pp_refute.proofs.replay.is_clear_of_clause.Given as goal

abbrev pub invariant-loop-lit : goal.invariant-loop-lit
invariant-loop-lit l = is_clear_of l.table (take l.lit-index l.clause) ≡ true
