use Rattle.pp_inhabited.specs.Table.{NoneUnwritten}
use Rattle.pp_inhabited.proofs.uninhabited.first_unwritten.Given as goal

abbrev pub invariant-loop-root : goal.invariant-loop-root
invariant-loop-root l = NoneUnwritten l.rows l.root
