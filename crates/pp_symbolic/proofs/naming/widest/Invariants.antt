use Rattle.std.proofs.Common.{◌≡◌}
use Rattle.pp_symbolic.proofs.Names.{most_of}
use Rattle.pp_symbolic.proofs.naming.widest.Given as goal

abbrev pub invariant-loop-ctor : goal.invariant-loop-ctor
invariant-loop-ctor l = record {
  items : l.ctor-items ≡ l.table.ctors;
  most : l.most ≡ most_of l.table.ctors l.ctor-index;
}
