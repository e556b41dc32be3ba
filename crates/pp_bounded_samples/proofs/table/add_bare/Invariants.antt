use Rattle.std.proofs.Common.{◌≡◌, ◌++◌}
use Rattle.pp_bounded_samples.specs.Sample.{bare_ctors}
use Rattle.pp_bounded_samples.proofs.table.add_bare.Given as goal

abbrev pub invariant-loop-place : goal.invariant-loop-place
invariant-loop-place l = record { ctors : l.ctors ≡ l.fn.ctors ++ bare_ctors l.name l._place }
