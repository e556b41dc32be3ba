use Rattle.pp_checks.proofs.Descending.{MarkPlain}
use Rattle.pp_checks.proofs.plain.plains_of.Given as goal

abbrev pub invariant-loop-f : goal.invariant-loop-f
invariant-loop-f l = MarkPlain l.functions l.f-index l.checks l.plains
