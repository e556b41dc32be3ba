use Rattle.pp_checks.specs.Rules.{KeepRules}
use Rattle.pp_checks.proofs.rules.check_rules.Given as goal

abbrev pub invariant-loop-f : goal.invariant-loop-f
invariant-loop-f l = KeepRules l.program.types l.program.functions l.f
