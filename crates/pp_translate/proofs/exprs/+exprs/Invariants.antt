use Rattle.std.proofs.Common.{take}
use Rattle.pp_translate.specs.Target.{setting}
use Rattle.pp_translation.specs.Numbered.{TranslateAll, TranslateCases}
use Rattle.pp_translate.proofs.exprs.+exprs.Given as goal

abbrev pub invariant-exprs-loop-e : goal.invariant-exprs-loop-e
invariant-exprs-loop-e l =
    TranslateAll l.typed (setting l.target) l.own (take l.e-index l.es) l.done l.initial.checks l.checks

abbrev pub invariant-cases_of-loop-c : goal.invariant-cases_of-loop-c
invariant-cases_of-loop-c l =
    TranslateCases l.typed (setting l.target) l.own l.sort (take l.c-index l.cases) l.done l.initial.checks l.checks
