use Rattle.std.proofs.Common.{◌≤◌, take, length}
use Rattle.pp_translate.specs.Target.{setting}
use Rattle.pp_translation.specs.Defs.{TranslatesDefs}
use Rattle.pp_translate.proofs.functions.functions_of.Given as goal

abbrev pub invariant-loop-i : goal.invariant-loop-i
invariant-loop-i l = record {
  made : TranslatesDefs l.typed (setting l.target) l.texts (take l.i l.instances) l.functions l.initial.checks l.checks;
  few : length l.functions ≤ l.i;
}
