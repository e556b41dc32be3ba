use Rattle.std.proofs.Common.{◌≡◌, take}
use Rattle.pp_translation.specs.Defs.{checks_from}
use Rattle.pp_translate.proofs.functions.checks_of.Given as goal

abbrev pub invariant-loop-i : goal.invariant-loop-i
invariant-loop-i l = l.done ≡ checks_from l.texts 0 (take l.i l.checks)
