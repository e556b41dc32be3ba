use Rattle.std.proofs.Common.{◌++◌, drop}
use Rattle.pp_declared.specs.Shown.{SameNames}
use Rattle.pp_sorts.specs.Words.{words_of}
use Rattle.pp_declared.proofs.imports.push_objects.Given as goal

abbrev pub invariant-loop-name : goal.invariant-loop-name
invariant-loop-name l =
    SameNames (l.objects ++ words_of (drop l.name-index l.names)) (l.initial.objects ++ words_of l.names)
