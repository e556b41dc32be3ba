use Rattle.std.proofs.Common.{◌≡◌, ◌++◌, drop, ◌+◌}
use Rattle.pp_cover.specs.Split.{named_parts}
use Rattle.pp_cover.proofs.split.named_parts.Given as goal

abbrev pub invariant-loop-i : goal.invariant-loop-i
invariant-loop-i l =
    l.parts ++ named_parts l.matrix l.column (l.first + l.i)
    (drop l.i l.ctors) ≡ named_parts l.matrix l.column l.first l.ctors
