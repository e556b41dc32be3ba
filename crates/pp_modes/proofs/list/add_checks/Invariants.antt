use Rattle.std.proofs.Common.{◌≡◌, ◌++◌, map, string_bytes, take}
use Rattle.pp_modes.specs.Lists.{lines_with}
use Rattle.pp_modes.proofs.list.add_checks.Given as goal

abbrev pub invariant-loop-i : goal.invariant-loop-i
invariant-loop-i l = map string_bytes l.lines.items
    ≡ map string_bytes l.initial.lines.items ++ lines_with l.f l.estimate (take l.i l.checks)
