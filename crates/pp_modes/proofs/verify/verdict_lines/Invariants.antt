use Rattle.std.proofs.Common.{◌≡◌, map, string_bytes, take}
use Rattle.pp_modes.specs.Verdicts.{verdict_lines}
use Rattle.pp_modes.proofs.verify.verdict_lines.Given as goal

abbrev pub invariant-loop-i : goal.invariant-loop-i
invariant-loop-i l = map string_bytes l.lines.items
    ≡ verdict_lines l.program l.ends 0 (take l.i l.program.functions) (take l.i l.verdicts)
