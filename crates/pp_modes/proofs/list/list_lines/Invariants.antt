use Rattle.std.proofs.Common.{◌≡◌, map, string_bytes, take}
use Rattle.pp_estimate.specs.Shared.{AreOf}
use Rattle.pp_modes.specs.Lists.{lines_from}
use Rattle.pp_modes.proofs.list.list_lines.Given as goal

abbrev pub invariant-loop-f : goal.invariant-loop-f
invariant-loop-f l = record {
  lines : map string_bytes l.lines.items ≡ lines_from l.program l.round l.depth 0 (take l.f l.program.functions);
  estimates : AreOf l.program l.estimates;
}
