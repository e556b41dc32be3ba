use Rattle.std.proofs.Common.{◌≡◌, map, take, string_bytes}
use Rattle.std.specs.Io.KnownBytes.{Appends}
use Rattle.std.specs.List.{concat}
use Rattle.pp_print.proofs.put.put_lines.Given as goal

abbrev pub invariant-loop-line : goal.invariant-loop-line
invariant-loop-line g l =
    record {
      faults : g.K.Sink.faults l.out ≡ g.K.Sink.faults l.initial.out;
      taken : Appends (g.K.Sink.taken l.initial.out) (g.K.Sink.taken l.out)
          (concat (take l.line-index (map string_bytes l.lines)));
    }
