use Rattle.std.proofs.Common.{◌≡◌, ◌++◌, [], false, drop, None}
use Rattle.std.specs.Prelude.{reverse}
use Rattle.pp_tokens.specs.Newlines.{newlines}
use Rattle.pp_tokens.proofs.newlines.newlines.Given as goal

abbrev pub invariant-loop-i : goal.invariant-loop-i
invariant-loop-i l = l.out.items
    ++ newlines (reverse l.regions.items) l.ended l.waiting (drop l.i l.raw) ≡ newlines [] false None l.raw
