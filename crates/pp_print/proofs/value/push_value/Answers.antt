use Rattle.std.proofs.Common.{◌++◌, string_bytes}
use Rattle.pp_print.specs.Values.{value_text}
use Rattle.pp_print.proofs.Pending.{printing_next}
use Rattle.pp_print.proofs.value.push_value.Goals as goal

pub loop-piece-preserved : goal.loop-piece-preserved
loop-piece-preserved c =
    printing_next c.args.ctors.now (string_bytes c.args.out.now ++ value_text c.args.ctors.now c.args.value.now)
    c.loop-piece.pending c.pop.new.self c.push_piece.new.pending c.in-Some.piece (string_bytes c.loop-piece.out)
    (string_bytes c.push_piece.new.out) c.loop-piece.invariant c.in-Some.ensures c.in_ok-push_piece.ensures
