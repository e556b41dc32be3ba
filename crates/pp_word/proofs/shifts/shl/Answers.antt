use Rattle.std.specs.Int.{w32, int_wrap}
use Rattle.std.proofs.Common.{◌∙◌, ap, ◌%◌, ◌^◌}
use Rattle.std.proofs.lemmas.Int.{to_z-of_z}
use Rattle.pp_word.specs.Word.{word_shl, shift_distance}
use Rattle.pp_word.proofs.Moves.{shl_is}
use Rattle.pp_word.proofs.shifts.shl.Goals as goal
use lib.IntN.{pos, ◌*ℤ◌}
use mir.Val.{of_z}

pub returns : goal.returns
unfolding word_shl shift_distance
returns c =
    shl_is w32 c.args.a c.wrapping_shl.result (c.cast_unsigned.result % 32) c.ranges.a
    (record { sfits = c.wrapping_shl.type_inv }) c.wrapping_shl.ensures
    ∙ ap (λ k. int_wrap w32 (c.args.a *ℤ pos (2 ^ (k % 32))))
    (c.cast_unsigned.ensures ∙ ap (of_z w32) (to_z-of_z w32 c.args.b c.ranges.b))
