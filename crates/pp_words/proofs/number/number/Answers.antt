use Rattle.std.proofs.Common.{◌≤◌, ◌^◌, arith}
use Rattle.std.proofs.Math.Nat.{pow-le-pow_right}
use Rattle.pp_words.proofs.number.number.Goals as goal

pub overflow_mul-value : goal.overflow_mul-value
overflow_mul-value c =
    let few : c.loop-byte.byte-index ≤ 6 = omega arith in
    let most : 10 ^ c.loop-byte.byte-index ≤ 10 ^ 6 = pow-le-pow_right (omega arith) few in
    omega arith

pub overflow_add-value : goal.overflow_add-value
overflow_add-value c =
    let few : c.loop-byte.byte-index ≤ 6 = omega arith in
    let most : 10 ^ c.loop-byte.byte-index ≤ 10 ^ 6 = pow-le-pow_right (omega arith) few in
    omega arith
