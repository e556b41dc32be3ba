use Rattle.std.proofs.Common.{◌<◌, length, rules}
use Rattle.pp_bits.proofs.Growing.{Gives_before, Digits_push}
use Rattle.pp_bits.proofs.Sums.{wrapping_turn, wrapping_length}
use Rattle.pp_bits.proofs.sum.wrapping_sum.Goals as goal

pub returns-in_ok-push-clause-stands : goal.returns-in_ok-push-clause-stands
returns-in_ok-push-clause-stands c =
    let some : 0 < length c.args.a.now = search rules in
    let low = c.in_ok-digits.ensures in
    let top = c.in_ok-digit.ensures in
    let push = c.in_ok-push.ensures.items in
    let all = Digits_push (record { len = low.len; of = low.of }) top.adds.grows top.stands.of push in
    record {
      len = wrapping_length _ _ _ _ some low.len push;
      of = all.of;
      value = λ s gives.
          wrapping_turn s _ _ _ _ _ _ _ _ _ some c.requires.same c.index-a-top.is c.index-b-top.is low.len push
          (low.value s (Gives_before _ _ _ top.adds s gives)) (top.stands.value s gives);
    }
