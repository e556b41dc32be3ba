use Rattle.std.proofs.Common.{◌≡◌, ◌<◌, length, rules}
use Rattle.pp_bits.proofs.Chosen.{number_none, number_turn}
use Rattle.pp_bits.proofs.fresh.+number.Goals as goal

pub returns-then-is_empty-clause-value : goal.returns-then-is_empty-clause-value
returns-then-is_empty-clause-value t c = let empty : length c.args.digits.now ≡ 0 = search rules in
    number_none _ _ empty

pub returns-else-is_empty-clause-value : goal.returns-else-is_empty-clause-value
returns-else-is_empty-clause-value t c =
    let some : 0 < length c.args.digits.now = search rules in
    number_turn _ _ _ _ _ some c.index-digits-0.is c.digit_of.ensures.value c.number-above.ensures.value
