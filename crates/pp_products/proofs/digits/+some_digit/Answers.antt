use Rattle.std.proofs.Common.{◌≡◌, ◌<◌, ◌∙◌, length, rules}
use Rattle.pp_bits.proofs.Growing as growing
use Rattle.pp_products.proofs.Cuts.{some_digit_none, some_digit_turn}
use Rattle.pp_products.proofs.digits.+some_digit.Goals as goal

pub returns-then-is_empty-clause-stands : goal.returns-then-is_empty-clause-stands
returns-then-is_empty-clause-stands t c =
    let empty : length c.args.a.now ≡ 0 = search rules in
    record {
      of = growing.IsOf_negated _ _ _ c.negated.ensures c.truth.ensures.stands.of;
      value = λ s gives. some_digit_none s _ _ _ empty c.negated.ensures (c.truth.ensures.stands.value s gives);
    }

pub returns-in_ok-some-clause-stands : goal.returns-in_ok-some-clause-stands
returns-in_ok-some-clause-stands t c =
    let some : 0 < length c.args.a.now = search rules in
    let or = c.in_ok-some.ensures in
    record {
      of = or.stands.of;
      value = λ s gives.
          or.stands.value s gives
          ∙ some_digit_turn s _ _ _ some c.index-a-0.is
          (c.in_ok-above.ensures.stands.value s (growing.Gives_before _ _ _ or.adds s gives));
    }
