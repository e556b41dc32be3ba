use Rattle.std.proofs.Common.{◌≡◌, ◌<◌, length, arith}
use Rattle.std.proofs.lemmas.Bool.Decides.{nat_tests}
use Rattle.pp_bits.proofs.Numbers.{negated_truth}
use Rattle.pp_shifts.proofs.Signs.{sign_value, sign_of_none}
use Rattle.pp_shifts.proofs.moves.sign.Goals as goal

pub returns-then-is_empty-clause-value : goal.returns-then-is_empty-clause-value
returns-then-is_empty-clause-value c =
    let none : length c.args.a.now ≡ 0 = grind (arith, nat_tests) in
    λ s gives. sign_of_none s _ _ none
    (negated_truth s _ _ c.negated-zero.ensures (c.truth.ensures.stands.value s gives))

pub returns-else-is_empty-clause-value : goal.returns-else-is_empty-clause-value
returns-else-is_empty-clause-value c =
    let some : 0 < length c.args.a.now = grind (arith, nat_tests) in
    λ s gives. sign_value s _ _ some c.index-a-a.is
