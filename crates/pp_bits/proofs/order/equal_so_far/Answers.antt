use Rattle.std.proofs.Common.{refl}
use Rattle.pp_bits.proofs.Growing.{Gives_before}
use Rattle.pp_bits.proofs.Numbers.{lit_value_negated}
use Rattle.pp_bits.proofs.order.equal_so_far.Goals as goal

pub returns-clause-stands : goal.returns-clause-stands
returns-clause-stands c =
    let equal = c.in_ok-equal.ensures in
    record {
      of = equal.stands.of;
      value = λ s gives.
          let differ = c.in_ok-differ.ensures.stands.value s (Gives_before _ _ 1 equal.adds s gives) in
          rw (equal.stands.value s gives, lit_value_negated s _ _ c.negated.ensures, differ) refl;
    }
