use Rattle.std.proofs.Common.{refl}
use Rattle.pp_bits.proofs.Growing.{Gives_before}
use Rattle.pp_bits.proofs.sum.odd_of.Goals as goal

pub returns-clause-stands : goal.returns-clause-stands
returns-clause-stands c =
    let odd = c.in_ok-odd.ensures in
    record {
      of = odd.stands.of;
      value = λ s gives. rw (
        odd.stands.value s gives,
        c.in_ok-differ.ensures.stands.value s
            (Gives_before _ _ 1 odd.adds s gives),
      ) refl;
    }
