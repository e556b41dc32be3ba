use Rattle.std.proofs.Common.{◌≡◌, true, length, replicate, ap, arith, rules}
use Rattle.std.proofs.lemmas.Option.{slice_get_within}
use Rattle.pp_gate.proofs.Marking.{all_marked}
use Rattle.pp_gate.proofs.circuit.Circuit.clauses.Goals as goal

pub returns-clause-value : goal.returns-clause-value
returns-clause-value c =
    let set : c.deref.result.now ≡ replicate (length c.as_slice.result.now) true = search rules in
    λ s. (
      λ h. record {
        gives = λ k g at. ((c.in_ok-all.ensures.value s).0 h).gives k g at (all_marked _ k _ set
            (omega (arith, slice_get_within _ k g at, ap length c.as_slice.ensures.value)));
      },
      λ h. (c.in_ok-all.ensures.value s).1 (record { gives = λ k g at on. h.gives k g at }),
    )
