use Rattle.std.proofs.Common.{◌≡◌, List, Some, slice_get, subst}
use Rattle.pp_small.specs.declared.failures.Failure.{Failure}
use Rattle.pp_verify.proofs.Failures.{args_at}
use Rattle.pp_verify.proofs.fronts.take_out.Goals as goal

pub returns-in-Some-clause-args : goal.returns-in-Some-clause-args
returns-in-Some-clause-args c p i n d all =
    let place = c.in-Some.place in
    args_at p i n d c.args.failures.now place c.args.check c.remove-args.result all c.remove-args.ensures.item
    (subst (λ (fs : List Failure). (g : Failure) × (slice_get fs place ≡ Some g) × (g.check ≡ c.args.check))
    c.as_slice.ensures c.in-Some.ensures)
