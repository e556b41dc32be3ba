use Rattle.std.proofs.Common.{subst}
use Rattle.std.specs.Prelude.{IfSome}
use Rattle.pp_steps.specs.Meaning.{Values}
use Rattle.pp_closure.specs.Sums.{IsZero, total}
use Rattle.pp_closure.proofs.Totals.{equal_answer}
use Rattle.pp_closure.proofs.sums.equal_sums.Goals as goal

pub returns : goal.returns
returns c v e la lb holds =
    let is = c.are_numbers.ensures v e la lb holds c.if-not-are_numbers.false in
    equal_answer _ v c.args.a c.args.b c.in_ok-terms.terms c.is_zero.result la lb e is (c.in_ok-terms.ensures v holds)
    (subst (λ l. IfSome c.is_zero.result (λ zero. (ρ : Values) → IsZero zero (total ρ l))) c.as_slice.ensures
    c.is_zero.ensures)
