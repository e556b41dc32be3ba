use Rattle.std.proofs.Common.{arith, rules}
use Rattle.std.proofs.lemmas.Bool.Decides.{nat_tests}
use Rattle.pp_gate.proofs.Clausal.{within_negated, all_of_three}
use Rattle.pp_gate.proofs.clauses.add_agreement.Goals as goal

pub returns : goal.returns
returns c =
    let one = c.in_ok-add.ensures in
    let two = c.in_ok-add-2.ensures in
    record {
      most = omega arith;
      value = λ s. grind (arith, nat_tests, one.value s, two.value s);
      within = λ n out a b olds.
          search (rules, within_negated, two.within, one.within, all_of_three) depth 9;
    }
