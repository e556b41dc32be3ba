use Rattle.std.proofs.Common.{arith, rules}
use Rattle.std.proofs.lemmas.Bool.Decides.{nat_tests}
use Rattle.pp_gate.proofs.Clausal.{within_negated, all_of_two, all_of_three}
use Rattle.pp_gate.proofs.clauses.add_and.Goals as goal

pub returns : goal.returns
returns c =
    let one = c.in_ok-add.ensures in
    let two = c.in_ok-add-2.ensures in
    let three = c.in_ok-add-3.ensures in
    record {
      most = omega arith;
      value = λ s. grind (arith, nat_tests, one.value s, two.value s, three.value s);
      within = λ n out of olds.
          let a = of 0 c.args.a (omega arith) in
          let b = of 1 c.args.b (omega arith) in
          search (rules, within_negated, three.within, two.within, one.within, all_of_two, all_of_three) depth 9;
    }
