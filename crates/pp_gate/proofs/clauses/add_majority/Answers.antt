use Rattle.std.proofs.Common.{arith}
use Rattle.pp_clause.specs.Literal.{lit_value}
use Rattle.pp_gate.proofs.Clausal.{majority_cases}
use Rattle.pp_gate.proofs.clauses.add_majority.Goals as goal

pub returns : goal.returns
returns c =
    let one = c.in_ok-add_agreement.ensures in
    let two = c.in_ok-add_agreement-2.ensures in
    let three = c.in_ok-add_agreement-3.ensures in
    record {
      most = omega arith;
      value = λ s. rw (three.value s, two.value s, one.value s)
          (majority_cases _ (lit_value s c.args.out) (lit_value s c.args.a) (lit_value s c.args.b)
          (lit_value s c.args.c));
      within = λ n out of olds.
          let x = of 0 c.args.a (omega arith) in
          let y = of 1 c.args.b (omega arith) in
          let z = of 2 c.args.c (omega arith) in
          three.within n out y z (two.within n out x z (one.within n out x y olds));
    }
