use Rattle.std.proofs.Common.{arith, rules}
use Rattle.pp_clause.specs.Literal.{lit_value}
use Rattle.pp_gate.proofs.Clausal.{mux_cases, negated_value, within_negated, all_of_three}
use Rattle.pp_gate.proofs.clauses.add_mux.Goals as goal

pub returns : goal.returns
returns c =
    let one = c.in_ok-add.ensures in
    let two = c.in_ok-add-2.ensures in
    let three = c.in_ok-add-3.ensures in
    let four = c.in_ok-add-4.ensures in
    record {
      most = omega arith;
      value = λ s.
          let off = negated_value s _ _ c.negated-off.ensures in
          let not_c = negated_value s _ _ c.negated-not_c.ensures in
          let not_a = negated_value s _ _ c.negated-not_a.ensures in
          let not_b = negated_value s _ _ c.negated-not_b.ensures in
          rw (four.value s, three.value s, two.value s, one.value s, off, not_c, not_a, not_b)
          (mux_cases _ (lit_value s c.args.out) (lit_value s c.args.c) (lit_value s c.args.a) (lit_value s c.args.b));
      within = λ n out of olds.
          let choice = of 0 c.args.c (omega arith) in
          let a = of 1 c.args.a (omega arith) in
          let b = of 2 c.args.b (omega arith) in
          search (rules, within_negated, four.within, three.within, two.within, one.within, all_of_three) depth 9;
    }
