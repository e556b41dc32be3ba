use Rattle.std.proofs.Common.{◌↔◌, ◌∙◌, IsTrue, arith, List, Bool, length, ap, subst}
use Rattle.pp_graph.specs.Rows.{marked}
use Rattle.pp_prog.specs.declared.check.Check.{Check}
use Rattle.pp_prog.specs.declared.expr.Function.{Function}
use Rattle.pp_checks.specs.Plan.{AreOf}
use Rattle.pp_checks.specs.Plain.{IsPlain}
use Rattle.pp_checks.specs.Tables.{IsRankIn}
use Rattle.pp_checks.proofs.Plans.{nestings_are, ranks_are, rows_are}
use Rattle.pp_checks.proofs.planning.tables_of.Goals as goal

pub returns : goal.returns
returns c = record {
  checks = c.in_ok-checks.ensures ∙ c.checks-2.ensures.all;
  rows = rows_are c.args.program.now.functions c.args.calls.now c.in_ok-rows.rows c.requires.calls
      c.in_ok-rows.ensures;
  ranks = ranks_are c.args.program.now.functions c.args.calls.now c.in_ok-rows.rows c.in_ok-ranks.ranks
      c.requires.calls c.in_ok-rows.ensures (subst (λ (r : List (List Bool)). AreOf (λ f n. IsRankIn r f (length r)
      n) (length r) c.in_ok-ranks.ranks) c.as_slice.ensures c.in_ok-ranks.ensures);
  nestings = nestings_are c.args.program.now.functions c.args.calls.now c.in_ok-nestings.nestings c.requires.calls
      c.in_ok-nestings.ensures;
  tallest = c.in_ok-tallest.ensures;
  plains = λ k lt. subst (λ (fs : List Function). IsTrue (marked c.in_ok-plains.plains k) ↔ IsPlain fs k)
      c.as_slice-2.ensures (c.in_ok-plains.ensures k (omega (
        arith,
        lt,
        ap (length {A = Check})
            c.checks.ensures.all,
      )));
  rules = c.requires.rules;
}
