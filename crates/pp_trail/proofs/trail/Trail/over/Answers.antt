use Rattle.std.proofs.Common.{rules, arith}
use Rattle.std.proofs.lemmas.Grind.{common_steps}
use Rattle.pp_trail.proofs.trail.Trail.over.Goals as goal

pub invariant_of-result : goal.invariant_of-result
invariant_of-result c = record {
  clauses = search rules;
  trail = search rules;
  shows = record { shown = λ x in'. grind (arith, common_steps) };
  told = record { shown = λ l in'. grind (arith, common_steps) };
  every = search rules;
  every_truth = search rules;
  room = search rules;
}
