use Rattle.pp_turns.proofs.FirstTurns.{first_is_turn, first_turned}
use Rattle.pp_turns.proofs.turns.Turns.start.Goals as goal

pub returns-clause-turns : goal.returns-clause-turns
returns-clause-turns c = record {
  limits = c.requires.limits;
  size = c.in_ok-checks.ensures.size;
  each = λ k turn at.
      first_is_turn c.args.program.now c.args.limits k turn (c.in_ok-checks.ensures.first k turn at);
  functions = c.in_ok-shared.ensures.size;
  shared = c.in_ok-shared.ensures.shared c.args.limits;
}

pub returns-clause-turned : goal.returns-clause-turned
returns-clause-turned c = first_turned c.args.program.now c.in_ok-checks.checks c.in_ok-checks.ensures.first
