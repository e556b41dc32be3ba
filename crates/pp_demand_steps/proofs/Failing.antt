-- Where a guess run fails the check, there are values with their sorts that say so, whichever calls are unfolded.
use Rattle.pp_guess_runs.specs.Answers.{answers_of}
use Rattle.pp_guess_steps.specs.OpenCalls.{world}
use Rattle.pp_guess_steps.proofs.WorldSorts.{guesses_answer_sorted}
use Rattle.pp_demand_steps.specs.Laws.{FailingMovesExist}
use Rattle.pp_demand_steps.proofs.Alike.{world_alike}
use Rattle.pp_demand_steps.proofs.Existing.{moves_exist}
use Rattle.pp_demand_steps.proofs.Truths.{moves_suppose}

pub failing_moves_exist : FailingMovesExist
failing_moves_exist p i f args called check n answers answering failed ms moves field fields default defaults run =
    let W = answers_of p.types.ctors p.functions answers in
    let x = moves_exist p i f args called check n ms moves (world p.functions W field n) fields
    (guesses_answer_sorted p answers answering field n) default defaults run in
    record {
      args = args;
      missing = world p.functions W field n;
      alike = world_alike p.functions W field n;
      has_values = x;
      supposed = moves_suppose p.types.ctors p.functions f check args n answers field x.values ms failed moves
          x.obeyed;
    }
