-- How the steps of a guess run are written. Source: own.
use Rattle.std.specs.Prelude.{◌≡◌, ℕ, List, [], ◌++◌, Some}
use Rattle.pp_prog.specs.declared.expr.Function.{Function}
use Rattle.pp_prog.specs.declared.id.CheckId.{CheckId}
use Rattle.pp_prog.specs.Sorts.{param_sorts}
use Rattle.pp_steps.specs.Compile.{Site}
use Rattle.pp_steps.specs.Frames.{Frame, any_of, arguments, running}
use Rattle.pp_steps.specs.Guesses.{GuessSteps, Standing}
use Rattle.pp_steps.specs.Piece.{Piece, after}
use Rattle.pp_demand_steps.specs.Moves.{Body, Move, Post}
use Rattle.pp_compile.specs.declared.moves.Unfolding.{Unfolding}
use Rattle.pp_compile.specs.declared.moves.Unfolding.TheVariants as part
use Rattle.pp_compile.specs.declared.standing.StandingCall.{StandingCall}
use Rattle.pp_compile.specs.declared.work.Guess.{Guess}
use Rattle.pp_compile.specs.declared.work.Work.{Work}
use Rattle.pp_compile.specs.Written.{IsWritten}

-- an open call of a list of steps
abbrev pub stands : StandingCall → Standing
stands c = record { call = c.call; has = c.has; result = c.result }

-- what is unfolded of the call
abbrev pub move_of : Unfolding → Standing → Move
move_of part.Body c = Body c
move_of part.Post c = Post c

-- the steps of a guess run
abbrev pub guess_of : Guess → GuessSteps
guess_of g = record {
  steps = g.steps;
  arguments = g.arguments;
  fails = g.fails;
  true_one = g.true_one;
  supposed = g.supposed;
}

-- the piece was written, and its outcomes stand behind the numbers that stood
pub record IsAdded (o n : Work) (p q : List ℕ) (x : Piece (List ℕ)) : Type 0 where
  pub written : IsWritten o n x
  pub added : q ≡ p ++ x.out

-- a run of f for this check, whose calls leave these steps, before anything is supposed
abbrev pub whole_run : (Frame → Site) → CheckId → Function → GuessSteps
whole_run calls check f =
    let args = arguments (param_sorts f.params) in
    let n = after 0 args in
    let run = running calls (Some check) f n args.out args.alive in
    let fails = any_of run.fails (after n run) args.alive in
    record {
      steps = args.steps ++ (run.steps ++ fails.steps);
      arguments = args.out;
      fails = fails.out;
      true_one = args.alive;
      supposed = [];
    }
