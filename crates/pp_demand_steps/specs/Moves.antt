-- The steps of a guess run whose calls are unfolded one by one, as a proof wants them: a call's body and its
-- postcondition apart from each other, and no agreement of calls. Source: own; unfolding on demand is of Suter, Köksal,
-- Kuncak, Satisfiability Modulo Recursive Programs, SAS 2011.
use Rattle.std.specs.Prelude.{ℕ, suc, ◌<◌, false, List, [], ◌∷◌, ◌++◌, Contains, Option, Some, None, length}
use Rattle.std.specs.Prelude.{slice_get}
use Rattle.pp_tree.specs.declared.operator.BinaryOp.TheVariants.{Equal}
use Rattle.pp_prog.specs.declared.expr.Function.{Function}
use Rattle.pp_prog.specs.declared.id.CheckId.{CheckId}
use Rattle.pp_prog.specs.Sorts.{param_sorts}
use Rattle.pp_steps.specs.declared.step.Step.TheVariants as steps
use Rattle.pp_steps.specs.Compile.{compile}
use Rattle.pp_steps.specs.Frames.{any_of, arguments, running}
use Rattle.pp_steps.specs.Guesses.{GuessSteps, Standing, asking, guessing, holding, implying, standing}
use Rattle.pp_steps.specs.Piece.{Piece, after, bind, demand, plain}

-- ---- one call

-- what is unfolded of a call that stands: its body, or its postcondition
pub data Move : Type 0 where
  Body : Standing → Move
  Post : Standing → Move

-- the call of a move
abbrev pub call_of : Move → Standing
call_of (Body c) = c
call_of (Post c) = c

-- where the call is reached and has an answer, the body has a value, which is the answer
abbrev pub bodied_of : List Function → Option Function → ℕ → Standing → Piece ℕ
bodied_of functions None k c = plain (steps.Both c.call.reach c.has ∷ steps.Not k ∷ []) (suc k) k
bodied_of functions (Some f) k c =
    let site = asking functions (suc c.call.wait) in
    bind k (plain (steps.Both c.call.reach c.has ∷ []) k k) (λ n done _.
    bind n (compile None site f.body n c.call.args done) (λ m v alive.
    bind m (plain (steps.Binary Equal v c.result ∷ []) m alive) (λ l same valued.
    bind l (demand false l valued same) (λ i _ agreed. implying i done agreed))))

-- where the call is reached and has an answer, the postcondition is true of the arguments and the answer
abbrev pub posted_of : List Function → Option Function → ℕ → Standing → Piece ℕ
posted_of functions None k c = plain (steps.Both c.call.reach c.has ∷ steps.Not k ∷ []) (suc k) k
posted_of functions (Some f) k c =
    let site = asking functions (suc c.call.wait) in
    bind k (plain (steps.Both c.call.reach c.has ∷ []) k k) (λ n done _.
    bind n (holding site f.post n (c.call.args ++ c.result ∷ []) done) (λ j _ ends. implying j done ends))

-- the steps of a move; its outcome is the number that is supposed to be true
abbrev pub move_steps : List Function → ℕ → Move → Piece ℕ
move_steps functions k (Body c) = bodied_of functions (slice_get functions c.call.callee.0) k c
move_steps functions k (Post c) = posted_of functions (slice_get functions c.call.callee.0) k c

-- ---- lists of moves

-- the move's steps behind those that stand
abbrev pub moved : List Function → GuessSteps → Move → GuessSteps
moved functions g m =
    let x = move_steps functions (length g.steps) m in
    record {
      steps = g.steps ++ x.steps;
      arguments = g.arguments;
      fails = g.fails;
      true_one = g.true_one;
      supposed = g.supposed ++ x.out ∷ [];
    }

-- those of each move, one behind the other
abbrev pub all_moved : List Function → GuessSteps → List Move → GuessSteps
all_moved functions g [] = g
all_moved functions g (m ∷ ms) = all_moved functions (moved functions g m) ms

-- the own frame of the guess run of f for this check, with all its calls open
abbrev pub started_alone : List Function → Function → CheckId → GuessSteps
started_alone functions f check =
    let args = arguments (param_sorts f.params) in
    let n = after 0 args in
    let run = running (guessing functions (Some check)) (Some check) f n args.out args.alive in
    let fails = any_of run.fails (after n run) args.alive in
    record {
      steps = args.steps ++ (run.steps ++ fails.steps);
      arguments = args.out;
      fails = fails.out;
      true_one = args.alive;
      supposed = [];
    }

-- the own frame, and the moves behind it
abbrev pub demanded : List Function → Function → CheckId → List Move → GuessSteps
demanded functions f check ms = all_moved functions (started_alone functions f check) ms

-- ---- which moves are allowed

-- the call of the move stands in the list, and is unfolded before round n
pub record IsAllowed (n : ℕ) (g : GuessSteps) (m : Move) : Type 0 where
  pub stands : Contains (standing 0 g.steps) (call_of m)
  pub early : (call_of m).call.wait < n

-- so is each move where it is made
abbrev pub AreAllowed : List Function → ℕ → GuessSteps → List Move → Type 0
AreAllowed functions n g [] = Unit {0}
AreAllowed functions n g (m ∷ ms) = IsAllowed n g m × AreAllowed functions n (moved functions g m) ms

-- each is, behind the own frame of the guess run of f for this check
pub record AreMoves (functions : List Function) (f : Function) (check : CheckId) (n : ℕ)
    (ms : List Move) : Type 0 where
  pub allowed : AreAllowed functions n (started_alone functions f check) ms
