-- How a piece is written. Source: own.
use Rattle.std.specs.Prelude.{◌≡◌, ℕ, suc, Bool, false, List, [], ◌∷◌, ◌++◌, Option, None}
use Rattle.pp_tree.specs.declared.operator.BinaryOp.{BinaryOp}
use Rattle.pp_prog.specs.declared.id.CheckId.{CheckId}
use Rattle.pp_steps.specs.declared.step.Step.TheVariants as steps
use Rattle.pp_steps.specs.Compile.{Arm, Compiling, all_of, deciding, operating, skipping, unless, when}
use Rattle.pp_steps.specs.Frames.{Frame, RunSteps}
use Rattle.pp_steps.specs.Patterns.{Fitting, fitting}
use Rattle.pp_steps.specs.Piece.{Piece, bind, failing, pick_step, picked, plain}
use Rattle.pp_compile.specs.declared.work.Branch.{Branch}
use Rattle.pp_compile.specs.declared.work.Ends.{Ends}
use Rattle.pp_compile.specs.declared.work.Framed.{Framed}
use Rattle.pp_compile.specs.declared.work.Goes.{Goes}
use Rattle.pp_compile.specs.declared.work.Lists.{Lists}
use Rattle.pp_compile.specs.declared.work.Tests.{Tests}
use Rattle.pp_compile.specs.declared.work.Tried.{Tried}
use Rattle.pp_compile.specs.declared.work.Run.{Run}
use Rattle.pp_compile.specs.declared.work.Work.{Work}

-- the piece's steps stand behind those that stood, and so do the numbers that tell failures
pub record IsWritten {A : Type 0} (o n : Work) (x : Piece A) : Type 0 where
  pub steps : n.steps ≡ o.steps ++ x.steps
  pub fails : n.fails ≡ o.fails ++ x.fails

-- the piece was written, and these are its ends
pub record IsMade (o n : Work) (x : Piece ℕ) (r : Ends) : Type 0 where
  pub written : IsWritten o n x
  pub out : r.out ≡ x.out
  pub alive : r.alive ≡ x.alive

-- so for a piece of several values
pub record AreMade (o n : Work) (x : Piece (List ℕ)) (r : Lists) : Type 0 where
  pub written : IsWritten o n x
  pub out : r.out ≡ x.out
  pub alive : r.alive ≡ x.alive

-- so for the measure values of a frame
pub record IsFramed (o n : Work) (x : Piece Frame) (r : Framed) : Type 0 where
  pub written : IsWritten o n x
  pub out : r.frame ≡ x.out
  pub alive : r.alive ≡ x.alive

-- so for the cases of a match
pub record IsCased (o n : Work) (x : Piece (Option ℕ)) (r : Branch) : Type 0 where
  pub written : IsWritten o n x
  pub out : r.out ≡ x.out
  pub alive : r.alive ≡ x.alive

-- so for where a case is taken
pub record IsDecided (o n : Work) (x : Piece (ℕ × ℕ)) (r : Goes) : Type 0 where
  pub written : IsWritten o n x
  pub taken : r.taken ≡ x.out.0
  pub missed : r.missed ≡ x.out.1

-- the steps of a pattern were written, and its tests and its bound numbers stand behind those that stood
pub record IsFitted (o n : Work) (p q : Tests) (x : Fitting) : Type 0 where
  pub steps : n.steps ≡ o.steps ++ x.steps
  pub fails : n.fails ≡ o.fails
  pub tests : q.tests ≡ p.tests ++ x.tests
  pub bound : q.bound ≡ p.bound ++ x.bound

-- a case at a value, with its ends: where it is taken, where the next one is tried, and its body's ends
pub record Attempt : Type 0 where
  pub taken : ℕ
  pub missed : ℕ
  pub out : ℕ

-- the steps of a case: its pattern's, its guard's and its body's
abbrev pub attempting : Arm → ℕ → ℕ → List ℕ → ℕ → Piece Attempt
attempting arm t k env reach =
    let p = fitting arm.pattern k t in
    let inner = env ++ p.bound in
    bind k (plain p.steps t reach) (λ n _ _.
    bind n (all_of n p.tests reach) (λ m fits _.
    bind m (deciding arm.guard m inner reach fits) (λ l goes _.
    let x = arm.body l inner goes.0 in
    record {
      steps = x.steps;
      out = record { taken = goes.0; missed = goes.1; out = x.out };
      alive = x.alive;
      fails = x.fails;
    })))

pub record IsTried (o n : Work) (arm : Arm) (t k : ℕ) (env : List ℕ) (reach : ℕ) (r : Tried) : Type 0 where
  pub written : IsWritten o n (attempting arm t k env reach)
  pub taken : r.taken ≡ (attempting arm t k env reach).out.taken
  pub missed : r.missed ≡ (attempting arm t k env reach).out.missed
  pub out : r.left.out ≡ (attempting arm t k env reach).out.out
  pub alive : r.left.alive ≡ (attempting arm t k env reach).alive

-- the steps that follow two branches
abbrev pub chosen : ℕ → ℕ → Ends → Option ℕ → ℕ → Piece ℕ
chosen k taken left right alive =
    plain (steps.Choose taken left.alive alive ∷ pick_step taken left.out right) (picked (suc k) left.out right) k

-- no case is left
abbrev pub no_case : Bool → ℕ → ℕ → Piece (Option ℕ)
no_case asked k reach = record {
  steps = steps.Bool false ∷ [];
  out = None;
  alive = k;
  fails = failing asked
      reach;
}

-- `&&` and `||`, and the operators that evaluate both operands
abbrev pub conjunction : Compiling → Compiling → Compiling
conjunction a b k env reach =
    bind k (a k env reach) (λ n x alive. bind n (when n alive x) (λ m taken _. skipping b m env taken x alive))

abbrev pub disjunction : Compiling → Compiling → Compiling
disjunction a b k env reach =
    bind k (a k env reach) (λ n x alive. bind n (unless n alive x) (λ m taken _. skipping b m env taken x alive))

abbrev pub strict : Option CheckId → BinaryOp → Compiling → Compiling → Option CheckId → Compiling
strict asked op a b check k env reach =
    bind k (a k env reach) (λ n x alive. bind n (b n env alive) (λ m y going. operating asked op check m going x y))

-- these are the steps of the run, the numbers of its arguments, and the number that tells whether the check fails
pub record IsRunOf (x : RunSteps) (r : Run) : Type 0 where
  pub steps : r.steps ≡ x.steps
  pub arguments : r.arguments ≡ x.arguments
  pub fails : r.fails ≡ x.fails
