-- The steps of calls and of a run. A call is followed: its own frame's steps stand at the site, and those of the calls
-- in it with one unit of fuel less. Source: own.
use Rattle.std.specs.Prelude.{ℕ, zero, suc, true, false, List, [], ◌∷◌, ◌++◌, Option, Some, None, map, slice_get}
use Rattle.pp_tree.specs.declared.operator.BinaryOp.TheVariants.{Equal}
use Rattle.pp_prog.specs.declared.expr.Expr.{Expr}
use Rattle.pp_prog.specs.declared.expr.Function.{Function}
use Rattle.pp_prog.specs.declared.id.CheckId.{CheckId}
use Rattle.pp_prog.specs.declared.sort.Sort.{Sort}
use Rattle.pp_prog.specs.declared.sort.Sort.TheVariants as sort
use Rattle.pp_prog.specs.Sorts.{param_sorts}
use Rattle.pp_steps.specs.declared.step.Step.{Step}
use Rattle.pp_steps.specs.declared.step.Step.TheVariants as steps
use Rattle.pp_steps.specs.Compile.{Site, all, compile, one}
use Rattle.pp_steps.specs.Piece.{Piece, after, asks, bind, demand, plain}

-- the numbers of a frame's measure values, if it has any
abbrev pub Frame : Type 0
Frame = Option (List ℕ)

-- ---- measures

-- some component goes down, and all before it are equal
abbrev pub falling : List ℕ → List ℕ → ℕ → ℕ → Piece ℕ
falling [] old k alive = one (steps.Bool false) k alive
falling (x ∷ xs) [] k alive = one (steps.Bool false) k alive
falling (x ∷ []) (y ∷ ys) k alive = one (steps.GoesDown x y) k alive
falling (x ∷ z ∷ xs) (y ∷ ys) k alive =
    bind k (plain (steps.GoesDown x y ∷ steps.Binary Equal x y ∷ []) k alive) (λ n down _.
    bind n (falling (z ∷ xs) ys n alive) (λ m rest _.
    plain (steps.Both (suc k) rest ∷ steps.Choose down down m ∷ []) (suc m) alive))

-- the number is true, and the values of the lists are of one sort at each place
abbrev pub shaped : List ℕ → List ℕ → ℕ → ℕ → ℕ → Piece ℕ
shaped [] [] k test alive = plain [] test alive
shaped [] (y ∷ ys) k test alive = one (steps.Bool false) k alive
shaped (x ∷ xs) [] k test alive = one (steps.Bool false) k alive
shaped (x ∷ xs) (y ∷ ys) k test alive =
    bind k (plain (steps.IsAlike x y ∷ steps.Both test k ∷ []) (suc k) alive) (λ n both _. shaped xs ys n both alive)

-- whether the new measure values are below the old ones
abbrev pub lower : List ℕ → List ℕ → ℕ → ℕ → Piece ℕ
lower new old k alive = bind k (falling new old k alive) (λ n falls _. shaped new old n falls alive)

-- where the site has a measure check and both frames have measure values, the new ones have to be below the old ones
abbrev pub descending : Option CheckId → Option CheckId → Frame → Frame → ℕ → ℕ → Piece ℕ
descending asked None old new k alive = plain [] alive alive
descending asked (Some check) None new k alive = plain [] alive alive
descending asked (Some check) (Some old) None k alive = plain [] alive alive
descending asked (Some check) (Some old) (Some new) k alive =
    bind k (lower new old k alive) (λ n below going. demand (asks asked (Some check)) n going below)

-- the measure values of a frame
abbrev pub measuring : Option CheckId → Site → List Expr → ℕ → List ℕ → ℕ → Piece Frame
measuring asked site [] k args reach = plain [] None reach
measuring asked site (e ∷ es) k args reach =
    bind k (all (map (compile asked site) (e ∷ es)) k args reach) (λ n values alive. plain [] (Some values) alive)

-- ---- calls

-- the precondition of a called function
abbrev pub admitting : Option CheckId → Site → Option Expr → Option CheckId → ℕ → List ℕ → ℕ → Piece ℕ
admitting asked site None check k args reach = plain [] reach reach
admitting asked site (Some pre) check k args reach =
    bind k (compile None site pre k args reach) (λ n x alive. demand (asks asked check) n alive x)

abbrev pub result_of : Option Function → Sort
result_of None = sort.Bool
result_of (Some f) = f.result

-- a call without an outcome, whose result stands for nothing
abbrev pub stopped : Option Function → ℕ → Piece ℕ
stopped f k = plain (steps.Open (result_of f) ∷ steps.Bool false ∷ []) k (suc k)

-- a call of the function: its precondition, its measure list, which is compared, and its body. What the calls in it
-- leave is a parameter, by the frame that they come from.
abbrev pub entering : (Frame → Site) → Option CheckId → Frame → Option Function → ℕ → ℕ → Option CheckId
    → Option CheckId → List ℕ → Piece ℕ
entering inner asked frame None k reach pre measure args = stopped None k
entering inner asked frame (Some f) k reach pre measure args =
    bind k (admitting asked (inner None) f.pre pre k args reach) (λ n _ allowed.
    bind n (measuring None (inner None) f.measure n args allowed) (λ m new measured.
    bind m (descending asked measure frame new m measured) (λ l _ entered.
    compile None (inner new) f.body l args entered)))

module _ (functions : List Function) where
  -- calls that are followed with so much fuel, in a frame where this check is asked
  abbrev pub inlined : ℕ → Option CheckId → Frame → Site
  inlined zero asked frame k reach g pre measure args = stopped (slice_get functions g.0) k
  inlined (suc n) asked frame k reach g pre measure args =
      entering (inlined n None) asked frame (slice_get functions g.0) k reach pre measure args

-- ---- the run

-- the numbers from k on of so many things
abbrev pub numbers : {A : Type 0} → ℕ → List A → List ℕ
numbers k [] = []
numbers k (x ∷ xs) = k ∷ numbers (suc k) xs

abbrev pub open_step : Sort → Step
open_step s = steps.Open s

-- the arguments, and a number that is true
abbrev pub arguments : List Sort → Piece (List ℕ)
arguments ss = let x : Piece ℕ = plain (map open_step ss) 0 0 in
    bind 0 x (λ n _ _. plain (steps.Bool true ∷ []) (numbers 0 ss) n)

-- the postcondition, of the arguments and the result
abbrev pub finishing : Option CheckId → Site → Option (CheckId × Expr) → ℕ → List ℕ → ℕ → Piece ℕ
finishing asked site None k values reach = plain [] reach reach
finishing asked site (Some post) k values reach =
    bind k (compile asked site post.1 k values reach) (λ n x alive. demand (asks asked (Some post.0)) n alive x)

-- whether the precondition of the run itself is true
abbrev pub allowing : Option CheckId → Site → Option Expr → ℕ → List ℕ → ℕ → Piece ℕ
allowing asked site None k args reach = plain [] reach reach
allowing asked site (Some pre) k args reach =
    bind k (compile asked site pre k args reach) (λ n x alive. demand false n alive x)

-- the measure list, the body and the postcondition of the run
abbrev pub starting : (Frame → Site) → Option CheckId → Function → ℕ → List ℕ → ℕ → Piece ℕ
starting calls asked f k args reach =
    bind k (measuring asked (calls None) f.measure k args reach) (λ n frame measured.
    bind n (compile asked (calls frame) f.body n args measured) (λ m v alive.
    finishing asked (calls frame) f.post m (args ++ v ∷ []) alive))

-- the run of f, whose calls leave these steps
abbrev pub running : (Frame → Site) → Option CheckId → Function → ℕ → List ℕ → ℕ → Piece ℕ
running calls asked f k args reach =
    bind k (allowing asked (calls None) f.pre k args reach) (λ n _ allowed. starting calls asked f n args allowed)

-- whether one of the numbers is true
abbrev pub any_of : List ℕ → ℕ → ℕ → Piece ℕ
any_of [] k alive = one (steps.Bool false) k alive
any_of (x ∷ []) k alive = plain [] x alive
any_of (x ∷ y ∷ xs) k alive = bind k (any_of (y ∷ xs) k alive) (λ n some _. one (steps.Choose x x some) n alive)

-- the steps of a run, the numbers of its arguments, and the number that tells whether the check fails
pub record RunSteps : Type 0 where
  pub steps : List Step
  pub arguments : List ℕ
  pub fails : ℕ

-- the run of f with this fuel, of which this check is asked
abbrev pub run_steps : List Function → Function → CheckId → ℕ → RunSteps
run_steps functions f check fuel =
    let args = arguments (param_sorts f.params) in
    let n = after 0 args in
    let run = running (inlined functions fuel (Some check)) (Some check) f n args.out args.alive in
    let fails = any_of run.fails (after n run) args.alive in
    record { steps = args.steps ++ (run.steps ++ fails.steps); arguments = args.out; fails = fails.out }
