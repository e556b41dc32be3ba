-- The steps of a guess run. Its calls are left open: a number tells whether a call has an answer, and the next one is
-- the answer. They are unfolded round after round, each in steps of its own behind those that stand, which say what
-- has to hold of a call that has an answer. Each two calls of one function with equal arguments agree. Source: Suter,
-- Köksal, Kuncak, Satisfiability Modulo Recursive Programs, SAS 2011; that a call may have no answer is own.
use Rattle.std.specs.Prelude.{ℕ, zero, suc, nat_eq, nat_lt, Bool, true, false, if◌then◌else◌, List, [], ◌∷◌, ◌++◌}
use Rattle.std.specs.Prelude.{Option, Some, None, length, slice_get}
use Rattle.pp_tree.specs.declared.operator.BinaryOp.TheVariants.{Equal}
use Rattle.pp_prog.specs.declared.expr.Expr.{Expr}
use Rattle.pp_prog.specs.declared.expr.Function.{Function}
use Rattle.pp_prog.specs.declared.id.CheckId.{CheckId}
use Rattle.pp_prog.specs.declared.id.FunctionId.{FunctionId}
use Rattle.pp_prog.specs.declared.sort.Sort.{Sort}
use Rattle.pp_prog.specs.Sorts.{param_sorts}
use Rattle.pp_steps.specs.declared.step.OpenCall.{OpenCall}
use Rattle.pp_steps.specs.declared.step.Step.{Step}
use Rattle.pp_steps.specs.declared.step.Step.TheVariants as steps
use Rattle.pp_steps.specs.Compile.{Site, compile}
use Rattle.pp_steps.specs.Frames.{Frame, admitting, any_of, arguments, descending, measuring, result_of, running}
use Rattle.pp_steps.specs.Frames.{stopped}
use Rattle.pp_steps.specs.Piece.{Piece, after, asks, bind, demand, plain}

-- ---- calls

abbrev pub params_of : Option Function → List Sort
params_of None = []
params_of (Some f) = param_sorts f.params

-- the call of the function with these arguments, which waits for so many rounds and is reached where a number is true
abbrev pub open_call : List Function → ℕ → ℕ → FunctionId → List ℕ → OpenCall
open_call functions wait reach g args =
    let f = slice_get functions g.0 in
    record {
      callee = g;
      wait = wait;
      reach = reach;
      params = params_of f;
      result = result_of f;
      args = args;
    }

-- a call that is left open: whether it has an answer, and which
abbrev pub asking : List Function → ℕ → Site
asking functions wait k reach g pre measure args =
    let c = open_call functions wait reach g args in
    plain (steps.HasAnswer c ∷ steps.Answer c ∷ steps.Both reach k ∷ []) (suc k) (suc (suc k))

-- the measure of the called function is compared where the site's measure check is the asked one
abbrev pub comparing_if : Bool → Option CheckId → Site → Frame → List Expr → Option CheckId → ℕ → List ℕ → ℕ → Piece ℕ
comparing_if false asked site frame measure check k args reach = plain [] reach reach
comparing_if true asked site frame measure check k args reach =
    bind k (measuring None site measure k args reach) (λ n new measured. descending asked check frame new n measured)

abbrev pub comparing : Option CheckId → Site → Frame → List Expr → Option CheckId → ℕ → List ℕ → ℕ → Piece ℕ
comparing asked site frame measure check = comparing_if (asks asked check) asked site frame measure check

-- a call from the own frame: the precondition, the measure where it is looked at, and the call. The calls in the
-- precondition and the measure list wait one round more.
abbrev pub own_call : List Function → Option CheckId → Frame → Option Function → Site
own_call functions asked frame None k reach g pre measure args = stopped None k
own_call functions asked frame (Some f) k reach g pre measure args =
    bind k (admitting asked (asking functions 1) f.pre pre k args reach) (λ n _ allowed.
    bind n (comparing asked (asking functions 1) frame f.measure measure n args allowed) (λ m _ entered.
    asking functions 0 m entered g pre measure args))

abbrev pub guessing : List Function → Option CheckId → Frame → Site
guessing functions asked frame k reach g = own_call functions asked frame (slice_get functions g.0) k reach g

-- ---- calls that stand in a list of steps

-- an open call, with the number that tells whether it has an answer, and the number of the answer
pub record Standing : Type 0 where
  pub call : OpenCall
  pub has : ℕ
  pub result : ℕ

-- the open calls of the steps, the first of which has the number k
abbrev pub standing : ℕ → List Step → List Standing
standing k [] = []
standing k (steps.HasAnswer c ∷ ss) = record { call = c; has = k; result = suc k } ∷ standing (suc k) ss
standing k (s ∷ ss) = standing (suc k) ss

-- ---- what holds of a call that is unfolded

-- where the first number is true, so is the second
abbrev pub implying : ℕ → ℕ → ℕ → Piece ℕ
implying k a b = plain (steps.Not b ∷ steps.Both a k ∷ steps.Not (suc k) ∷ []) (suc (suc k)) a

-- the postcondition is true of the arguments and the result
abbrev pub holding : Site → Option (CheckId × Expr) → ℕ → List ℕ → ℕ → Piece ℕ
holding site None k values reach = plain [] reach reach
holding site (Some post) k values reach =
    bind k (compile None site post.1 k values reach) (λ n x alive. demand false n alive x)

-- where the call is reached and has an answer, the body has a value, which is the answer, and the postcondition is true
-- of it
abbrev pub unfolded_of : List Function → Option Function → ℕ → Standing → Piece ℕ
unfolded_of functions None k c = plain (steps.Both c.call.reach c.has ∷ steps.Not k ∷ []) (suc k) k
unfolded_of functions (Some f) k c =
    let site = asking functions (suc c.call.wait) in
    bind k (plain (steps.Both c.call.reach c.has ∷ []) k k) (λ n done _.
    bind n (compile None site f.body n c.call.args done) (λ m v alive.
    bind m (plain (steps.Binary Equal v c.result ∷ []) m alive) (λ l same valued.
    bind l (demand false l valued same) (λ i _ agreed.
    bind i (holding site f.post i (c.call.args ++ c.result ∷ []) agreed) (λ j _ ends.
    implying j done ends)))))

abbrev pub unfolded_call : List Function → ℕ → Standing → Piece ℕ
unfolded_call functions k c = unfolded_of functions (slice_get functions c.call.callee.0) k c

-- ---- agreement

-- whether the values are equal at each place, and this number is true
abbrev pub equal_all : ℕ → List ℕ → List ℕ → ℕ → Piece ℕ
equal_all k [] [] test = plain [] test test
equal_all k [] (y ∷ ys) test = plain (steps.Bool false ∷ []) k test
equal_all k (x ∷ xs) [] test = plain (steps.Bool false ∷ []) k test
equal_all k (x ∷ xs) (y ∷ ys) test =
    bind k (plain (steps.Binary Equal x y ∷ steps.Both test k ∷ []) (suc k) test)
    (λ n both _. equal_all n xs ys both)

-- where the number `near` is true, both calls have an answer or none has
abbrev pub answering_alike : Bool → ℕ → Standing → Standing → ℕ → Piece (List ℕ)
answering_alike false k c d near = plain [] [] near
answering_alike true k c d near =
    bind k (plain (steps.Binary Equal c.has d.has ∷ []) k near) (λ n alike _.
    bind n (implying n near alike) (λ m holds _. plain [] (holds ∷ []) near))

-- where it is true and both have an answer, these are equal
abbrev pub equal_answers : ℕ → Standing → Standing → ℕ → Piece (List ℕ)
equal_answers k c d near =
    bind k (plain (steps.Both near c.has ∷ steps.Both k d.has ∷ steps.Binary Equal c.result d.result ∷ []) (suc k) near)
    (λ n both _. bind n (implying n both (suc (suc k))) (λ m holds _. plain [] (holds ∷ []) near))

-- Two calls of one function that are reached with equal arguments: where both have answers, these are equal; and where
-- they wait equally long, both have an answer or none has. The number `true_one` is true.
abbrev pub agreeing : ℕ → Standing → Standing → ℕ → Piece (List ℕ)
agreeing k c d true_one =
    bind k (equal_all k c.call.args d.call.args true_one) (λ n same _.
    bind n (plain (steps.Both same c.call.reach ∷ steps.Both n d.call.reach ∷ []) (suc n) same) (λ m near _.
    bind m (answering_alike (nat_eq c.call.wait d.call.wait) m c d near) (λ i alike _.
    bind i (equal_answers i c d near) (λ j equal _. plain [] (alike ++ equal) same))))

-- the call with each of these
abbrev pub agreeing_with : ℕ → Standing → List Standing → ℕ → Piece (List ℕ)
agreeing_with k c [] true_one = plain [] [] true_one
agreeing_with k c (d ∷ ds) true_one =
    bind k (if nat_eq c.call.callee.0 d.call.callee.0 then agreeing k c d true_one else plain [] [] true_one)
    (λ n first _. bind n (agreeing_with n c ds true_one) (λ m rest _. plain [] (first ++ rest) true_one))

-- each new call with the old ones and with the new ones before it
abbrev pub all_agreeing : ℕ → List Standing → List Standing → ℕ → Piece (List ℕ)
all_agreeing k olds [] true_one = plain [] [] true_one
all_agreeing k olds (c ∷ cs) true_one =
    bind k (agreeing_with k c olds true_one)
    (λ n first _. bind n (all_agreeing n (olds ++ c ∷ []) cs true_one)
    (λ m rest _. plain [] (first ++ rest) true_one))

-- ---- rounds

-- the steps so far, the arguments, the number that tells whether the check fails, a number that is true, and the
-- numbers that are supposed to be true
pub record GuessSteps : Type 0 where
  pub steps : List Step
  pub arguments : List ℕ
  pub fails : ℕ
  pub true_one : ℕ
  pub supposed : List ℕ

-- the calls in front of this number, and those from it on
abbrev pub calls_before : ℕ → List Standing → List Standing
calls_before n [] = []
calls_before n (c ∷ cs) = if nat_lt c.has n then c ∷ calls_before n cs else calls_before n cs

abbrev pub calls_from : ℕ → List Standing → List Standing
calls_from n [] = []
calls_from n (c ∷ cs) = if nat_lt c.has n then calls_from n cs else c ∷ calls_from n cs

-- with the agreement of the calls from number n on, with all calls
abbrev pub with_agreement : ℕ → GuessSteps → GuessSteps
with_agreement n g =
    let calls = standing 0 g.steps in
    let x = all_agreeing (length g.steps) (calls_before n calls) (calls_from n calls) g.true_one in
    record {
      steps = g.steps ++ x.steps;
      arguments = g.arguments;
      fails = g.fails;
      true_one = g.true_one;
      supposed = g.supposed ++ x.out;
    }

abbrev pub one_unfolded : List Function → Bool → ℕ → Standing → Piece (List ℕ)
one_unfolded functions false k c = plain [] [] 0
one_unfolded functions true k c = bind k (unfolded_call functions k c) (λ n holds _. plain [] (holds ∷ []) 0)

-- the calls that wait for so many rounds are unfolded
abbrev pub all_unfolded : List Function → ℕ → ℕ → List Standing → Piece (List ℕ)
all_unfolded functions wait k [] = plain [] [] 0
all_unfolded functions wait k (c ∷ cs) =
    bind k (one_unfolded functions (nat_eq c.call.wait wait) k c)
    (λ n first _. bind n (all_unfolded functions wait n cs) (λ m rest _. plain [] (first ++ rest) 0))

-- the next round after round n
abbrev pub grown : List Function → ℕ → GuessSteps → GuessSteps
grown functions n g =
    let k = length g.steps in
    let x = all_unfolded functions n k (standing 0 g.steps) in
    with_agreement k
    (record {
      steps = g.steps ++ x.steps;
      arguments = g.arguments;
      fails = g.fails;
      true_one = g.true_one;
      supposed = g.supposed ++ x.out;
    })

-- round 0 of the guess run of f for this check
abbrev pub started_guess : List Function → Function → CheckId → GuessSteps
started_guess functions f check =
    let args = arguments (param_sorts f.params) in
    let n = after 0 args in
    let run = running (guessing functions (Some check)) (Some check) f n args.out args.alive in
    let fails = any_of run.fails (after n run) args.alive in
    with_agreement 0
    (record {
      steps = args.steps ++ (run.steps ++ fails.steps);
      arguments = args.out;
      fails = fails.out;
      true_one = args.alive;
      supposed = [];
    })

-- round n
abbrev pub guess_steps : List Function → Function → CheckId → ℕ → GuessSteps
guess_steps functions f check zero = started_guess functions f check
guess_steps functions f check (suc n) = grown functions n (guess_steps functions f check n)
