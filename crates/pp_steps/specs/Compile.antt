-- The steps of an expression. What a call leaves is a parameter: its own steps, or an open call. A number tells whether
-- the expression is reached, and the piece tells whether it has a value. Merges choose by the number that tells
-- whether a branch is taken, never by its test alone: where nothing is reached, a test may stand for nothing.
-- Source: own.
use Rattle.std.specs.Prelude.{ℕ, suc, pos, false, List, [], ◌∷◌, ◌++◌, Option, Some, None, slice_index_or}
use Rattle.pp_tree.specs.declared.operator.BinaryOp.{BinaryOp}
use Rattle.pp_tree.specs.declared.operator.BinaryOp.TheVariants.{AndAlso, OrElse, Div, Rem, Equal}
use Rattle.pp_prog.specs.declared.expr.Case.{Case}
use Rattle.pp_prog.specs.declared.expr.Expr.{Expr}
use Rattle.pp_prog.specs.declared.expr.Expr.TheFolds.{fold-Case, fold-Expr}
use Rattle.pp_prog.specs.declared.expr.Expr.TheOpen as layer
use Rattle.pp_prog.specs.declared.id.CheckId.{CheckId}
use Rattle.pp_prog.specs.declared.id.FunctionId.{FunctionId}
use Rattle.pp_steps.specs.declared.step.Step.{Step}
use Rattle.pp_steps.specs.declared.step.Step.TheVariants as steps
use Rattle.pp_steps.specs.Patterns.{fitting}
use Rattle.pp_steps.specs.Piece.{Piece, after, asks, bind, choice, demand, failing, plain, possible}

-- what an expression is: from the next number, the numbers of the variables in scope, and the number that tells whether
-- it is reached
abbrev pub Compiling : Type 0
Compiling = ℕ → List ℕ → ℕ → Piece ℕ

-- what a case is: its pattern, with its guard and its body
abbrev pub Arm : Type 0
Arm = layer.Case-F Compiling (Unit {0})

-- what a call leaves: from the next number, the number that tells whether it is reached, the function, the site's
-- precondition check and measure check, and the numbers of the arguments
abbrev pub Site : Type 0
Site = ℕ → ℕ → FunctionId → Option CheckId → Option CheckId → List ℕ → Piece ℕ

-- one step, whose number is the outcome
abbrev pub one : Step → ℕ → ℕ → Piece ℕ
one s k alive = plain (s ∷ []) k alive

abbrev pub all_from : List ℕ → List Compiling → ℕ → List ℕ → ℕ → Piece (List ℕ)
all_from done [] k env reach = plain [] done reach
all_from done (m ∷ ms) k env reach = bind k (m k env reach) (λ n x alive. all_from (done ++ x ∷ []) ms n env alive)

-- several expressions, from left to right
abbrev pub all : List Compiling → ℕ → List ℕ → ℕ → Piece (List ℕ)
all = all_from []

-- where both numbers are true
abbrev pub when : ℕ → ℕ → ℕ → Piece ℕ
when k alive test = plain (steps.Both alive test ∷ []) k alive

-- where the first number is true and the second isn't; its own number is the second of the two steps
abbrev pub unless : ℕ → ℕ → ℕ → Piece ℕ
unless k alive test = plain (steps.Not test ∷ steps.Both alive k ∷ []) (suc k) alive

-- the branch `b` where the number `taken` is true, and otherwise the outcome that stands already
abbrev pub skipping : Compiling → ℕ → List ℕ → ℕ → ℕ → ℕ → Piece ℕ
skipping b k env taken out alive =
    let y = b k env taken in choice (after k y) taken y (plain [] (Some out) alive)

-- two branches of which at most one is reached
abbrev pub branches : Compiling → Compiling → ℕ → List ℕ → ℕ → ℕ → Piece ℕ
branches a b k env taken missed =
    let x = a k env taken in
    let n = after k x in
    let y = b n env missed in
    choice (after n y) taken x (possible y)

-- all of the numbers are true, and the first one
abbrev pub all_of : ℕ → List ℕ → ℕ → Piece ℕ
all_of k [] alive = plain [] alive alive
all_of k (t ∷ ts) alive = bind k (when k alive t) (λ n both _. all_of n ts both)

-- where a case is taken, and where the next one is tried, of a match that is reached and whose pattern fits where
-- these numbers are true
abbrev pub deciding : Option Compiling → ℕ → List ℕ → ℕ → ℕ → Piece (ℕ × ℕ)
deciding None k env reach fits =
    bind k (unless k reach fits) (λ n missed _. plain [] (fits, missed) reach)
deciding (Some guard) k env reach fits =
    bind k (guard k env fits) (λ n x alive.
    bind n (when n alive x) (λ m taken _.
    bind m (unless m alive x) (λ l missed _.
    plain (steps.Choose fits missed reach ∷ []) (taken, l) reach)))

abbrev pub number_or : ℕ → Option ℕ → ℕ
number_or d None = d
number_or d (Some n) = n

-- the outcome of a match; a match without a case, which no valid program has, gives the matched value
abbrev pub matched : ℕ → Piece (Option ℕ) → Piece ℕ
matched t x = record { steps = x.steps; out = number_or t x.out; alive = x.alive; fails = x.fails }

abbrev pub arm_step : layer.Case-F Compiling Arm → Arm
arm_step c = record { pattern = c.pattern; guard = c.guard; body = c.body }

module _ (asked : Option CheckId) where
  abbrev pub quotient : BinaryOp → Option CheckId → ℕ → ℕ → ℕ → ℕ → Piece ℕ
  quotient op check k alive x y =
      bind k (plain (steps.Int (pos 0) ∷ steps.Binary Equal y k ∷ steps.Not (suc k) ∷ []) (suc (suc k)) alive)
      (λ n nonzero _.
      bind n (demand (asks asked check) n alive nonzero) (λ m _ going.
      one (steps.Binary op x y) m going))

  -- an operator on two values. A divisor of 0 fails the site's check.
  abbrev pub operating : BinaryOp → Option CheckId → ℕ → ℕ → ℕ → ℕ → Piece ℕ
  operating Div check k alive x y = quotient Div check k alive x y
  operating Rem check k alive x y = quotient Rem check k alive x y
  operating op check k alive x y = one (steps.Binary op x y) k alive

  abbrev pub binary : BinaryOp → Compiling → Compiling → Option CheckId → Compiling
  binary AndAlso a b check k env reach =
      bind k (a k env reach) (λ n x alive.
      bind n (when n alive x) (λ m taken _. skipping b m env taken x alive))
  binary OrElse a b check k env reach =
      bind k (a k env reach) (λ n x alive.
      bind n (unless n alive x) (λ m taken _. skipping b m env taken x alive))
  binary op a b check k env reach =
      bind k (a k env reach) (λ n x alive.
      bind n (b n env alive) (λ m y going. operating op check m going x y))

  -- the cases of a match with the value number t, from the first that fits and whose guard is true
  abbrev pub cases : List Arm → Option CheckId → ℕ → ℕ → List ℕ → ℕ → Piece (Option ℕ)
  cases [] check t k env reach = record {
    steps = steps.Bool false ∷ [];
    out = None;
    alive = k;
    fails = failing (asks asked check) reach;
  }
  cases (arm ∷ arms) check t k env reach =
      let p = fitting arm.pattern k t in
      let inner = env ++ p.bound in
      possible (bind k (plain p.steps t reach) (λ n _ _.
      bind n (all_of n p.tests reach) (λ m fits _.
      bind m (deciding arm.guard m inner reach fits) (λ l goes _.
      let x = arm.body l inner goes.0 in
      let i = after l x in
      let y = cases arms check t i env goes.1 in
      choice (after i y) goes.0 x y))))

  module _ (site : Site) where
    -- one level of an expression, with the pieces of its parts in their place
    abbrev pub compile_step : layer.Expr-F Compiling Arm → Compiling
    compile_step (layer.Int n) k env reach = one (steps.Int n) k reach
    compile_step (layer.Bool b) k env reach = one (steps.Bool b) k reach
    compile_step (layer.Var i) k env reach = plain [] (slice_index_or env i 0) reach
    compile_step (layer.Unary op a) k env reach = bind k (a k env reach) (λ n x alive. one (steps.Unary op x) n alive)
    compile_step (layer.Binary op a b check) k env reach = binary op a b check k env reach
    compile_step (layer.Construct c args) k env reach =
        bind k (all args k env reach) (λ n xs alive. one (steps.Construct c xs) n alive)
    compile_step (layer.Field e i) k env reach = bind k (e k env reach) (λ n x alive. one (steps.Field x i) n alive)
    compile_step (layer.If c a b) k env reach =
        bind k (c k env reach) (λ n x alive.
        bind n (when n alive x) (λ m taken _.
        bind m (unless m alive x) (λ l missed _. branches a b l env taken missed)))
    compile_step (layer.Match e arms check) k env reach =
        bind k (e k env reach) (λ n t alive. matched t (cases arms check t n env alive))
    compile_step (layer.Val bound rest) k env reach =
        bind k (bound k env reach) (λ n x alive. rest n (env ++ x ∷ []) alive)
    compile_step (layer.Assert check c rest) k env reach =
        bind k (c k env reach) (λ n x alive.
        bind n (demand (asks asked (Some check)) n alive x) (λ m _ going. rest m env going))
    compile_step (layer.Call g args pre measure) k env reach =
        bind k (all args k env reach) (λ n xs alive. site n alive g pre measure xs)

    -- the steps of an expression
    abbrev pub compile : Expr → Compiling
    compile = fold-Expr Compiling Arm compile_step arm_step

    -- a case, with its guard and its body
    abbrev pub arm : Case → Arm
    arm = fold-Case Compiling Arm compile_step arm_step
