-- How deep calls and expressions go: the measure of the evaluator.
use Rattle.std.proofs.Common.{◌≡◌, ℕ, zero, suc, ◌+◌, ◌-◌, ◌*◌, ◌<◌, max, List, [], Some, arith}
use Rattle.std.specs.Prelude.{slice_get}
use Rattle.pp_list.proofs.Lists.{found_most}
use Rattle.pp_prog.specs.declared.expr.Expr.{size-Expr}
use Rattle.pp_prog.specs.declared.expr.Function.{Function}
use Rattle.pp_prog.proofs.ExprSizes.{most_size, option_size}
use denote.Param.Weighed.{most}

-- the deepest of the expressions that a call of the function evaluates
abbrev pub function_size : Function → ℕ
function_size f = max (option_size f.pre) (max (most_size f.measure) (size-Expr f.body))

abbrev pub reach : List Function → ℕ
reach = most function_size

-- what one unit of fuel counts for
abbrev pub width : List Function → ℕ
width fs = 4 * reach fs + 8

-- a call with one unit less goes less deep
pub call_falls : (fs : List Function) (i : ℕ) (f : Function) (n : ℕ) → slice_get fs i ≡ Some f → 0 < n
    → (n - 1) * width fs + (4 * function_size f + 4) < n * width fs
call_falls fs i f zero is lt = absurd (omega arith)
call_falls fs i f (suc n) is lt =
    let less : suc n - 1 ≡ n = omega arith in
    rw less (omega (arith, found_most function_size fs i f is))
