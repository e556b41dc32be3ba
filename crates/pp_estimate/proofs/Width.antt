-- How deep calls and expressions go: the measure of the visit.
use Rattle.std.proofs.Common.{ℕ, ◌+◌, ◌*◌, max, Bool, true, false, List, Option, Some}
use Rattle.std.proofs.Common.{None}
use Rattle.pp_prog.specs.declared.expr.Expr.{Expr, size-Expr}
use Rattle.pp_prog.specs.declared.expr.Function.{Function}
use Rattle.pp_prog.specs.declared.id.CheckId.{CheckId}
use Rattle.pp_prog.proofs.ExprSizes.{most_size, option_size}
use denote.Param.Weighed.{most}

abbrev pub post_size : Option (CheckId × Expr) → ℕ
post_size None = 0
post_size (Some post) = size-Expr post.1

-- the deepest of the expressions that a frame of the function visits
abbrev pub function_size : Function → ℕ
function_size f =
    max (option_size f.pre) (max (most_size f.measure) (max (size-Expr f.body) (post_size f.post)))

abbrev pub reach : List Function → ℕ
reach = most function_size

-- what one level of calls counts for
abbrev pub width : List Function → ℕ
width fs = 5 * reach fs + 20

abbrev pub own_level : Bool → ℕ
own_level true = 1
own_level false = 0

-- how many levels of calls are left: a called frame without fuel has none
abbrev pub level : Bool → ℕ → ℕ
level own n = own_level own + n
