-- How deep calls and expressions go: the measure of compiling.
use Rattle.std.proofs.Common.{◌≡◌, ℕ, zero, suc, ◌+◌, ◌-◌, ◌*◌, ◌<◌, List, Some, arith}
use Rattle.std.specs.Prelude.{slice_get}
use Rattle.pp_list.proofs.Lists.{found_most}
use Rattle.pp_prog.specs.declared.expr.Function.{Function}
use Rattle.pp_compile.specs.declared.calls.CallKind.{CallKind}
use Rattle.pp_compile.specs.declared.calls.CallKind.TheVariants.{Followed, Left, Own}
use Rattle.pp_eval.proofs.Width.{function_size, reach}

-- more than twice the longest list of cases
abbrev pub wide : ℕ
wide = 8589934592

-- how deep calls may still be nested
abbrev pub depth_of : CallKind → ℕ
depth_of (Followed fuel) = fuel
depth_of (Left wait) = 0
depth_of Own = 1

-- what one unit of fuel counts for
abbrev pub span : List Function → ℕ
span fs = wide * reach fs + 2 * wide

abbrev pub expr_measure : List Function → ℕ → ℕ → ℕ
expr_measure fs fuel size = fuel * span fs + (wide * size + 2)

pub call_falls : (fs : List Function) (i : ℕ) (f : Function) (n : ℕ) → slice_get fs i ≡ Some f → 0 < n
    → (n - 1) * span fs + (wide * function_size f + 12) < n * span fs
call_falls fs i f zero is lt = absurd (omega arith)
call_falls fs i f (suc n) is lt =
    let less : suc n - 1 ≡ n = omega arith in
    rw less (omega (arith, found_most function_size fs i f is))
