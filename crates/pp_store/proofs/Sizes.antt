-- The equations of `size`.
use Rattle.std.proofs.Common.{◌≡◌, ◌∙◌, ℕ, ◌+◌, ◌<◌, List, sym, ap, subst, arith}
use Rattle.std.specs.List.{sum_by}
use Rattle.std.proofs.lemmas.List.Sums.{sum-map}
use Rattle.pp_prog.specs.declared.id.CtorId.{CtorId}
use Rattle.pp_prog.specs.declared.value.Value.{Value}
use Rattle.pp_prog.specs.declared.value.Value.TheVariants.{Tree, rolls-Tree}
use Rattle.pp_prog.specs.declared.value.Value.TheOpen as layer
use Rattle.pp_prog.specs.declared.value.Value.TheViews.{out-Value, roll-out-Value}
use Rattle.pp_prog.specs.declared.value.Value.TheFolds.{fold-roll-Value, map-Value}
use Rattle.pp_store.specs.Sizes.{size, size_step}

pub size_of_tree : (c : CtorId) (fields : List Value) → size (Tree c fields) ≡ sum_by size fields + 1
size_of_tree c fields =
    ap size (sym (rolls-Tree c fields)) ∙ fold-roll-Value ℕ size_step (layer.Tree c fields)
    ∙ ap (λ n. n + 1) (sum-map size fields)

step_positive : (y : layer.Value-F ℕ) → 0 < size_step y
step_positive (layer.Int n) = omega arith
step_positive (layer.Bool b) = omega arith
step_positive (layer.Tree c sizes) = omega arith

pub size_positive : (v : Value) → 0 < size v
size_positive v =
    let e : size v ≡ size_step (map-Value Value ℕ size (out-Value v)) =
    ap size (sym (roll-out-Value v)) ∙ fold-roll-Value ℕ size_step (out-Value v) in
    subst (λ n. 0 < n) (sym e) (step_positive (map-Value Value ℕ size (out-Value v)))
