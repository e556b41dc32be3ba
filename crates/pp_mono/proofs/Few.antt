-- Small typed units have few functions, each of which has a body, and their program has few checks.
use Rattle.std.proofs.Common.{◌≡◌, ◌≤◌, ◌<◌, ◌^◌, ◌+◌, ℕ, List, [], ◌∷◌, map, sum, fold, length, refl, ap, arith}
use Rattle.pp_instances.specs.declared.member.Instance.{Instance}
use Rattle.pp_prog.specs.declared.expr.Function.{Function}
use Rattle.pp_mono.proofs.Counting.{lists_defs}
use Rattle.pp_translation.specs.Defs.{TranslatesDefs}
use Rattle.pp_translation.specs.Setting.{Setting}
use Rattle.pp_translation.specs.declared.frame.CheckAt.{CheckAt}
use Rattle.pp_typed.specs.Limits.{IsSmall, case_nodes, def_nodes, expr_nodes, kind_nodes, nodes}
use Rattle.pp_typed.specs.declared.expr.TypedExpr.{TypedExpr}
use Rattle.pp_typed.specs.declared.expr.TypedKind.TheFolds.{fold-TypedKind, fold_out-TypedExpr}
use Rattle.pp_typed.specs.declared.typed.Typed.{Typed}
use Rattle.pp_typed.specs.declared.typed.TypedDef.{TypedDef}

has_node : (e : TypedExpr) → 1 ≤ nodes e
has_node e =
    let below = fold-TypedKind ℕ ℕ ℕ kind_nodes case_nodes expr_nodes e.kind in
    let is : nodes e ≡ below + 1 = fold_out-TypedExpr ℕ ℕ ℕ kind_nodes case_nodes expr_nodes e in
    omega arith

has_body : (d : TypedDef) → 1 ≤ def_nodes d
has_body d = let body = has_node d.body in omega arith

sum_more : (xs : List ℕ) (a : ℕ) → fold (λ x y. x + y) a xs ≡ a + sum xs
sum_more [] a = let is : sum [] ≡ 0 = refl in omega arith
sum_more (x ∷ xs) a =
    let here = sum_more xs (a + x) in
    let first = sum_more xs (0 + x) in
    omega arith

at_least : (ds : List TypedDef) → length ds ≤ sum (map def_nodes ds)
at_least [] = omega arith
at_least (d ∷ ds) =
    let is = sum_more (map def_nodes ds) (0 + def_nodes d) in
    let one = has_body d in let more = at_least ds in omega arith

pub few_defs : (typed : Typed) → IsSmall typed → length typed.defs < 2 ^ 32
few_defs typed small = let few = small.nodes in let most = at_least typed.defs in omega arith

pub few_checks : (typed : Typed) (set : Setting) (texts : List (List ℕ)) (is : List Instance) (fs : List Function)
    (old new : List CheckAt) → IsSmall typed → length is ≤ 512 → old ≡ [] → TranslatesDefs typed set texts is fs old new
    → length new < 2 ^ 32
few_checks typed set texts is fs old new small few none made =
    let listed = lists_defs typed set texts small made in
    let nothing = ap (λ (l : List CheckAt). length l) none in
    omega (arith, listed, few, nothing)
