-- The height of a unit is that of its highest root.
use Rattle.std.proofs.Common.{◌≡◌, ℕ, ◌<◌, ◌≤◌, max, map, arith, List, [], ◌∷◌, ◌++◌, refl, ap, ◌∙◌, subst}
use Rattle.std.proofs.Common.{Bool, true, false, cond, Option, Some, None, MatchOption}
use Rattle.std.specs.Prelude.{nat_lt, flat_map}
use Rattle.std.proofs.lemmas.Bool.Decides.{nat_tests}
use Rattle.pp_tree.specs.Height.{highest, written_height, class_height, post_height}
use Rattle.pp_tree.specs.Height.{def_height, decl_height, unit_height}
use Rattle.pp_tree.specs.Plain.{TypeTree, ClassTree, PostTree, DefTree, DeclTree, root, ctor, other}
use Rattle.pp_tree.specs.Plain.{def, UnitTree}
use Rattle.pp_tree.specs.Roots.{Root, expr_root, type_root, param_root, written_roots, class_roots, post_roots}
use Rattle.pp_tree.specs.Roots.{stands_before, contract_roots, def_roots, decl_roots, unit_roots, too_high}

abbrev levels : List Root → ℕ
levels rs = highest (λ r. r.levels) rs

levels_append : (rs qs : List Root) → levels (rs ++ qs) ≡ max (levels rs) (levels qs)
levels_append [] qs = omega arith
levels_append (r ∷ rs) qs = omega (arith, levels_append rs qs)

levels_map : {A : Type 0} (f : A → Root) (xs : List A) → levels (map f xs) ≡ highest (λ x. (f x).levels) xs
levels_map f [] = refl
levels_map f (x ∷ xs) = ap (max (f x).levels) (levels_map f xs)

written_is : (o : Option TypeTree) → levels (written_roots o) ≡ written_height o
written_is None = refl
written_is (Some t) = omega arith

class_is : (c : ClassTree) → levels (class_roots c) ≡ class_height c
class_is c = omega (
  arith,
  levels_append (map param_root c.fields) (written_roots c.parent),
  levels_map param_root
      c.fields,
  written_is c.parent,
)

post_is : (o : Option PostTree) → levels (post_roots o) ≡ post_height o
post_is None = refl
post_is (Some p) = omega (arith, levels_append (written_roots p.of) (expr_root p.claim ∷ []), written_is p.of)

contract_is : (rs qs : List Root) → levels (contract_roots rs qs) ≡ max (levels rs) (levels qs)
contract_is rs qs = by (stands_before qs rs)
  where
    by : (b : Bool) → levels (cond b (qs ++ rs) (rs ++ qs)) ≡ max (levels rs) (levels qs)
    by true = omega (arith, levels_append qs rs)
    by false = omega (arith, levels_append rs qs)

def_is : (d : DefTree) → levels (def_roots d) ≡ def_height d
def_is d =
    let pre = map expr_root d.pre in
    let measure = map expr_root d.measure in
    let behind = expr_root d.body ∷ post_roots d.post in
    omega (
      arith,
      levels_append (map param_root d.params) (type_root d.result ∷ (contract_roots pre measure ++ behind)),
      levels_append (contract_roots pre measure) behind,
      contract_is pre measure,
      levels_map param_root d.params,
      levels_map expr_root d.pre,
      levels_map expr_root d.measure,
      post_is d.post,
    )

decl_is : (d : DeclTree) → levels (decl_roots d) ≡ decl_height d
decl_is (root c) = class_is c
decl_is (ctor c) = class_is c
decl_is (other c) = class_is c
decl_is (def d) = def_is d

decls_are : (ds : List DeclTree) → levels (flat_map decl_roots ds) ≡ highest decl_height ds
decls_are [] = refl
decls_are (d ∷ ds) = levels_append (decl_roots d) (flat_map decl_roots ds)
    ∙ ap (λ n. max n (levels (flat_map decl_roots ds))) (decl_is d) ∙ ap (max (decl_height d)) (decls_are ds)

-- the place of a root that is too high, if one is
abbrev IsHighOf : Option ℕ → ℕ → Type 0
IsHighOf o n = MatchOption o (n ≤ 64) (λ at. 64 < n)

one_is : (b : Bool) (r : Root) (o : Option ℕ) (n : ℕ) → nat_lt 64 r.levels ≡ b → IsHighOf o n
    → IsHighOf (cond b (Some r.at) o) (max r.levels n)
one_is true r o n h rest = grind (arith, nat_tests)
one_is false r None n h rest = grind (arith, nat_tests)
one_is false r (Some at) n h rest = omega arith

roots_are : (rs : List Root) → IsHighOf (too_high rs) (levels rs)
roots_are [] = omega arith
roots_are (r ∷ rs) = one_is (nat_lt 64 r.levels) r (too_high rs) (levels rs) refl (roots_are rs)

pub unit_is : (u : UnitTree) → MatchOption (too_high (unit_roots u)) (unit_height u ≤ 64) (λ at. 64 < unit_height u)
unit_is u = let P : ℕ → Type 0 = λ n. IsHighOf (too_high (unit_roots u)) n in
    subst P (decls_are u.decls) (roots_are (unit_roots u))
