-- The roots of a unit: the trees of expressions and written types that stand in no other, with their places and
-- heights.
-- Source: own.
use Rattle.std.specs.Prelude.{ℕ, nat_lt, cond, Bool, false, List, [], ◌∷◌, ◌++◌, map, flat_map, Option, Some, None}
use Rattle.pp_tree.specs.Plain.{TypeTree, type_text, Tree, int, bool, name, apply, field, unary, binary, choice}
use Rattle.pp_tree.specs.Plain.{matching, val_in, assert_in, ParamTree, ClassTree, PostTree, DefTree, DeclTree, root}
use Rattle.pp_tree.specs.Plain.{ctor, other, def, UnitTree}
use Rattle.pp_tree.specs.Height.{height, type_height}

-- the place of a tree
abbrev pub place_of : Tree → ℕ
place_of (int at n) = at
place_of (bool at b) = at
place_of (name at w) = at
place_of (apply at w ts es) = at
place_of (field at e w) = at
place_of (unary at op a) = at
place_of (binary at op a b) = at
place_of (choice at c a b) = at
place_of (matching at e cs) = at
place_of (val_in at w t a b) = at
place_of (assert_in at c e) = at

abbrev pub type_place : TypeTree → ℕ
type_place (type_text at w ts) = at

pub record Root : Type 0 where
  pub at : ℕ
  pub levels : ℕ

abbrev pub expr_root : Tree → Root
expr_root e = record { at = place_of e; levels = height e }

abbrev pub type_root : TypeTree → Root
type_root t = record { at = type_place t; levels = type_height t }

abbrev pub param_root : ParamTree → Root
param_root p = type_root p.of

abbrev pub written_roots : Option TypeTree → List Root
written_roots None = []
written_roots (Some t) = type_root t ∷ []

abbrev pub class_roots : ClassTree → List Root
class_roots c = map param_root c.fields ++ written_roots c.parent

abbrev pub post_roots : Option PostTree → List Root
post_roots None = []
post_roots (Some p) = written_roots p.of ++ expr_root p.claim ∷ []

-- whether the first of these stands before the first of those
abbrev pub stands_before : List Root → List Root → Bool
stands_before (r ∷ rs) (q ∷ qs) = nat_lt r.at q.at
stands_before _ _ = false

-- what is required and what is measured, in the order of the text: a measure may stand before what is required
abbrev pub contract_roots : List Root → List Root → List Root
contract_roots pre measure = cond (stands_before measure pre) (measure ++ pre) (pre ++ measure)

-- in the order of the text
abbrev pub def_roots : DefTree → List Root
def_roots d =
    map param_root d.params ++ (type_root d.result ∷ (contract_roots (map expr_root d.pre) (map expr_root d.measure)
    ++ (expr_root d.body ∷ post_roots d.post)))

abbrev pub decl_roots : DeclTree → List Root
decl_roots (root c) = class_roots c
decl_roots (ctor c) = class_roots c
decl_roots (other c) = class_roots c
decl_roots (def d) = def_roots d

abbrev pub unit_roots : UnitTree → List Root
unit_roots u = flat_map decl_roots u.decls

-- the place of the first root that is higher than 64
abbrev pub too_high : List Root → Option ℕ
too_high [] = None
too_high (r ∷ rs) = cond (nat_lt 64 r.levels) (Some r.at) (too_high rs)
