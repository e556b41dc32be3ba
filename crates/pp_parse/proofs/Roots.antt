-- What holds of each offset of a unit holds of the place of each root.
use Rattle.std.proofs.Common.{ℕ, ◌≡◌, List, [], ◌∷◌, ◌++◌, map, subst, Bool, true, false, cond, nat_lt, Option, Some}
use Rattle.std.proofs.Common.{None}
use Rattle.std.specs.Prelude.{flat_map}
use Rattle.pp_tree.specs.Offsets.{TypeOffsets, WrittenOffsets, Offsets, ListOffsets, ParamOffsets, ClassOffsets}
use Rattle.pp_tree.specs.Offsets.{PostOffsets, DeclOffsets, DeclsOffsets, UnitOffsets}
use Rattle.pp_tree.specs.Plain.{TypeTree, type_text, Tree, int, bool, name, apply, field, unary, binary, choice}
use Rattle.pp_tree.specs.Plain.{matching, val_in, assert_in, ParamTree, ClassTree, PostTree, DeclTree, root, ctor}
use Rattle.pp_tree.specs.Plain.{other, def, UnitTree}
use Rattle.pp_tree.specs.Roots.{Root, place_of, type_place, expr_root, type_root, param_root, written_roots}
use Rattle.pp_tree.specs.Roots.{class_roots, contract_roots, post_roots, stands_before, decl_roots, unit_roots}
use Rattle.pp_tree.specs.Roots.{too_high}

module _ (P : ℕ → Type 0) where
  abbrev AllAt : List Root → Type 0
  AllAt [] = Unit {0}
  AllAt (r ∷ rs) = P r.at × AllAt rs

  both : (xs ys : List Root) → AllAt xs → AllAt ys → AllAt (xs ++ ys)
  both [] ys h k = k
  both (x ∷ xs) ys h k = (h.0, both xs ys h.1 k)

  expr_at : (e : Tree) → Offsets P e → P (place_of e)
  expr_at (int at n) h = h
  expr_at (bool at b) h = h
  expr_at (name at w) h = h
  expr_at (apply at w ts es) h = h.0
  expr_at (field at e w) h = h.0
  expr_at (unary at op a) h = h.0
  expr_at (binary at op a b) h = h.0
  expr_at (choice at c a b) h = h.0
  expr_at (matching at e cs) h = h.0
  expr_at (val_in at w t a b) h = h.0
  expr_at (assert_in at c e) h = h.0

  type_at : (t : TypeTree) → TypeOffsets P t → P (type_place t)
  type_at (type_text at w ts) h = h.0

  params_at : (ps : List ParamTree) → ParamOffsets P ps → AllAt (map param_root ps)
  params_at [] h = tt
  params_at (p ∷ ps) h = (type_at p.of h.0.1, params_at ps h.1)

  written_at : (o : Option TypeTree) → WrittenOffsets P o → AllAt (written_roots o)
  written_at None h = tt
  written_at (Some t) h = (type_at t h, tt)

  exprs_at : (es : List Tree) → ListOffsets P es → AllAt (map expr_root es)
  exprs_at [] h = tt
  exprs_at (e ∷ es) h = (expr_at e h.0, exprs_at es h.1)

  post_at : (o : Option PostTree) → PostOffsets P o → AllAt (post_roots o)
  post_at None h = tt
  post_at (Some p) h =
      both (written_roots p.of) (expr_root p.claim ∷ []) (written_at p.of h.1) (expr_at p.claim h.2, tt)

  class_at : (c : ClassTree) → ClassOffsets P c → AllAt (class_roots c)
  class_at c h =
      both (map param_root c.fields) (written_roots c.parent) (params_at c.fields h.1) (written_at c.parent h.2)

  contracts_at : (xs ys : List Root) → AllAt xs → AllAt ys → AllAt (contract_roots xs ys)
  contracts_at xs ys h k = by (stands_before ys xs)
    where
      by : (b : Bool) → AllAt (cond b (ys ++ xs) (xs ++ ys))
      by true = both ys xs k h
      by false = both xs ys h k

  decl_at : (d : DeclTree) → DeclOffsets P d → AllAt (decl_roots d)
  decl_at (root c) h = class_at c h
  decl_at (ctor c) h = class_at c h
  decl_at (other c) h = class_at c h
  decl_at (def d) h =
      let behind = expr_root d.body ∷ post_roots d.post in
      let k : AllAt behind = (expr_at d.body h.5, post_at d.post h.6) in
      let pre = map expr_root d.pre in
      let measure = map expr_root d.measure in
      let p = both (contract_roots pre measure) behind
      (contracts_at pre measure (exprs_at d.pre h.3) (exprs_at d.measure h.4)) k in
      both (map param_root d.params) (type_root d.result ∷ (contract_roots pre measure ++ behind))
      (params_at d.params h.1) (type_at d.result h.2, p)

  decls_at : (ds : List DeclTree) → DeclsOffsets P ds → AllAt (flat_map decl_roots ds)
  decls_at [] h = tt
  decls_at (d ∷ ds) h = both (decl_roots d) (flat_map decl_roots ds) (decl_at d h.0) (decls_at ds h.1)

  chosen : (b : Bool) (r : Root) (at : ℕ) (o : Option ℕ) → cond b (Some r.at) o ≡ Some at → P r.at
      → (o ≡ Some at → P at)
      → P at
  chosen true r at o e here there = let same : r.at ≡ at = cc in subst P same here
  chosen false r at o e here there = there e

  high_at : (rs : List Root) (at : ℕ) → AllAt rs → too_high rs ≡ Some at → P at
  high_at [] at h e = cc
  high_at (r ∷ rs) at h e = chosen (nat_lt 64 r.levels) r at (too_high rs) e h.0 (high_at rs at h.1)

  -- .. and so of the place of the first that is too high
  pub too_high_at : (u : UnitTree) (at : ℕ) → UnitOffsets P u → too_high (unit_roots u) ≡ Some at → P at
  too_high_at u at h e = high_at (unit_roots u) at (decls_at u.decls h.1) e
