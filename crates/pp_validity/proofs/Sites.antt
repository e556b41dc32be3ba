-- The offsets of the sites of each form of an expression.
use Rattle.std.proofs.Common.{◌≡◌, ℕ, ℤ, Bool, List, [], ◌∷◌, ◌++◌, map, refl, sym, ap, ◌∙◌}
use Rattle.std.specs.Prelude.{Option, Some, None}
use Rattle.pp_list.specs.Joined.{joined}
use Rattle.pp_translation.specs.Places as places
use Rattle.pp_translation.specs.Places.{Below, operator_offset, site_offsets}
use Rattle.pp_tree.specs.declared.operator.BinaryOp.{BinaryOp as TreeBinary}
use Rattle.pp_tree.specs.declared.operator.UnaryOp.{UnaryOp as TreeUnary}
use Rattle.pp_typed.specs.Stand.{Offset}
use Rattle.pp_typed.specs.declared.expr.TypedCase.{TypedCase}
use Rattle.pp_typed.specs.declared.expr.TypedExpr.{TypedExpr}
use Rattle.pp_typed.specs.declared.expr.TypedKind.{TypedKind}
use Rattle.pp_typed.specs.declared.expr.TypedKind.TheFolds.{fold-TypedCase, fold-TypedKind, fold-roll-TypedKind}
use Rattle.pp_typed.specs.declared.expr.TypedKind.TheFolds.{fold_out-TypedCase, fold_out-TypedExpr, map-TypedCase}
use Rattle.pp_typed.specs.declared.expr.TypedKind.TheOpen as kind_layer
use Rattle.pp_typed.specs.declared.expr.TypedKind.TheVariants as kind
use Rattle.pp_typed.specs.declared.expr.TypedKind.TheViews.{out-TypedCase}
use Rattle.pp_typed.specs.declared.pattern.TypedPattern.{TypedPattern}
use Rattle.pp_typed.specs.declared.sort.GenericSort.{GenericSort}

-- the offsets
abbrev offsets_in_kind : TypedKind → Below
offsets_in_kind = fold-TypedKind Below (List Offset) (List Offset) places.kind_step places.case_step places.expr_step

abbrev pub offsets_in_case : TypedCase → List Offset
offsets_in_case = fold-TypedCase Below (List Offset) (List Offset) places.kind_step places.case_step places.expr_step

opened : (e : TypedExpr) → site_offsets e ≡ offsets_in_kind e.kind (e.source, e.at)
opened e = fold_out-TypedExpr Below (List Offset) (List Offset) places.kind_step places.case_step places.expr_step e

by_kind : (e : TypedExpr) (k : TypedKind) (f : Below) → e.kind ≡ k → offsets_in_kind k ≡ f
    → site_offsets e ≡ f (e.source, e.at)
by_kind e k f is h = opened e ∙ ap (λ z. offsets_in_kind z (e.source, e.at)) is
    ∙ ap (λ (g : Below). g (e.source, e.at)) h

pub offsets_int : (e : TypedExpr) (n : ℤ) → e.kind ≡ kind.Int n → site_offsets e ≡ []
offsets_int e n is = by_kind e (kind.Int n) _ is (ap offsets_in_kind (sym (kind.rolls-Int n))
    ∙ fold-roll-TypedKind Below (List Offset) (List Offset) places.kind_step places.case_step places.expr_step
    (kind_layer.Int n))

pub offsets_bool : (e : TypedExpr) (b : Bool) → e.kind ≡ kind.Bool b → site_offsets e ≡ []
offsets_bool e b is = by_kind e (kind.Bool b) _ is (ap offsets_in_kind (sym (kind.rolls-Bool b))
    ∙ fold-roll-TypedKind Below (List Offset) (List Offset) places.kind_step places.case_step places.expr_step
    (kind_layer.Bool b))

pub offsets_local : (e : TypedExpr) (i : ℕ) → e.kind ≡ kind.Local i → site_offsets e ≡ []
offsets_local e i is = by_kind e (kind.Local i) _ is (ap offsets_in_kind (sym (kind.rolls-Local i))
    ∙ fold-roll-TypedKind Below (List Offset) (List Offset) places.kind_step places.case_step places.expr_step
    (kind_layer.Local i))

pub offsets_call : (e : TypedExpr) (f : ℕ) (sorts : List GenericSort) (es : List TypedExpr)
    → e.kind ≡ kind.Call f sorts es → site_offsets e ≡ joined (map site_offsets es) ++ (e.source, e.at) ∷
    (e.source, e.at) ∷ []
offsets_call e f sorts es is = by_kind e (kind.Call f sorts es) _ is
    (ap offsets_in_kind (sym (kind.rolls-Call f sorts es))
    ∙ fold-roll-TypedKind Below (List Offset) (List Offset) places.kind_step places.case_step places.expr_step
    (kind_layer.Call f sorts es))

pub offsets_construct : (e : TypedExpr) (c : ℕ) (sorts : List GenericSort) (es : List TypedExpr)
    → e.kind ≡ kind.Construct c sorts es → site_offsets e ≡ joined (map site_offsets es)
offsets_construct e c sorts es is = by_kind e (kind.Construct c sorts es) _ is
    (ap offsets_in_kind (sym (kind.rolls-Construct c sorts es))
    ∙ fold-roll-TypedKind Below (List Offset) (List Offset) places.kind_step places.case_step places.expr_step
    (kind_layer.Construct c sorts es))

pub offsets_field : (e : TypedExpr) (base : TypedExpr) (j : ℕ) → e.kind ≡ kind.Field base j
    → site_offsets e ≡ site_offsets base
offsets_field e base j is = by_kind e (kind.Field base j) _ is
    (ap offsets_in_kind (sym (kind.rolls-Field base j))
    ∙ fold-roll-TypedKind Below (List Offset) (List Offset) places.kind_step places.case_step places.expr_step
    (kind_layer.Field base j))

pub offsets_unary : (e : TypedExpr) (op : TreeUnary) (a : TypedExpr) → e.kind ≡ kind.Unary op a
    → site_offsets e ≡ site_offsets a
offsets_unary e op a is = by_kind e (kind.Unary op a) _ is
    (ap offsets_in_kind (sym (kind.rolls-Unary op a)) ∙ fold-roll-TypedKind Below (List Offset) (List Offset)
    places.kind_step places.case_step places.expr_step (kind_layer.Unary op a))

pub offsets_binary : (e : TypedExpr) (op : TreeBinary) (a : TypedExpr) (b : TypedExpr) → e.kind ≡ kind.Binary op a b
    → site_offsets e ≡ site_offsets a ++ site_offsets b ++ operator_offset op (e.source, e.at)
offsets_binary e op a b is = by_kind e (kind.Binary op a b) _ is
    (ap offsets_in_kind (sym (kind.rolls-Binary op a b))
    ∙ fold-roll-TypedKind Below (List Offset) (List Offset) places.kind_step places.case_step places.expr_step
    (kind_layer.Binary op a b))

pub offsets_if : (e : TypedExpr) (c : TypedExpr) (a : TypedExpr) (b : TypedExpr) → e.kind ≡ kind.If c a b
    → site_offsets e ≡ site_offsets c ++ site_offsets a ++ site_offsets b
offsets_if e c a b is = by_kind e (kind.If c a b) _ is (ap offsets_in_kind (sym (kind.rolls-If c a b))
    ∙ fold-roll-TypedKind Below (List Offset) (List Offset) places.kind_step places.case_step places.expr_step
    (kind_layer.If c a b))

pub offsets_match : (e : TypedExpr) (m : TypedExpr) (cs : List TypedCase) → e.kind ≡ kind.Match m cs
    → site_offsets e ≡ site_offsets m ++ (e.source, e.at) ∷ joined (map offsets_in_case cs)
offsets_match e m cs is = by_kind e (kind.Match m cs) _ is
    (ap offsets_in_kind (sym (kind.rolls-Match m cs)) ∙ fold-roll-TypedKind Below (List Offset) (List Offset)
    places.kind_step places.case_step places.expr_step (kind_layer.Match m cs))

pub offsets_val : (e : TypedExpr) (a : TypedExpr) (b : TypedExpr) → e.kind ≡ kind.Val a b
    → site_offsets e ≡ site_offsets a ++ site_offsets b
offsets_val e a b is = by_kind e (kind.Val a b) _ is (ap offsets_in_kind (sym (kind.rolls-Val a b))
    ∙ fold-roll-TypedKind Below (List Offset) (List Offset) places.kind_step places.case_step places.expr_step
    (kind_layer.Val a b))

pub offsets_assert : (e : TypedExpr) (a : TypedExpr) (b : TypedExpr) → e.kind ≡ kind.Assert a b
    → site_offsets e ≡ site_offsets a ++ (e.source, e.at) ∷ site_offsets b
offsets_assert e a b is = by_kind e (kind.Assert a b) _ is
    (ap offsets_in_kind (sym (kind.rolls-Assert a b)) ∙ fold-roll-TypedKind Below (List Offset) (List Offset)
    places.kind_step places.case_step places.expr_step (kind_layer.Assert a b))

abbrev pub offsets_of_guard : Option TypedExpr → List Offset
offsets_of_guard None = []
offsets_of_guard (Some g) = site_offsets g

in_layer : (p : TypedPattern) (g : Option TypedExpr) (b : TypedExpr)
    → places.case_step (map-TypedCase TypedKind TypedCase TypedExpr Below (List Offset) (List Offset) offsets_in_kind
    offsets_in_case site_offsets (record { pattern = p; guard = g; body = b }))
    ≡ offsets_of_guard g ++ site_offsets b
in_layer p None b = refl
in_layer p (Some g) b = refl

pub offsets_case : (c : TypedCase) → offsets_in_case c ≡ offsets_of_guard (out-TypedCase c).guard ++ site_offsets
    (out-TypedCase c).body
offsets_case c =
    fold_out-TypedCase Below (List Offset) (List Offset) places.kind_step places.case_step places.expr_step c
    ∙ in_layer (out-TypedCase c).pattern (out-TypedCase c).guard (out-TypedCase c).body
