-- What holds of each offset of typed units, with its source. The offsets of patterns are left out: nothing reads them
-- later. Source: own.
use Rattle.std.specs.Prelude.{ℕ, ◌+◌, List, [], ◌∷◌, Option, Some, None, All}
use Rattle.pp_tree.specs.Offsets.{UnitOffsets}
use Rattle.pp_tree.specs.Plain.{UnitTree}
use Rattle.pp_typed.specs.Stand.{Offset, offsets}
use Rattle.pp_typed.specs.declared.expr.TypedExpr.{TypedExpr}
use Rattle.pp_typed.specs.declared.typed.Typed.{Typed}
use Rattle.pp_typed.specs.declared.typed.TypedDef.{TypedDef}
use Rattle.pp_typed.specs.declared.typed.TypedPost.{TypedPost}

module _ (P : Offset → Type 0) where
  -- of each offset of units, whose sources are numbered from this number on
  abbrev pub OffsetsFrom : ℕ → List UnitTree → Type 0
  OffsetsFrom n [] = Unit {0}
  OffsetsFrom n (u ∷ us) = UnitOffsets (λ at. P (n, at)) u × OffsetsFrom (n + 1) us

  -- of each offset of units
  abbrev pub UnitsHave : List UnitTree → Type 0
  UnitsHave = OffsetsFrom 1

  -- of each offset of an expression and its parts
  abbrev pub ExprHas : TypedExpr → Type 0
  ExprHas e = All P (offsets e)

  abbrev pub PostHas : ℕ → Option TypedPost → Type 0
  PostHas source None = Unit {0}
  PostHas source (Some post) = P (source, post.at) × ExprHas post.claim

  pub record DefHas (d : TypedDef) : Type 0 where
    pub here : P (d.source, d.at)
    pub pre : All ExprHas d.pre
    pub measure : All ExprHas d.measure
    pub body : ExprHas d.body
    pub post : PostHas d.source d.post

  -- of each offset of typed units
  abbrev pub TypedHas : Typed → Type 0
  TypedHas t = All DefHas t.defs
