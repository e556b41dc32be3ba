-- Which typed units stand in texts: each offset is one at which a character of the text of its source begins, or that
-- text's end. Patterns have offsets that nothing reads later. Source: own.
use Rattle.std.specs.Prelude.{◌≡◌, ◌≤◌, ℕ, ◌-◌, List, ◌∷◌, Option, None, Some, All, slice_get}
use Rattle.std.specs.Str.{IsCharBoundary}
use Rattle.pp_typed.specs.Parts.{case_parts, kind_parts}
use Rattle.pp_typed.specs.declared.expr.TypedExpr.{TypedExpr}
use Rattle.pp_typed.specs.declared.expr.TypedKind.TheFolds.{fold-TypedExpr}
use Rattle.pp_typed.specs.declared.expr.TypedKind.TheOpen as layer
use Rattle.pp_typed.specs.declared.typed.Typed.{Typed}
use Rattle.pp_typed.specs.declared.typed.TypedDef.{TypedDef}
use Rattle.pp_typed.specs.declared.typed.TypedPost.{TypedPost}

-- a source, and an offset in it
abbrev pub Offset : Type 0
Offset = ℕ × ℕ

abbrev pub expr_offsets : layer.TypedExpr-F (List Offset) (List Offset) (List Offset) → List Offset
expr_offsets e = (e.source, e.at) ∷ e.kind

-- the offsets of an expression and of its parts
abbrev pub offsets : TypedExpr → List Offset
offsets = fold-TypedExpr (List Offset) (List Offset) (List Offset) kind_parts case_parts expr_offsets

-- the source, which is numbered from 1, has a text, and the offset is one of it
pub record Stands (texts : List (List ℕ)) (o : Offset) : Type 0 where
  pub text : List ℕ
  pub numbered : 1 ≤ o.0
  pub of_source : slice_get texts (o.0 - 1) ≡ Some text
  pub boundary : IsCharBoundary text o.1

module _ (texts : List (List ℕ)) where
  -- each offset of an expression stands in the text of its source
  abbrev pub ExprStands : TypedExpr → Type 0
  ExprStands e = All (Stands texts) (offsets e)

  -- a postcondition is in the source of its function
  abbrev pub PostStands : ℕ → Option TypedPost → Type 0
  PostStands source None = Unit {0}
  PostStands source (Some post) = Stands texts (source, post.at) × ExprStands post.claim

  pub record DefStands (d : TypedDef) : Type 0 where
    pub here : Stands texts (d.source, d.at)
    pub pre : All ExprStands d.pre
    pub measure : All ExprStands d.measure
    pub body : ExprStands d.body
    pub post : PostStands d.source d.post

  -- each offset of each function stands in its text
  abbrev pub TypedStands : Typed → Type 0
  TypedStands typed = All DefStands typed.defs
