-- Which typed units have their sites apart: in one function no two calls, no two divisions, no two matches and no two
-- assertions stand at one offset. Source: own.
use Rattle.std.specs.Prelude.{◌≡◌, ℕ, Bool, true, false, List, [], ◌∷◌, ◌++◌, map, Option, Some, None, All, slice_get}
use Rattle.pp_list.specs.Joined.{joined, or_none}
use Rattle.pp_operators.specs.Classes.{is_division}
use Rattle.pp_tree.specs.declared.operator.BinaryOp.{BinaryOp}
use Rattle.pp_typed.specs.Stand.{Offset}
use Rattle.pp_typed.specs.declared.expr.TypedExpr.{TypedExpr}
use Rattle.pp_typed.specs.declared.expr.TypedKind.TheFolds.{fold-TypedExpr}
use Rattle.pp_typed.specs.declared.expr.TypedKind.TheOpen as layer
use Rattle.pp_typed.specs.declared.typed.Typed.{Typed}
use Rattle.pp_typed.specs.declared.typed.TypedDef.{TypedDef}
use Rattle.pp_typed.specs.declared.typed.TypedPost.{TypedPost}

-- what stands at a site
pub data SiteKind : Type 0 where
  a_call : SiteKind
  a_division : SiteKind
  a_match : SiteKind
  an_assertion : SiteKind

abbrev pub Mark : Type 0
Mark = SiteKind × Offset

-- what stands below an expression: the marks of its sites, with the expression's own offset
abbrev pub Below : Type 0
Below = Offset → List Mark

abbrev pub division_mark : Bool → Offset → List Mark
division_mark true here = (a_division, here) ∷ []
division_mark false here = []

abbrev pub operator_mark : BinaryOp → Offset → List Mark
operator_mark op here = division_mark (is_division op) here

abbrev pub kind_marks : layer.TypedKind-F Below (List Mark) (List Mark) → Below
kind_marks (layer.Int n) here = []
kind_marks (layer.Bool b) here = []
kind_marks (layer.Local i) here = []
kind_marks (layer.Call f sorts args) here = joined args ++ (a_call, here) ∷ []
kind_marks (layer.Construct c sorts args) here = joined args
kind_marks (layer.Field e j) here = e
kind_marks (layer.Unary op a) here = a
kind_marks (layer.Binary op a b) here = a ++ b ++ operator_mark op here
kind_marks (layer.If c a b) here = c ++ a ++ b
kind_marks (layer.Match e cases) here = e ++ (a_match, here) ∷ joined cases
kind_marks (layer.Val bound rest) here = bound ++ rest
kind_marks (layer.Assert c rest) here = c ++ (an_assertion, here) ∷ rest

abbrev pub case_marks : layer.TypedCase-F Below (List Mark) (List Mark) → List Mark
case_marks c = or_none c.guard ++ c.body

abbrev pub expr_marks : layer.TypedExpr-F Below (List Mark) (List Mark) → List Mark
expr_marks e = e.kind (e.source, e.at)

-- the marks of the sites of an expression, in the order of evaluation
abbrev pub marks : TypedExpr → List Mark
marks = fold-TypedExpr Below (List Mark) (List Mark) kind_marks case_marks expr_marks

abbrev pub post_marks : Option TypedPost → List Mark
post_marks None = []
post_marks (Some post) = marks post.claim

-- the marks of the sites of a function
abbrev pub def_marks : TypedDef → List Mark
def_marks d = joined (map marks d.pre) ++ joined (map marks d.measure) ++ marks d.body ++ post_marks d.post

-- no mark stands there twice
abbrev pub IsApart : TypedDef → Type 0
IsApart d = (i j : ℕ) (m : Mark) → slice_get (def_marks d) i ≡ Some m → slice_get (def_marks d) j ≡ Some m → i ≡ j

-- the sites of each function are apart, and are in its source
abbrev pub InSource : TypedDef → Type 0
InSource d = All (λ (m : Mark). m.1.0 ≡ d.source) (def_marks d)

pub record AreApart (typed : Typed) : Type 0 where
  pub apart : All IsApart typed.defs
  pub in_source : All InSource typed.defs
