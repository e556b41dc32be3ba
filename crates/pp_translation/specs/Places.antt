-- The places of the checks of a program: of a call's checks the called name, of a division the operator, of a match, an
-- assertion and a postcondition the word. Source: own.
use Rattle.std.specs.Prelude.{ℕ, Bool, true, false, List, [], ◌∷◌, ◌++◌, map, Option, Some, None, slice_get}
use Rattle.pp_list.specs.Joined.{joined, or_none}
use Rattle.pp_instances.specs.declared.member.Instance.{Instance}
use Rattle.pp_translation.specs.Functions.{place_at}
use Rattle.pp_prog.specs.Listing.{Site, plain, carried, function_sites}
use Rattle.pp_prog.specs.declared.check.CheckKind.{CheckKind}
use Rattle.pp_prog.specs.declared.expr.Function.{Function}
use Rattle.pp_prog.specs.declared.id.CheckId.{CheckId}
use Rattle.pp_prog.specs.declared.place.Place.{Place}
use Rattle.pp_prog.specs.declared.types.TypeTable.{TypeTable}
use Rattle.pp_operators.specs.Classes.{is_division}
use Rattle.pp_tree.specs.declared.operator.BinaryOp.{BinaryOp}
use Rattle.pp_typed.specs.Stand.{Offset}
use Rattle.pp_typed.specs.declared.expr.TypedExpr.{TypedExpr}
use Rattle.pp_typed.specs.declared.expr.TypedKind.TheFolds.{fold-TypedExpr}
use Rattle.pp_typed.specs.declared.expr.TypedKind.TheOpen as layer
use Rattle.pp_typed.specs.declared.typed.Typed.{Typed}
use Rattle.pp_typed.specs.declared.typed.TypedDef.{TypedDef}
use Rattle.pp_typed.specs.declared.typed.TypedPost.{TypedPost}

-- what stands below an expression: the offsets of its sites, with the expression's own offset
abbrev pub Below : Type 0
Below = Offset → List Offset

abbrev pub division_offset : Bool → Offset → List Offset
division_offset true here = here ∷ []
division_offset false here = []

abbrev pub operator_offset : BinaryOp → Offset → List Offset
operator_offset op here = division_offset (is_division op) here

-- one level, with the offsets of the parts in their place
abbrev pub kind_step : layer.TypedKind-F Below (List Offset) (List Offset) → Below
kind_step (layer.Int n) here = []
kind_step (layer.Bool b) here = []
kind_step (layer.Local i) here = []
kind_step (layer.Call f sorts args) here = joined args ++ here ∷ here ∷ []
kind_step (layer.Construct c sorts args) here = joined args
kind_step (layer.Field e j) here = e
kind_step (layer.Unary op a) here = a
kind_step (layer.Binary op a b) here = a ++ b ++ operator_offset op here
kind_step (layer.If c a b) here = c ++ a ++ b
kind_step (layer.Match e cases) here = e ++ here ∷ joined cases
kind_step (layer.Val bound rest) here = bound ++ rest
kind_step (layer.Assert c rest) here = c ++ here ∷ rest

abbrev pub case_step : layer.TypedCase-F Below (List Offset) (List Offset) → List Offset
case_step c = or_none c.guard ++ c.body

abbrev pub expr_step : layer.TypedExpr-F Below (List Offset) (List Offset) → List Offset
expr_step e = e.kind (e.source, e.at)

-- the offsets of the sites of an expression that can fail, in the order of evaluation. A call has two: its
-- precondition, and its measure
abbrev pub site_offsets : TypedExpr → List Offset
site_offsets = fold-TypedExpr Below (List Offset) (List Offset) kind_step case_step expr_step

abbrev pub post_offsets : ℕ → Option TypedPost → List Offset
post_offsets source None = []
post_offsets source (Some post) = site_offsets post.claim ++ (source, post.at) ∷ []

-- the offsets of the sites of a function
abbrev pub def_offsets : TypedDef → List Offset
def_offsets d =
    joined (map site_offsets d.pre) ++ joined (map site_offsets d.measure) ++ site_offsets d.body
    ++ post_offsets d.source d.post

abbrev pub offsets_or_none : Option TypedDef → List Offset
offsets_or_none None = []
offsets_or_none (Some d) = def_offsets d

-- the offset, once for each check
abbrev pub for_each : List (CheckId × CheckKind) → Offset → List Offset
for_each [] o = []
for_each (c ∷ cs) o = o ∷ for_each cs o

-- the offsets of those sites that carry a check. A plain site can't fail, and has no offset
abbrev pub told : List Site → List Offset → List Offset
told [] os = []
told (plain check ∷ sites) os = told sites os
told (site ∷ sites) [] = []
told (site ∷ sites) (o ∷ os) = for_each (carried site) o ++ told sites os

module _ (typed : Typed) (texts : List (List ℕ)) (types : TypeTable) (all : List Function) where
  -- the places of the checks of functions, each with its instance
  abbrev pub places_of : List Function → List Instance → List Place
  places_of [] is = []
  places_of (f ∷ fs) [] = []
  places_of (f ∷ fs) (i ∷ is) =
      map (place_at texts) (told (function_sites types all f) (offsets_or_none (slice_get typed.defs i.number)))
      ++ places_of fs is
