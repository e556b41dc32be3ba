-- The functions of a program, with the numbers of checks left out. Source: own.
use Rattle.std.specs.Prelude.{ℕ, zero, suc, ◌-◌, List, [], ◌∷◌, ◌++◌, map, length, Option, Some, None, slice_get}
use Rattle.pp_instances.specs.declared.member.Instance.{Instance}
use Rattle.pp_instances.specs.declared.member.Member.{Member}
use Rattle.pp_translation.specs.Exprs.{expr_at, unnumbered}
use Rattle.pp_translation.specs.Numbers.{sort_at}
use Rattle.pp_tree.specs.declared.operator.BinaryOp.TheVariants.{AndAlso}
use Rattle.pp_prog.specs.declared.expr.Expr.{Expr}
use Rattle.pp_prog.specs.declared.expr.Expr.TheVariants.{Binary}
use Rattle.pp_prog.specs.declared.expr.Function.{Function}
use Rattle.pp_prog.specs.declared.expr.Param.{Param}
use Rattle.pp_prog.specs.declared.id.CheckId.{CheckId}
use Rattle.pp_prog.specs.declared.place.Place.{Place}
use Rattle.pp_text.specs.Place.{place_of}
use Rattle.pp_typed.specs.declared.sort.GenericSort.{GenericSort}
use Rattle.pp_typed.specs.declared.typed.Typed.{Typed}
use Rattle.pp_typed.specs.declared.typed.TypedDef.{TypedDef}
use Rattle.pp_typed.specs.declared.typed.TypedParam.{TypedParam}
use Rattle.pp_typed.specs.declared.typed.TypedPost.{TypedPost}

-- the first condition and the second by `&&`, the third and the fourth, ..; a last one alone stays
abbrev pub in_pairs : List Expr → List Expr
in_pairs [] = []
in_pairs (e ∷ []) = e ∷ []
in_pairs (a ∷ b ∷ es) = Binary AndAlso a b None ∷ in_pairs es

-- so many times in pairs
abbrev pub paired : ℕ → List Expr → List Expr
paired zero es = es
paired (suc n) es = paired n (in_pairs es)

-- several conditions as one, in order: in pairs until one is left, so that it is no higher than it must be; none is no
-- condition
abbrev pub as_one : List Expr → Option Expr
as_one es = slice_get (paired (length es) es) 0

-- the place of an offset of a source, which is numbered from 1
abbrev pub place_in_text : ℕ → ℕ → Option (List ℕ) → Place
place_in_text source offset None = record { source = source; line = 0; column = 0 }
place_in_text source offset (Some text) =
    record { source = source; line = (place_of text offset).0; column = (place_of text offset).1 }

abbrev pub place_at : List (List ℕ) → ℕ × ℕ → Place
place_at texts o = place_in_text o.0 o.1 (slice_get texts (o.0 - 1))

abbrev pub param_at : List Member → List GenericSort → TypedParam → Param
param_at roots args p = record { name = p.name; sort = sort_at roots args p.of }

module _ (typed : Typed) (texts : List (List ℕ)) (roots functions : List Member) where
  abbrev pub post_at : List GenericSort → Option TypedPost → Option (CheckId × Expr)
  post_at args None = None
  post_at args (Some post) = Some (unnumbered, expr_at typed roots functions args post.claim)

  -- the function of the program that a function is at the arguments of an instance
  abbrev pub function_of : Instance → TypedDef → Function
  function_of i d = record {
    name = i.name;
    place = place_at texts (d.source, d.at);
    params = map (param_at roots i.args) d.params;
    result = sort_at roots i.args d.result;
    pre = as_one (map (expr_at typed roots functions i.args) d.pre);
    measure = map (expr_at typed roots functions i.args) d.measure;
    body = expr_at typed roots functions i.args d.body;
    post = post_at i.args d.post;
  }

  abbrev pub function_if : Instance → Option TypedDef → List Function
  function_if i None = []
  function_if i (Some d) = function_of i d ∷ []

  -- the functions that instances are
  abbrev pub functions_of : List Instance → List Function
  functions_of [] = []
  functions_of (i ∷ is) = function_if i (slice_get typed.defs i.number) ++ functions_of is
