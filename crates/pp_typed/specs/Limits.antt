-- How large typed units may be. Source: own.
use Rattle.std.specs.Prelude.{◌<◌, ◌^◌, ℕ, ◌+◌, Bool, true, ◌&&◌, nat_lt, map, sum, length, Option, Some, None, IsTrue}
use Rattle.std.specs.List.{list_all}
use Rattle.pp_typed.specs.declared.expr.TypedExpr.{TypedExpr}
use Rattle.pp_typed.specs.declared.expr.TypedKind.TheFolds.{fold-TypedExpr}
use Rattle.pp_typed.specs.declared.expr.TypedKind.TheOpen as layer
use Rattle.pp_typed.specs.declared.typed.Typed.{Typed}
use Rattle.pp_typed.specs.declared.typed.TypedDef.{TypedDef}
use Rattle.pp_typed.specs.declared.typed.TypedPost.{TypedPost}

abbrev pub or_zero : Option ℕ → ℕ
or_zero None = 0
or_zero (Some n) = n

abbrev pub kind_nodes : layer.TypedKind-F ℕ ℕ ℕ → ℕ
kind_nodes (layer.Int n) = 0
kind_nodes (layer.Bool b) = 0
kind_nodes (layer.Local i) = 0
kind_nodes (layer.Call f sorts args) = sum args
kind_nodes (layer.Construct c sorts args) = sum args
kind_nodes (layer.Field e j) = e
kind_nodes (layer.Unary op a) = a
kind_nodes (layer.Binary op a b) = a + b
kind_nodes (layer.If c a b) = c + a + b
kind_nodes (layer.Match e cases) = e + sum cases
kind_nodes (layer.Val bound rest) = bound + rest
kind_nodes (layer.Assert c rest) = c + rest

abbrev pub case_nodes : layer.TypedCase-F ℕ ℕ ℕ → ℕ
case_nodes c = or_zero c.guard + c.body

abbrev pub expr_nodes : layer.TypedExpr-F ℕ ℕ ℕ → ℕ
expr_nodes e = e.kind + 1

-- how many expressions an expression is made of
abbrev pub nodes : TypedExpr → ℕ
nodes = fold-TypedExpr ℕ ℕ ℕ kind_nodes case_nodes expr_nodes

abbrev pub post_nodes : Option TypedPost → ℕ
post_nodes None = 0
post_nodes (Some post) = nodes post.claim

-- how many expressions a function is made of
abbrev pub def_nodes : TypedDef → ℕ
def_nodes d = sum (map nodes d.pre) + sum (map nodes d.measure) + nodes d.body + post_nodes d.post

-- whether each match has fewer than 65,536 cases

abbrev pub or_true : Option Bool → Bool
or_true None = true
or_true (Some b) = b

abbrev pub itself : Bool → Bool
itself b = b

abbrev pub kind_narrow : layer.TypedKind-F Bool Bool Bool → Bool
kind_narrow (layer.Int n) = true
kind_narrow (layer.Bool b) = true
kind_narrow (layer.Local i) = true
kind_narrow (layer.Call f sorts args) = list_all itself args
kind_narrow (layer.Construct c sorts args) = list_all itself args
kind_narrow (layer.Field e j) = e
kind_narrow (layer.Unary op a) = a
kind_narrow (layer.Binary op a b) = a && b
kind_narrow (layer.If c a b) = c && (a && b)
kind_narrow (layer.Match e cases) = nat_lt (length cases) 65536 && (e && list_all itself cases)
kind_narrow (layer.Val bound rest) = bound && rest
kind_narrow (layer.Assert c rest) = c && rest

abbrev pub case_narrow : layer.TypedCase-F Bool Bool Bool → Bool
case_narrow c = or_true c.guard && c.body

abbrev pub expr_narrow : layer.TypedExpr-F Bool Bool Bool → Bool
expr_narrow e = e.kind

abbrev pub is_narrow : TypedExpr → Bool
is_narrow = fold-TypedExpr Bool Bool Bool kind_narrow case_narrow expr_narrow

abbrev pub is_narrow_post : Option TypedPost → Bool
is_narrow_post None = true
is_narrow_post (Some post) = is_narrow post.claim

abbrev pub is_narrow_def : TypedDef → Bool
is_narrow_def d =
    list_all is_narrow d.pre && (list_all is_narrow d.measure && (is_narrow d.body && is_narrow_post d.post))

-- the functions have fewer than 2^22 expressions together, and no match has 65,536 cases or more
pub record IsSmall (typed : Typed) : Type 0 where
  pub nodes : sum (map def_nodes typed.defs) < 2 ^ 22
  pub cases : IsTrue (list_all is_narrow_def typed.defs)
