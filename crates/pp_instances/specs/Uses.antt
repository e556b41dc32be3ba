-- What a member uses: each function at the type arguments of each use in its text, contracts included, and each type in
-- its text with the types inside it; a type uses those of its fields. Source: own.
use Rattle.std.specs.Prelude.{ℕ, suc, nat_eq, if◌then◌else◌, List, [], ◌∷◌, ◌++◌, map, Option, Some, None, replicate}
use Rattle.std.specs.Prelude.{slice_get}
use Rattle.pp_list.specs.Joined.{joined}
use Rattle.pp_typed.specs.Parts.{case_parts, kind_parts}
use Rattle.pp_instances.specs.declared.member.Decl.{Decl}
use Rattle.pp_instances.specs.declared.member.Decl.TheVariants.{Function, Root}
use Rattle.pp_instances.specs.declared.member.Member.{Member}
use Rattle.pp_typed.specs.Put.{put}
use Rattle.pp_typed.specs.declared.expr.TypedExpr.{TypedExpr}
use Rattle.pp_typed.specs.declared.expr.TypedCase.{TypedCase}
use Rattle.pp_typed.specs.declared.expr.TypedKind.{TypedKind}
use Rattle.pp_typed.specs.declared.expr.TypedKind.TheFolds.{fold-TypedCase, fold-TypedExpr, fold-TypedKind}
use Rattle.pp_typed.specs.declared.expr.TypedKind.TheOpen as layer
use Rattle.pp_typed.specs.declared.sort.GenericSort.{GenericSort}
use Rattle.pp_typed.specs.declared.sort.GenericSort.TheFolds.{para-GenericSort}
use Rattle.pp_typed.specs.declared.sort.GenericSort.TheOpen as sort_layer
use Rattle.pp_typed.specs.declared.sort.GenericSort.TheVariants as sort
use Rattle.pp_typed.specs.declared.typed.Typed.{Typed}
use Rattle.pp_typed.specs.declared.typed.TypedCtor.{TypedCtor}
use Rattle.pp_typed.specs.declared.typed.TypedDef.{TypedDef}
use Rattle.pp_typed.specs.declared.typed.TypedParam.{TypedParam}
use Rattle.pp_typed.specs.declared.typed.TypedPost.{TypedPost}

abbrev pub function_at : ℕ → List GenericSort → Member
function_at f args = record { of = Function f; args = args }

abbrev pub root_at : ℕ → List GenericSort → Member
root_at r args = record { of = Root r; args = args }

-- the types in sorts and in what is written in them

abbrev pub sort_itself : GenericSort × List Member → GenericSort
sort_itself p = p.0

abbrev pub types_inside : GenericSort × List Member → List Member
types_inside p = p.1

abbrev pub types_step : sort_layer.GenericSort-F (GenericSort × List Member) → List Member
types_step sort_layer.Int = []
types_step sort_layer.Bool = []
types_step (sort_layer.Param i) = []
types_step (sort_layer.Root r parts) = root_at r (map sort_itself parts) ∷ joined (map types_inside parts)

-- the types that a sort is made of: itself, and those of its arguments. `Int` and `Boolean` aren't members
abbrev pub types_in : GenericSort → List Member
types_in = para-GenericSort (List Member) types_step

abbrev pub types_of : List GenericSort → List Member
types_of sorts = joined (map types_in sorts)

-- one level, with what the parts mention in their place
abbrev pub kind_step : layer.TypedKind-F (List Member) (List Member) (List Member) → List Member
kind_step (layer.Call f sorts args) = function_at f sorts ∷ types_of sorts ++ joined args
kind_step (layer.Construct c sorts args) = types_of sorts ++ joined args
kind_step y = kind_parts y

abbrev pub expr_step : layer.TypedExpr-F (List Member) (List Member) (List Member) → List Member
expr_step e = types_in e.of ++ e.kind

-- what an expression mentions: the types of it and of its parts, and each function at the type arguments of each use
abbrev pub mentions : TypedExpr → List Member
mentions = fold-TypedExpr (List Member) (List Member) (List Member) kind_step case_parts expr_step

-- what a case mentions, in its guard and its body
abbrev pub case_mentions : TypedCase → List Member
case_mentions = fold-TypedCase (List Member) (List Member) (List Member) kind_step case_parts expr_step

-- what is mentioned below an expression
abbrev pub kind_mentions : TypedKind → List Member
kind_mentions = fold-TypedKind (List Member) (List Member) (List Member) kind_step case_parts expr_step

abbrev pub guard_mentions : Option TypedExpr → List Member
guard_mentions None = []
guard_mentions (Some guard) = mentions guard

abbrev pub post_mentions : Option TypedPost → List Member
post_mentions None = []
post_mentions (Some post) = mentions post.claim

abbrev pub param_types : TypedParam → List Member
param_types p = types_in p.of

-- what a function mentions in its parameters and its result
abbrev pub signature_mentions : TypedDef → List Member
signature_mentions d = joined (map param_types d.params) ++ types_in d.result

-- what it mentions in its contract and its body
abbrev pub text_mentions : TypedDef → List Member
text_mentions d = joined (map mentions d.pre) ++ joined (map mentions d.measure) ++ mentions d.body
    ++ post_mentions d.post

abbrev pub def_mentions : TypedDef → List Member
def_mentions d = signature_mentions d ++ text_mentions d

abbrev pub def_or_none : Option TypedDef → List Member
def_or_none None = []
def_or_none (Some d) = def_mentions d

-- the types of a constructor's fields, where it is one of this root
abbrev pub ctor_mentions : ℕ → TypedCtor → List Member
ctor_mentions r c = if nat_eq c.root r then types_of c.fields else []

-- what a declaration mentions, over its own type parameters
abbrev pub decl_mentions : Typed → Decl → List Member
decl_mentions typed (Function f) = def_or_none (slice_get typed.defs f)
decl_mentions typed (Root r) = joined (map (ctor_mentions r) typed.ctors)

-- the member at these arguments
abbrev pub at_args : List GenericSort → Member → Member
at_args args m = record { of = m.of; args = map (put args) m.args }

-- what a member uses
abbrev pub uses : Typed → Member → List Member
uses typed m = map (at_args m.args) (decl_mentions typed m.of)

abbrev pub start_at : ℕ → TypedDef → List Member
start_at f d = if nat_eq d.type_params 0 then function_at f [] ∷ [] else []

abbrev pub start_from : ℕ → List TypedDef → List Member
start_from f [] = []
start_from f (d ∷ ds) = start_at f d ++ start_from (suc f) ds

-- all functions without type parameters
abbrev pub start : Typed → List Member
start typed = start_from 0 typed.defs

-- a function with every type parameter `Int`
abbrev pub at_ints : ℕ → TypedDef → Member
at_ints f d = function_at f (replicate d.type_params sort.Int)
