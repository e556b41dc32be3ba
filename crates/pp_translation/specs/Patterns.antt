-- The pattern of a program that a typed pattern is, for values of a sort without type parameters. Source: own.
use Rattle.std.specs.Prelude.{Bool, true, false, List, [], ◌∷◌, map, slice_get}
use Rattle.pp_instances.specs.declared.member.Member.{Member}
use Rattle.pp_translation.specs.Numbers.{args_of, fields_of, ctor_number}
use Rattle.pp_prog.specs.declared.expr.Pattern.{Pattern}
use Rattle.pp_prog.specs.declared.expr.Pattern.TheVariants as prog
use Rattle.pp_typed.specs.Put.{put}
use Rattle.pp_typed.specs.declared.pattern.TypedPattern.{TypedPattern}
use Rattle.pp_typed.specs.declared.pattern.TypedPatternKind.TheFolds.{fold-TypedPattern, fold-TypedPatternKind}
use Rattle.pp_typed.specs.declared.pattern.TypedPatternKind.{TypedPatternKind}
use Rattle.pp_typed.specs.declared.pattern.TypedPatternKind.TheOpen as layer
use Rattle.pp_typed.specs.declared.sort.GenericSort.{GenericSort}
use Rattle.pp_typed.specs.declared.typed.Typed.{Typed}

-- what a pattern is: a pattern of the program, at a sort
abbrev pub AtSort : Type 0
AtSort = GenericSort → Pattern

-- each pattern at the sort at its place
abbrev pub each_at : List AtSort → List GenericSort → List Pattern
each_at [] ss = []
each_at (p ∷ ps) [] = []
each_at (p ∷ ps) (s ∷ ss) = p s ∷ each_at ps ss

abbrev pub bound_if : Bool → Pattern → Pattern
bound_if true p = prog.Bind p
bound_if false p = p

module _ (typed : Typed) (roots : List Member) where
  -- one level, with the inner patterns in their place
  abbrev pub pattern_kind_step : layer.TypedPatternKind-F AtSort AtSort → AtSort
  pattern_kind_step layer.Any s = prog.Any
  pattern_kind_step (layer.Int n) s = prog.Int n
  pattern_kind_step (layer.Bool b) s = prog.Bool b
  pattern_kind_step (layer.Ctor c parts) s =
      prog.Ctor (ctor_number typed.ctors roots c (args_of s))
      (each_at parts (map (put (args_of s)) (fields_of (slice_get typed.ctors c))))

  abbrev pub pattern_step : layer.TypedPattern-F AtSort AtSort → AtSort
  pattern_step p s = bound_if p.binds (p.kind s)

  -- the pattern of the program
  abbrev pub pattern_at : TypedPattern → GenericSort → Pattern
  pattern_at = fold-TypedPattern AtSort AtSort pattern_kind_step pattern_step

  -- the pattern, before its value is bound
  abbrev pub kind_at : TypedPatternKind → GenericSort → Pattern
  kind_at = fold-TypedPatternKind AtSort AtSort pattern_kind_step pattern_step
