-- Lists of arguments and of patterns, one element at a time.
use Rattle.std.proofs.Common.{◌≡◌, ℕ, suc, ◌+◌, ◌<◌, ◌≤◌, List, [], ◌∷◌, ◌++◌, length, map, drop, get_or, Ok, Err}
use Rattle.std.proofs.Common.{refl, ap, arith}
use Rattle.pp_fault.specs.declared.Halt.{Halt}
use Rattle.pp_fault.specs.Part.{Part, and_then}
use Rattle.pp_generic.specs.Expected.{Found, expect}
use Rattle.pp_rules.specs.Elab.{AllBound, Bound, Taken, count, count_patterns, name_at, taken, elab_pattern}
use Rattle.pp_rules.specs.Elab.{elab_patterns}
use Rattle.pp_rules.specs.Scope.{Env, Scope}
use Rattle.pp_tree.specs.declared.expr.Expr.{Expr, size-Expr}
use Rattle.pp_tree.specs.declared.pattern.Pattern.{Pattern, size-Pattern}
use Rattle.pp_tree.specs.Shown.{pattern_of, pattern_trees, tree_of, trees}
use Rattle.pp_typed.specs.declared.expr.TypedExpr.{TypedExpr}
use Rattle.pp_typed.specs.declared.pattern.TypedPattern.{TypedPattern}
use Rattle.pp_typed.specs.declared.sort.GenericSort.{GenericSort}
use Rattle.pp_typing.proofs.Turns.{both_turn, both_stop}
use Rattle.pp_typing.specs.declared.context.Context.{Context}
use Rattle.pp_typing.specs.declared.scope.Local.{Local}
use Rattle.pp_typing.specs.Views.{TellsBoth, arg_typing, args_typing, env_of, part_typing}
use denote.Param.Weighed.{most, at_most}

assoc : {A B C : Type 0} (p : Part A) (f : A → Part B) (g : B → Part C)
    → and_then p (λ a. and_then (f a) g) ≡ and_then (and_then p f) g
assoc (Ok a) f g = refl
assoc (Err e) f g = refl

pub args_step : (c : Context) (locals : List Local) (done : List TypedExpr) (e : Expr) (es : List Expr)
    (p : GenericSort) (ps : List GenericSort) (found : Found)
    → args_typing c locals done (e ∷ es) (p ∷ ps) found
    ≡ and_then (arg_typing c locals (tree_of e) p found) (λ r. args_typing c locals (done ++ r.0 ∷ []) es ps r.1)
args_step c locals done e es p ps found =
    assoc (part_typing c locals (expect found p) (tree_of e)) (λ (t : TypedExpr). taken (env_of c) p (name_at
    (env_of c) (tree_of e)) found t)
    (λ (r : TypedExpr × Found). args_typing c locals (done ++ r.0 ∷ []) es ps r.1)

pub count_trees : (es : List Expr) → count (trees (map tree_of es)) ≡ length es
count_trees [] = refl
count_trees (e ∷ es) = ap suc (count_trees es)

pub count_parts : (ps : List Pattern) → count_patterns (pattern_trees (map pattern_of ps)) ≡ length ps
count_parts [] = refl
count_parts (p ∷ ps) = ap suc (count_parts ps)

pub item_size : (es : List Expr) (i : ℕ) (e : Expr) → i < length es → e ≡ get_or es i e
    → size-Expr e ≤ most size-Expr es
item_size es i e lt is = omega (arith, at_most size-Expr es i e lt, ap size-Expr is)

pub part_size : (ps : List Pattern) (i : ℕ) (p : Pattern) → i < length ps → p ≡ get_or ps i p
    → size-Pattern p ≤ most size-Pattern ps
part_size ps i p lt is = omega (arith, at_most size-Pattern ps i p lt, ap size-Pattern is)

-- the rest of the arguments after a turn, and where a turn stops
module _ (c : Context) (locals : List Local) where
  pub args_turn : (whole : Part Taken) (es : List Expr) (ps : List GenericSort) (i : ℕ) (e : Expr) (p : GenericSort)
      (done : List TypedExpr) (found after : Found) (t : TypedExpr)
      → i < length es → e ≡ get_or es i e → i < length ps → p ≡ get_or ps i p
      → whole ≡ args_typing c locals done (drop i es) (drop i ps) found
      → arg_typing c locals (tree_of e) p found ≡ Ok (t, after)
      → whole ≡ args_typing c locals (done ++ t ∷ []) (drop (i + 1) es) (drop (i + 1) ps) after
  args_turn = both_turn (args_typing c locals) (λ e p found. arg_typing c locals (tree_of e) p found)
      (args_step c locals)

  pub args_stop : (whole : Part Taken) (es : List Expr) (ps : List GenericSort) (i : ℕ) (e : Expr) (p : GenericSort)
      (done : List TypedExpr) (found after last : Found) (h : Halt)
      → i < length es → e ≡ get_or es i e → i < length ps → p ≡ get_or ps i p
      → whole ≡ args_typing c locals done (drop i es) (drop i ps) found
      → TellsBoth {A = TypedExpr} (Err h) after (arg_typing c locals (tree_of e) p found)
      → TellsBoth {A = List TypedExpr} (Err h) last whole
  args_stop = both_stop (args_typing c locals) (λ e p found. arg_typing c locals (tree_of e) p found)
      (args_step c locals)

-- the same of patterns
module _ (env : Env) (k : ℕ) where
  abbrev rest_patterns : List TypedPattern → List Pattern → List GenericSort → Scope → Part AllBound
  rest_patterns done ps ss sc = elab_patterns env done (pattern_trees (map pattern_of ps)) ss k sc

  abbrev one_pattern : Pattern → GenericSort → Scope → Part Bound
  one_pattern p s sc = elab_pattern env (pattern_of p) s k sc

  patterns_step : (done : List TypedPattern) (p : Pattern) (ps : List Pattern) (s : GenericSort)
      (ss : List GenericSort) (sc : Scope)
      → rest_patterns done (p ∷ ps) (s ∷ ss) sc ≡ and_then (one_pattern p s sc) (λ r. rest_patterns
      (done ++ r.0 ∷ []) ps ss r.1)
  patterns_step done p ps s ss sc = refl

  pub patterns_turn : (whole : Part AllBound) (ps : List Pattern) (ss : List GenericSort) (i : ℕ) (p : Pattern)
      (s : GenericSort) (done : List TypedPattern) (sc after : Scope) (t : TypedPattern)
      → i < length ps → p ≡ get_or ps i p → i < length ss → s ≡ get_or ss i s
      → whole ≡ rest_patterns done (drop i ps) (drop i ss) sc → one_pattern p s sc ≡ Ok (t, after)
      → whole ≡ rest_patterns (done ++ t ∷ []) (drop (i + 1) ps) (drop (i + 1) ss) after
  patterns_turn = both_turn rest_patterns one_pattern patterns_step

  pub patterns_stop : (whole : Part AllBound) (ps : List Pattern) (ss : List GenericSort) (i : ℕ) (p : Pattern)
      (s : GenericSort) (done : List TypedPattern) (sc after last : Scope) (h : Halt)
      → i < length ps → p ≡ get_or ps i p → i < length ss → s ≡ get_or ss i s
      → whole ≡ rest_patterns done (drop i ps) (drop i ss) sc
      → TellsBoth {A = TypedPattern} (Err h) after (one_pattern p s sc)
      → TellsBoth {A = List TypedPattern} (Err h) last whole
  patterns_stop = both_stop rest_patterns one_pattern patterns_step
