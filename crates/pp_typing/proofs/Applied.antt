-- The application of a name that is found, and its arguments one at a time.
use Rattle.std.proofs.Common.{◌≡◌, ◌∙◌, ℕ, List, [], ◌∷◌, ◌++◌, ◌+◌, ◌<◌, drop, get_or, length, map, Ok, Err, Result}
use Rattle.std.proofs.Common.{Some, sym, ap, subst, nat_eq, eq-eqb}
use Rattle.std.proofs.lemmas.List.{get_or_default}
use Rattle.pp_fault.specs.declared.Halt.{Halt}
use Rattle.pp_fault.specs.declared.Rule.TheVariants.{Arity}
use Rattle.pp_fault.specs.Part.{Part, and_then}
use Rattle.pp_fault.proofs.Parts.{goes}
use Rattle.pp_generic.specs.declared.expected.Expected.{Expected}
use Rattle.pp_generic.specs.Expected.{Found}
use Rattle.pp_rules.specs.declared.callee.Callee.{Callee}
use Rattle.pp_rules.specs.Elab.{Taken, applied, count, finished, flaw, started, unless}
use Rattle.pp_rules.specs.Shapes.{applied_by}
use Rattle.pp_tree.specs.declared.expr.Expr.{Expr}
use Rattle.pp_tree.specs.declared.type_text.TypeText.{TypeText}
use Rattle.pp_tree.specs.Plain.{Word, apply}
use Rattle.pp_tree.specs.Shown.{tree_of, trees, type_of, type_trees}
use Rattle.pp_typed.specs.declared.expr.TypedExpr.{TypedExpr}
use Rattle.pp_typed.specs.declared.sort.GenericSort.{GenericSort}
use Rattle.pp_typing.proofs.Parts.{args_stop, args_turn, count_trees}
use Rattle.pp_typing.proofs.Told.{differ, unless_false, unless_true}
use Rattle.pp_typing.specs.declared.context.Context.{Context}
use Rattle.pp_typing.specs.declared.scope.Local.{Local}
use Rattle.pp_typing.specs.Views.{TellsBoth, arg_typing, args_typing, env_of, part_typing}

module _ (c : Context) (locals : List Local) (at : ℕ) (x : Expected) (w : Word) (ts : List TypeText)
    (es : List Expr) (callee : Callee)
    (f : applied_by c.names.now w ≡ Some callee) where
  abbrev whole : Part TypedExpr
  whole = part_typing c locals x (apply at w (type_trees (map type_of ts)) (trees (map tree_of es)))

  abbrev of_args : List GenericSort → Found → Part Taken
  of_args ps found = args_typing c locals [] es ps found

  abbrev rest : Part TypedExpr
  rest = and_then (started (env_of c) at x w (type_trees (map type_of ts)) callee) (λ found.
      and_then (of_args callee.params found) (finished (env_of c) at x w callee))

  counted : whole ≡ unless (env_of c) (nat_eq (length es) (length callee.params)) Arity w at rest
  counted =
      ap (applied (env_of c) at x w (type_trees (map type_of ts)) (count (trees (map tree_of es))) of_args) f
      ∙ ap (λ n. unless (env_of c) (nat_eq n (length callee.params)) Arity w at rest) (count_trees es)

  pub applied_arity : (length es ≡ length callee.params → ⊥) → whole ≡ flaw (env_of c) Arity w at
  applied_arity h =
      counted ∙ unless_false (env_of c) (nat_eq (length es) (length callee.params)) w at rest (differ (env_of c)
      (length es) (length callee.params) h)

  pub applied_start : length es ≡ length callee.params → whole ≡ rest
  applied_start h =
      counted ∙ unless_true (env_of c) (nat_eq (length es) (length callee.params)) w at rest (eq-eqb (length es)
      (length callee.params) h)

  pub applied_args : (found : Found) (ps : List GenericSort) → length es ≡ length callee.params
      → started (env_of c) at x w (type_trees (map type_of ts)) callee ≡ Ok found → ps ≡ callee.params
      → whole ≡ and_then (of_args ps found) (finished (env_of c) at x w callee)
  applied_args found ps h s e =
      applied_start h ∙ goes (started (env_of c) at x w (type_trees (map type_of ts)) callee) _ found s
      ∙ ap (λ z. and_then (of_args z found) (finished (env_of c) at x w callee)) (sym e)

-- the rest of the arguments after a turn, and where a turn stops
module _ (c : Context) (locals sc : List Local) (whole : Part Taken) (es : List Expr) (ps : List GenericSort)
    (i : ℕ) (d : Expr) (p : GenericSort)
    (done : List TypedExpr) (found after : Found) (n : length es ≡ length ps) (lt : i < length es)
    (is : p ≡ get_or ps i p) (same : sc ≡ locals)
    (w : whole ≡ args_typing c locals done (drop i es) (drop i ps) found) where
  few : i < length ps
  few = subst (λ k. i < k) n lt

  pub arguments_turn : (t : TypedExpr) (more : List TypedExpr) → more ≡ done ++ t ∷ []
      → arg_typing c sc (tree_of (get_or es i d)) p found ≡ Ok (t, after)
      → whole ≡ args_typing c locals more (drop (i + 1) es) (drop (i + 1) ps) after
  arguments_turn t more push one =
      args_turn c locals whole es ps i (get_or es i d) p done found after t lt (get_or_default es i d
      (get_or es i d) lt) few is w
      (ap (λ l. arg_typing c l (tree_of (get_or es i d)) p found) (sym same) ∙ one)
      ∙ ap (λ l. args_typing c locals l (drop (i + 1) es) (drop (i + 1) ps) after) (sym push)

  pub arguments_stop : (r : Result (List TypedExpr) Halt) (h : Halt) (last : Found) → r ≡ Err h
      → TellsBoth {A = TypedExpr} (Err h) after (arg_typing c sc (tree_of (get_or es i d)) p found)
      → TellsBoth r last whole
  arguments_stop r h last stopped told =
      subst (λ q. TellsBoth q last whole) (sym stopped)
      (args_stop c locals whole es ps i (get_or es i d) p done found after last h lt (get_or_default es i d
      (get_or es i d) lt) few is w
      (subst (λ l. TellsBoth {A = TypedExpr} (Err h) after (arg_typing c l (tree_of
      (get_or es i d)) p found)) same told))
