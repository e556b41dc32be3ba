-- What the context and the locals of the code stand for. Source: own.
use Rattle.std.specs.Prelude.{◌≡◌, ℕ, List, [], map, length, Option, option_map, Result, Ok, Err}
use Rattle.std.specs.Borrow.{Bor}
use Rattle.pp_fault.specs.declared.Halt.{Halt}
use Rattle.pp_fault.specs.declared.Halt.TheVariants.{Memory, Broken}
use Rattle.pp_fault.specs.Part.{Part, and_then}
use Rattle.pp_generic.specs.declared.expected.Expected.{Expected}
use Rattle.pp_generic.specs.Expected.{Found, exact, expect}
use Rattle.pp_sorts.specs.Words.{words_of}
use Rattle.pp_tree.specs.declared.expr.Case.{Case}
use Rattle.pp_tree.specs.declared.expr.Expr.{Expr}
use Rattle.pp_tree.specs.declared.expr.ExprKind.TheViews.{out-Case}
use Rattle.pp_tree.specs.Plain.{Word, Tree, DefTree}
use Rattle.pp_tree.specs.Shown.{case_of, case_trees, pattern_of, tree_of, trees}
use Rattle.pp_typed.specs.declared.declared.Signature.{Signature}
use Rattle.pp_typed.specs.declared.expr.TypedCase.{TypedCase}
use Rattle.pp_typed.specs.declared.expr.TypedExpr.{TypedExpr}
use Rattle.pp_typed.specs.declared.expr.TypedKind.TheViews.{roll-TypedCase}
use Rattle.pp_typed.specs.declared.pattern.TypedPattern.{TypedPattern}
use Rattle.pp_typed.specs.declared.sort.GenericSort.{GenericSort}
use Rattle.pp_typed.specs.declared.typed.TypedDef.{TypedDef}
use Rattle.pp_rules.specs.Bodies.{elab_conditions, elab_measure, elab_post, typed_def}
use Rattle.pp_typing.specs.declared.context.Context.{Context}
use Rattle.pp_typing.specs.declared.scope.Local.{Local}
use Rattle.pp_rules.specs.Elab.{Taken, elab, elab_args, elab_arm, elab_cases, name_at, taken}
use Rattle.pp_rules.specs.Scope.{Env, Scope}

-- what an expression in a context stands in
abbrev pub env_of : Context → Env
env_of c = record {
  declared = c.names.now;
  type_params = words_of c.type_params.now;
  function = c.function.now;
  source = c.source;
}

abbrev pub shown : Local → Word × GenericSort
shown l = (l.name.now, l.of)

-- the values in scope
abbrev pub scope_of : List Local → Scope
scope_of = map shown

-- the typing of an expression among locals, of which those from a place on are the `val`s that reach it
abbrev pub typing : Context → List Local → ℕ → Expected → Tree → Part TypedExpr
typing c locals k x t = elab (env_of c) t (scope_of locals) k x

-- the typing of an expression that no `val` reaches
abbrev pub part_typing : Context → List Local → Expected → Tree → Part TypedExpr
part_typing c locals x t = typing c locals (length (scope_of locals)) x t

-- what a call that may be out of memory tells of a part of which it answers the first half and leaves the second
abbrev pub TellsBoth : {A B : Type 0} → Result A Halt → B → Part (A × B) → Type 0
TellsBoth (Ok a) b part = part ≡ Ok (a, b)
TellsBoth (Err Memory) b part = Unit {0}
TellsBoth (Err (Broken f)) b part = part ≡ Err f

-- what a call that may be out of memory tells of a part that it leaves
abbrev pub Leaves : {B : Type 0} → Result (Unit {0}) Halt → B → Part B → Type 0
Leaves (Ok a) b part = part ≡ Ok b
Leaves (Err Memory) b part = Unit {0}
Leaves (Err (Broken f)) b part = part ≡ Err f

-- the case of a pattern, a guard and a body
abbrev pub case_with : TypedPattern → Option TypedExpr → TypedExpr → TypedCase
case_with p guard body = roll-TypedCase (record { pattern = p; guard = guard; body = body })

-- a name that may be missing
abbrev pub word_of : Option (Bor (List ℕ)) → Option Word
word_of = option_map (λ n. n.now)

-- the typing of an argument for a parameter, with what is found of the type parameters before and after it
abbrev pub arg_typing : Context → List Local → Tree → GenericSort → Found → Part (TypedExpr × Found)
arg_typing c locals t p found =
    and_then (part_typing c locals (expect found p) t) (taken (env_of c) p (name_at (env_of c) t) found)

-- the typing of an argument for each parameter, after these
abbrev pub args_typing : Context → List Local → List TypedExpr → List Expr → List GenericSort → Found → Part Taken
args_typing c locals done es ps found = elab_args (env_of c) done (trees (map tree_of es)) (scope_of locals) ps found

-- the typing of a case for a matched value of a sort, after these
abbrev pub arm_typing : Context → List Local → Expected → GenericSort → List TypedCase → Case → Part TypedCase
arm_typing c locals x s done case =
    let parts = out-Case case in
    elab_arm (env_of c) done (pattern_of parts.pattern) (option_map tree_of parts.guard) (tree_of parts.body)
    (scope_of locals) x s

-- the typing of cases for a matched value of a sort, after these
abbrev pub cases_typing : Context → List Local → Expected → GenericSort → List TypedCase → List Case
    → Part (List TypedCase)
cases_typing c locals x s done cases = elab_cases (env_of c) done (case_trees (map case_of cases)) (scope_of locals) x s

-- the typing of a function among its parameters, where its conditions and its measure have one
abbrev pub body_typing : Env → DefTree → Signature → Scope → List TypedExpr → List TypedExpr → Part TypedDef
body_typing env d s sc pre measure =
    and_then (elab env d.body sc (length sc) (exact s.result)) (λ body.
    and_then (elab_post env d.post sc s.result) (λ post. Ok (typed_def env.source d s pre measure body post)))

-- the typing of a function among its parameters
abbrev pub def_typing : Env → DefTree → Signature → Scope → Part TypedDef
def_typing env d s sc =
    and_then (elab_conditions env [] d.pre sc) (λ pre.
    and_then (elab_measure env [] d.measure sc) (λ measure. body_typing env d s sc pre measure))
