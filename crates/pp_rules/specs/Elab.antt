-- The typing of an expression, or the fault that is found first. `Typing` has the rules of the language; `Elab` is how
-- a typing is found, and is the same by the laws above this crate. Source: own.
use Rattle.std.specs.Prelude.{ℕ, zero, suc, nat_eq, Bool, false, if◌then◌else◌, List, [], ◌∷◌, ◌++◌, map}
use Rattle.std.specs.Prelude.{length, Option, Some, None, is_some, unwrap_or, Ok, slice_get}
use Rattle.pp_fault.specs.declared.Rule.{Rule}
use Rattle.pp_fault.specs.declared.Rule.TheVariants.{Unknown, Duplicate, Mismatch, Arity, CannotInfer, NotABoolean}
use Rattle.pp_fault.specs.Part.{Part, and_then, fault}
use Rattle.pp_generic.specs.declared.expected.Expected.{Expected}
use Rattle.pp_generic.specs.declared.expected.Expected.TheVariants.{Open}
use Rattle.pp_typed.specs.Equal.{equal}
use Rattle.pp_generic.specs.Expected.{Found, exact, expect, every, fits, known}
use Rattle.pp_generic.specs.Found.{learn, none_found}
use Rattle.pp_typed.specs.Operators.{gives, takes, unary_sort}
use Rattle.pp_typed.specs.Put.{put}
use Rattle.pp_names.specs.Find.{find_ctor}
use Rattle.pp_tree.specs.declared.operator.BinaryOp.{BinaryOp}
use Rattle.pp_tree.specs.declared.operator.UnaryOp.{UnaryOp}
use Rattle.pp_tree.specs.Plain.{Word, TypeTree, TypeTrees, no_types, more_types, PatternTree, any, int_pattern}
use Rattle.pp_tree.specs.Plain.{bool_pattern, ctor_pattern, PatternTrees, no_patterns, more_patterns, Tree, int, bool}
use Rattle.pp_tree.specs.Plain.{name, apply, field, unary, binary, choice, matching, val_in, assert_in, Trees, no_trees}
use Rattle.pp_tree.specs.Plain.{more_trees, CaseTrees, no_cases, plain_case, guarded_case}
use Rattle.pp_typed.specs.declared.expr.TypedCase.{TypedCase}
use Rattle.pp_typed.specs.declared.expr.TypedExpr.{TypedExpr}
use Rattle.pp_typed.specs.declared.expr.TypedKind.{TypedKind}
use Rattle.pp_typed.specs.declared.expr.TypedKind.TheVariants as kind
use Rattle.pp_typed.specs.declared.expr.TypedKind.TheViews.{out-TypedCase, roll-TypedCase}
use Rattle.pp_typed.specs.declared.pattern.TypedPattern.{TypedPattern}
use Rattle.pp_typed.specs.declared.pattern.TypedPatternKind.{TypedPatternKind}
use Rattle.pp_typed.specs.declared.pattern.TypedPatternKind.TheVariants as pattern_kind
use Rattle.pp_typed.specs.declared.sort.GenericSort.{GenericSort}
use Rattle.pp_typed.specs.declared.sort.GenericSort.TheOpen as layer
use Rattle.pp_typed.specs.declared.sort.GenericSort.TheVariants as sort
use Rattle.pp_typed.specs.declared.sort.GenericSort.TheViews.{out-GenericSort}
use Rattle.pp_typed.specs.declared.typed.TypedCtor.{TypedCtor}
use Rattle.pp_rules.specs.declared.callee.Callee.{Callee}
use Rattle.pp_operators.specs.Classes.{is_equality}
use Rattle.pp_rules.specs.Operators.{admits, right_expected}
use Rattle.pp_rules.specs.Scope.{Env, Scope, clashes, place}
use Rattle.pp_rules.specs.Shapes.{application, applied_by, field_place, field_sort, named_by, only_ctor}
use Rattle.pp_sorts.specs.IsSort.{count as count_types}
use Rattle.pp_rules.specs.Written.{written, written_from}

-- how many arguments, and how many patterns
abbrev pub count : Trees → ℕ
count no_trees = zero
count (more_trees e es) = suc (count es)

abbrev pub count_patterns : PatternTrees → ℕ
count_patterns no_patterns = zero
count_patterns (more_patterns p ps) = suc (count_patterns ps)

-- the arguments of an application, with what is found of the type parameters after them
abbrev pub Taken : Type 0
Taken = List TypedExpr × Found

-- a pattern, with the values in scope after it
abbrev pub Bound : Type 0
Bound = TypedPattern × Scope

-- several patterns, with the values in scope after them
abbrev pub AllBound : Type 0
AllBound = List TypedPattern × Scope

-- the sort of a case's body
abbrev pub body_sort : TypedCase → GenericSort
body_sort c = (out-TypedCase c).body.of

module _ (env : Env) where
  -- the name that is written at an expression; where none is, that of the function around it
  abbrev pub name_at : Tree → Word
  name_at (name at w) = w
  name_at (apply at w ts es) = w
  name_at (field at e w) = w
  name_at (val_in at w t a b) = w
  name_at _ = env.function

  abbrev pub flaw : {A : Type 0} → Rule → Word → ℕ → Part A
  flaw rule w at = fault rule w env.source at

  -- goes on where the test holds
  abbrev pub unless : {A : Type 0} → Bool → Rule → Word → ℕ → Part A → Part A
  unless b rule w at go = if b then go else flaw rule w at

  abbrev pub typed : ℕ → GenericSort → TypedKind → TypedExpr
  typed at of kind = record { source = env.source; at = at; of = of; kind = kind }

  -- the expression, where its sort is as expected; else a mismatch there, with the name that is written there
  abbrev pub agreed : Expected → Word → TypedExpr → Part TypedExpr
  agreed x w e = unless (fits x e.of) Mismatch w e.at (Ok e)

  -- the expression, where its sort is this one
  abbrev pub of_sort : Rule → GenericSort → Word → TypedExpr → Part TypedExpr
  of_sort rule s w e = unless (equal s e.of) rule w e.at (Ok e)

  -- the condition, where it is Boolean
  abbrev pub condition : Word → Part TypedExpr → Part TypedExpr
  condition w c = and_then c (of_sort NotABoolean sort.Bool w)

  -- applications

  -- what is found before the arguments: what is written, or what the expected sort tells
  abbrev pub started : ℕ → Expected → Word → TypeTrees → Callee → Part Found
  started at x w no_types c = Ok (learn c.result x (none_found c.type_params))
  started at x w (more_types t ts) c =
      unless (nat_eq (suc (count_types ts)) c.type_params) Arity w at
      (and_then (written_from env [] (more_types t ts)) (λ sorts. Ok (map Some sorts)))

  abbrev pub inferred : ℕ → Expected → Word → Callee → List TypedExpr → Option (List GenericSort) → Part TypedExpr
  inferred at x w c es None = flaw CannotInfer w at
  inferred at x w c es (Some sorts) = agreed x w (typed at (put sorts c.result) (application c.target sorts es))

  -- the application, where each type argument is found
  abbrev pub finished : ℕ → Expected → Word → Callee → Taken → Part TypedExpr
  finished at x w c taken = inferred at x w c taken.0 (every taken.1)

  abbrev pub is_sort : Option GenericSort → GenericSort → Bool
  is_sort None t = false
  is_sort (Some s) t = equal s t

  -- the argument, where its sort is that of its parameter with what is found
  abbrev pub fitted : GenericSort → Word → TypedExpr → Found → Part (TypedExpr × Found)
  fitted p w t found = unless (is_sort (known found p) t.of) Mismatch w t.at (Ok (t, found))

  -- an argument, and what is found after it
  abbrev pub taken : GenericSort → Word → Found → TypedExpr → Part (TypedExpr × Found)
  taken p w found t = fitted p w t (learn p (exact t.of) found)

  abbrev pub applied : ℕ → Expected → Word → TypeTrees → ℕ → (List GenericSort → Found → Part Taken)
      → Option Callee → Part TypedExpr
  applied at x w ts n args None = flaw Unknown w at
  applied at x w ts n args (Some c) =
      unless (nat_eq n (length c.params)) Arity w at
      (and_then (started at x w ts c) (λ found. and_then (args c.params found) (finished at x w c)))

  -- names

  abbrev pub no_args : List GenericSort → Found → Part Taken
  no_args ps found = Ok ([], found)

  abbrev pub local_at : ℕ → Expected → Word → ℕ → Option (Word × GenericSort) → Part TypedExpr
  local_at at x w i None = flaw Unknown w at
  local_at at x w i (Some l) = agreed x w (typed at l.1 (kind.Local i))

  abbrev pub named : Scope → ℕ → Expected → Word → Option ℕ → Part TypedExpr
  named sc at x w (Some i) = local_at at x w i (slice_get sc i)
  named sc at x w None = applied at x w no_types 0 no_args (named_by env.declared w)

  -- fields

  abbrev pub field_typed : ℕ → Expected → Word → List GenericSort → TypedExpr → ℕ → Option GenericSort
      → Part TypedExpr
  field_typed at x w args e j None = flaw Unknown w at
  field_typed at x w args e j (Some s) = agreed x w (typed at (put args s) (kind.Field e j))

  abbrev pub field_placed : ℕ → Expected → Word → List GenericSort → TypedExpr → ℕ → Option ℕ → Part TypedExpr
  field_placed at x w args e c None = flaw Unknown w at
  field_placed at x w args e c (Some j) = field_typed at x w args e j (field_sort env.declared c j)

  abbrev pub field_of_ctor : ℕ → Expected → Word → List GenericSort → TypedExpr → Option ℕ → Part TypedExpr
  field_of_ctor at x w args e None = flaw Mismatch w at
  field_of_ctor at x w args e (Some c) = field_placed at x w args e c (field_place env.declared c w)

  -- a field of the one constructor of the base's root
  abbrev pub selected : ℕ → Expected → Word → TypedExpr → layer.GenericSort-F GenericSort → Part TypedExpr
  selected at x w e (layer.Root r args) = field_of_ctor at x w args e (only_ctor env.declared r)
  selected at x w e _ = flaw Mismatch w at

  -- operators and `if`

  abbrev pub operated : ℕ → Expected → BinaryOp → TypedExpr → TypedExpr → Part TypedExpr
  operated at x op a b = agreed x env.function (typed at (gives op a.of) (kind.Binary op a b))

  abbrev pub negated : ℕ → Expected → UnaryOp → TypedExpr → Part TypedExpr
  negated at x op a = agreed x env.function (typed at (unary_sort op) (kind.Unary op a))

  -- the two results of an `if` have one sort; else the second is a mismatch
  abbrev pub chosen : ℕ → TypedExpr → TypedExpr → Word → TypedExpr → Part TypedExpr
  chosen at c a w b = unless (equal a.of b.of) Mismatch w b.at (Ok (typed at a.of (kind.If c a b)))

  -- patterns

  abbrev pub pattern : ℕ → Option Word → TypedPatternKind → TypedPattern
  pattern at n kind = record { source = env.source; at = at; binds = is_some n; kind = kind }

  -- the values in scope with the name that a pattern binds, of which those from place k on are the pattern's own
  abbrev pub bind : ℕ → Option Word → GenericSort → ℕ → Scope → Part Scope
  bind at None s k sc = Ok sc
  bind at (Some w) s k sc = if clashes w k sc then flaw Duplicate w at else Ok (sc ++ (w, s) ∷ [])

  -- the name at a pattern of no constructor
  abbrev pub pattern_name : Option Word → Word
  pattern_name n = unwrap_or n env.function

  -- a pattern without parts, of values of the second sort, where it is of this one
  abbrev pub leaf : ℕ → Option Word → TypedPatternKind → GenericSort → GenericSort → ℕ → Scope → Part Bound
  leaf at n kind of s k sc =
      unless (equal of s) Mismatch (pattern_name n) at (and_then (bind at n s k sc) (λ after. Ok (
        pattern at n
            kind,
        after,
      )))

  -- the type arguments at which a pattern's constructor of this root stands, where values of the sort are of that root
  abbrev pub arguments : ℕ → Word → ℕ → layer.GenericSort-F GenericSort → Part (List GenericSort)
  arguments at c r (layer.Root q args) = unless (nat_eq r q) Mismatch c at (Ok args)
  arguments at c r _ = flaw Mismatch c at

  abbrev pub ctor_bound : ℕ → Option Word → ℕ → AllBound → Part Bound
  ctor_bound at n i r = Ok (pattern at n (pattern_kind.Ctor i r.0), r.1)

  abbrev pub with_ctor : ℕ → Option Word → Word → ℕ → (List GenericSort → Scope → Part AllBound) → GenericSort
      → ℕ → Scope → ℕ → Option TypedCtor → Part Bound
  with_ctor at n c m parts s k sc i None = flaw Unknown c at
  with_ctor at n c m parts s k sc i (Some ctor) =
      and_then (arguments at c ctor.root (out-GenericSort s)) (λ args.
      unless (nat_eq m (length ctor.fields)) Arity c at
      (and_then (bind at n s k sc) (λ after. and_then (parts (map (put args) ctor.fields) after) (ctor_bound at n
      i))))

  abbrev pub ctor_found : ℕ → Option Word → Word → ℕ → (List GenericSort → Scope → Part AllBound) → GenericSort
      → ℕ → Scope → Option ℕ → Part Bound
  ctor_found at n c m parts s k sc None = flaw Unknown c at
  ctor_found at n c m parts s k sc (Some i) = with_ctor at n c m parts s k sc i (slice_get env.declared.ctors i)

  abbrev mutual
    -- a pattern of values of a sort
    pub elab_pattern : PatternTree → GenericSort → ℕ → Scope → Part Bound
    elab_pattern (any at n) s k sc = and_then (bind at n s k sc) (λ after. Ok (pattern at n pattern_kind.Any, after))
    elab_pattern (int_pattern at n v) s k sc = leaf at n (pattern_kind.Int v) sort.Int s k sc
    elab_pattern (bool_pattern at n b) s k sc = leaf at n (pattern_kind.Bool b) sort.Bool s k sc
    elab_pattern (ctor_pattern at n c ps) s k sc =
        ctor_found at n c (count_patterns ps) (λ ss after. elab_patterns [] ps ss k after) s k sc (find_ctor
        env.declared c)

    -- patterns of values of several sorts, after these
    pub elab_patterns : List TypedPattern → PatternTrees → List GenericSort → ℕ → Scope → Part AllBound
    elab_patterns done no_patterns ss k sc = Ok (done, sc)
    elab_patterns done (more_patterns p ps) [] k sc = Ok (done, sc)
    elab_patterns done (more_patterns p ps) (s ∷ ss) k sc =
        and_then (elab_pattern p s k sc) (λ r. elab_patterns (done ++ r.0 ∷ []) ps ss k r.1)

  -- cases

  -- a body, where it has the sort of the bodies before it
  abbrev pub alike : List TypedCase → Word → TypedExpr → Part TypedExpr
  alike [] w e = Ok e
  alike (c ∷ cs) w e = of_sort Mismatch (body_sort c) w e

  abbrev pub arm : TypedPattern → Option TypedExpr → TypedExpr → TypedCase
  arm p guard body = roll-TypedCase (record { pattern = p; guard = guard; body = body })

  -- a case after these, of a pattern and a body
  abbrev pub plain_arm : List TypedCase → Part Bound → Word → (Scope → Part TypedExpr) → Part TypedCase
  plain_arm done p w body =
      and_then p (λ r. and_then (body r.1) (λ t. and_then (alike done w t) (λ u. Ok (arm r.0 None u))))

  -- a case after these, of a pattern, a guard and a body
  abbrev pub guarded_arm : List TypedCase → Part Bound → Word → (Scope → Part TypedExpr) → Word → (Scope
      → Part TypedExpr) → Part TypedCase
  guarded_arm done p v guard w body =
      and_then p (λ r. and_then (condition v (guard r.1)) (λ g.
      and_then (body r.1) (λ t. and_then (alike done w t) (λ u. Ok (arm r.0 (Some g) u)))))

  -- a match has at least one case
  abbrev pub matched : ℕ → TypedExpr → List TypedCase → Part TypedExpr
  matched at e [] = flaw Mismatch env.function at
  matched at e (c ∷ cs) = Ok (typed at (body_sort c) (kind.Match e (c ∷ cs)))

  -- `val`

  -- what is expected of a `val`'s value
  abbrev pub val_expected : Option TypeTree → Part Expected
  val_expected None = Ok Open
  val_expected (Some t) = and_then (written env t) (λ s. Ok (exact s))

  abbrev pub valued : ℕ → TypedExpr → TypedExpr → Part TypedExpr
  valued at a b = Ok (typed at b.of (kind.Val a b))

  abbrev pub asserted : ℕ → TypedExpr → TypedExpr → Part TypedExpr
  asserted at c e = Ok (typed at e.of (kind.Assert c e))

  abbrev mutual
    -- an expression among values in scope, of which those from place k on are the `val`s that reach it, where this is
    -- expected
    pub elab : Tree → Scope → ℕ → Expected → Part TypedExpr
    elab (int at n) sc k x = agreed x env.function (typed at sort.Int (kind.Int n))
    elab (bool at b) sc k x = agreed x env.function (typed at sort.Bool (kind.Bool b))
    elab (name at w) sc k x = named sc at x w (place w sc)
    elab (apply at w ts es) sc k x =
        applied at x w ts (count es) (λ ps found. elab_args [] es sc ps found) (applied_by env.declared w)
    elab (field at e w) sc k x = and_then (elab e sc (length sc) Open) (λ t. selected at x w t (out-GenericSort t.of))
    elab (unary at op a) sc k x =
        and_then (elab a sc (length sc) Open) (λ t.
        and_then (of_sort Mismatch (unary_sort op) (name_at a) t) (negated at x op))
    elab (binary at op a b) sc k x =
        and_then (elab a sc (length sc) Open) (λ t.
        unless (admits op t.of) Mismatch (name_at a) t.at (
        and_then (elab b sc (length sc) (right_expected (is_equality op) t.of)) (λ u.
        unless (takes op t.of u.of) Mismatch (name_at b) u.at (operated at x op t u))))
    elab (choice at c a b) sc k x =
        and_then (condition (name_at c) (elab c sc (length sc) Open)) (λ t.
        and_then (elab a sc (length sc) x) (λ u.
        and_then (elab b sc (length sc) x) (chosen at t u (name_at b))))
    elab (matching at e cs) sc k x =
        and_then (elab e sc (length sc) Open) (λ t. and_then (elab_cases [] cs sc x t.of) (matched at t))
    elab (val_in at w t a b) sc k x =
        if clashes w k sc then flaw Duplicate w at else
        and_then (val_expected t) (λ y.
        and_then (elab a sc (length sc) y) (λ u.
        and_then (elab b (sc ++ (w, u.of) ∷ []) k x) (valued at u)))
    elab (assert_in at c e) sc k x =
        and_then (condition (name_at c) (elab c sc (length sc) Open)) (λ t. and_then (elab e sc k x) (asserted at t))

    -- arguments for parameters, from left to right, after these
    pub elab_args : List TypedExpr → Trees → Scope → List GenericSort → Found → Part Taken
    elab_args done no_trees sc ps found = Ok (done, found)
    elab_args done (more_trees e es) sc [] found = Ok (done, found)
    elab_args done (more_trees e es) sc (p ∷ ps) found =
        and_then (elab e sc (length sc) (expect found p)) (λ t.
        and_then (taken p (name_at e) found t) (λ r. elab_args (done ++ r.0 ∷ []) es sc ps r.1))

    -- cases for a matched value of a sort, after these
    pub elab_cases : List TypedCase → CaseTrees → Scope → Expected → GenericSort → Part (List TypedCase)
    elab_cases done no_cases sc x s = Ok done
    elab_cases done (plain_case p body cs) sc x s =
        and_then (plain_arm done (elab_pattern p s (length sc) sc) (name_at body) (λ after. elab body after (length
        after) x))
        (λ a. elab_cases (done ++ a ∷ []) cs sc x s)
    elab_cases done (guarded_case p guard body cs) sc x s =
        and_then (guarded_arm done (elab_pattern p s (length sc) sc)
        (name_at guard) (λ after. elab guard after (length after) Open)
        (name_at body) (λ after. elab body after (length after) x))
        (λ a. elab_cases (done ++ a ∷ []) cs sc x s)

  -- a case after these
  abbrev pub elab_arm : List TypedCase → PatternTree → Option Tree → Tree → Scope → Expected → GenericSort
      → Part TypedCase
  elab_arm done p None body sc x s =
      plain_arm done (elab_pattern p s (length sc) sc) (name_at body) (λ after. elab body after (length after) x)
  elab_arm done p (Some guard) body sc x s =
      guarded_arm done (elab_pattern p s (length sc) sc)
      (name_at guard) (λ after. elab guard after (length after) Open)
      (name_at body) (λ after. elab body after (length after) x)
