-- Which rules are broken where. A fault stands at the smallest expression, pattern or written type whose rule it
-- breaks, with the name that is written there; what stands before it has a typing. Source: own.
use Rattle.std.specs.Prelude.{◌≡◌, ◌≢◌, ℕ, suc, ℤ, Bool, true, false, List, [], ◌∷◌, ◌++◌, map, length, Option, Some}
use Rattle.std.specs.Prelude.{None, slice_get}
use Rattle.pp_fault.specs.declared.Fault.{Fault}
use Rattle.pp_fault.specs.declared.Rule.{Rule}
use Rattle.pp_fault.specs.declared.Rule.TheVariants.{Unknown, Duplicate, Mismatch, Arity, CannotInfer, NotABoolean}
use Rattle.pp_generic.specs.declared.expected.Expected.{Expected}
use Rattle.pp_generic.specs.declared.expected.Expected.TheVariants.{Open}
use Rattle.pp_generic.specs.Expected.{Found, exact, expect, every, fits, known}
use Rattle.pp_generic.specs.Found.{learn}
use Rattle.pp_typed.specs.Operators.{gives, takes, unary_sort}
use Rattle.pp_typed.specs.Put.{put}
use Rattle.pp_names.specs.Find.{find_ctor}
use Rattle.pp_rules.specs.declared.callee.Callee.{Callee}
use Rattle.pp_rules.specs.Elab.{count, count_patterns, name_at, pattern_name}
use Rattle.pp_operators.specs.Classes.{is_equality}
use Rattle.pp_rules.specs.Operators.{admits, right_expected}
use Rattle.pp_rules.specs.Scope.{Env, Scope, clashes, place}
use Rattle.pp_rules.specs.Shapes.{applied_by, field_place, field_sort, named_by, only_ctor}
use Rattle.pp_rules.specs.Typing.{Binds, Starts, Types, TypesArgs, TypesPattern, Wants}
use Rattle.pp_sorts.specs.IsSort.{OneBreaks, count as count_types}
use Rattle.pp_sorts.specs.IsSort as written
use Rattle.pp_tree.specs.declared.operator.BinaryOp.{BinaryOp}
use Rattle.pp_tree.specs.declared.operator.UnaryOp.{UnaryOp}
use Rattle.pp_tree.specs.Plain.{Word, TypeTree, TypeTrees, no_types, more_types, PatternTree, any, int_pattern}
use Rattle.pp_tree.specs.Plain.{bool_pattern, ctor_pattern, PatternTrees, more_patterns, Tree, int, bool}
use Rattle.pp_tree.specs.Plain.{name, apply, field, unary, binary, choice, matching, val_in, assert_in, Trees, no_trees}
use Rattle.pp_tree.specs.Plain.{more_trees, CaseTrees, no_cases, plain_case, guarded_case}
use Rattle.pp_typed.specs.declared.expr.TypedExpr.{TypedExpr}
use Rattle.pp_typed.specs.declared.pattern.TypedPattern.{TypedPattern}
use Rattle.pp_typed.specs.declared.sort.GenericSort.{GenericSort}
use Rattle.pp_typed.specs.declared.sort.GenericSort.TheVariants as sort
use Rattle.pp_typed.specs.declared.typed.TypedCtor.{TypedCtor}

-- the offset of an expression
abbrev pub at_of : Tree → ℕ
at_of (int at n) = at
at_of (bool at b) = at
at_of (name at w) = at
at_of (apply at w ts es) = at
at_of (field at e w) = at
at_of (unary at op a) = at
at_of (binary at op a b) = at
at_of (choice at c a b) = at
at_of (matching at e cs) = at
at_of (val_in at w t a b) = at
at_of (assert_in at c e) = at

module _ (env : Env) where
  -- the fault of this rule with this name at this place of the source
  abbrev pub flawed : Rule → Word → ℕ → Fault
  flawed rule w at = record { rule = rule; name = w; source = env.source; at = at }

  -- the sort isn't as expected
  abbrev pub Misfits : Expected → GenericSort → Type 0
  Misfits x s = fits x s ≡ false

  -- the name that a pattern binds can't be declared there
  pub data BreaksBinding : ℕ → ℕ → Scope → Option Word → Fault → Type 0 where
    bound_again : {k : ℕ} {sc : Scope} (at : ℕ) (w : Word) → clashes w k sc ≡ true
        → BreaksBinding at k sc (Some w) (flawed Duplicate w at)

  mutual
    -- a fault of a pattern for values of a sort
    pub data BreaksPattern : ℕ → Scope → GenericSort → PatternTree → Fault → Type 0 where
      any_bound : {k : ℕ} {sc : Scope} {s : GenericSort} {n : Option Word} {f : Fault} (at : ℕ)
          → BreaksBinding at k sc n f → BreaksPattern k sc s (any at n) f
      int_bound : {k : ℕ} {sc : Scope} {s : GenericSort} {n : Option Word} {f : Fault} (at : ℕ) (v : ℤ)
          → BreaksBinding at k sc n f → BreaksPattern k sc s (int_pattern at n v) f
      int_unfit : {k : ℕ} {sc : Scope} {s : GenericSort} {n : Option Word} (at : ℕ) (v : ℤ)
          → s ≢ sort.Int → BreaksPattern k sc s (int_pattern at n v) (flawed Mismatch (pattern_name env n) at)
      bool_bound : {k : ℕ} {sc : Scope} {s : GenericSort} {n : Option Word} {f : Fault} (at : ℕ) (b : Bool)
          → BreaksBinding at k sc n f → BreaksPattern k sc s (bool_pattern at n b) f
      bool_unfit : {k : ℕ} {sc : Scope} {s : GenericSort} {n : Option Word} (at : ℕ) (b : Bool)
          → s ≢ sort.Bool → BreaksPattern k sc s (bool_pattern at n b) (flawed Mismatch (pattern_name env n) at)
      ctor_unknown : {k : ℕ} {sc : Scope} {s : GenericSort} {n : Option Word} {ps : PatternTrees} (at : ℕ) (w : Word)
          → find_ctor env.declared w ≡ None → BreaksPattern k sc s (ctor_pattern at n w ps) (flawed Unknown w at)
      ctor_absent : {k : ℕ} {sc : Scope} {s : GenericSort} {n : Option Word} {ps : PatternTrees} (at : ℕ) (w : Word)
          (i : ℕ) → find_ctor env.declared w ≡ Some i → slice_get env.declared.ctors i ≡ None
          → BreaksPattern k sc s (ctor_pattern at n w ps) (flawed Unknown w at)
      ctor_of_other : {k : ℕ} {sc : Scope} {s : GenericSort} {n : Option Word} {ps : PatternTrees} (at : ℕ) (w : Word)
          (i : ℕ) (c : TypedCtor) → find_ctor env.declared w ≡ Some i → slice_get env.declared.ctors i ≡ Some c
          → ((args : List GenericSort) → s ≢ sort.Root c.root args)
          → BreaksPattern k sc s (ctor_pattern at n w ps) (flawed Mismatch w at)
      ctor_arity : {k : ℕ} {sc : Scope} {s : GenericSort} {n : Option Word} {ps : PatternTrees} (at : ℕ) (w : Word)
          (i : ℕ) (c : TypedCtor) → find_ctor env.declared w ≡ Some i → slice_get env.declared.ctors i ≡ Some c
          → count_patterns ps ≢ length c.fields → BreaksPattern k sc s (ctor_pattern at n w ps) (flawed Arity w at)
      ctor_bound : {k : ℕ} {sc : Scope} {s : GenericSort} {n : Option Word} {ps : PatternTrees} {f : Fault} (at : ℕ)
          (w : Word) → BreaksBinding at k sc n f → BreaksPattern k sc s (ctor_pattern at n w ps) f
      ctor_parts : {k : ℕ} {sc mid : Scope} {s : GenericSort} {n : Option Word} {ps : PatternTrees} {f : Fault} (at : ℕ)
          (w : Word) (i : ℕ) (c : TypedCtor) (args : List GenericSort)
          → find_ctor env.declared w ≡ Some i → slice_get env.declared.ctors i ≡ Some c → s ≡ sort.Root c.root args
          → Binds k sc s n mid → BreaksPatterns k mid (map (put args) c.fields) ps f
          → BreaksPattern k sc s (ctor_pattern at n w ps) f

    -- a fault of one of several patterns
    pub data BreaksPatterns : ℕ → Scope → List GenericSort → PatternTrees → Fault → Type 0 where
      this_pattern : {k : ℕ} {sc : Scope} {s : GenericSort} {ss : List GenericSort} {p : PatternTree}
          {ps : PatternTrees} {f : Fault} → BreaksPattern k sc s p f
          → BreaksPatterns k sc (s ∷ ss) (more_patterns p ps) f
      later_pattern : {k : ℕ} {sc mid : Scope} {s : GenericSort} {ss : List GenericSort} {p : PatternTree}
          {ps : PatternTrees} {t : TypedPattern} {f : Fault} → TypesPattern env k sc s p t mid
          → BreaksPatterns k mid ss ps f → BreaksPatterns k sc (s ∷ ss) (more_patterns p ps) f

  -- a fault of a written type
  pub data BreaksWritten : TypeTree → Fault → Type 0 where
    in_type : {t : TypeTree} (rule : Rule) (w : Word) (at : ℕ)
        → written.Breaks env.declared.roots env.type_params t rule w at → BreaksWritten t (flawed rule w at)

  mutual
    -- a fault of an expression, among values in scope, where a sort is expected
    pub data Breaks : Scope → ℕ → Expected → Tree → Fault → Type 0 where
      unfit_int : {sc : Scope} {k : ℕ} {x : Expected} (at : ℕ) (n : ℤ)
          → Misfits x sort.Int → Breaks sc k x (int at n) (flawed Mismatch env.function at)
      unfit_bool : {sc : Scope} {k : ℕ} {x : Expected} (at : ℕ) (b : Bool)
          → Misfits x sort.Bool → Breaks sc k x (bool at b) (flawed Mismatch env.function at)
      absent_local : {sc : Scope} {k : ℕ} {x : Expected} (at : ℕ) (w : Word) (i : ℕ)
          → place w sc ≡ Some i → slice_get sc i ≡ None → Breaks sc k x (name at w) (flawed Unknown w at)
      unfit_local : {sc : Scope} {k : ℕ} {x : Expected} (at : ℕ) (w : Word) (i : ℕ) (l : Word × GenericSort)
          → place w sc ≡ Some i → slice_get sc i ≡ Some l → Misfits x l.1
          → Breaks sc k x (name at w) (flawed Mismatch w at)
      unknown_name : {sc : Scope} {k : ℕ} {x : Expected} (at : ℕ) (w : Word)
          → place w sc ≡ None → named_by env.declared w ≡ None → Breaks sc k x (name at w) (flawed Unknown w at)
      in_name : {sc : Scope} {k : ℕ} {x : Expected} {f : Fault} (at : ℕ) (w : Word) (c : Callee)
          → place w sc ≡ None → named_by env.declared w ≡ Some c → BreaksApplied sc at w x no_types c no_trees f
          → Breaks sc k x (name at w) f
      unknown_applied : {sc : Scope} {k : ℕ} {x : Expected} {ts : TypeTrees} {es : Trees} (at : ℕ) (w : Word)
          → applied_by env.declared w ≡ None → Breaks sc k x (apply at w ts es) (flawed Unknown w at)
      in_application : {sc : Scope} {k : ℕ} {x : Expected} {ts : TypeTrees} {es : Trees} {f : Fault} (at : ℕ) (w : Word)
          (c : Callee) → applied_by env.declared w ≡ Some c → BreaksApplied sc at w x ts c es f
          → Breaks sc k x (apply at w ts es) f
      in_base : {sc : Scope} {k : ℕ} {x : Expected} {e : Tree} {f : Fault} (at : ℕ) (w : Word)
          → Breaks sc (length sc) Open e f → Breaks sc k x (field at e w) f
      no_one_ctor : {sc : Scope} {k : ℕ} {x : Expected} {e : Tree} {t : TypedExpr} (at : ℕ) (w : Word)
          → Types env sc (length sc) Open e t
          → ((r c : ℕ) (args : List GenericSort) → t.of ≡ sort.Root r args → only_ctor env.declared r ≢ Some c)
          → Breaks sc k x (field at e w) (flawed Mismatch w at)
      unknown_field : {sc : Scope} {k : ℕ} {x : Expected} {e : Tree} {t : TypedExpr} (at : ℕ) (w : Word) (r c : ℕ)
          (args : List GenericSort) → Types env sc (length sc) Open e t → t.of ≡ sort.Root r args
          → only_ctor env.declared r ≡ Some c
          → ((j : ℕ) (s : GenericSort) → field_place env.declared c w ≡ Some j → field_sort env.declared c j ≢ Some s)
          → Breaks sc k x (field at e w) (flawed Unknown w at)
      unfit_field : {sc : Scope} {k : ℕ} {x : Expected} {e : Tree} {t : TypedExpr} (at : ℕ) (w : Word) (r c j : ℕ)
          (args : List GenericSort) (s : GenericSort) → Types env sc (length sc) Open e t → t.of ≡ sort.Root r args
          → only_ctor env.declared r ≡ Some c → field_place env.declared c w ≡ Some j
          → field_sort env.declared c j ≡ Some s → Misfits x (put args s)
          → Breaks sc k x (field at e w) (flawed Mismatch w at)
      in_operand : {sc : Scope} {k : ℕ} {x : Expected} {a : Tree} {f : Fault} (at : ℕ) (op : UnaryOp)
          → Breaks sc (length sc) Open a f → Breaks sc k x (unary at op a) f
      unfit_operand : {sc : Scope} {k : ℕ} {x : Expected} {a : Tree} {t : TypedExpr} (at : ℕ) (op : UnaryOp)
          → Types env sc (length sc) Open a t → t.of ≢ unary_sort op
          → Breaks sc k x (unary at op a) (flawed Mismatch (name_at env a) (at_of a))
      unfit_unary : {sc : Scope} {k : ℕ} {x : Expected} {a : Tree} (at : ℕ) (op : UnaryOp)
          → Misfits x (unary_sort op) → Breaks sc k x (unary at op a) (flawed Mismatch env.function at)
      in_left : {sc : Scope} {k : ℕ} {x : Expected} {a b : Tree} {f : Fault} (at : ℕ) (op : BinaryOp)
          → Breaks sc (length sc) Open a f → Breaks sc k x (binary at op a b) f
      unfit_left : {sc : Scope} {k : ℕ} {x : Expected} {a b : Tree} {t : TypedExpr} (at : ℕ) (op : BinaryOp)
          → Types env sc (length sc) Open a t → admits op t.of ≡ false
          → Breaks sc k x (binary at op a b) (flawed Mismatch (name_at env a) (at_of a))
      in_right : {sc : Scope} {k : ℕ} {x : Expected} {a b : Tree} {t : TypedExpr} {f : Fault} (at : ℕ) (op : BinaryOp)
          → Types env sc (length sc) Open a t → Breaks sc (length sc) (right_expected (is_equality op) t.of) b f
          → Breaks sc k x (binary at op a b) f
      unfit_right : {sc : Scope} {k : ℕ} {x : Expected} {a b : Tree} {t u : TypedExpr} (at : ℕ) (op : BinaryOp)
          → Types env sc (length sc) Open a t → Types env sc (length sc) (right_expected (is_equality op) t.of) b u
          → takes op t.of u.of ≡ false → Breaks sc k x (binary at op a b) (flawed Mismatch (name_at env b) (at_of b))
      unfit_binary : {sc : Scope} {k : ℕ} {x : Expected} {a b : Tree} {t : TypedExpr} (at : ℕ) (op : BinaryOp)
          → Types env sc (length sc) Open a t → Misfits x (gives op t.of)
          → Breaks sc k x (binary at op a b) (flawed Mismatch env.function at)
      in_test : {sc : Scope} {k : ℕ} {x : Expected} {c a b : Tree} {f : Fault} (at : ℕ)
          → BreaksCondition sc c f → Breaks sc k x (choice at c a b) f
      in_first : {sc : Scope} {k : ℕ} {x : Expected} {c a b : Tree} {f : Fault} (at : ℕ)
          → Breaks sc (length sc) x a f → Breaks sc k x (choice at c a b) f
      in_second : {sc : Scope} {k : ℕ} {x : Expected} {c a b : Tree} {f : Fault} (at : ℕ)
          → Breaks sc (length sc) x b f → Breaks sc k x (choice at c a b) f
      unlike_second : {sc : Scope} {k : ℕ} {x : Expected} {c a b : Tree} {u v : TypedExpr} (at : ℕ)
          → Types env sc (length sc) x a u → Types env sc (length sc) x b v → u.of ≢ v.of
          → Breaks sc k x (choice at c a b) (flawed Mismatch (name_at env b) (at_of b))
      in_matched : {sc : Scope} {k : ℕ} {x : Expected} {e : Tree} {cs : CaseTrees} {f : Fault} (at : ℕ)
          → Breaks sc (length sc) Open e f → Breaks sc k x (matching at e cs) f
      without_case : {sc : Scope} {k : ℕ} {x : Expected} {e : Tree} (at : ℕ)
          → Breaks sc k x (matching at e no_cases) (flawed Mismatch env.function at)
      in_case : {sc : Scope} {k : ℕ} {x : Expected} {e : Tree} {cs : CaseTrees} {t : TypedExpr} {f : Fault} (at : ℕ)
          → Types env sc (length sc) Open e t → BreaksCases sc x t.of None cs f → Breaks sc k x (matching at e cs) f
      clashing_val : {sc : Scope} {k : ℕ} {x : Expected} {t : Option TypeTree} {a b : Tree} (at : ℕ) (w : Word)
          → clashes w k sc ≡ true → Breaks sc k x (val_in at w t a b) (flawed Duplicate w at)
      in_val_type : {sc : Scope} {k : ℕ} {x : Expected} {t : TypeTree} {a b : Tree} {f : Fault} (at : ℕ) (w : Word)
          → BreaksWritten t f → Breaks sc k x (val_in at w (Some t) a b) f
      in_value : {sc : Scope} {k : ℕ} {x y : Expected} {t : Option TypeTree} {a b : Tree} {f : Fault} (at : ℕ)
          (w : Word)
          → Wants env t y → Breaks sc (length sc) y a f → Breaks sc k x (val_in at w t a b) f
      after_val : {sc : Scope} {k : ℕ} {x y : Expected} {t : Option TypeTree} {a b : Tree} {u : TypedExpr} {f : Fault}
          (at : ℕ) (w : Word) → Wants env t y → Types env sc (length sc) y a u
          → Breaks (sc ++ (w, u.of) ∷ []) k x b f → Breaks sc k x (val_in at w t a b) f
      in_asserted : {sc : Scope} {k : ℕ} {x : Expected} {c e : Tree} {f : Fault} (at : ℕ)
          → BreaksCondition sc c f → Breaks sc k x (assert_in at c e) f
      after_assert : {sc : Scope} {k : ℕ} {x : Expected} {c e : Tree} {f : Fault} (at : ℕ)
          → Breaks sc k x e f → Breaks sc k x (assert_in at c e) f

    -- a fault of a condition
    pub data BreaksCondition : Scope → Tree → Fault → Type 0 where
      in_condition : {sc : Scope} {c : Tree} {f : Fault} → Breaks sc (length sc) Open c f → BreaksCondition sc c f
      no_boolean : {sc : Scope} {c : Tree} {t : TypedExpr} → Types env sc (length sc) Open c t → t.of ≢ sort.Bool
          → BreaksCondition sc c (flawed NotABoolean (name_at env c) (at_of c))

    -- a fault of the application at this place with this name
    pub data BreaksApplied : Scope → ℕ → Word → Expected → TypeTrees → Callee → Trees → Fault → Type 0 where
      args_arity : {sc : Scope} {x : Expected} {ts : TypeTrees} {c : Callee} {es : Trees} (at : ℕ) (w : Word)
          → count es ≢ length c.params → BreaksApplied sc at w x ts c es (flawed Arity w at)
      types_arity : {sc : Scope} {x : Expected} {c : Callee} {es : Trees} (at : ℕ) (w : Word) (t : TypeTree)
          (ts : TypeTrees) → suc (count_types ts) ≢ c.type_params
          → BreaksApplied sc at w x (more_types t ts) c es (flawed Arity w at)
      in_types : {sc : Scope} {x : Expected} {ts : TypeTrees} {c : Callee} {es : Trees} (at : ℕ) (w : Word)
          (rule : Rule)
          (v : Word) (place : ℕ) → OneBreaks env.declared.roots env.type_params ts rule v place
          → BreaksApplied sc at w x ts c es (flawed rule v place)
      in_args : {sc : Scope} {x : Expected} {ts : TypeTrees} {c : Callee} {es : Trees} {found : Found} {f : Fault}
          (at : ℕ)
          (w : Word) → Starts env x ts c found → BreaksArgs sc c.params found es f → BreaksApplied sc at w x ts c es f
      open_param : {sc : Scope} {x : Expected} {ts : TypeTrees} {c : Callee} {es : Trees} {found after : Found}
          {us : List TypedExpr} (at : ℕ) (w : Word) → Starts env x ts c found
          → TypesArgs env sc c.params found es us after → every after ≡ None
          → BreaksApplied sc at w x ts c es (flawed CannotInfer w at)
      unfit_result : {sc : Scope} {x : Expected} {ts : TypeTrees} {c : Callee} {es : Trees} {found after : Found}
          {us : List TypedExpr} (at : ℕ) (w : Word) (sorts : List GenericSort) → Starts env x ts c found
          → TypesArgs env sc c.params found es us after → every after ≡ Some sorts → Misfits x (put sorts c.result)
          → BreaksApplied sc at w x ts c es (flawed Mismatch w at)

    -- a fault of one of the arguments
    pub data BreaksArgs : Scope → List GenericSort → Found → Trees → Fault → Type 0 where
      this_arg : {sc : Scope} {p : GenericSort} {ps : List GenericSort} {found : Found} {e : Tree} {es : Trees}
          {f : Fault}
          → Breaks sc (length sc) (expect found p) e f → BreaksArgs sc (p ∷ ps) found (more_trees e es) f
      unfit_arg : {sc : Scope} {p : GenericSort} {ps : List GenericSort} {found : Found} {e : Tree} {es : Trees}
          {t : TypedExpr} → Types env sc (length sc) (expect found p) e t
          → known (learn p (exact t.of) found) p ≢ Some t.of
          → BreaksArgs sc (p ∷ ps) found (more_trees e es) (flawed Mismatch (name_at env e) (at_of e))
      later_arg : {sc : Scope} {p : GenericSort} {ps : List GenericSort} {found : Found} {e : Tree} {es : Trees}
          {t : TypedExpr} {f : Fault} → Types env sc (length sc) (expect found p) e t
          → known (learn p (exact t.of) found) p ≡ Some t.of → BreaksArgs sc ps (learn p (exact t.of) found) es f
          → BreaksArgs sc (p ∷ ps) found (more_trees e es) f

    -- a fault of one of the cases for a value of the sort, where the bodies before them have this sort, if there are
    -- any
    pub data BreaksCases : Scope → Expected → GenericSort → Option GenericSort → CaseTrees → Fault → Type 0 where
      in_plain : {sc : Scope} {x : Expected} {s : GenericSort} {o : Option GenericSort} {p : PatternTree} {body : Tree}
          {cs : CaseTrees} {f : Fault} → BreaksPattern (length sc) sc s p f
          → BreaksCases sc x s o (plain_case p body cs) f
      in_guarded : {sc : Scope} {x : Expected} {s : GenericSort} {o : Option GenericSort} {p : PatternTree}
          {guard body : Tree} {cs : CaseTrees} {f : Fault} → BreaksPattern (length sc) sc s p f
          → BreaksCases sc x s o (guarded_case p guard body cs) f
      in_guard : {sc after : Scope} {x : Expected} {s : GenericSort} {o : Option GenericSort} {p : PatternTree}
          {guard body : Tree} {cs : CaseTrees} {q : TypedPattern} {f : Fault}
          → TypesPattern env (length sc) sc s p q after
          → BreaksCondition after guard f → BreaksCases sc x s o (guarded_case p guard body cs) f
      plain_body : {sc after : Scope} {x : Expected} {s : GenericSort} {o : Option GenericSort} {p : PatternTree}
          {body : Tree} {cs : CaseTrees} {q : TypedPattern} {f : Fault} → TypesPattern env (length sc) sc s p q after
          → BreaksBody after x o body f → BreaksCases sc x s o (plain_case p body cs) f
      guarded_body : {sc after : Scope} {x : Expected} {s : GenericSort} {o : Option GenericSort} {p : PatternTree}
          {guard body : Tree} {cs : CaseTrees} {q : TypedPattern} {f : Fault}
          → TypesPattern env (length sc) sc s p q after
          → BreaksBody after x o body f → BreaksCases sc x s o (guarded_case p guard body cs) f
      after_plain : {sc after : Scope} {x : Expected} {s : GenericSort} {o : Option GenericSort} {p : PatternTree}
          {body : Tree} {cs : CaseTrees} {q : TypedPattern} {t : TypedExpr} {f : Fault}
          → TypesPattern env (length sc) sc s p q after → Types env after (length after) x body t
          → BreaksCases sc x s (Some t.of) cs f → BreaksCases sc x s o (plain_case p body cs) f
      after_guarded : {sc after : Scope} {x : Expected} {s : GenericSort} {o : Option GenericSort} {p : PatternTree}
          {guard body : Tree} {cs : CaseTrees} {q : TypedPattern} {t : TypedExpr} {f : Fault}
          → TypesPattern env (length sc) sc s p q after → Types env after (length after) x body t
          → BreaksCases sc x s (Some t.of) cs f → BreaksCases sc x s o (guarded_case p guard body cs) f

    -- a fault of a case's body, where the bodies before it have this sort, if there are any
    pub data BreaksBody : Scope → Expected → Option GenericSort → Tree → Fault → Type 0 where
      in_body : {sc : Scope} {x : Expected} {o : Option GenericSort} {body : Tree} {f : Fault}
          → Breaks sc (length sc) x body f → BreaksBody sc x o body f
      unlike_body : {sc : Scope} {x : Expected} {s : GenericSort} {body : Tree} {t : TypedExpr}
          → Types env sc (length sc) x body t → t.of ≢ s
          → BreaksBody sc x (Some s) body (flawed Mismatch (name_at env body) (at_of body))
