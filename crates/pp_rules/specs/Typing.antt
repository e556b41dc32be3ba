-- Which expressions have which typing: one rule for each form. Source: Scala Language Specification 6 and 8 for what
-- the forms are; that a name, an application and a pattern stand for what they do, and that types are found from what
-- is expected and from left to right, is own.
use Rattle.std.specs.Prelude.{◌≡◌, ℕ, suc, ℤ, Bool, true, false, List, [], ◌∷◌, ◌++◌, map, length, Option, Some, None}
use Rattle.std.specs.Prelude.{slice_get}
use Rattle.pp_generic.specs.declared.expected.Expected.{Expected}
use Rattle.pp_generic.specs.declared.expected.Expected.TheVariants.{Open}
use Rattle.pp_generic.specs.Expected.{Found, exact, expect, every, fits, known}
use Rattle.pp_generic.specs.Found.{learn, none_found}
use Rattle.pp_typed.specs.Operators.{gives, takes, unary_sort}
use Rattle.pp_typed.specs.Put.{put}
use Rattle.pp_names.specs.Find.{find_ctor}
use Rattle.pp_tree.specs.declared.operator.BinaryOp.{BinaryOp}
use Rattle.pp_tree.specs.declared.operator.UnaryOp.{UnaryOp}
use Rattle.pp_tree.specs.Plain.{Word, TypeTree, TypeTrees, no_types, more_types, PatternTree, any, int_pattern}
use Rattle.pp_tree.specs.Plain.{bool_pattern, ctor_pattern, PatternTrees, no_patterns, more_patterns, Tree, int, bool}
use Rattle.pp_tree.specs.Plain.{name, apply, field, unary, binary, choice, matching, val_in, assert_in, Trees, no_trees}
use Rattle.pp_tree.specs.Plain.{more_trees, CaseTrees, no_cases, plain_case, guarded_case}
use Rattle.pp_typed.specs.declared.expr.TypedCase.{TypedCase}
use Rattle.pp_typed.specs.declared.expr.TypedExpr.{TypedExpr}
use Rattle.pp_typed.specs.declared.expr.TypedKind.TheVariants as kind
use Rattle.pp_typed.specs.declared.pattern.TypedPattern.{TypedPattern}
use Rattle.pp_typed.specs.declared.pattern.TypedPatternKind.TheVariants as pattern_kind
use Rattle.pp_typed.specs.declared.sort.GenericSort.{GenericSort}
use Rattle.pp_typed.specs.declared.sort.GenericSort.TheVariants as sort
use Rattle.pp_typed.specs.declared.typed.TypedCtor.{TypedCtor}
use Rattle.pp_rules.specs.declared.callee.Callee.{Callee}
use Rattle.pp_rules.specs.Elab.{arm, pattern, typed}
use Rattle.pp_operators.specs.Classes.{is_equality}
use Rattle.pp_rules.specs.Operators.{admits, right_expected}
use Rattle.pp_rules.specs.Scope.{Env, Scope, clashes, place}
use Rattle.pp_rules.specs.Shapes.{application, applied_by, field_place, field_sort, named_by, only_ctor}
use Rattle.pp_sorts.specs.IsSort.{count as count_types}
use Rattle.pp_rules.specs.Written.{AreWritten, IsWritten}

-- the sort is as expected; an open part may be anything
abbrev pub Suits : Expected → GenericSort → Type 0
Suits x s = fits x s ≡ true

-- a pattern that binds a name adds a value to those in scope. Of these the ones from place k on are of the same
-- pattern, and their names differ
pub data Binds : ℕ → Scope → GenericSort → Option Word → Scope → Type 0 where
  binds_nothing : {k : ℕ} {sc : Scope} {s : GenericSort} → Binds k sc s None sc
  binds_a_name : {k : ℕ} {sc : Scope} {s : GenericSort} (w : Word)
      → clashes w k sc ≡ false → Binds k sc s (Some w) (sc ++ (w, s) ∷ [])

module _ (env : Env) where
  mutual
    -- which patterns of values of a sort have which typing, with the values in scope before and after them
    pub data TypesPattern : ℕ → Scope → GenericSort → PatternTree → TypedPattern → Scope → Type 0 where
      a_wildcard : {k : ℕ} {sc after : Scope} {s : GenericSort} {n : Option Word} (at : ℕ)
          → Binds k sc s n after → TypesPattern k sc s (any at n) (pattern env at n pattern_kind.Any) after
      a_number : {k : ℕ} {sc after : Scope} {s : GenericSort} {n : Option Word} (at : ℕ) (v : ℤ)
          → s ≡ sort.Int → Binds k sc s n after
          → TypesPattern k sc s (int_pattern at n v) (pattern env at n (pattern_kind.Int v)) after
      a_truth : {k : ℕ} {sc after : Scope} {s : GenericSort} {n : Option Word} (at : ℕ) (b : Bool)
          → s ≡ sort.Bool → Binds k sc s n after
          → TypesPattern k sc s (bool_pattern at n b) (pattern env at n (pattern_kind.Bool b)) after
      a_ctor : {k : ℕ} {sc mid after : Scope} {s : GenericSort} {n : Option Word} {ps : PatternTrees}
          {ts : List TypedPattern} (at : ℕ) (w : Word) (i : ℕ) (c : TypedCtor) (args : List GenericSort)
          → find_ctor env.declared w ≡ Some i → slice_get env.declared.ctors i ≡ Some c → s ≡ sort.Root c.root args
          → Binds k sc s n mid → TypesPatterns k mid (map (put args) c.fields) ps ts after
          → TypesPattern k sc s (ctor_pattern at n w ps) (pattern env at n (pattern_kind.Ctor i ts)) after

    -- a pattern for each of several sorts, from left to right
    pub data TypesPatterns : ℕ → Scope → List GenericSort → PatternTrees → List TypedPattern → Scope → Type 0 where
      no_pattern : {k : ℕ} {sc : Scope} → TypesPatterns k sc [] no_patterns [] sc
      one_pattern : {k : ℕ} {sc mid after : Scope} {s : GenericSort} {ss : List GenericSort} {p : PatternTree}
          {ps : PatternTrees} {t : TypedPattern} {ts : List TypedPattern}
          → TypesPattern k sc s p t mid → TypesPatterns k mid ss ps ts after
          → TypesPatterns k sc (s ∷ ss) (more_patterns p ps) (t ∷ ts) after

  -- what is found of the type parameters before the arguments: all that is written, or what the expected sort tells
  pub data Starts : Expected → TypeTrees → Callee → Found → Type 0 where
    starts_expected : {x : Expected} {c : Callee} → Starts x no_types c (learn c.result x (none_found c.type_params))
    starts_written : {x : Expected} {c : Callee} (t : TypeTree) (ts : TypeTrees) (sorts : List GenericSort)
        → suc (count_types ts) ≡ c.type_params → AreWritten env (more_types t ts) sorts
        → Starts x (more_types t ts) c (map Some sorts)

  -- what is expected of a `val`'s value: its written type, or nothing
  pub data Wants : Option TypeTree → Expected → Type 0 where
    wants_nothing : Wants None Open
    wants_written : (t : TypeTree) (s : GenericSort) → IsWritten env t s → Wants (Some t) (exact s)

  mutual
    -- which expressions have which typing, among values in scope, of which those from a place on are the `val`s that
    -- reach the expression, where a sort is expected
    pub data Types : Scope → ℕ → Expected → Tree → TypedExpr → Type 0 where
      an_int : {sc : Scope} {k : ℕ} {x : Expected} (at : ℕ) (n : ℤ)
          → Suits x sort.Int → Types sc k x (int at n) (typed env at sort.Int (kind.Int n))
      a_bool : {sc : Scope} {k : ℕ} {x : Expected} (at : ℕ) (b : Bool)
          → Suits x sort.Bool → Types sc k x (bool at b) (typed env at sort.Bool (kind.Bool b))
      a_local : {sc : Scope} {k : ℕ} {x : Expected} (at : ℕ) (w : Word) (i : ℕ) (l : Word × GenericSort)
          → place w sc ≡ Some i → slice_get sc i ≡ Some l → Suits x l.1
          → Types sc k x (name at w) (typed env at l.1 (kind.Local i))
      a_name : {sc : Scope} {k : ℕ} {x : Expected} {e : TypedExpr} (at : ℕ) (w : Word) (c : Callee)
          → place w sc ≡ None → named_by env.declared w ≡ Some c → Applies sc at x no_types c no_trees e
          → Types sc k x (name at w) e
      an_application : {sc : Scope} {k : ℕ} {x : Expected} {ts : TypeTrees} {es : Trees} {e : TypedExpr} (at : ℕ)
          (w : Word) (c : Callee) → applied_by env.declared w ≡ Some c → Applies sc at x ts c es e
          → Types sc k x (apply at w ts es) e
      a_field : {sc : Scope} {k : ℕ} {x : Expected} {e : Tree} {t : TypedExpr} (at : ℕ) (w : Word) (r c j : ℕ)
          (args : List GenericSort) (s : GenericSort)
          → Types sc (length sc) Open e t → t.of ≡ sort.Root r args → only_ctor env.declared r ≡ Some c
          → field_place env.declared c w ≡ Some j → field_sort env.declared c j ≡ Some s → Suits x (put args s)
          → Types sc k x (field at e w) (typed env at (put args s) (kind.Field t j))
      a_prefix : {sc : Scope} {k : ℕ} {x : Expected} {a : Tree} {t : TypedExpr} (at : ℕ) (op : UnaryOp)
          → Types sc (length sc) Open a t → t.of ≡ unary_sort op → Suits x (unary_sort op)
          → Types sc k x (unary at op a) (typed env at (unary_sort op) (kind.Unary op t))
      an_operation : {sc : Scope} {k : ℕ} {x : Expected} {a b : Tree} {t u : TypedExpr} (at : ℕ) (op : BinaryOp)
          → Types sc (length sc) Open a t → admits op t.of ≡ true
          → Types sc (length sc) (right_expected (is_equality op) t.of) b u → takes op t.of u.of ≡ true
          → Suits x (gives op t.of)
          → Types sc k x (binary at op a b) (typed env at (gives op t.of) (kind.Binary op t u))
      a_choice : {sc : Scope} {k : ℕ} {x : Expected} {c a b : Tree} {t u v : TypedExpr} (at : ℕ)
          → Types sc (length sc) Open c t → t.of ≡ sort.Bool
          → Types sc (length sc) x a u → Types sc (length sc) x b v → u.of ≡ v.of
          → Types sc k x (choice at c a b) (typed env at u.of (kind.If t u v))
      a_match : {sc : Scope} {k : ℕ} {x : Expected} {e : Tree} {cs : CaseTrees} {t : TypedExpr} {c : TypedCase}
          {arms : List TypedCase} (at : ℕ) (s : GenericSort)
          → Types sc (length sc) Open e t → TypesCases sc x t.of s cs (c ∷ arms)
          → Types sc k x (matching at e cs) (typed env at s (kind.Match t (c ∷ arms)))
      a_val : {sc : Scope} {k : ℕ} {x y : Expected} {t : Option TypeTree} {a b : Tree} {u v : TypedExpr} (at : ℕ)
          (w : Word) → clashes w k sc ≡ false → Wants t y → Types sc (length sc) y a u
          → Types (sc ++ (w, u.of) ∷ []) k x b v
          → Types sc k x (val_in at w t a b) (typed env at v.of (kind.Val u v))
      an_assert : {sc : Scope} {k : ℕ} {x : Expected} {c e : Tree} {t u : TypedExpr} (at : ℕ)
          → Types sc (length sc) Open c t → t.of ≡ sort.Bool → Types sc k x e u
          → Types sc k x (assert_in at c e) (typed env at u.of (kind.Assert t u))

    -- a function or a constructor applied to written type arguments and arguments: each type argument is found, from
    -- what is written, from the expected sort, or from the arguments from left to right
    pub data Applies : Scope → ℕ → Expected → TypeTrees → Callee → Trees → TypedExpr → Type 0 where
      applies : {sc : Scope} {x : Expected} {ts : TypeTrees} {c : Callee} {es : Trees} {found after : Found}
          {us : List TypedExpr} (at : ℕ) (sorts : List GenericSort)
          → Starts x ts c found → TypesArgs sc c.params found es us after → every after ≡ Some sorts
          → Suits x (put sorts c.result)
          → Applies sc at x ts c es (typed env at (put sorts c.result) (application c.target sorts us))

    -- an argument for each parameter, from left to right, with what is found before and after them
    pub data TypesArgs : Scope → List GenericSort → Found → Trees → List TypedExpr → Found → Type 0 where
      no_arg : {sc : Scope} {found : Found} → TypesArgs sc [] found no_trees [] found
      one_arg : {sc : Scope} {ps : List GenericSort} {found after : Found} {e : Tree} {es : Trees} {t : TypedExpr}
          {ts : List TypedExpr} (p : GenericSort)
          → Types sc (length sc) (expect found p) e t → known (learn p (exact t.of) found) p ≡ Some t.of
          → TypesArgs sc ps (learn p (exact t.of) found) es ts after
          → TypesArgs sc (p ∷ ps) found (more_trees e es) (t ∷ ts) after

    -- cases for a matched value of the first sort, whose bodies all have the second
    pub data TypesCases : Scope → Expected → GenericSort → GenericSort → CaseTrees → List TypedCase → Type 0 where
      no_case : {sc : Scope} {x : Expected} {s of : GenericSort} → TypesCases sc x s of no_cases []
      one_case : {sc after : Scope} {x : Expected} {s of : GenericSort} {p : PatternTree} {body : Tree} {cs :
          CaseTrees}
          {q : TypedPattern} {t : TypedExpr} {arms : List TypedCase}
          → TypesPattern (length sc) sc s p q after → Types after (length after) x body t → t.of ≡ of
          → TypesCases sc x s of cs arms → TypesCases sc x s of (plain_case p body cs) (arm env q None t ∷ arms)
      one_guarded : {sc after : Scope} {x : Expected} {s of : GenericSort} {p : PatternTree} {guard body : Tree}
          {cs : CaseTrees} {q : TypedPattern} {g t : TypedExpr} {arms : List TypedCase}
          → TypesPattern (length sc) sc s p q after → Types after (length after) Open guard g → g.of ≡ sort.Bool
          → Types after (length after) x body t → t.of ≡ of → TypesCases sc x s of cs arms
          → TypesCases sc x s of (guarded_case p guard body cs) (arm env q (Some g) t ∷ arms)
