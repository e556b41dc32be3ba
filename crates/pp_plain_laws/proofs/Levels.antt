-- One level of an expression: the check is among its descents at most as often as its sites carry it.
use Rattle.std.proofs.Common.{◌≡◌, ℕ, ◌+◌, ◌≤◌, Bool, true, false, List, [], ◌∷◌, ◌++◌, map, Option, Some, None}
use Rattle.std.proofs.Common.{slice_get, refl, ap, arith}
use Rattle.pp_list.proofs.With.{With, elements}
use Rattle.pp_prog.proofs.Induction.{under}
use Rattle.pp_prog.specs.Listing.{with_case_sites, with_sites}
use Rattle.pp_plain_laws.proofs.Setting.{IsCase, IsExpr}
use Rattle.pp_prog.specs.declared.check.CheckKind.{CheckKind}
use Rattle.pp_prog.specs.declared.check.CheckKind.TheVariants as kind
use Rattle.pp_prog.specs.declared.expr.Case.{Case}
use Rattle.pp_prog.specs.declared.expr.Expr.{Expr}
use Rattle.pp_prog.specs.declared.expr.Expr.TheFolds.{map-Expr}
use Rattle.pp_prog.specs.declared.expr.Expr.TheOpen as layer
use Rattle.pp_prog.specs.declared.id.CheckId.{CheckId}
use Rattle.pp_prog.specs.declared.program.Program.{Program}
use Rattle.pp_prog.specs.declared.sort.Sort.{Sort}
use Rattle.pp_prog.specs.declared.sort.Sort.TheVariants as sort
use Rattle.pp_prog.specs.declared.value.Value.{Value}
use Rattle.pp_prog.specs.ExprSorts.{Sorting, alike, field_sort, sort_step, sorts_in}
use Rattle.pp_prog.specs.ExprSorts as sorts
use Rattle.pp_prog.specs.Listing.{CaseSites, Sites, as_kind, assertion, at_sort, matching, measure, operator_site}
use Rattle.pp_prog.specs.Listing.{precondition, site_step, sites_of_all, sites_of_cases, unguarded}
use Rattle.pp_prog.specs.Sorts.{param_sorts}
use Rattle.pp_eval.specs.Meaning.{CallMeaning, Frame, Meaning, meaning_step}
use Rattle.pp_eval.specs.Meaning as mean
use Rattle.pp_eval.specs.Part.{found}
use Rattle.pp_sound.proofs.Cases.{each_arm}
use Rattle.pp_prog.proofs.PartSorts.{alike_are, binary_parts, bool_then, call_sort_is, sort_then, tree_sort_is}
use Rattle.pp_prog.proofs.PartSorts.{tree_then, unary_part}
use Rattle.pp_checks.specs.Marks.{CaseDescents, Seen, as_check, first_param_of, goes_down, in_all, in_cases, is_live}
use Rattle.pp_checks.specs.Marks.{seen_step, when}
use Rattle.pp_plain_laws.proofs.Counts.{count_append, ids, places_append}
use Rattle.pp_plain_laws.proofs.Setting.{Setting, Sorted, Placed, Meant, Looked, SortedArm, PlacedArm, MeantArm}
use Rattle.pp_plain_laws.proofs.Setting.{LookedArm, found_in, carried_by, list_few, cases_few}

module _ (x : Setting) where
  abbrev p : Program
  p = x.p

  abbrev c : CheckId
  c = x.c

  abbrev calls0 : CallMeaning
  calls0 = x.calls0

  abbrev old : Frame
  old = x.old

  abbrev pp : ℕ
  pp = x.pp

  -- ---- one level of an expression

  abbrev pub sorted : layer.Expr-F (With (IsExpr x)) (With (IsCase x)) → Sorting
  sorted y = sort_step p.types p.functions (map-Expr Expr Case Sorting sorts.Arm (Sorted x) (SortedArm x) (under y))

  abbrev pub placed : layer.Expr-F (With (IsExpr x)) (With (IsCase x)) → Sites
  placed y =
      site_step p.types p.functions (map-Expr Expr Case (Expr × Sites) (Case × CaseSites) (λ e. (e, (Placed x) e))
      (λ k. (k, (PlacedArm x) k)) (under y))

  abbrev pub looked : layer.Expr-F (With (IsExpr x)) (With (IsCase x)) → Seen
  looked y = seen_step p.functions pp (map-Expr Expr Case Seen CaseDescents (Looked x) (LookedArm x) (under y))

  abbrev pub meant : layer.Expr-F (With (IsExpr x)) (With (IsCase x)) → Meaning
  meant y = meaning_step calls0 (map-Expr Expr Case Meaning mean.Arm (Meant x) (MeantArm x) (under y))

  pub level_variable : (y : layer.Expr-F (With (IsExpr x)) (With (IsCase x))) (k : ℕ) → (looked y).0 ≡ Some k
      → (env : List Value)
      → meant y old env ≡ found (slice_get env k)
  level_variable (layer.Var j) k is env = let same : j ≡ k = cc in ap (λ n. found (slice_get env n)) same
  level_variable (layer.Int n) k is env = cc
  level_variable (layer.Bool b) k is env = cc
  level_variable (layer.Unary op a) k is env = cc
  level_variable (layer.Binary op a b check) k is env = cc
  level_variable (layer.Construct d args) k is env = cc
  level_variable (layer.Field e j) k is env = cc
  level_variable (layer.If t a b) k is env = cc
  level_variable (layer.Match e ys check) k is env = cc
  level_variable (layer.Val a b) k is env = cc
  level_variable (layer.Assert check t rest) k is env = cc
  level_variable (layer.Call g args pre down) k is env = cc

  pub when_few : (t : Bool) (xs : List ℕ) → (found_in x) (when t xs) ≤ (found_in x) xs
  when_few true xs = omega arith
  when_few false xs = omega arith

  pub check_ids : (k : CheckKind) (check : Option CheckId)
      → (found_in x) (as_check check) ≡ (found_in x) (ids c.0 (as_kind k check))
  check_ids k None = refl
  check_ids k (Some d) = refl

  pub level_few : (y : layer.Expr-F (With (IsExpr x)) (With (IsCase x))) (scope : List Sort) (s : Sort)
      → sorted y scope ≡ Some s
      → (marks : List Bool)
      → (found_in x) ((looked y).1 marks) ≤ (carried_by x) (placed y scope)
  level_few (layer.Int n) scope s h marks = omega arith
  level_few (layer.Bool b) scope s h marks = omega arith
  level_few (layer.Var k) scope s h marks = omega arith
  level_few (layer.Unary op a) scope s h marks =
      let t = unary_part op ((Sorted x) a.0 scope) s h in a.1.few scope t.0 t.1 marks
  level_few (layer.Binary op a b check) scope s h marks =
      let t = binary_parts op ((Sorted x) a.0 scope) ((Sorted x) b.0 scope) s h in
      omega (
        arith,
        a.1.few scope t.0.0 t.0.1 marks,
        b.1.few scope t.1.0 t.1.1 marks,
        count_append c.0 (((Looked x) a.0).1 marks) (((Looked x) b.0).1 marks),
        places_append c.0 ((Placed x) a.0 scope ++ (Placed x) b.0 scope) (operator_site op check ∷ []),
        places_append c.0 ((Placed x) a.0 scope) ((Placed x) b.0 scope),
      )
  level_few (layer.Construct d args) scope s h marks =
      let k = tree_sort_is (slice_get p.types.ctors d.0) (sorts_in scope (map (Sorted x) (elements args))) s h in
      (list_few x) args k.0.fields scope k.2 marks
  level_few (layer.Field e k) scope s h marks =
      let d = tree_then ((Sorted x) e.0 scope) (λ d. field_sort p.types p.functions d k) s h in
      e.1.few scope (sort.Tree d.0) d.1 marks
  level_few (layer.If t a b) scope s h marks =
      let k = bool_then ((Sorted x) t.0 scope) (alike ((Sorted x) a.0 scope) ((Sorted x) b.0 scope)) s h in
      let both = alike_are ((Sorted x) a.0 scope) ((Sorted x) b.0 scope) s k.1 in
      omega (
        arith,
        t.1.few scope sort.Bool k.0 marks,
        a.1.few scope s both.0 marks,
        b.1.few scope s both.1 marks,
        count_append c.0 (((Looked x) t.0).1 marks ++ ((Looked x) a.0).1 marks) (((Looked x) b.0).1 marks),
        count_append c.0 (((Looked x) t.0).1 marks) (((Looked x) a.0).1 marks),
        places_append c.0 ((Placed x) t.0 scope ++ (Placed x) a.0 scope) ((Placed x) b.0 scope),
        places_append c.0 ((Placed x) t.0 scope) ((Placed x) a.0 scope),
      )
  level_few (layer.Match e ys check) scope s h marks =
      let arms = map (SortedArm x) (elements ys) in
      let placed_cases = with_case_sites p.types p.functions (elements ys) in
      let t = sort_then ((Sorted x) e.0 scope) (λ t. sorts.arms_sort p.types p.functions arms t scope) s h in
      let live = is_live pp marks ((Looked x) e.0).0 in
      let after : (carried_by x) (at_sort ((Sorted x) e.0 scope) (λ t. matching t (unguarded placed_cases) check ∷
      sites_of_cases placed_cases t scope))
      ≡ (carried_by x) (matching t.0 (unguarded placed_cases) check ∷ sites_of_cases placed_cases t.0 scope) =
      ap (λ o. (carried_by x) (at_sort o (λ t. matching t (unguarded placed_cases) check ∷ sites_of_cases placed_cases
      t scope))) t.1 in
      omega (
        arith,
        e.1.few scope t.0 t.1 marks,
        (cases_few x) ys t.0 s scope (each_arm p t.0 s scope arms t.2) live marks,
        after,
        count_append c.0 (((Looked x) e.0).1 marks) (in_cases (map (LookedArm x) (elements ys)) live marks),
        places_append c.0 ((Placed x) e.0 scope) (at_sort ((Sorted x) e.0 scope)
            (λ t. matching t (unguarded placed_cases) check ∷ sites_of_cases placed_cases t scope)),
      )
  level_few (layer.Val a b) scope s h marks =
      let t = sort_then ((Sorted x) a.0 scope) (λ t. (Sorted x) b.0 (scope ++ t ∷ [])) s h in
      let after : (carried_by x) (at_sort ((Sorted x) a.0 scope) (λ t. (Placed x) b.0 (scope ++ t ∷ []))) ≡
      (carried_by x) ((Placed x) b.0 (scope ++ t.0 ∷ [])) =
      ap (λ o. (carried_by x) (at_sort o (λ t. (Placed x) b.0 (scope ++ t ∷ [])))) t.1 in
      omega (
        arith,
        a.1.few scope t.0 t.1 marks,
        b.1.few (scope ++ t.0 ∷ []) s t.2 (marks ++ false ∷ []),
        after,
        count_append c.0 (((Looked x) a.0).1 marks) (((Looked x) b.0).1 (marks ++ false ∷ [])),
        places_append c.0 ((Placed x) a.0 scope) (at_sort ((Sorted x) a.0 scope)
            (λ t. (Placed x) b.0 (scope ++ t ∷ []))),
      )
  level_few (layer.Assert check t rest) scope s h marks =
      let k = bool_then ((Sorted x) t.0 scope) ((Sorted x) rest.0 scope) s h in
      omega (
        arith,
        t.1.few scope sort.Bool k.0 marks,
        rest.1.few scope s k.1 marks,
        count_append c.0 (((Looked x) t.0).1 marks) (((Looked x) rest.0).1 marks),
        places_append c.0 ((Placed x) t.0 scope) (assertion check ∷ (Placed x) rest.0 scope),
      )
  level_few (layer.Call g args pre down) scope s h marks =
      let f = call_sort_is (slice_get p.functions g.0) (sorts_in scope (map (Sorted x) (elements args))) s h in
      let plain = goes_down (first_param_of (slice_get p.functions g.0)) (map (Looked x) (elements args)) marks in
      omega (
        arith,
        (list_few x) args (param_sorts f.0.params) scope f.2 marks,
        when_few plain (as_check down),
        check_ids kind.Measure down,
        count_append c.0 (in_all (map (Looked x) (elements args)) marks) (when plain (as_check down)),
        places_append c.0 (sites_of_all (with_sites p.types p.functions (elements args)) scope)
            (precondition g pre ∷ measure g down ∷ []),
      )
