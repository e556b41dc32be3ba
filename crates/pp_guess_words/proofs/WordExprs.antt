-- In a function of words no expression makes a tree, and each calls functions of the cone.
use Rattle.std.proofs.Common.{◌≡◌, ℕ, true, List, [], ◌∷◌, ◌++◌, map, Option, Some, None, refl, sym, ap}
use Rattle.std.proofs.Common.{◌∙◌, subst, Contains, arith}
use Rattle.std.specs.Prelude.{slice_get}
use Rattle.std.specs.List.{list_all}
use Rattle.std.specs.Option.{option_map}
use Rattle.std.proofs.lemmas.Bool.{and_parts}
use Rattle.std.proofs.lemmas.List.Elements.{Contains-append_left, Contains-append_right}
use Rattle.std.proofs.lemmas.List.Folds.{list_all-append}
use Rattle.pp_prog.specs.ExprSorts.{case_sorts}
use Rattle.pp_prog.specs.Parts.{case_parts as listed_parts}
use Rattle.pp_list.specs.Joined.{joined, or_none}
use Rattle.pp_prog.specs.declared.expr.Case.{Case}
use Rattle.pp_prog.specs.declared.expr.Expr.{Expr}
use Rattle.pp_prog.specs.declared.expr.Expr.TheFolds.{fold-roll-Case, fold-roll-Expr, map-Case, map-Expr}
use Rattle.pp_prog.specs.declared.expr.Expr.TheFolds.{para-Case, para-Expr, para-roll-Case, para-roll-Expr}
use Rattle.pp_prog.specs.declared.expr.Expr.TheOpen as layer
use Rattle.pp_prog.specs.declared.expr.Expr.TheViews.{roll-Case, roll-Expr}
use Rattle.pp_prog.specs.declared.expr.Pattern.{Pattern}
use Rattle.pp_prog.specs.declared.id.CtorId.{CtorId}
use Rattle.pp_prog.specs.declared.id.FunctionId.{FunctionId}
use Rattle.pp_prog.specs.declared.program.Program.{Program}
use Rattle.pp_prog.specs.declared.sort.Sort.{Sort}
use Rattle.pp_prog.specs.declared.sort.Sort.TheVariants as sort
use Rattle.pp_prog.specs.Calls.{calls, calls_in_case, calls_step}
use Rattle.pp_prog.specs.Cone.{CaseParts, InCone, Parts, case_parts, each_case, each_part, guard_part, is_no_tree}
use Rattle.pp_prog.specs.Cone.{is_word, part, part_step, sorts_within}
use Rattle.pp_prog.specs.ExprSorts.{Arm, Sorting, alike, arm_sort, arm_step, arm_with, arms_sort, field_sort, sort_of}
use Rattle.pp_prog.specs.ExprSorts.{sort_step, sorts_in}
use Rattle.pp_prog.specs.PatternSorts.{bound_sorts}
use Rattle.pp_prog.specs.Sorts.{param_sorts}
use Rattle.pp_prog.proofs.PartSorts.{alike_are, binary_parts, bool_then, call_sort_is, sort_then, tree_sort_is}
use Rattle.pp_prog.proofs.PartSorts.{tree_then, unary_part}
use Rattle.pp_sound.proofs.Cases.{EachArm, each_arm}
use Rattle.pp_steps_run.specs.Told.{AllOf}
use Rattle.pp_guess_steps.proofs.Conditions.{CaseHolds, PartsHold}

module _ (p : Program) (start : ℕ) where
  -- the functions are of the cone
  abbrev pub Within : List ℕ → Type 0
  Within gs = (g : ℕ) → Contains gs g → InCone p.functions start g

  pub within_left : (xs ys : List ℕ) → Within (xs ++ ys) → Within xs
  within_left xs ys h g has = h g (Contains-append_left xs ys g has)

  pub within_right : (xs ys : List ℕ) → Within (xs ++ ys) → Within ys
  within_right xs ys h g has = h g (Contains-append_right xs ys g has)

  -- no sort is that of a datatype
  abbrev pub AreNoTrees : List (Option Sort) → Type 0
  AreNoTrees ss = list_all is_no_tree ss ≡ true

  none_in : (xs ys : List (Option Sort)) → AreNoTrees (xs ++ ys) → AreNoTrees xs × AreNoTrees ys
  none_in xs ys h = and_parts (list_all is_no_tree xs) _ (sym (list_all-append is_no_tree xs ys) ∙ h)

  -- the sorts of an expression, and those of its parts
  abbrev pub Sorted : Expr → Sorting
  Sorted = sort_of p.types p.functions

  abbrev pub Inner : Expr → Parts
  Inner = para-Expr Parts CaseParts (part_step p.types p.functions) (case_parts p.types p.functions)

  -- those of a case
  abbrev pub SortedArm : Case → Arm
  SortedArm = case_sorts p.types p.functions

  abbrev pub InnerCase : Case → CaseParts
  InnerCase = para-Case Parts CaseParts (part_step p.types p.functions) (case_parts p.types p.functions)

  -- the expression has a sort, no datatype is the sort of it or of a part, and the functions that it calls are of the
  -- cone
  pub record IsWordExpr (e : Expr) : Type 0 where
    pub scope : List Sort
    pub result : Sort
    pub sorted : Sorted e scope ≡ Some result
    pub words : AreNoTrees (sorts_within p.types p.functions e scope)
    pub within : Within (calls e)

  -- the same of a case, at a matched value of a sort
  pub record IsWordCase (c : Case) : Type 0 where
    pub matched : Sort
    pub scope : List Sort
    pub result : Sort
    pub sorted : arm_sort p.types p.functions (SortedArm c) matched scope ≡ Some result
    pub words : AreNoTrees (InnerCase c matched scope)
    pub within : Within (calls_in_case c)

  one : (e : Expr) (scope : List Sort) (s : Sort) → Sorted e scope ≡ Some s
      → AreNoTrees (part p.types p.functions (e, Inner e) scope) → Within (calls e) → IsWordExpr e
  one e scope s h words within =
      record { scope = scope; result = s; sorted = h; words = words; within = within }

  abbrev inners : List Expr → List (Expr × Parts)
  inners es = map (λ e. (e, Inner e)) es

  abbrev case_inners : List Case → List (Case × CaseParts)
  case_inners cs = map (λ c. (c, InnerCase c)) cs

  exprs_hold : (es : List Expr) (scope ts : List Sort) → sorts_in scope (map Sorted es) ≡ map Some ts
      → AreNoTrees (each_part p.types p.functions (inners es) scope) → Within (joined (map calls es))
      → AllOf IsWordExpr es
  exprs_hold [] scope ts h words within = tt
  exprs_hold (e ∷ es) scope [] h words within = cc
  exprs_hold (e ∷ es) scope (t ∷ ts) h words within =
      let here : Sorted e scope ≡ Some t = cc in
      let rest : sorts_in scope (map Sorted es) ≡ map Some ts = cc in
      let both = none_in (part p.types p.functions (e, Inner e) scope) _ words in (
        one e scope t here both.0 (within_left _ _ within),
        exprs_hold es scope ts rest both.1 (within_right (calls e) _ within),
      )

  each_case_of : (cs : List Case) (t u : Sort) (scope : List Sort) → EachArm p t u scope (map SortedArm cs)
      → AreNoTrees (each_case p.types p.functions (case_inners cs) t scope) → Within (joined (map calls_in_case cs))
      → AllOf IsWordCase cs
  each_case_of [] t u scope h words within = tt
  each_case_of (c ∷ cs) t u scope h words within =
      let both = none_in (InnerCase c t scope) _ words in (
        record {
          matched = t;
          scope = scope;
          result = u;
          sorted = h.0;
          words = both.0;
          within = within_left _ _ within;
        },
        each_case_of cs t u scope h.1 both.1 (within_right (calls_in_case c) _ within),
      )

  -- ---- one level

  abbrev pub Makes : CtorId → Type 0
  Makes c = ⊥

  abbrev pub Meets : FunctionId → Type 0
  Meets g = InCone p.functions start g.0

  abbrev level_sort : layer.Expr-F Expr Case → Sorting
  level_sort y = sort_step p.types p.functions (map-Expr Expr Case Sorting Arm Sorted SortedArm y)

  abbrev level_parts : layer.Expr-F Expr Case → Parts
  level_parts y =
      part_step p.types p.functions (map-Expr Expr Case (Expr × Parts) (Case × CaseParts) (λ e. (e, Inner e))
      (λ c. (c, InnerCase c)) y)

  abbrev level_calls : layer.Expr-F Expr Case → List ℕ
  level_calls y = calls_step (map-Expr Expr Case (List ℕ) (List ℕ) calls calls_in_case y)

  level : (y : layer.Expr-F Expr Case) (scope : List Sort) (s : Sort) → level_sort y scope ≡ Some s
      → is_word s ≡ true → AreNoTrees (level_parts y scope) → Within (level_calls y)
      → PartsHold Makes Meets IsWordExpr IsWordCase y
  level (layer.Int n) scope s h word words within = tt
  level (layer.Bool b) scope s h word words within = tt
  level (layer.Var i) scope s h word words within = tt
  level (layer.Unary op a) scope s h word words within =
      let t = unary_part op (Sorted a scope) s h in one a scope t.0 t.1 words within
  level (layer.Binary op a b check) scope s h word words within =
      let t = binary_parts op (Sorted a scope) (Sorted b scope) s h in
      let w = none_in (part p.types p.functions (a, Inner a) scope) _ words in (
        one a scope t.0.0 t.0.1 w.0 (within_left _ _ within),
        one b scope t.1.0 t.1.1 w.1 (within_right (calls a) _ within),
      )
  level (layer.Construct c args) scope s h word words within =
      let k = tree_sort_is (slice_get p.types.ctors c.0) (sorts_in scope (map Sorted args)) s h in
      let no : is_word (sort.Tree k.0.of) ≡ true = subst (λ t. is_word t ≡ true) (sym k.3) word in
      absurd (cc)
  level (layer.Field e i) scope s h word words within =
      let d = tree_then (Sorted e scope) (λ d. field_sort p.types p.functions d i) s h in
      one e scope (sort.Tree d.0) d.1 words within
  level (layer.If c a b) scope s h word words within =
      let t = bool_then (Sorted c scope) (alike (Sorted a scope) (Sorted b scope)) s h in
      let both = alike_are (Sorted a scope) (Sorted b scope) s t.1 in
      let x = part p.types p.functions (c, Inner c) scope in
      let y = part p.types p.functions (a, Inner a) scope in
      let w = none_in (x ++ y) _ words in
      let v = none_in x y w.0 in
      let front = within_left (calls c ++ calls a) (calls b) within in (
        one c scope sort.Bool t.0 v.0 (within_left (calls c) (calls a) front),
        one a scope s both.0 v.1 (within_right (calls c) (calls a) front),
        one b scope s both.1 w.1 (within_right (calls c ++ calls a) (calls b) within),
      )
  level (layer.Match e cs check) scope s h word words within =
      let t = sort_then (Sorted e scope) (λ t. arms_sort p.types p.functions (map SortedArm cs) t scope) s h in
      let w = none_in (part p.types p.functions (e, Inner e) scope) _ words in
      let rest : AreNoTrees (each_case p.types p.functions (case_inners cs) t.0 scope) =
      subst (λ o. AreNoTrees (or_none (option_map (λ t. each_case p.types p.functions (case_inners cs) t scope) o))) t.1
      w.1 in (
        one e scope t.0 t.1 w.0 (within_left _ _ within),
        each_case_of cs t.0 s scope (each_arm p t.0 s scope (map SortedArm cs) t.2) rest
            (within_right (calls e) _ within),
      )
  level (layer.Val bound rest) scope s h word words within =
      let t = sort_then (Sorted bound scope) (λ t. Sorted rest (scope ++ t ∷ [])) s h in
      let w = none_in (part p.types p.functions (bound, Inner bound) scope) _ words in
      let after : AreNoTrees (part p.types p.functions (rest, Inner rest) (scope ++ t.0 ∷ [])) =
      subst (λ o. AreNoTrees (or_none (option_map (λ t. part p.types p.functions (rest, Inner rest) (scope ++ t ∷ []))
      o))) t.1 w.1 in (
        one bound scope t.0 t.1 w.0 (within_left _ _ within),
        one rest (scope ++ t.0 ∷ []) s t.2 after (within_right (calls bound) _ within),
      )
  level (layer.Assert check c rest) scope s h word words within =
      let t = bool_then (Sorted c scope) (Sorted rest scope) s h in
      let w = none_in (part p.types p.functions (c, Inner c) scope) _ words in (
        one c scope sort.Bool t.0 w.0 (within_left _ _ within),
        one rest scope s t.1 w.1 (within_right (calls c) _ within),
      )
  level (layer.Call g args pre down) scope s h word words within =
      let f = call_sort_is (slice_get p.functions g.0) (sorts_in scope (map Sorted args)) s h in (
        within g.0 (Contains-append_right (joined (map calls args)) (g.0 ∷ []) g.0 head),
        exprs_hold args scope (param_sorts f.0.params) f.2 words
            (within_left (joined (map calls args)) (g.0 ∷ []) within),
      )
    where
      head : Contains (g.0 ∷ []) g.0
      head = (0, omega arith, refl)

  pub expr_parts : (y : layer.Expr-F Expr Case) → IsWordExpr (roll-Expr y)
      → PartsHold Makes Meets IsWordExpr IsWordCase y
  expr_parts y h =
      let sort_is = fold-roll-Expr Sorting Arm (sort_step p.types p.functions) arm_step y in
      let parts_are = para-roll-Expr Parts CaseParts (part_step p.types p.functions) (case_parts p.types p.functions)
      y in
      let calls_are = fold-roll-Expr (List ℕ) (List ℕ) calls_step listed_parts y in
      let both = and_parts (is_no_tree (Sorted (roll-Expr y) h.scope)) _ h.words in
      level y h.scope h.result (sym (ap (λ (a : Sorting). a h.scope) sort_is) ∙ h.sorted)
      (subst (λ o. is_no_tree o ≡ true) h.sorted both.0)
      (subst (λ (a : Parts). AreNoTrees (a h.scope)) parts_are both.1) (subst Within calls_are h.within)

  -- ---- one case

  plain_case : (pattern : Pattern) (b : Expr) (s u : Sort) (scope : List Sort) (o : Option (List Sort))
      → arm_with (record { pattern = pattern; guard = None; body = Sorted b }) scope o ≡ Some u
      → AreNoTrees (or_none (option_map (λ bound. guard_part p.types p.functions None (scope ++ bound)
      ++ part p.types p.functions (b, Inner b) (scope ++ bound)) o))
      → Within (calls b) → IsWordExpr b
  plain_case pattern b s u scope None h words within = cc
  plain_case pattern b s u scope (Some bound) h words within = one b (scope ++ bound) u h words within

  guarded_case : (pattern : Pattern) (g b : Expr) (s u : Sort) (scope : List Sort) (o : Option (List Sort))
      → arm_with (record { pattern = pattern; guard = Some (Sorted g); body = Sorted b }) scope o ≡ Some u
      → AreNoTrees (or_none (option_map (λ bound. guard_part p.types p.functions (Some (g, Inner g)) (scope ++ bound)
      ++ part p.types p.functions (b, Inner b) (scope ++ bound)) o))
      → Within (calls g ++ calls b) → IsWordExpr g × IsWordExpr b
  guarded_case pattern g b s u scope None h words within = cc
  guarded_case pattern g b s u scope (Some bound) h words within =
      let inner = scope ++ bound in
      let are = bool_then (Sorted g inner) (Sorted b inner) u h in
      let w = none_in (part p.types p.functions (g, Inner g) inner) _ words in (
        one g inner sort.Bool are.0 w.0 (within_left _ _ within),
        one b inner u are.1 w.1 (within_right (calls g) _ within),
      )

  by_parts : (pattern : Pattern) (guard : Option Expr) (b : Expr) (s u : Sort) (scope : List Sort)
      → let z : layer.Case-F Expr Case = record { pattern = pattern; guard = guard; body = b } in
      arm_sort p.types p.functions (arm_step (map-Case Expr Case Sorting Arm Sorted SortedArm z)) s scope ≡ Some u
      → AreNoTrees (case_parts p.types p.functions (map-Case Expr Case (Expr × Parts) (Case × CaseParts)
      (λ e. (e, Inner e)) (λ c. (c, InnerCase c)) z) s scope)
      → Within (listed_parts (map-Case Expr Case (List ℕ) (List ℕ) calls calls_in_case z))
      → CaseHolds Makes Meets IsWordExpr IsWordCase z
  by_parts pattern None b s u scope h words within =
      (tt, plain_case pattern b s u scope (bound_sorts p.types.ctors pattern s) h words within)
  by_parts pattern (Some g) b s u scope h words within =
      guarded_case pattern g b s u scope (bound_sorts p.types.ctors pattern s) h words within

  pub case_parts_hold : (y : layer.Case-F Expr Case) → IsWordCase (roll-Case y)
      → CaseHolds Makes Meets IsWordExpr IsWordCase y
  case_parts_hold y h =
      let sort_is = fold-roll-Case Sorting Arm (sort_step p.types p.functions) arm_step y in
      let parts_are = para-roll-Case Parts CaseParts (part_step p.types p.functions) (case_parts p.types p.functions)
      y in
      let calls_are = fold-roll-Case (List ℕ) (List ℕ) calls_step listed_parts y in
      by_parts y.pattern y.guard y.body h.matched h.result h.scope
      (sym (ap (λ (a : Arm). arm_sort p.types p.functions a h.matched h.scope) sort_is) ∙ h.sorted)
      (subst (λ (a : CaseParts). AreNoTrees (a h.matched h.scope)) parts_are h.words) (subst Within calls_are h.within)
