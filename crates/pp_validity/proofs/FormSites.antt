-- The sites of calls, divisions and matches: each carries a check exactly where it can fail.
use Rattle.std.proofs.Common.{◌≡◌, ℕ, Bool, true, false, not, ◌&&◌, List, [], ◌∷◌, ◌++◌, map, refl, sym, ap, ◌∙◌}
use Rattle.std.proofs.Common.{subst, append_assoc}
use Rattle.std.specs.Prelude.{◌↔◌, IsTrue, Option, Some, None, is_none, is_some, slice_get, Contains}
use Rattle.std.proofs.lemmas.List.{map_push}
use Rattle.pp_list.specs.Joined.{joined}
use Rattle.pp_list.proofs.Joined.{joined_push}
use Rattle.pp_instances.specs.Uses.{function_at}
use Rattle.pp_instances.specs.declared.member.Member.{Member}
use Rattle.pp_prog.specs.Calls.{OneGroup}
use Rattle.pp_prog.specs.Listing.{CaseSites, Site, Sites, division, precondition, measure, matching, case_beside}
use Rattle.pp_prog.specs.Listing.{case_sites, division_site, operator_site, site_step, sites, sites_in_case}
use Rattle.pp_prog.specs.Listing.{sites_of_cases, unguarded, unless_guarded, with_bound, with_case_sites}
use Rattle.pp_prog.specs.PatternSorts.{bound_sorts}
use Rattle.pp_prog.specs.Valid.{Carries, Covers}
use Rattle.pp_prog.specs.declared.check.CheckKind.TheVariants as check
use Rattle.pp_prog.specs.declared.expr.Case.{Case}
use Rattle.pp_prog.specs.declared.expr.Expr.{Expr}
use Rattle.pp_prog.specs.declared.expr.Expr.TheFolds.{para-roll-Case}
use Rattle.pp_prog.specs.declared.expr.Expr.TheOpen as prog_layer
use Rattle.pp_prog.specs.declared.expr.Expr.TheViews.{out-roll-Case}
use Rattle.pp_prog.specs.declared.expr.Function.{Function}
use Rattle.pp_prog.specs.declared.expr.Pattern.{Pattern}
use Rattle.pp_prog.specs.declared.sort.Sort.{Sort}
use Rattle.pp_operators.specs.Classes.{is_division}
use Rattle.pp_translation.specs.Numbered.{TranslateGuard, TranslateCase, TranslateCases, after_pre, callee, check_at}
use Rattle.pp_translation.specs.Numbered.{descends, has_pre, has_measure as has_typed_measure, more_if, number_if}
use Rattle.pp_translation.specs.Numbered.{same_number, unguarded_at, unguarded_case, unless_guarded as typed_unless}
use Rattle.pp_translation.specs.Numbered.{no_guard, one_guard, one_case, no_cases, more_cases}
use Rattle.pp_translation.specs.Numbers.{sort_at}
use Rattle.pp_translation.specs.Patterns.{pattern_at}
use Rattle.pp_translation.specs.Places.{division_offset, operator_offset}
use Rattle.pp_translation.specs.Setting.{Setting}
use Rattle.pp_translation.specs.declared.frame.CheckAt.{CheckAt}
use Rattle.pp_translation.specs.declared.frame.Frame.{Frame}
use Rattle.pp_tree.specs.declared.operator.BinaryOp.{BinaryOp}
use Rattle.pp_typed.specs.Put.{put}
use Rattle.pp_typed.specs.declared.expr.TypedCase.{TypedCase}
use Rattle.pp_typed.specs.declared.expr.TypedExpr.{TypedExpr}
use Rattle.pp_typed.specs.declared.expr.TypedKind.TheViews.{out-TypedCase}
use Rattle.pp_typed.specs.declared.sort.GenericSort.{GenericSort}
use Rattle.pp_typed.specs.declared.typed.Typed.{Typed}
use Rattle.pp_typed.specs.declared.typed.TypedDef.{TypedDef}
use Rattle.pp_validity.proofs.Known.{IsGrouped}
use Rattle.pp_validity.proofs.Listed.{Lists, lists_append, one_if, plain_site}

is_there : (b : Bool) (cs : List CheckAt) → is_some (number_if b cs) ≡ b
is_there true cs = refl
is_there false cs = refl

is_absent : (b : Bool) (cs : List CheckAt) → is_none (number_if (not b) cs) ≡ b
is_absent true cs = refl
is_absent false cs = refl

three : (a b c : Bool) (O : Type 0) → IsTrue c ↔ O → IsTrue (a && (b && c)) ↔ (O × IsTrue a × IsTrue b)
three true true c O h = (λ t. (h.0 t, refl, refl), λ q. h.1 q.0)
three true false c O h = (λ t. let no : false ≡ true = t in cc, λ q. q.2)
three false b c O h = (λ t. let no : false ≡ true = t in cc, λ q. q.1)

along : (n : Bool) (b : Bool) (P Q : Type 0) → n ≡ b → IsTrue b ↔ P → (P → Q) → (Q → P) → IsTrue n ↔ Q
along n b P Q e h there back = (λ t. there (h.0 (sym e ∙ t)), λ q. e ∙ h.1 (back q))

-- ---- cases

pub of_cases_append : (a b : List (Case × CaseSites)) (s : Sort) (sc : List Sort)
    → sites_of_cases (a ++ b) s sc ≡ sites_of_cases a s sc ++ sites_of_cases b s sc
of_cases_append [] b s sc = refl
of_cases_append (c ∷ a) b s sc = ap (λ l. c.1 s sc ++ l) (of_cases_append a b s sc)
    ∙ sym (append_assoc (c.1 s sc) (sites_of_cases a s sc) (sites_of_cases b s sc))

unless_append : (g : Option Expr) (p : Pattern) (a b : List Pattern)
    → unless_guarded g p (a ++ b) ≡ unless_guarded g p a ++ b
unless_append None p a b = refl
unless_append (Some g) p a b = refl

unguarded_append : (a b : List (Case × CaseSites)) → unguarded (a ++ b) ≡ unguarded a ++ unguarded b
unguarded_append [] b = refl
unguarded_append (c ∷ a) b = ap (unless_guarded c.0.guard c.0.pattern) (unguarded_append a b)
    ∙ unless_append c.0.guard c.0.pattern (unguarded a) (unguarded b)

module _ (set : Setting) (fs : List Function) where
  abbrev pub guard_in : Option Expr → List Sort → List Site
  guard_in None l = []
  guard_in (Some g) l = sites set.types fs g l

  -- a case, by its parts
  pub case_is : (sc : List Sort) (p : Pattern) (guard : Option Expr) (body : Expr) (s : Sort)
      → sites_in_case set.types fs (record { pattern = p; guard = guard; body = body }) s sc
      ≡ with_bound (bound_sorts set.types.ctors p s) (λ bound. guard_in guard (sc ++ bound) ++ sites set.types fs body
      (sc ++ bound))
  case_is sc p None body s = ap (λ (f : CaseSites). f s sc)
      (para-roll-Case Sites CaseSites (site_step set.types fs) (case_sites set.types fs)
      (record { pattern = p; guard = None; body = body }))
  case_is sc p (Some g) body s = ap (λ (f : CaseSites). f s sc)
      (para-roll-Case Sites CaseSites (site_step set.types fs) (case_sites set.types fs)
      (record { pattern = p; guard = Some g; body = body }))

module _ (typed : Typed) (set : Setting) (fs : List Function) (own : Frame) where
  same_guard : {g : Option TypedExpr} {x : Option Expr} {old new : List CheckAt} (p : Pattern)
      → TranslateGuard typed set own g x old new
      → unless_guarded x p [] ≡ typed_unless g p
  same_guard p no_guard = refl
  same_guard p (one_guard t) = refl

  case_patterns : {at : GenericSort} {c : TypedCase} {y : Case} {old new : List CheckAt}
      → TranslateCase typed set own at c y old new
      → unguarded (case_beside set.types fs y ∷ []) ≡ unguarded_case typed set.roots at c
  case_patterns {at} (one_case c {guard = guard} {body = body} tg tb) =
      let z : prog_layer.Case-F Expr Case =
      record { pattern = pattern_at typed set.roots (out-TypedCase c).pattern at; guard = guard; body = body } in
      ap (λ (k : prog_layer.Case-F Expr Case). unless_guarded k.guard k.pattern []) (out-roll-Case z)
      ∙ same_guard (pattern_at typed set.roots (out-TypedCase c).pattern at) tg

  pub covered_patterns : {at : GenericSort} {cs : List TypedCase} {ys : List Case} {old new : List CheckAt}
      → TranslateCases typed set own at cs ys old new
      → unguarded (with_case_sites set.types fs ys) ≡ unguarded_at typed set.roots at cs
  covered_patterns no_cases = refl
  covered_patterns {at} (more_cases {cases = cs} {c = c} {ys = ys} {y = y} before one) =
      ap unguarded (map_push (case_beside set.types fs) ys y)
      ∙ unguarded_append (with_case_sites set.types fs ys) (case_beside set.types fs y ∷ [])
      ∙ ap (λ l. l ++ unguarded (case_beside set.types fs y ∷ [])) (covered_patterns before)
      ∙ ap (λ l. unguarded_at typed set.roots at cs ++ l) (case_patterns one)
      ∙ sym (joined_push (map (unguarded_case typed set.roots at) cs) (unguarded_case typed set.roots at c))
      ∙ ap joined (sym (map_push (unguarded_case typed set.roots at) cs c))

  -- the sort of what is matched
  abbrev its_sort : TypedExpr → Sort
  its_sort m = sort_at set.roots own.args m.of

  -- the site of a match
  pub match_site : (e m : TypedExpr) (cs : List TypedCase) (ps : List Pattern) (mid : List CheckAt) (covered : Bool)
      → ps ≡ unguarded_at typed set.roots (put own.args m.of) cs
      → IsTrue covered ↔ Covers set.types.ctors (its_sort m) (unguarded_at typed set.roots (put own.args m.of) cs)
      → Lists set fs own (matching (its_sort m) ps (number_if (not covered) mid) ∷ []) ((e.source, e.at) ∷ []) mid
      (more_if (not covered) (check_at typed set own check.Match e) mid)
  match_site e m cs ps mid covered is exact =
      let n = number_if (not covered) mid in
      let right : Carries set.types fs own.number (matching (its_sort m) ps n) =
      along (is_none n) covered _ _ (is_absent covered mid) exact
      (λ q. subst (Covers set.types.ctors (its_sort m)) (sym is) q)
      (λ q. subst (Covers set.types.ctors (its_sort m)) is q) in
      one_if set fs own (matching (its_sort m) ps n) check.Match (not covered)
      (check_at typed set own check.Match e) mid refl refl refl refl refl right

  -- ---- operators

  quotient : (e : TypedExpr) (b : Bool) (cs : List CheckAt)
      → Lists set fs own (division_site b (number_if b cs) ∷ []) (division_offset b (e.source, e.at)) cs
      (more_if b (check_at typed set own check.Division e) cs)
  quotient e true cs = one_if set fs own (division (number_if true cs)) check.Division true
      (check_at typed set own check.Division e) cs refl refl refl refl refl refl
  quotient e false cs = plain_site set fs own cs

  pub operator : (e : TypedExpr) (op : BinaryOp) (cs : List CheckAt)
      → Lists set fs own (operator_site op (number_if (is_division op) cs) ∷ []) (operator_offset op (e.source, e.at))
      cs (more_if (is_division op) (check_at typed set own check.Division e) cs)
  operator e op cs = quotient e (is_division op) cs

-- ---- calls

module _ (typed : Typed) (set : Setting) (ms : List Member) (fs : List Function) (own : Frame)
    (grouped : IsGrouped typed set ms fs own) where
  -- the two sites of a call
  pub call_sites : (e : TypedExpr) (f : ℕ) (d : TypedDef) (sorts : List GenericSort) (cs : List CheckAt) (h : Function)
      → slice_get typed.defs f ≡ Some d
      → Contains ms (function_at f (map (put own.args) sorts)) → slice_get fs (callee typed set own f sorts).0 ≡ Some h
      → Lists set fs own (precondition (callee typed set own f sorts) (number_if (has_pre (slice_get typed.defs f)) cs)
      ∷ measure (callee typed set own f sorts) (number_if (descends typed set own f (callee typed set own f sorts))
      (after_pre typed set own e f cs)) ∷ [])
      ((e.source, e.at) ∷ (e.source, e.at) ∷ []) cs (more_if (descends typed set own f (callee typed set own f sorts))
      (check_at typed set own check.Measure e) (after_pre typed set own e f cs))
  call_sites e f d sorts cs h declared there found =
      let g = callee typed set own f sorts in
      let b = has_pre (slice_get typed.defs f) in
      let down = descends typed set own f g in
      let mid = after_pre typed set own e f cs in
      let pre = number_if b cs in
      let m = number_if down mid in
      let outer = map (put own.args) sorts in
      let pre_right : Carries set.types fs own.number (precondition g pre) =
      is_there b cs ∙ sym (grouped.pres f d outer declared there) in
      let both = three own.measured (has_typed_measure (slice_get typed.defs f))
      (same_number (slice_get set.groups own.number) (slice_get set.groups g.0)) (OneGroup fs own.number g.0)
      (grouped.grouped g.0 h found) in
      let down_right : Carries set.types fs own.number (measure g m) =
      along (is_some m) down _ _ (is_there down mid) both
      (λ q. (q.0, sym grouped.measured ∙ q.1, grouped.measures f d outer declared there ∙ q.2))
      (λ q. (q.0, grouped.measured ∙ q.1, sym (grouped.measures f d outer declared there) ∙ q.2)) in
      lists_append set fs own (precondition g pre ∷ []) (measure g m ∷ []) ((e.source, e.at) ∷ [])
      ((e.source, e.at) ∷ []) cs mid
      (more_if down (check_at typed set own check.Measure e) mid)
      (one_if set fs own (precondition g pre) check.Precondition b
      (check_at typed set own check.Precondition e) cs refl refl refl refl refl pre_right)
      (one_if set fs own (measure g m) check.Measure down (check_at typed set own check.Measure e) mid refl
      refl refl refl refl down_right)
