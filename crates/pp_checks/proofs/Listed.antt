-- The list that is found of an expression has the checks of the sites in it that go down, and no other.
use Rattle.std.proofs.Common.{◌≡◌, ◌⊎◌, ℕ, Bool, true, false, List, [], ◌∷◌, ◌++◌, map, Option, Some}
use Rattle.std.proofs.Common.{None, slice_get, refl, sym, ap, ◌∙◌, subst, arith, inl, inr, ⊎_elim, Contains}
use Rattle.std.proofs.lemmas.List.Elements.{Contains-append_cases, Contains-append_left, Contains-append_right}
use Rattle.std.proofs.lemmas.Option.{slice_get-map}
use Rattle.std.specs.Option.{option_map}
use Rattle.pp_graph.specs.Rows.{marked}
use Rattle.pp_graph.proofs.Paths.{nothing}
use Rattle.pp_prog.specs.declared.expr.Case.{Case}
use Rattle.pp_prog.specs.declared.expr.Expr.{Expr}
use Rattle.pp_prog.specs.declared.expr.Expr.TheFolds.{fold_out-Expr}
use Rattle.pp_prog.specs.declared.expr.Expr.TheFolds.{map-Expr}
use Rattle.pp_prog.specs.declared.expr.Expr.TheOpen as layer
use Rattle.pp_prog.specs.declared.expr.Expr.TheVariants.{Call, Var, outs-Call, rolls-Call}
use Rattle.pp_prog.specs.declared.expr.Expr.TheViews.{out-Expr, out-roll-Expr, roll-Expr}
use Rattle.pp_prog.specs.declared.expr.Function.{Function}
use Rattle.pp_prog.specs.declared.id.CheckId.{CheckId}
use Rattle.pp_prog.specs.declared.id.FunctionId.{FunctionId}
use Rattle.pp_checks.specs.Marks.{CaseDescents, Seen, as_check, case_step, descents_in_case, first_param_of, goes_down}
use Rattle.pp_checks.specs.Marks.{inside_at, is_inside, seen, seen_step}
use Rattle.pp_checks.specs.Marks.{variable_in, variable_of, when}
use Rattle.pp_checks.specs.Plain.{IsPartOf, IsPlainSite, Scope, Scoped, bound_below}
use Rattle.pp_checks.specs.Plain.{each_in, itself, parts_in, parts_of, within}
use Rattle.pp_checks.proofs.Inside.{MarksInside, below_match}
use Rattle.pp_checks.proofs.Measured.{begins_if, first_param_is, is_var, only, in_when, var_is, when_in}

-- ---- the variable that an expression is

module _ (functions : List Function) (p : ℕ) where
  variable_of_layer : (y : layer.Expr-F Expr Case) → (seen_step functions p (map-Expr Expr Case Seen CaseDescents
      (seen functions p) (descents_in_case functions p) y)).0 ≡ variable_in y
  variable_of_layer (layer.Int n) = refl
  variable_of_layer (layer.Bool b) = refl
  variable_of_layer (layer.Var i) = refl
  variable_of_layer (layer.Unary op a) = refl
  variable_of_layer (layer.Binary op a b check) = refl
  variable_of_layer (layer.Construct c args) = refl
  variable_of_layer (layer.Field e k) = refl
  variable_of_layer (layer.If c a b) = refl
  variable_of_layer (layer.Match e cases check) = refl
  variable_of_layer (layer.Val bound rest) = refl
  variable_of_layer (layer.Assert check c rest) = refl
  variable_of_layer (layer.Call g args pre measure) = refl

  variable_seen : (e : Expr) → (seen functions p e).0 ≡ variable_of e
  variable_seen e =
      ap (λ (s : Seen). s.0) (fold_out-Expr Seen CaseDescents (seen_step functions p) case_step e)
      ∙ variable_of_layer (out-Expr e)

  -- whether the argument at a place is inside
  pub goes_down_at : (q : ℕ) (args : List Expr) (arg : Expr) (marks : List Bool) → slice_get args q ≡ Some arg
      → goes_down (Some q) (map (seen functions p) args) marks ≡ is_inside marks (variable_of arg)
  goes_down_at q args arg marks is =
      ap (λ o. inside_at o marks) (slice_get-map (seen functions p) args q
      ∙ ap (option_map (seen functions p)) is) ∙ ap (is_inside marks) (variable_seen arg)

-- how a match binds, by the variable that is matched on
below_layer : (y : layer.Expr-F Expr Case) → below_match (variable_in y) ≡ bound_below y
below_layer (layer.Int n) = refl
below_layer (layer.Bool b) = refl
below_layer (layer.Var i) = refl
below_layer (layer.Unary op a) = refl
below_layer (layer.Binary op a b check) = refl
below_layer (layer.Construct c args) = refl
below_layer (layer.Field e k) = refl
below_layer (layer.If c a b) = refl
below_layer (layer.Match e cases check) = refl
below_layer (layer.Val bound rest) = refl
below_layer (layer.Assert check c rest) = refl
below_layer (layer.Call g args pre measure) = refl

pub below_seen : (functions : List Function) (p : ℕ) (e : Expr)
    → below_match (seen functions p e).0 ≡ bound_below (out-Expr e)
below_seen functions p e = ap below_match (variable_seen functions p e) ∙ below_layer (out-Expr e)

module _ (functions : List Function) (p c : ℕ) where
  -- a site that goes down and carries the check is in the expression
  pub record Found (q : Scoped) : Type 0 where
    pub site : Scoped
    pub stands : IsPartOf site q
    pub down : IsPlainSite functions p c site

  pub record FoundIn (qs : List Scoped) : Type 0 where
    pub part : Scoped
    pub listed : Contains qs part
    pub found : Found part

  -- the list has the check exactly where such a site is in the expression, or in one of several
  pub record Lists (xs : List ℕ) (q : Scoped) : Type 0 where
    pub to : Contains xs c → Found q
    pub from : Found q → Contains xs c

  pub record ListsIn (xs : List ℕ) (qs : List Scoped) : Type 0 where
    pub to : Contains xs c → FoundIn qs
    pub from : FoundIn qs → Contains xs c

  pub list_none : ListsIn [] []
  list_none = record { to = λ h. absurd (nothing c h); from = λ f. absurd (nothing f.part f.listed) }

  pub list_append : {xs ys : List ℕ} {qs rs : List Scoped} → ListsIn xs qs → ListsIn ys rs
      → ListsIn (xs ++ ys) (qs ++ rs)
  list_append {xs = xs} {ys = ys} {qs = qs} {rs = rs} a b = record {
    to = λ h. ⊎_elim
        (λ l. let f = a.to l in record {
          part = f.part;
          listed = Contains-append_left qs rs f.part f.listed;
          found = f.found;
        })
        (λ l. let f = b.to l in record {
          part = f.part;
          listed = Contains-append_right qs rs f.part f.listed;
          found = f.found;
        })
        (Contains-append_cases xs ys c h);
    from = λ f. ⊎_elim
        (λ l. Contains-append_left xs ys c (a.from (record { part = f.part; listed = l; found = f.found })))
        (λ l. Contains-append_right xs ys c (b.from (record { part = f.part; listed = l; found = f.found })))
        (Contains-append_cases qs rs f.part f.listed);
  }

  pub list_one : {xs : List ℕ} {q : Scoped} → Lists xs q → ListsIn xs (q ∷ [])
  list_one {q = q} a = record {
    to = λ h. record { part = q; listed = (0, omega arith, refl); found = a.to h };
    from = λ f. a.from (subst Found (sym (only q f.part f.listed)) f.found);
  }

  pub list_more : {xs ys : List ℕ} {q : Scoped} {qs : List Scoped} → Lists xs q → ListsIn ys qs
      → ListsIn (xs ++ ys) (q ∷ qs)
  list_more {q = q} {qs = qs} a b = list_append {qs = q ∷ []} {rs = qs} (list_one a) b

  -- ---- an expression and its parts

  parts_rolled : (scope : Scope) (z : layer.Expr-F Expr Case)
      → parts_of (scope, roll-Expr z) ≡ parts_in scope z
  parts_rolled scope z = ap (parts_in scope) (out-roll-Expr z)

  site_or_part : (q site : Scoped) → IsPartOf site q → IsPlainSite functions p c site
      → IsPlainSite functions p c q ⊎ FoundIn (parts_of q)
  site_or_part q site itself d = inl d
  site_or_part q site (within {part = r} l s) d =
      inr (record { part = r; listed = l; found = record { site = site; stands = s; down = d } })

  site_is_call : (scope : Scope) (z : layer.Expr-F Expr Case) (d : IsPlainSite functions p c (scope, roll-Expr z))
      → z ≡ layer.Call d.callee d.args d.pre (Some d.check)
  site_is_call scope z d =
      sym (out-roll-Expr z) ∙ ap out-Expr d.call ∙ outs-Call d.callee d.args d.pre (Some d.check)

  listed_by_site_or_part : (xs : List ℕ) (scope : Scope) (z : layer.Expr-F Expr Case)
      → (Contains xs c → IsPlainSite functions p c (scope, roll-Expr z) ⊎ FoundIn (parts_in scope z))
      → (IsPlainSite functions p c (scope, roll-Expr z) → Contains xs c)
      → (FoundIn (parts_in scope z) → Contains xs c)
      → Lists xs (scope, roll-Expr z)
  listed_by_site_or_part xs scope z to own parts = record {
    to = λ h. ⊎_elim (λ d. record { site = (scope, roll-Expr z); stands = itself; down = d })
        (λ f. record {
          site = f.found.site;
          stands = within (subst (λ l. Contains l f.part) (sym (parts_rolled scope z)) f.listed) f.found.stands;
          down = f.found.down;
        }) (to h);
    from = λ f. ⊎_elim own (λ g. parts (record {
      part = g.part;
      listed = subst (λ l. Contains l g.part) (parts_rolled scope z) g.listed;
      found = g.found;
    })) (site_or_part (scope, roll-Expr z) f.site f.stands f.down);
  }

  -- no call
  abbrev pub IsOther : layer.Expr-F Expr Case → Type 0
  IsOther z =
      (g : FunctionId) (args : List Expr) (pre : Option CheckId) (check : CheckId)
      → z ≡ layer.Call g args pre (Some check) → ⊥

  -- what is no call has the sites of its parts
  pub of_parts : {xs : List ℕ} (scope : Scope) (z : layer.Expr-F Expr Case) → IsOther z → ListsIn xs (parts_in scope z)
      → Lists xs (scope, roll-Expr z)
  of_parts {xs = xs} scope z other all =
      listed_by_site_or_part xs scope z (λ h. inr (all.to h))
      (λ d. absurd (other d.callee d.args d.pre d.check (site_is_call scope z d))) (λ f. all.from f)

  -- ---- a call

  module _ (scope : Scope) (marks : List Bool) (agree : MarksInside p scope marks) (g : FunctionId) (args : List Expr)
      (pre measure : Option CheckId) where
    abbrev is_down : Bool
    is_down = goes_down (first_param_of (slice_get functions g.0)) (map (seen functions p) args) marks

    abbrev call : layer.Expr-F Expr Case
    call = layer.Call g args pre measure

    record Argument (q : ℕ) : Type 0 where
      variable : ℕ
      at : slice_get args q ≡ Some (Var variable)
      live : marked marks variable ≡ true

    argument : (q : ℕ) → goes_down (Some q) (map (seen functions p) args) marks ≡ true → Argument q
    argument q h = by (slice_get args q) refl
      where
        variable : (arg : Expr) → slice_get args q ≡ Some arg → (o : Option ℕ) → variable_of arg ≡ o
            → is_inside marks o ≡ true → Argument q
        variable arg is None at t = let no : false ≡ true = t in cc
        variable arg is (Some v) at t = record { variable = v; at = is ∙ ap Some (is_var arg v at); live = t }

        by : (o : Option Expr) → slice_get args q ≡ o → Argument q
        by None is =
            let no : false ≡ true = sym (ap (λ o. inside_at o marks) (slice_get-map (seen functions p) args q
            ∙ ap (option_map (seen functions p)) is)) ∙ h in cc
        by (Some arg) is =
            variable arg is (variable_of arg) refl (sym (goes_down_at functions p q args arg marks is) ∙ h)

    own_site : (o : Option Function) → slice_get functions g.0 ≡ o → (n : Option ℕ) → first_param_of o ≡ n
        → goes_down n (map (seen functions p) args) marks ≡ true → (check : CheckId) → measure ≡ Some check
        → check.0 ≡ c → IsPlainSite functions p c (scope, roll-Expr call)
    own_site None there n first down check is number =
        let none : None ≡ n = first in
        let no : false ≡ true = ap (λ m. goes_down m (map (seen functions p) args) marks) none ∙ down in cc
    own_site (Some f) there None first down check is number = let no : false ≡ true = down in cc
    own_site (Some f) there (Some q) first down check is number =
        let a = argument q down in
        record {
          callee = g;
          args = args;
          pre = pre;
          check = check;
          call = rolls-Call g args pre measure ∙ ap (Call g args pre) is;
          number = number;
          called = f;
          there = there;
          param = q;
          begins = begins_if f q first;
          variable = a.variable;
          argument = a.at;
          inside = (agree.each a.variable).0 a.live;
        }

    own_down : IsPlainSite functions p c (scope, roll-Expr call) → Contains (when is_down (as_check measure)) c
    own_down d =
        let e = site_is_call scope call d in
        let callee : g ≡ d.callee = cc in
        let passed : args ≡ d.args = cc in
        let check : measure ≡ Some d.check = cc in
        let first : first_param_of (slice_get functions g.0) ≡ Some d.param =
        ap (λ (h : FunctionId). first_param_of (slice_get functions h.0)) callee ∙ ap first_param_of d.there
        ∙ first_param_is d.called d.param d.begins in
        let down : is_down ≡ true = ap (λ n. goes_down n (map (seen functions p) args) marks) first
        ∙ goes_down_at functions p d.param args (Var d.variable) marks
        (ap (λ (l : List Expr). slice_get l d.param) passed ∙ d.argument)
        ∙ ap (is_inside marks) (var_is (Var d.variable) d.variable refl) ∙ (agree.each d.variable).1 d.inside in
        subst (Contains (when is_down (as_check measure))) d.number
        (when_in is_down measure d.check down check)

    pub call_listed : {xs : List ℕ} → ListsIn xs (each_in scope args)
        → Lists (xs ++ when is_down (as_check measure)) (scope, roll-Expr call)
    call_listed {xs = xs} all =
        listed_by_site_or_part (xs ++ when is_down (as_check measure)) scope call
        (λ h. ⊎_elim (λ l. inr (all.to l)) (λ l. inl (own l))
        (Contains-append_cases xs (when is_down (as_check measure)) c h))
        (λ d. Contains-append_right xs (when is_down (as_check measure)) c (own_down d))
        (λ f. Contains-append_left xs (when is_down (as_check measure)) c (all.from f))
      where
        own : Contains (when is_down (as_check measure)) c → IsPlainSite functions p c (scope, roll-Expr call)
        own h =
            let w = in_when is_down measure c h in
            own_site (slice_get functions g.0) refl (first_param_of (slice_get functions g.0)) refl w.so
            w.check w.is w.number
