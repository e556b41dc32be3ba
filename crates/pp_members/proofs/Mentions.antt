-- What declarations mention is proper.
use Rattle.std.proofs.Common.{◌≡◌, ℕ, nat_eq, Bool, true, false, List, [], ◌∷◌, ◌++◌, map, refl, sym, ap, ◌∙◌, subst}
use Rattle.std.specs.Prelude.{Option, Some, None, if◌then◌else◌, slice_get}
use Rattle.std.proofs.lemmas.Bool.{eqb-true}
use Rattle.std.proofs.lemmas.List.Elements.{All-contains}
use Rattle.std.proofs.lemmas.Option.{same_Some}
use Rattle.pp_typed.specs.Parts.{case_parts}
use Rattle.pp_list.specs.Joined.{joined}
use Rattle.pp_instances.specs.Uses.{case_mentions, ctor_mentions, decl_mentions, def_mentions, def_or_none}
use Rattle.pp_instances.specs.Uses.{expr_step, function_at, guard_mentions, kind_mentions, kind_step, mentions}
use Rattle.pp_instances.specs.Uses.{param_types, post_mentions, types_in, types_of}
use Rattle.pp_instances.specs.declared.member.Decl.TheVariants.{Function}
use Rattle.pp_instances.specs.declared.member.Member.{Member}
use Rattle.pp_members.proofs.Listed.{AreProperIn, function_in, proper_append, proper_joined, proper_member, proper_none}
use Rattle.pp_members.proofs.Listed.{proper_same, proper_sort, proper_sorts}
use Rattle.pp_members.proofs.Sorts.{all_at, append_in_range, bound_in_range, sort_in_range}
use Rattle.pp_typed.specs.InRange.{IsInRange, AreInRange, none_in_range, more_in_range}
use Rattle.pp_typed.specs.Sorted.{IsSorted, AreSorted, IsSortedGuard, AreSortedCases, param_sorts, sorted_int}
use Rattle.pp_typed.specs.Sorted.{sorted_bool, sorted_local, sorted_call, sorted_construct, sorted_field, sorted_unary}
use Rattle.pp_typed.specs.Sorted.{sorted_binary, sorted_if, sorted_match, sorted_val, sorted_assert, none_sorted}
use Rattle.pp_typed.specs.Sorted.{more_sorted, no_guard, one_guard, no_cases, more_cases}
use Rattle.pp_typed.specs.WellSorted.{HasSort, IsCtor, IsDef, IsPost, IsWellSorted}
use Rattle.pp_typed.specs.declared.expr.TypedCase.{TypedCase}
use Rattle.pp_typed.specs.declared.expr.TypedExpr.{TypedExpr}
use Rattle.pp_typed.specs.declared.expr.TypedKind.{TypedKind}
use Rattle.pp_typed.specs.declared.expr.TypedKind.TheFolds.{map-TypedCase, map-TypedKind, fold_out-TypedExpr}
use Rattle.pp_typed.specs.declared.expr.TypedKind.TheFolds.{fold_out-TypedCase, fold-roll-TypedKind}
use Rattle.pp_typed.specs.declared.expr.TypedKind.TheOpen as layer
use Rattle.pp_typed.specs.declared.expr.TypedKind.TheVariants as kind
use Rattle.pp_typed.specs.declared.expr.TypedKind.TheViews.{out-TypedCase, roll-TypedKind}
use Rattle.pp_typed.specs.declared.pattern.TypedPattern.{TypedPattern}
use Rattle.pp_typed.specs.declared.sort.GenericSort.{GenericSort}
use Rattle.pp_typed.specs.declared.sort.GenericSort.TheVariants as sort
use Rattle.pp_typed.specs.declared.typed.Typed.{Typed}
use Rattle.pp_typed.specs.declared.typed.TypedCtor.{TypedCtor}
use Rattle.pp_typed.specs.declared.typed.TypedDef.{TypedDef}
use Rattle.pp_typed.specs.declared.typed.TypedParam.{TypedParam}
use Rattle.pp_typed.specs.declared.typed.TypedPost.{TypedPost}
use Rattle.pp_typed.specs.declared.typed.TypedRoot.{TypedRoot}

abbrev Ms : Type 0
Ms = List Member

abbrev Layer : Type 0
Layer = layer.TypedKind-F TypedKind TypedCase TypedExpr

abbrev CaseLayer : Type 0
CaseLayer = layer.TypedCase-F TypedKind TypedCase TypedExpr

-- what the parts of a form mention
abbrev below : Layer → Ms
below l = kind_step (map-TypedKind TypedKind TypedCase TypedExpr Ms Ms Ms kind_mentions case_mentions mentions l)

abbrev in_case : CaseLayer → Ms
in_case c = case_parts (map-TypedCase TypedKind TypedCase TypedExpr Ms Ms Ms kind_mentions case_mentions mentions c)

-- an expression of this form mentions its type and what its parts mention
form_mentions : (e : TypedExpr) (k : TypedKind) (l : Layer) → e.kind ≡ k → roll-TypedKind l ≡ k
    → mentions e ≡ types_in e.of ++ below l
form_mentions e k l is rolls =
    fold_out-TypedExpr Ms Ms Ms kind_step case_parts expr_step e
    ∙ ap (λ z. types_in e.of ++ kind_mentions z) (is ∙ sym rolls)
    ∙ ap (λ z. types_in e.of ++ z) (fold-roll-TypedKind Ms Ms Ms kind_step case_parts expr_step l)

in_parts : (p : TypedPattern) (g : Option TypedExpr) (b : TypedExpr)
    → in_case (record { pattern = p; guard = g; body = b }) ≡ guard_mentions g ++ mentions b
in_parts p None b = refl
in_parts p (Some g) b = refl

-- a case mentions what its guard and its body do
case_is : (c : TypedCase) → case_mentions c ≡ guard_mentions (out-TypedCase c).guard ++ mentions (out-TypedCase c).body
case_is c =
    fold_out-TypedCase Ms Ms Ms kind_step case_parts expr_step c
    ∙ in_parts (out-TypedCase c).pattern (out-TypedCase c).guard (out-TypedCase c).body

module _ (typed : Typed) (well : IsWellSorted typed) (params : ℕ) where
  abbrev P : Ms → Type 0
  P = AreProperIn typed params

  abbrev AreIn : List GenericSort → Type 0
  AreIn = AreInRange typed.roots params

  none : P []
  none = proper_none typed params

  both : {a b : Ms} → P a → P b → P (a ++ b)
  both = proper_append typed params

  -- an expression whose parts are
  of_form : {scope : List GenericSort} {e : TypedExpr} {k : TypedKind} (l : Layer) → IsSorted typed params scope e
      → AreIn scope → e.kind ≡ k → roll-TypedKind l ≡ k → P (below l) → P (mentions e)
  of_form {e = e} {k = k} l sorted scope is rolls h =
      proper_same typed params (form_mentions e k l is rolls)
      (both (proper_sort typed params (sort_in_range typed well params sorted scope)) h)

  mutual
    pub proper_expr : {scope : List GenericSort} {e : TypedExpr} → IsSorted typed params scope e → AreIn scope
        → P (mentions e)
    proper_expr (sorted_int n is of range) scope =
        of_form (layer.Int n) (sorted_int n is of range) scope is (kind.rolls-Int n) none
    proper_expr (sorted_bool b is of) scope =
        of_form (layer.Bool b) (sorted_bool b is of) scope is (kind.rolls-Bool b) none
    proper_expr (sorted_local i is at) scope =
        of_form (layer.Local i) (sorted_local i is at) scope is (kind.rolls-Local i) none
    proper_expr (sorted_call f d sorts args is declared all in_range args_sorted of) scope =
        of_form (layer.Call f sorts args) (sorted_call f d sorts args is declared all in_range args_sorted of) scope is
        (kind.rolls-Call f sorts args)
        (both (proper_member typed params (function_at f sorts) (function_in f d sorts refl declared all in_range)
        (proper_sorts typed params in_range))
        (proper_exprs args_sorted scope))
    proper_expr (sorted_construct c k root sorts args is declared root_declared all in_range args_sorted of) scope =
        of_form (layer.Construct c sorts args)
        (sorted_construct c k root sorts args is declared root_declared all in_range args_sorted of) scope is
        (kind.rolls-Construct c sorts args)
        (both (proper_sorts typed params in_range) (proper_exprs args_sorted scope))
    proper_expr (sorted_field {base = base} j k sorts s is base_sorted base_is only at of) scope =
        of_form (layer.Field base j) (sorted_field j k sorts s is base_sorted base_is only at of) scope is
        (kind.rolls-Field base j) (proper_expr base_sorted scope)
    proper_expr (sorted_unary {a = a} op is sorted operand of) scope =
        of_form (layer.Unary op a) (sorted_unary op is sorted operand of) scope is (kind.rolls-Unary op a)
        (proper_expr sorted scope)
    proper_expr (sorted_binary {a = a} {b = b} op is left right operates) scope =
        of_form (layer.Binary op a b) (sorted_binary op is left right operates) scope is (kind.rolls-Binary op a b)
        (both (proper_expr left scope) (proper_expr right scope))
    proper_expr (sorted_if {c = c} {a = a} {b = b} is test is_bool left left_is right right_is) scope =
        of_form (layer.If c a b) (sorted_if is test is_bool left left_is right right_is) scope is (kind.rolls-If c a b)
        (both (both (proper_expr test scope) (proper_expr left scope)) (proper_expr right scope))
    proper_expr (sorted_match {m = m} {c = c} {cs = cs} is matched cases) scope =
        of_form (layer.Match m (c ∷ cs)) (sorted_match is matched cases) scope is (kind.rolls-Match m (c ∷ cs))
        (both (proper_expr matched scope) (proper_cases cases scope (sort_in_range typed well params matched scope)))
    proper_expr (sorted_val {bound = bound} {rest = rest} is bound_sorted rest_sorted rest_is) scope =
        of_form (layer.Val bound rest) (sorted_val is bound_sorted rest_sorted rest_is) scope is
        (kind.rolls-Val bound rest)
        (both (proper_expr bound_sorted scope)
        (proper_expr rest_sorted (append_in_range scope
        (more_in_range (sort_in_range typed well params bound_sorted scope) none_in_range))))
    proper_expr (sorted_assert {c = c} {rest = rest} is test is_bool rest_sorted rest_is) scope =
        of_form (layer.Assert c rest) (sorted_assert is test is_bool rest_sorted rest_is) scope is
        (kind.rolls-Assert c rest)
        (both (proper_expr test scope) (proper_expr rest_sorted scope))

    pub proper_exprs : {scope ss : List GenericSort} {es : List TypedExpr} → AreSorted typed params scope ss es
        → AreIn scope → P (joined (map mentions es))
    proper_exprs none_sorted scope = none
    proper_exprs (more_sorted here is more) scope = both (proper_expr here scope) (proper_exprs more scope)

    pub proper_guard : {scope : List GenericSort} {g : Option TypedExpr} → IsSortedGuard typed params scope g
        → AreIn scope → P (guard_mentions g)
    proper_guard no_guard scope = none
    proper_guard (one_guard sorted is_bool) scope = proper_expr sorted scope

    pub proper_cases : {scope : List GenericSort} {s of : GenericSort} {cs : List TypedCase}
        → AreSortedCases typed params scope s of cs → AreIn scope
        → IsInRange typed.roots params s → P (joined (map case_mentions cs))
    proper_cases no_cases scope s = none
    proper_cases (more_cases {c = c} binds guard body body_is rest) scope s =
        let inner = append_in_range scope (bound_in_range typed well params binds s) in
        both (proper_same typed params (case_is c) (both (proper_guard guard inner) (proper_expr body inner)))
        (proper_cases rest scope s)

module _ (typed : Typed) (well : IsWellSorted typed) where
  abbrev In : ℕ → Ms → Type 0
  In = AreProperIn typed

  proper_params : (n : ℕ) (ps : List TypedParam) → AreInRange typed.roots n (param_sorts ps)
      → In n (joined (map param_types ps))
  proper_params n [] h = proper_none typed n
  proper_params n (p ∷ ps) (more_in_range here more) =
      proper_append typed n (proper_sort typed n here) (proper_params n ps more)

  proper_post : (d : TypedDef) (post : Option TypedPost) → IsDef typed d → IsPost typed d post
      → In d.type_params (post_mentions post)
  proper_post d None def h = proper_none typed d.type_params
  proper_post d (Some post) def h =
      proper_expr typed well d.type_params h.0 (append_in_range def.params (more_in_range def.result none_in_range))

  -- a function
  pub proper_def : (d : TypedDef) → IsDef typed d → In d.type_params (def_mentions d)
  proper_def d def =
      let n = d.type_params in
      let pre =
      proper_joined typed n mentions d.pre
      (λ (e : TypedExpr) c. proper_expr typed well n
      (All-contains (HasSort typed d (param_sorts d.params) sort.Bool) d.pre e def.pre c).0 def.params) in
      let measure =
      proper_joined typed n mentions d.measure
      (λ (e : TypedExpr) c. proper_expr typed well n
      (All-contains (IsSorted typed n (param_sorts d.params)) d.measure e def.measure c) def.params) in
      proper_append typed n
      (proper_append typed n (proper_params n d.params def.params) (proper_sort typed n def.result))
      (proper_append typed n (proper_append typed n (proper_append typed n pre measure)
      (proper_expr typed well n def.body.0 def.params)) (proper_post d d.post def def.post))

  proper_ctor : (r : ℕ) (root : TypedRoot) (c : TypedCtor) (b : Bool) → slice_get typed.roots r ≡ Some root
      → IsCtor typed c → nat_eq c.root r ≡ b
      → In root.type_params (if b then types_of c.fields else [])
  proper_ctor r root c true at ctor is =
      let same : ctor.owner ≡ root =
      same_Some _ _ (sym ctor.declared ∙ ap (slice_get typed.roots) (eqb-true c.root r is) ∙ at) in
      subst (λ (z : TypedRoot). In z.type_params (types_of c.fields)) same
      (proper_sorts typed ctor.owner.type_params ctor.fields)
  proper_ctor r root c false at ctor is = proper_none typed root.type_params

  -- a root
  pub proper_root : (r : ℕ) (root : TypedRoot) → slice_get typed.roots r ≡ Some root
      → In root.type_params (joined (map (ctor_mentions r) typed.ctors))
  proper_root r root at =
      proper_joined typed root.type_params (ctor_mentions r) typed.ctors
      (λ (c : TypedCtor) has. proper_ctor r root c (nat_eq c.root r) at
      (All-contains (IsCtor typed) typed.ctors c well.ctors has) refl)

  pub proper_function : (f : ℕ) (d : TypedDef) → slice_get typed.defs f ≡ Some d
      → In d.type_params (decl_mentions typed (Function f))
  proper_function f d at =
      proper_same typed d.type_params (ap def_or_none at)
      (proper_def d (all_at (IsDef typed) typed.defs f d well.defs at))
