-- What an expression mentions is there at the arguments of an instance, and so is what its parts mention.
use Rattle.std.proofs.Common.{◌≡◌, ℕ, List, [], ◌∷◌, ◌++◌, map, sym, ap, ◌∙◌, subst}
use Rattle.std.specs.Prelude.{Option, Some, None, Contains}
use Rattle.std.proofs.lemmas.List.Elements.{Contains-append_left, Contains-append_right}
use Rattle.std.proofs.lemmas.List.{map_push}
use Rattle.pp_typed.specs.Parts.{case_parts}
use Rattle.pp_list.specs.Joined.{joined}
use Rattle.pp_list.proofs.Joined.{joined_push}
use Rattle.pp_instances.specs.Uses.{at_args, case_mentions, expr_step, function_at, guard_mentions}
use Rattle.pp_instances.specs.Uses.{kind_mentions, kind_step, mentions, types_in, types_of}
use Rattle.pp_instances.specs.declared.member.Member.{Member}
use Rattle.pp_typed.specs.declared.expr.TypedCase.{TypedCase}
use Rattle.pp_typed.specs.declared.expr.TypedExpr.{TypedExpr}
use Rattle.pp_typed.specs.declared.expr.TypedKind.{TypedKind}
use Rattle.pp_typed.specs.declared.expr.TypedKind.TheFolds.{map-TypedCase, fold_out-TypedExpr, fold_out-TypedCase}
use Rattle.pp_typed.specs.declared.expr.TypedKind.TheFolds.{fold-roll-TypedKind}
use Rattle.pp_typed.specs.declared.expr.TypedKind.TheOpen as layer
use Rattle.pp_typed.specs.declared.expr.TypedKind.TheVariants as kind
use Rattle.pp_typed.specs.declared.expr.TypedKind.TheViews.{out-TypedCase}
use Rattle.pp_typed.specs.declared.pattern.TypedPattern.{TypedPattern}
use Rattle.pp_typed.specs.declared.sort.GenericSort.{GenericSort}

abbrev Ms : Type 0
Ms = List Member

module _ (ms : Ms) (args : List GenericSort) where
  abbrev pub Within : Ms → Type 0
  Within l = (m : Member) → Contains l m → Contains ms (at_args args m)

  pub in_left : (a b : Ms) → Within (a ++ b) → Within a
  in_left a b h = λ m c. h m (Contains-append_left a b m c)

  pub in_right : (a b : Ms) → Within (a ++ b) → Within b
  in_right a b h = λ m c. h m (Contains-append_right a b m c)

  pub in_same : (a b : Ms) → a ≡ b → Within a → Within b
  in_same a b e h = subst Within e h

  opened : (e : TypedExpr) → mentions e ≡ types_in e.of ++ kind_mentions e.kind
  opened e = fold_out-TypedExpr Ms Ms Ms kind_step case_parts expr_step e

  pub in_sort : (e : TypedExpr) → Within (mentions e) → Within (types_in e.of)
  in_sort e h = in_left (types_in e.of) (kind_mentions e.kind) (in_same _ _ (opened e) h)

  in_kind : (e : TypedExpr) (k : TypedKind) (l : Ms) → e.kind ≡ k → kind_mentions k ≡ l → Within (mentions e) → Within l
  in_kind e k l is o h = in_same _ _ (ap kind_mentions is ∙ o)
      (in_right (types_in e.of) (kind_mentions e.kind) (in_same _ _ (opened e) h))

  pub in_call : (e : TypedExpr) (f : ℕ) (sorts : List GenericSort) (es : List TypedExpr) → e.kind ≡ kind.Call f sorts es
      → Within (mentions e)
      → Within (function_at f sorts ∷ types_of sorts ++ joined (map mentions es))
  in_call e f sorts es is = in_kind e (kind.Call f sorts es) _ is
      (ap kind_mentions (sym (kind.rolls-Call f sorts es))
      ∙ fold-roll-TypedKind Ms Ms Ms kind_step case_parts expr_step (layer.Call f sorts es))

  pub in_construct : (e : TypedExpr) (c : ℕ) (sorts : List GenericSort) (es : List TypedExpr)
      → e.kind ≡ kind.Construct c sorts es → Within (mentions e)
      → Within (types_of sorts ++ joined (map mentions es))
  in_construct e c sorts es is = in_kind e (kind.Construct c sorts es) _ is
      (ap kind_mentions (sym (kind.rolls-Construct c sorts es))
      ∙ fold-roll-TypedKind Ms Ms Ms kind_step case_parts expr_step (layer.Construct c sorts es))

  pub in_field : (e base : TypedExpr) (j : ℕ) → e.kind ≡ kind.Field base j → Within (mentions e)
      → Within (mentions base)
  in_field e base j is = in_kind e (kind.Field base j) _ is
      (ap kind_mentions (sym (kind.rolls-Field base j))
      ∙ fold-roll-TypedKind Ms Ms Ms kind_step case_parts expr_step (layer.Field base j))

  pub in_unary : (e a : TypedExpr) (op : _) → e.kind ≡ kind.Unary op a → Within (mentions e) → Within (mentions a)
  in_unary e a op is = in_kind e (kind.Unary op a) _ is
      (ap kind_mentions (sym (kind.rolls-Unary op a)) ∙ fold-roll-TypedKind Ms Ms Ms kind_step case_parts expr_step
      (layer.Unary op a))

  pub in_binary : (e a b : TypedExpr) (op : _) → e.kind ≡ kind.Binary op a b → Within (mentions e)
      → Within (mentions a ++ mentions b)
  in_binary e a b op is = in_kind e (kind.Binary op a b) _ is
      (ap kind_mentions (sym (kind.rolls-Binary op a b))
      ∙ fold-roll-TypedKind Ms Ms Ms kind_step case_parts expr_step (layer.Binary op a b))

  pub in_if : (e c a b : TypedExpr) → e.kind ≡ kind.If c a b → Within (mentions e)
      → Within (mentions c ++ mentions a ++ mentions b)
  in_if e c a b is = in_kind e (kind.If c a b) _ is (ap kind_mentions (sym (kind.rolls-If c a b))
      ∙ fold-roll-TypedKind Ms Ms Ms kind_step case_parts expr_step (layer.If c a b))

  pub in_match : (e m : TypedExpr) (cs : List TypedCase) → e.kind ≡ kind.Match m cs → Within (mentions e)
      → Within (mentions m ++ joined (map case_mentions cs))
  in_match e m cs is = in_kind e (kind.Match m cs) _ is
      (ap kind_mentions (sym (kind.rolls-Match m cs)) ∙ fold-roll-TypedKind Ms Ms Ms kind_step case_parts expr_step
      (layer.Match m cs))

  pub in_val : (e a b : TypedExpr) → e.kind ≡ kind.Val a b → Within (mentions e) → Within (mentions a ++ mentions b)
  in_val e a b is = in_kind e (kind.Val a b) _ is (ap kind_mentions (sym (kind.rolls-Val a b))
      ∙ fold-roll-TypedKind Ms Ms Ms kind_step case_parts expr_step (layer.Val a b))

  pub in_assert : (e a b : TypedExpr) → e.kind ≡ kind.Assert a b → Within (mentions e)
      → Within (mentions a ++ mentions b)
  in_assert e a b is = in_kind e (kind.Assert a b) _ is
      (ap kind_mentions (sym (kind.rolls-Assert a b)) ∙ fold-roll-TypedKind Ms Ms Ms kind_step case_parts expr_step
      (layer.Assert a b))

  -- all but the last, and the last
  pub in_parts : {A : Type 0} (f : A → Ms) (xs : List A) (x : A) → Within (joined (map f (xs ++ x ∷ [])))
      → Within (joined (map f xs)) × Within (f x)
  in_parts f xs x h =
      let both = in_same _ _ (ap joined (map_push f xs x) ∙ joined_push (map f xs) (f x)) h in
      (in_left (joined (map f xs)) (f x) both, in_right (joined (map f xs)) (f x) both)

  in_layer : (p : TypedPattern) (g : Option TypedExpr) (b : TypedExpr)
      → Within (case_parts (map-TypedCase TypedKind TypedCase TypedExpr Ms Ms Ms kind_mentions case_mentions mentions
      (record { pattern = p; guard = g; body = b })))
      → Within (guard_mentions g) × Within (mentions b)
  in_layer p None b h = (in_left [] (mentions b) h, h)
  in_layer p (Some g) b h = (in_left (mentions g) (mentions b) h, in_right (mentions g) (mentions b) h)

  pub in_case : (c : TypedCase) → Within (case_mentions c) → Within (guard_mentions (out-TypedCase c).guard)
      × Within (mentions (out-TypedCase c).body)
  in_case c h =
      in_layer (out-TypedCase c).pattern (out-TypedCase c).guard (out-TypedCase c).body
      (in_same _ _ (fold_out-TypedCase Ms Ms Ms kind_step case_parts expr_step c) h)
