-- The checks of translated functions stand in the texts where the typed functions do.
use Rattle.std.proofs.Common.{◌≡◌, ⊎_elim, ℕ, suc, Bool, true, false, not, List, [], ◌∷◌, ◌++◌, map, refl, sym, ap, ◌∙◌}
use Rattle.std.proofs.Common.{subst, arith}
use Rattle.std.specs.Prelude.{Option, Some, None, All, Contains, slice_get}
use Rattle.std.proofs.lemmas.List.Elements.{All-contains, Contains-append_cases, Contains-append_left}
use Rattle.std.proofs.lemmas.List.Elements.{Contains-append_right, Contains-push, Contains-push_cases}
use Rattle.pp_typed.specs.Parts.{case_parts, kind_parts}
use Rattle.pp_list.specs.Joined.{joined}
use Rattle.pp_instances.proofs.Kept.{nothing_in}
use Rattle.pp_instances.specs.declared.member.Instance.{Instance}
use Rattle.pp_prog.specs.declared.expr.Case.{Case}
use Rattle.pp_prog.specs.declared.expr.Expr.{Expr}
use Rattle.pp_prog.specs.declared.expr.Function.{Function}
use Rattle.pp_prog.specs.declared.id.CheckId.{CheckId}
use Rattle.pp_translation.specs.Defs.{StandsAt, TranslatesDef, TranslatesDefs, TranslatesPost, no_defs, more_defs}
use Rattle.pp_translation.specs.Defs.{none_more, no_post, one_post}
use Rattle.pp_operators.specs.Classes.{is_division}
use Rattle.pp_translation.specs.Numbered.{Translates, TranslateAll, TranslateGuard, TranslateCase, TranslateCases}
use Rattle.pp_translation.specs.Numbered.{after_pre, callee, check_at, descends, has_pre, more_if, of_int, of_bool}
use Rattle.pp_translation.specs.Numbered.{of_local, of_call, of_construct, of_field, of_unary, of_binary, of_if}
use Rattle.pp_translation.specs.Numbered.{of_match, of_val, of_assert, no_exprs, one_more, no_guard, one_guard}
use Rattle.pp_translation.specs.Numbered.{one_case, no_cases, more_cases}
use Rattle.pp_prog.specs.declared.check.CheckKind.TheVariants as check
use Rattle.pp_translation.specs.Setting.{Setting}
use Rattle.pp_translation.specs.declared.frame.CheckAt.{CheckAt}
use Rattle.pp_translation.specs.declared.frame.Frame.{Frame}
use Rattle.pp_typed.specs.Stand.{DefStands, ExprStands, Offset, PostStands, Stands, TypedStands}
use Rattle.pp_typed.specs.Stand.{expr_offsets, offsets}
use Rattle.pp_typed.specs.declared.expr.TypedCase.{TypedCase}
use Rattle.pp_typed.specs.declared.expr.TypedExpr.{TypedExpr}
use Rattle.pp_typed.specs.declared.expr.TypedKind.{TypedKind}
use Rattle.pp_typed.specs.declared.expr.TypedKind.TheFolds.{fold-TypedCase, fold-TypedKind, fold-roll-TypedKind}
use Rattle.pp_typed.specs.declared.expr.TypedKind.TheFolds.{fold_out-TypedCase, fold_out-TypedExpr, map-TypedCase}
use Rattle.pp_typed.specs.declared.expr.TypedKind.TheOpen as layer
use Rattle.pp_typed.specs.declared.expr.TypedKind.TheVariants as kind
use Rattle.pp_typed.specs.declared.expr.TypedKind.TheViews.{out-TypedCase}
use Rattle.pp_typed.specs.declared.pattern.TypedPattern.{TypedPattern}
use Rattle.pp_typed.specs.declared.sort.GenericSort.{GenericSort}
use Rattle.pp_typed.specs.declared.typed.Typed.{Typed}
use Rattle.pp_typed.specs.declared.typed.TypedDef.{TypedDef}
use Rattle.pp_typed.specs.declared.typed.TypedPost.{TypedPost}
use Rattle.pp_list.proofs.Lists.{element}

abbrev Os : Type 0
Os = List Offset

-- the offsets below an expression, and those of a case
abbrev in_kind : TypedKind → Os
in_kind = fold-TypedKind Os Os Os kind_parts case_parts expr_offsets

abbrev in_case : TypedCase → Os
in_case = fold-TypedCase Os Os Os kind_parts case_parts expr_offsets

abbrev guard_offsets : Option TypedExpr → Os
guard_offsets None = []
guard_offsets (Some g) = offsets g

in_parts : (p : TypedPattern) (g : Option TypedExpr) (b : TypedExpr)
    → case_parts (map-TypedCase TypedKind TypedCase TypedExpr Os Os Os in_kind in_case offsets
    (record { pattern = p; guard = g; body = b }))
    ≡ guard_offsets g ++ offsets b
in_parts p None b = refl
in_parts p (Some g) b = refl

module _ (texts : List (List ℕ)) where
  abbrev Stand : Os → Type 0
  Stand os = (o : Offset) → Contains os o → Stands texts o

  abbrev StandAll : List CheckAt → Type 0
  StandAll cs = (c : CheckAt) → Contains cs c → StandsAt texts c

  left : (a b : Os) → Stand (a ++ b) → Stand a
  left a b h o c = h o (Contains-append_left a b o c)

  right : (a b : Os) → Stand (a ++ b) → Stand b
  right a b h o c = h o (Contains-append_right a b o c)

  first : (o : Offset) (os : Os) → Stand (o ∷ os) → Stands texts o
  first o os h = h o (Contains-append_left (o ∷ []) os o (Contains-push [] o))

  rest : (o : Offset) (os : Os) → Stand (o ∷ os) → Stand os
  rest o os h = right (o ∷ []) os h

  opened : (e : TypedExpr) → offsets e ≡ (e.source, e.at) ∷ in_kind e.kind
  opened e = fold_out-TypedExpr Os Os Os kind_parts case_parts expr_offsets e

  own_place : (e : TypedExpr) → Stand (offsets e) → Stands texts (e.source, e.at)
  own_place e h = first (e.source, e.at) (in_kind e.kind) (subst Stand (opened e) h)

  below : (e : TypedExpr) (k : TypedKind) (os : Os) → e.kind ≡ k → in_kind k ≡ os → Stand (offsets e) → Stand os
  below e k os is h st =
      subst Stand (ap in_kind is ∙ h) (rest (e.source, e.at) (in_kind e.kind) (subst Stand (opened e) st))

  of_case : (c : TypedCase) → in_case c ≡ guard_offsets (out-TypedCase c).guard ++ offsets (out-TypedCase c).body
  of_case c =
      fold_out-TypedCase Os Os Os kind_parts case_parts expr_offsets c
      ∙ in_parts (out-TypedCase c).pattern (out-TypedCase c).guard (out-TypedCase c).body

  joined_push : (xss : List Os) (xs : Os) → Stand (joined (xss ++ xs ∷ [])) → Stand (joined xss) × Stand xs
  joined_push [] xs h = (λ o c. absurd (nothing_in o c), left xs [] h)
  joined_push (ys ∷ xss) xs h =
      let more = joined_push xss xs (right ys (joined (xss ++ xs ∷ [])) h) in (
        λ o c. ⊎_elim (λ now. left ys (joined (xss ++ xs ∷ [])) h o now) (λ later. more.0 o later)
            (Contains-append_cases ys (joined xss) o c),
        more.1,
      )

  pushed : {A : Type 0} (f : A → Os) (xs : List A) (x : A) → Stand (joined (map f (xs ++ x ∷ [])))
      → Stand (joined (map f xs)) × Stand (f x)
  pushed f xs x h = joined_push (map f xs) (f x) (subst (λ l. Stand (joined l)) (map_push f xs x) h)
    where
      map_push : {A : Type 0} (f : A → Os) (xs : List A) (x : A) → map f (xs ++ x ∷ []) ≡ map f xs ++ f x ∷ []
      map_push f [] x = refl
      map_push f (y ∷ xs) x = ap (λ l. f y ∷ l) (map_push f xs x)

  added : (cs : List CheckAt) (c : CheckAt) → StandAll cs → StandsAt texts c → StandAll (cs ++ c ∷ [])
  added cs c h is d has =
      ⊎_elim (λ old. h d old) (λ (e : c ≡ d). subst (StandsAt texts) e is) (Contains-push_cases cs c d has)

  if_more : (b : Bool) (c : CheckAt) (cs : List CheckAt) → StandAll cs → StandsAt texts c → StandAll (more_if b c cs)
  if_more true c cs h is = added cs c h is
  if_more false c cs h is = h

  module _ (typed : Typed) (set : Setting) (own : Frame) where
    mutual
      stand_expr : {e : TypedExpr} {x : Expr} {old new : List CheckAt} → Translates typed set own e x old new
          → Stand (offsets e) → StandAll old → StandAll new
      stand_expr (of_int n is) st h = h
      stand_expr (of_bool b is) st h = h
      stand_expr (of_local i is) st h = h
      stand_expr {e} (of_call {es = es} {mid = mid} f sorts is t) st h =
          let parts = below e (kind.Call f sorts es) (joined (map offsets es)) is
          (ap in_kind (sym (kind.rolls-Call f sorts es))
          ∙ fold-roll-TypedKind Os Os Os kind_parts case_parts expr_offsets (layer.Call f sorts es)) st in
          let at : Stands texts (e.source, e.at) = own_place e st in
          if_more (descends typed set own f (callee typed set own f sorts)) (check_at typed set own check.Measure e)
          (after_pre typed set own e f mid)
          (if_more (has_pre (slice_get typed.defs f)) (check_at typed set own check.Precondition e) mid
          (stand_all t parts h) at) at
      stand_expr {e} (of_construct {es = es} c sorts is t) st h =
          stand_all t (below e (kind.Construct c sorts es) (joined (map offsets es)) is
          (ap in_kind (sym (kind.rolls-Construct c sorts es))
          ∙ fold-roll-TypedKind Os Os Os kind_parts case_parts expr_offsets (layer.Construct c sorts es)) st) h
      stand_expr {e} (of_field {base = base} j is t) st h =
          stand_expr t (below e (kind.Field base j) (offsets base) is
          (ap in_kind (sym (kind.rolls-Field base j)) ∙ fold-roll-TypedKind Os Os Os kind_parts case_parts
          expr_offsets (layer.Field base j)) st) h
      stand_expr {e} (of_unary {a = a} op is t) st h =
          stand_expr t (below e (kind.Unary op a) (offsets a) is
          (ap in_kind (sym (kind.rolls-Unary op a)) ∙ fold-roll-TypedKind Os Os Os kind_parts case_parts
          expr_offsets (layer.Unary op a)) st) h
      stand_expr {e} (of_binary {a = a} {b = b} {new = new} op is ta tb) st h =
          let parts = below e (kind.Binary op a b) (offsets a ++ offsets b) is
          (ap in_kind (sym (kind.rolls-Binary op a b))
          ∙ fold-roll-TypedKind Os Os Os kind_parts case_parts expr_offsets (layer.Binary op a b)) st in
          if_more (is_division op) (check_at typed set own check.Division e) new
          (stand_expr tb (right (offsets a) (offsets b) parts) (stand_expr ta (left (offsets a) (offsets b) parts) h))
          (own_place e st)
      stand_expr {e} (of_if {c = c} {a = a} {b = b} is tc ta tb) st h =
          let parts = below e (kind.If c a b) (offsets c ++ offsets a ++ offsets b) is
          (ap in_kind (sym (kind.rolls-If c a b))
          ∙ fold-roll-TypedKind Os Os Os kind_parts case_parts expr_offsets (layer.If c a b)) st in
          let front = left (offsets c ++ offsets a) (offsets b) parts in
          stand_expr tb (right (offsets c ++ offsets a) (offsets b) parts)
          (stand_expr ta (right (offsets c) (offsets a) front) (stand_expr tc (left (offsets c) (offsets a) front) h))
      stand_expr {e} (of_match {m = m} {cs = cs} {mid = mid} covered is tm cov t) st h =
          let parts = below e (kind.Match m cs) (offsets m ++ joined (map in_case cs)) is
          (ap in_kind (sym (kind.rolls-Match m cs))
          ∙ fold-roll-TypedKind Os Os Os kind_parts case_parts expr_offsets (layer.Match m cs)) st in
          stand_cases t (right (offsets m) (joined (map in_case cs)) parts)
          (if_more (not covered) (check_at typed set own check.Match e) mid
          (stand_expr tm (left (offsets m) (joined (map in_case cs)) parts) h) (own_place e st))
      stand_expr {e} (of_val {bound = a} {rest = b} is ta tb) st h =
          let parts = below e (kind.Val a b) (offsets a ++ offsets b) is
          (ap in_kind (sym (kind.rolls-Val a b))
          ∙ fold-roll-TypedKind Os Os Os kind_parts case_parts expr_offsets (layer.Val a b)) st in
          stand_expr tb (right (offsets a) (offsets b) parts) (stand_expr ta (left (offsets a) (offsets b) parts) h)
      stand_expr {e} (of_assert {c = a} {rest = b} {mid = mid} is ta tb) st h =
          let parts = below e (kind.Assert a b) (offsets a ++ offsets b) is
          (ap in_kind (sym (kind.rolls-Assert a b))
          ∙ fold-roll-TypedKind Os Os Os kind_parts case_parts expr_offsets (layer.Assert a b)) st in
          stand_expr tb (right (offsets a) (offsets b) parts)
          (added mid (check_at typed set own check.Assertion e) (stand_expr ta (left (offsets a) (offsets b) parts) h)
          (own_place e st))

      stand_all : {es : List TypedExpr} {xs : List Expr} {old new : List CheckAt}
          → TranslateAll typed set own es xs old new
          → Stand (joined (map offsets es)) → StandAll old → StandAll new
      stand_all no_exprs st h = h
      stand_all (one_more {es = es} {e = e} t one) st h =
          let parts = pushed offsets es e st in stand_expr one parts.1 (stand_all t parts.0 h)

      stand_guard : {g : Option TypedExpr} {x : Option Expr} {old new : List CheckAt}
          → TranslateGuard typed set own g x old new
          → Stand (guard_offsets g) → StandAll old → StandAll new
      stand_guard no_guard st h = h
      stand_guard (one_guard t) st h = stand_expr t st h

      stand_case : {s : GenericSort} {c : TypedCase} {y : Case} {old new : List CheckAt}
          → TranslateCase typed set own s c y old new
          → Stand (in_case c) → StandAll old → StandAll new
      stand_case (one_case c tg tb) st h =
          let parts = subst Stand (of_case c) st in
          let guard = guard_offsets (out-TypedCase c).guard in
          let body = offsets (out-TypedCase c).body in
          stand_expr tb (right guard body parts) (stand_guard tg (left guard body parts) h)

      stand_cases : {s : GenericSort} {cs : List TypedCase} {ys : List Case} {old new : List CheckAt}
          → TranslateCases typed set own s cs ys old new → Stand (joined (map in_case cs)) → StandAll old → StandAll new
      stand_cases no_cases st h = h
      stand_cases (more_cases {cases = cs} {c = c} t one) st h =
          let parts = pushed in_case cs c st in stand_case one parts.1 (stand_cases t parts.0 h)

    of_all : (P : Offset → Type 0) (os : Os) → All P os → (o : Offset) → Contains os o → P o
    of_all P os h o c = All-contains P os o h c

    each_stands : (es : List TypedExpr) → All (ExprStands texts) es → Stand (joined (map offsets es))
    each_stands [] h o c = absurd (nothing_in o c)
    each_stands (e ∷ es) h o c =
        ⊎_elim (λ now. of_all (Stands texts) (offsets e) (h 0 e (omega arith)) o now)
        (λ later. each_stands es (λ k d lt. h (suc k) d (omega arith)) o later)
        (Contains-append_cases (offsets e) (joined (map offsets es)) o c)

    stand_post : (d : TypedDef) {q : Option TypedPost} {p : Option (CheckId × Expr)} {old new : List CheckAt}
        → TranslatesPost typed set own d.source q p old new → PostStands texts d.source q → StandAll old → StandAll new
    stand_post d no_post st h = h
    stand_post d (one_post {post = post} t) st h =
        added _ _ (stand_expr t (of_all (Stands texts) (offsets post.claim) st.1) h) st.0

    stand_def : {i : Instance} {d : TypedDef} {f : Function} {old new : List CheckAt}
        → TranslatesDef typed set own texts i d f old new → DefStands texts d → StandAll old → StandAll new
    stand_def {i} {d} t st h =
        stand_post d t.post st.post (stand_expr t.body (of_all (Stands texts) (offsets d.body) st.body)
        (stand_all t.measure (each_stands d.measure st.measure) (stand_all t.pre.each (each_stands d.pre st.pre) h)))

  module _ (typed : Typed) (set : Setting) (st : TypedStands texts typed) where
    def_stands : (n : ℕ) (d : TypedDef) → slice_get typed.defs n ≡ Some d → DefStands texts d
    def_stands n d at = All-contains (DefStands texts) typed.defs d st (element typed.defs n d at)

    -- the checks of all functions stand where those before do
    pub checks_stand : {is : List Instance} {fs : List Function} {old new : List CheckAt}
        → TranslatesDefs typed set texts is fs old new → StandAll old → StandAll new
    checks_stand no_defs h = h
    checks_stand (more_defs {i = i} own d number args measured at earlier t) h =
        stand_def typed set own t (def_stands i.number d at) (checks_stand earlier h)
    checks_stand (none_more i missing earlier) h = checks_stand earlier h
