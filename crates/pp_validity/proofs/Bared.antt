-- A translated expression, without the numbers of its checks, is the expression that the typed one is.
use Rattle.std.proofs.Common.{◌≡◌, ℕ, ℤ, Bool, List, [], ◌∷◌, ◌++◌, map, refl, sym, ap, ◌∙◌}
use Rattle.std.proofs.lemmas.List.{map_push}
use Rattle.std.specs.Prelude.{Option, Some, None}
use Rattle.std.specs.Option.{option_map}
use Rattle.pp_tree.specs.declared.operator.BinaryOp.{BinaryOp}
use Rattle.pp_prog.specs.declared.expr.Case.{Case}
use Rattle.pp_prog.specs.declared.expr.Expr.{Expr}
use Rattle.pp_prog.specs.declared.expr.Expr.TheFolds.{fold-roll-Expr, fold-roll-Case}
use Rattle.pp_prog.specs.declared.expr.Expr.TheOpen as layer
use Rattle.pp_prog.specs.declared.expr.Expr.TheVariants as prog
use Rattle.pp_prog.specs.declared.expr.Pattern.{Pattern}
use Rattle.pp_tree.specs.declared.operator.UnaryOp.{UnaryOp}
use Rattle.pp_prog.specs.declared.id.CheckId.{CheckId}
use Rattle.pp_prog.specs.declared.id.CtorId.{CtorId}
use Rattle.pp_prog.specs.declared.id.FunctionId.{FunctionId}
use Rattle.pp_translation.specs.Bare.{bare, bare_case, bare_of_case, bare_step}
use Rattle.pp_translation.specs.Exprs.{CaseAt, Translated, case_for, case_step, expr_at, expr_of, expr_step, kind_step}
use Rattle.pp_translation.specs.Exprs.{translated, unnumbered}
use Rattle.pp_translation.specs.Numbered.{Translates, TranslateAll, TranslateGuard, TranslateCase, TranslateCases}
use Rattle.pp_translation.specs.Numbered.{of_int, of_bool, of_local, of_call, of_construct, of_field, of_unary}
use Rattle.pp_translation.specs.Numbered.{of_binary, of_if, of_match, of_val, of_assert, no_exprs, one_more, no_guard}
use Rattle.pp_translation.specs.Numbered.{one_guard, one_case, no_cases, more_cases}
use Rattle.pp_translation.specs.Numbers.{ctor_number, function_number}
use Rattle.pp_translation.specs.Patterns.{pattern_at}
use Rattle.pp_translation.specs.Setting.{Setting}
use Rattle.pp_translation.specs.declared.frame.CheckAt.{CheckAt}
use Rattle.pp_translation.specs.declared.frame.Frame.{Frame}
use Rattle.pp_typed.specs.Put.{put}
use Rattle.pp_typed.specs.declared.expr.TypedCase.{TypedCase}
use Rattle.pp_typed.specs.declared.expr.TypedExpr.{TypedExpr}
use Rattle.pp_typed.specs.declared.expr.TypedKind.{TypedKind}
use Rattle.pp_typed.specs.declared.expr.TypedKind.TheFolds.{fold-TypedKind, fold-TypedCase, fold-roll-TypedKind}
use Rattle.pp_typed.specs.declared.expr.TypedKind.TheFolds.{fold_out-TypedExpr, fold_out-TypedCase, map-TypedCase}
use Rattle.pp_typed.specs.declared.expr.TypedKind.TheOpen as kind_layer
use Rattle.pp_typed.specs.declared.expr.TypedKind.TheVariants as kind
use Rattle.pp_typed.specs.declared.expr.TypedKind.TheViews.{out-TypedCase}
use Rattle.pp_typed.specs.declared.pattern.TypedPattern.{TypedPattern}
use Rattle.pp_typed.specs.declared.sort.GenericSort.{GenericSort}
use Rattle.pp_typed.specs.declared.typed.Typed.{Typed}

pub bare_binary : (op : BinaryOp) (a b : Expr) (n : Option CheckId)
    → bare (prog.Binary op a b n) ≡ prog.Binary op (bare a) (bare b) None
bare_binary op a b n = ap bare (sym (prog.rolls-Binary op a b n))
    ∙ fold-roll-Expr Expr Case bare_step bare_case (layer.Binary op a b n)

bare_unary : (op : UnaryOp) (a : Expr) → bare (prog.Unary op a) ≡ prog.Unary op (bare a)
bare_unary op a = ap bare (sym (prog.rolls-Unary op a))
    ∙ fold-roll-Expr Expr Case bare_step bare_case (layer.Unary op a)

bare_int : (n : ℤ) → bare (prog.Int n) ≡ prog.Int n
bare_int n = ap bare (sym (prog.rolls-Int n)) ∙ fold-roll-Expr Expr Case bare_step bare_case (layer.Int n)

bare_bool : (b : Bool) → bare (prog.Bool b) ≡ prog.Bool b
bare_bool b = ap bare (sym (prog.rolls-Bool b)) ∙ fold-roll-Expr Expr Case bare_step bare_case (layer.Bool b)

bare_var : (i : ℕ) → bare (prog.Var i) ≡ prog.Var i
bare_var i = ap bare (sym (prog.rolls-Var i)) ∙ fold-roll-Expr Expr Case bare_step bare_case (layer.Var i)

bare_construct : (c : CtorId) (xs : List Expr) → bare (prog.Construct c xs) ≡ prog.Construct c (map bare xs)
bare_construct c xs = ap bare (sym (prog.rolls-Construct c xs))
    ∙ fold-roll-Expr Expr Case bare_step bare_case (layer.Construct c xs)

bare_call : (g : FunctionId) (xs : List Expr) (n m : Option CheckId)
    → bare (prog.Call g xs n m) ≡ prog.Call g (map bare xs) None None
bare_call g xs n m = ap bare (sym (prog.rolls-Call g xs n m))
    ∙ fold-roll-Expr Expr Case bare_step bare_case (layer.Call g xs n m)

bare_field : (a : Expr) (k : ℕ) → bare (prog.Field a k) ≡ prog.Field (bare a) k
bare_field a k = ap bare (sym (prog.rolls-Field a k)) ∙ fold-roll-Expr Expr Case bare_step bare_case (layer.Field a k)

bare_if : (c a b : Expr) → bare (prog.If c a b) ≡ prog.If (bare c) (bare a) (bare b)
bare_if c a b = ap bare (sym (prog.rolls-If c a b)) ∙ fold-roll-Expr Expr Case bare_step bare_case (layer.If c a b)

bare_match : (a : Expr) (ys : List Case) (n : Option CheckId)
    → bare (prog.Match a ys n) ≡ prog.Match (bare a) (map bare_of_case ys) None
bare_match a ys n = ap bare (sym (prog.rolls-Match a ys n))
    ∙ fold-roll-Expr Expr Case bare_step bare_case (layer.Match a ys n)

bare_val : (a b : Expr) → bare (prog.Val a b) ≡ prog.Val (bare a) (bare b)
bare_val a b = ap bare (sym (prog.rolls-Val a b)) ∙ fold-roll-Expr Expr Case bare_step bare_case (layer.Val a b)

bare_assert : (n : CheckId) (a b : Expr) → bare (prog.Assert n a b) ≡ prog.Assert unnumbered (bare a) (bare b)
bare_assert n a b = ap bare (sym (prog.rolls-Assert n a b))
    ∙ fold-roll-Expr Expr Case bare_step bare_case (layer.Assert n a b)

bare_in_case : (p : Pattern) (g : Option Expr) (b : Expr)
    → bare_of_case (record { pattern = p; guard = g; body = b }) ≡ record
    { pattern = p; guard = option_map bare g; body = bare b }
bare_in_case p None b = fold-roll-Case Expr Case bare_step bare_case (record { pattern = p; guard = None; body = b })
bare_in_case p (Some g) b = fold-roll-Case Expr Case bare_step bare_case
    (record { pattern = p; guard = Some g; body = b })

module _ (typed : Typed) (set : Setting) (own : Frame) where
  abbrev At : TypedExpr → Expr
  At = expr_at typed set.roots set.functions own.args

  abbrev in_kind : TypedKind → Expr
  in_kind = fold-TypedKind Expr CaseAt Translated (kind_step typed set.roots set.functions own.args)
      (case_step typed set.roots set.functions own.args) (expr_step typed set.roots set.functions own.args)

  abbrev in_case : TypedCase → CaseAt
  in_case = fold-TypedCase Expr CaseAt Translated (kind_step typed set.roots set.functions own.args)
      (case_step typed set.roots set.functions own.args) (expr_step typed set.roots set.functions own.args)

  opened : (e : TypedExpr) → translated typed set.roots set.functions own.args e ≡ (put own.args e.of, in_kind e.kind)
  opened e = fold_out-TypedExpr Expr CaseAt Translated (kind_step typed set.roots set.functions own.args)
      (case_step typed set.roots set.functions own.args) (expr_step typed set.roots set.functions own.args) e

  by_kind : (e : TypedExpr) (k : TypedKind) (x : Expr) → e.kind ≡ k → in_kind k ≡ x → At e ≡ x
  by_kind e k x is h = ap (λ (t : Translated). t.1) (opened e) ∙ ap in_kind is ∙ h

  at_int : (n : ℤ) → in_kind (kind.Int n) ≡ prog.Int n
  at_int n = ap in_kind (sym (kind.rolls-Int n)) ∙ fold-roll-TypedKind Expr CaseAt Translated
      (kind_step typed set.roots set.functions own.args) (case_step typed set.roots set.functions own.args)
      (expr_step typed set.roots set.functions own.args) (kind_layer.Int n)

  at_bool : (b : Bool) → in_kind (kind.Bool b) ≡ prog.Bool b
  at_bool b = ap in_kind (sym (kind.rolls-Bool b)) ∙ fold-roll-TypedKind Expr CaseAt Translated
      (kind_step typed set.roots set.functions own.args) (case_step typed set.roots set.functions own.args)
      (expr_step typed set.roots set.functions own.args) (kind_layer.Bool b)

  at_local : (i : ℕ) → in_kind (kind.Local i) ≡ prog.Var i
  at_local i = ap in_kind (sym (kind.rolls-Local i)) ∙ fold-roll-TypedKind Expr CaseAt Translated
      (kind_step typed set.roots set.functions own.args) (case_step typed set.roots set.functions own.args)
      (expr_step typed set.roots set.functions own.args) (kind_layer.Local i)

  each_at : (es : List TypedExpr) → map expr_of (map (translated typed set.roots set.functions own.args) es) ≡ map At es
  each_at [] = refl
  each_at (e ∷ es) = ap (λ l. At e ∷ l) (each_at es)

  at_call : (f : ℕ) (sorts : List GenericSort) (es : List TypedExpr)
      → in_kind (kind.Call f sorts es) ≡ prog.Call (function_number set.functions f (map (put own.args) sorts))
      (map At es) None None
  at_call f sorts es = ap in_kind (sym (kind.rolls-Call f sorts es))
      ∙ fold-roll-TypedKind Expr CaseAt Translated (kind_step typed set.roots set.functions own.args)
      (case_step typed set.roots set.functions own.args) (expr_step typed set.roots set.functions own.args)
      (kind_layer.Call f sorts es)
      ∙ ap (λ l. prog.Call (function_number set.functions f (map (put own.args) sorts)) l None None) (each_at es)

  at_construct : (c : ℕ) (sorts : List GenericSort) (es : List TypedExpr)
      → in_kind (kind.Construct c sorts es) ≡ prog.Construct
      (ctor_number typed.ctors set.roots c (map (put own.args) sorts)) (map At es)
  at_construct c sorts es = ap in_kind (sym (kind.rolls-Construct c sorts es))
      ∙ fold-roll-TypedKind Expr CaseAt Translated (kind_step typed set.roots set.functions own.args)
      (case_step typed set.roots set.functions own.args) (expr_step typed set.roots set.functions own.args)
      (kind_layer.Construct c sorts es)
      ∙ ap (prog.Construct (ctor_number typed.ctors set.roots c (map (put own.args) sorts))) (each_at es)

  at_field : (e : TypedExpr) (j : ℕ) → in_kind (kind.Field e j) ≡ prog.Field (At e) j
  at_field e j = ap in_kind (sym (kind.rolls-Field e j))
      ∙ fold-roll-TypedKind Expr CaseAt Translated (kind_step typed set.roots set.functions own.args)
      (case_step typed set.roots set.functions own.args) (expr_step typed set.roots set.functions own.args)
      (kind_layer.Field e j)

  at_unary : (op : UnaryOp) (a : TypedExpr) → in_kind (kind.Unary op a) ≡ prog.Unary op (At a)
  at_unary op a = ap in_kind (sym (kind.rolls-Unary op a))
      ∙ fold-roll-TypedKind Expr CaseAt Translated (kind_step typed set.roots set.functions own.args)
      (case_step typed set.roots set.functions own.args) (expr_step typed set.roots set.functions own.args)
      (kind_layer.Unary op a)

  at_binary : (op : BinaryOp) (a : TypedExpr) (b : TypedExpr)
      → in_kind (kind.Binary op a b) ≡ prog.Binary op (At a) (At b) None
  at_binary op a b = ap in_kind (sym (kind.rolls-Binary op a b))
      ∙ fold-roll-TypedKind Expr CaseAt Translated (kind_step typed set.roots set.functions own.args)
      (case_step typed set.roots set.functions own.args) (expr_step typed set.roots set.functions own.args)
      (kind_layer.Binary op a b)

  at_if : (c : TypedExpr) (a : TypedExpr) (b : TypedExpr) → in_kind (kind.If c a b) ≡ prog.If (At c) (At a) (At b)
  at_if c a b = ap in_kind (sym (kind.rolls-If c a b)) ∙ fold-roll-TypedKind Expr CaseAt Translated
      (kind_step typed set.roots set.functions own.args) (case_step typed set.roots set.functions own.args)
      (expr_step typed set.roots set.functions own.args) (kind_layer.If c a b)

  at_match : (m : TypedExpr) (cs : List TypedCase) → in_kind (kind.Match m cs) ≡ prog.Match (At m)
      (map (case_for (translated typed set.roots set.functions own.args m).0) (map in_case cs)) None
  at_match m cs = ap in_kind (sym (kind.rolls-Match m cs))
      ∙ fold-roll-TypedKind Expr CaseAt Translated (kind_step typed set.roots set.functions own.args)
      (case_step typed set.roots set.functions own.args) (expr_step typed set.roots set.functions own.args)
      (kind_layer.Match m cs)

  at_val : (a : TypedExpr) (b : TypedExpr) → in_kind (kind.Val a b) ≡ prog.Val (At a) (At b)
  at_val a b = ap in_kind (sym (kind.rolls-Val a b)) ∙ fold-roll-TypedKind Expr CaseAt Translated
      (kind_step typed set.roots set.functions own.args) (case_step typed set.roots set.functions own.args)
      (expr_step typed set.roots set.functions own.args) (kind_layer.Val a b)

  at_assert : (a : TypedExpr) (b : TypedExpr) → in_kind (kind.Assert a b) ≡ prog.Assert unnumbered (At a) (At b)
  at_assert a b = ap in_kind (sym (kind.rolls-Assert a b))
      ∙ fold-roll-TypedKind Expr CaseAt Translated (kind_step typed set.roots set.functions own.args)
      (case_step typed set.roots set.functions own.args) (expr_step typed set.roots set.functions own.args)
      (kind_layer.Assert a b)

  in_layer : (p : TypedPattern) (g : Option TypedExpr) (b : TypedExpr) (s : GenericSort)
      → case_step typed set.roots set.functions own.args
      (map-TypedCase TypedKind TypedCase TypedExpr Expr CaseAt Translated in_kind in_case
      (translated typed set.roots set.functions own.args) (record { pattern = p; guard = g; body = b })) s
      ≡ record { pattern = pattern_at typed set.roots p s; guard = option_map At g; body = At b }
  in_layer p None b s = refl
  in_layer p (Some g) b s = refl

  at_case : (c : TypedCase) (s : GenericSort) → in_case c s ≡ record {
    pattern = pattern_at typed set.roots (out-TypedCase c).pattern s;
    guard = option_map At (out-TypedCase c).guard;
    body = At (out-TypedCase c).body;
  }
  at_case c s =
      ap (λ (f : CaseAt). f s) (fold_out-TypedCase Expr CaseAt Translated
      (kind_step typed set.roots set.functions own.args) (case_step typed set.roots set.functions own.args)
      (expr_step typed set.roots set.functions own.args) c)
      ∙ in_layer (out-TypedCase c).pattern (out-TypedCase c).guard (out-TypedCase c).body s

  abbrev made : GenericSort → TypedCase → Option Expr → Expr → Case
  made s c guard body = record {
    pattern = pattern_at typed set.roots (out-TypedCase c).pattern s;
    guard = guard;
    body =
        body;
  }

  mutual
    -- the expression of the program, without numbers
    pub bare_expr : {e : TypedExpr} {x : Expr} {old new : List CheckAt} → Translates typed set own e x old new
        → bare x ≡ At e
    bare_expr {e} (of_int n is) = bare_int n ∙ sym (by_kind e (kind.Int n) _ is (at_int n))
    bare_expr {e} (of_bool b is) = bare_bool b ∙ sym (by_kind e (kind.Bool b) _ is (at_bool b))
    bare_expr {e} (of_local i is) = bare_var i ∙ sym (by_kind e (kind.Local i) _ is (at_local i))
    bare_expr {e} (of_call {es = es} {xs = xs} f sorts is all) =
        bare_call _ xs _ _ ∙ ap (λ l. prog.Call (function_number set.functions f (map (put own.args) sorts)) l None
        None) (bare_all all)
        ∙ sym (by_kind e (kind.Call f sorts es) _ is (at_call f sorts es))
    bare_expr {e} (of_construct {es = es} {xs = xs} c sorts is all) =
        bare_construct _ xs ∙ ap (prog.Construct (ctor_number typed.ctors set.roots c (map (put own.args) sorts)))
        (bare_all all)
        ∙ sym (by_kind e (kind.Construct c sorts es) _ is (at_construct c sorts es))
    bare_expr {e} (of_field {base = base} {x = x} j is t) =
        bare_field x j ∙ ap (λ z. prog.Field z j) (bare_expr t)
        ∙ sym (by_kind e (kind.Field base j) _ is (at_field base j))
    bare_expr {e} (of_unary {a = a} {x = x} op is t) =
        bare_unary op x ∙ ap (prog.Unary op) (bare_expr t)
        ∙ sym (by_kind e (kind.Unary op a) _ is (at_unary op a))
    bare_expr {e} (of_binary {a = a} {b = b} {x = x} {y = y} op is ta tb) =
        bare_binary op x y _ ∙ ap (λ z. prog.Binary op z (bare y) None) (bare_expr ta)
        ∙ ap (λ z. prog.Binary op (At a) z None) (bare_expr tb)
        ∙ sym (by_kind e (kind.Binary op a b) _ is (at_binary op a b))
    bare_expr {e} (of_if {c = c} {a = a} {b = b} {x = x} {y = y} {z = z} is tc ta tb) =
        bare_if x y z ∙ ap (λ i. prog.If i (bare y) (bare z)) (bare_expr tc)
        ∙ ap (λ i. prog.If (At c) i (bare z)) (bare_expr ta)
        ∙ ap (λ i. prog.If (At c) (At a) i) (bare_expr tb) ∙ sym (by_kind e (kind.If c a b) _ is (at_if c a b))
    bare_expr {e} (of_match {m = m} {cs = cs} {x = x} {ys = ys} covered is tm exact tc) =
        bare_match x ys _ ∙ ap (λ z. prog.Match z (map bare_of_case ys) None) (bare_expr tm)
        ∙ ap (λ l. prog.Match (At m) l None) (bare_cases tc (ap (λ (t : Translated). t.0) (sym (opened m))))
        ∙ sym (by_kind e (kind.Match m cs) _ is (at_match m cs))
    bare_expr {e} (of_val {bound = a} {rest = b} {x = x} {y = y} is ta tb) =
        bare_val x y ∙ ap (λ z. prog.Val z (bare y)) (bare_expr ta) ∙ ap (prog.Val (At a)) (bare_expr tb)
        ∙ sym (by_kind e (kind.Val a b) _ is (at_val a b))
    bare_expr {e} (of_assert {c = a} {rest = b} {x = x} {y = y} is ta tb) =
        bare_assert _ x y ∙ ap (λ z. prog.Assert unnumbered z (bare y)) (bare_expr ta)
        ∙ ap (prog.Assert unnumbered (At a)) (bare_expr tb)
        ∙ sym (by_kind e (kind.Assert a b) _ is (at_assert a b))

    pub bare_all : {es : List TypedExpr} {xs : List Expr} {old new : List CheckAt}
        → TranslateAll typed set own es xs old new → map bare xs ≡ map At es
    bare_all no_exprs = refl
    bare_all (one_more {es = es} {e = e} {xs = xs} {x = x} before t) =
        map_push bare xs x ∙ ap (λ l. l ++ bare x ∷ []) (bare_all before) ∙ ap (λ z. map At es ++ z ∷ []) (bare_expr t)
        ∙ sym (map_push At es e)

    bare_guard : {g : Option TypedExpr} {x : Option Expr} {old new : List CheckAt}
        → TranslateGuard typed set own g x old new → option_map bare x ≡ option_map At g
    bare_guard no_guard = refl
    bare_guard (one_guard t) = ap Some (bare_expr t)

    bare_one : {s : GenericSort} {c : TypedCase} {y : Case} {old new : List CheckAt}
        → TranslateCase typed set own s c y old new → bare_of_case y ≡ in_case c s
    bare_one {s} (one_case c {guard = guard} {body = body} tg tb) =
        bare_in_case (pattern_at typed set.roots (out-TypedCase c).pattern s) guard body
        ∙ ap (λ (g : Option Expr). made s c g (bare body)) (bare_guard tg)
        ∙ ap (λ (b : Expr). made s c (option_map At (out-TypedCase c).guard) b) (bare_expr tb)
        ∙ sym (at_case c s)

    bare_cases : {s t : GenericSort} {cs : List TypedCase} {ys : List Case} {old new : List CheckAt}
        → TranslateCases typed set own s cs ys old new → s ≡ t
        → map bare_of_case ys ≡ map (case_for t) (map in_case cs)
    bare_cases no_cases is = refl
    bare_cases {s} {t} (more_cases {cases = cs} {c = c} {ys = ys} {y = y} before one) is =
        map_push bare_of_case ys y ∙ ap (λ l. l ++ bare_of_case y ∷ []) (bare_cases before is)
        ∙ ap (λ z. map (case_for t) (map in_case cs) ++ z ∷ []) (bare_one one ∙ ap (in_case c) is)
        ∙ sym (map_push (case_for t) (map in_case cs) (in_case c)) ∙ ap (map (case_for t)) (sym (map_push in_case cs c))
