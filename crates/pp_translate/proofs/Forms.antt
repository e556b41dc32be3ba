-- Each form of an expression is the one that it stands for.
use Rattle.std.proofs.Common.{◌≡◌, ℕ, Bool, not, List, [], ◌∷◌, ◌++◌, Option, Some, None, map, take, length, get_or}
use Rattle.std.proofs.Common.{refl, sym, ap, ◌∙◌, subst, ◌<◌, ◌+◌}
use Rattle.std.specs.Prelude.{◌↔◌, IsTrue}
use Rattle.std.proofs.lemmas.List.{take_more}
use Rattle.pp_prog.specs.Valid.{Covers}
use Rattle.pp_prog.specs.declared.check.CheckKind.TheVariants as check
use Rattle.pp_tree.specs.declared.operator.BinaryOp.{BinaryOp}
use Rattle.pp_prog.specs.declared.expr.Case.{Case}
use Rattle.pp_prog.specs.declared.expr.Expr.{Expr}
use Rattle.pp_prog.specs.declared.expr.Expr.TheVariants as prog
use Rattle.pp_prog.specs.declared.expr.Pattern.{Pattern}
use Rattle.pp_tree.specs.declared.operator.UnaryOp.{UnaryOp}
use Rattle.pp_prog.specs.declared.id.CheckId.{CheckId}
use Rattle.pp_prog.specs.declared.id.CtorId.{CtorId}
use Rattle.pp_translation.specs.Numbered.{Translates, TranslateAll, TranslateGuard, TranslateCase, TranslateCases}
use Rattle.pp_translation.specs.Numbered.{after_call, call, callee, check_at, more_if, number_if, unguarded_at, of_call}
use Rattle.pp_translation.specs.Numbered.{of_construct, of_field, of_unary, of_binary, of_if, of_match, of_val}
use Rattle.pp_translation.specs.Numbered.{of_assert, no_guard, one_guard, one_case, one_more, more_cases}
use Rattle.pp_operators.specs.Classes.{is_division}
use Rattle.pp_translation.specs.Numbers.{ctor_number, sort_at}
use Rattle.pp_translation.specs.Patterns.{pattern_at}
use Rattle.pp_translation.specs.Setting.{Setting}
use Rattle.pp_translation.specs.declared.frame.CheckAt.{CheckAt}
use Rattle.pp_translation.specs.declared.frame.Frame.{Frame}
use Rattle.pp_typed.specs.Put.{put}
use Rattle.pp_typed.specs.declared.expr.TypedCase.{TypedCase}
use Rattle.pp_typed.specs.declared.expr.TypedExpr.{TypedExpr}
use Rattle.pp_typed.specs.declared.expr.TypedKind.TheVariants as kind
use Rattle.pp_typed.specs.declared.expr.TypedKind.TheViews.{out-TypedCase}
use Rattle.pp_typed.specs.declared.sort.GenericSort.{GenericSort}
use Rattle.pp_typed.specs.declared.typed.Typed.{Typed}

module _ (typed : Typed) (set : Setting) (own : Frame) where
  abbrev Tr : TypedExpr → Expr → List CheckAt → List CheckAt → Type 0
  Tr = Translates typed set own

  pub moved : (e : TypedExpr) (x y : Expr) (old new end : List CheckAt) → y ≡ x → end ≡ new → Tr e x old new
      → Tr e y old end
  moved e x y old new end p q t = subst (λ z. Tr e z old end) (sym p) (subst (λ l. Tr e x old l) (sym q) t)

  pub of_part : (a b : TypedExpr) (x : Expr) (old new : List CheckAt) → b ≡ a → Tr b x old new → Tr a x old new
  of_part a b x old new p t = subst (λ z. Tr z x old new) p t

  pub is_call : (e : TypedExpr) (es es2 : List TypedExpr) (xs : List Expr) (x : Expr) (old mid new : List CheckAt)
      (f : ℕ) (sorts sorts2 : List GenericSort)
      → e.kind ≡ kind.Call f sorts es → es2 ≡ es → TranslateAll typed set own es2 xs old mid → sorts2 ≡ sorts
      → x ≡ call typed set own e f (callee typed set own f sorts2) xs mid
      → new ≡ after_call typed set own e f (callee typed set own f sorts2) mid
      → Tr e x old new
  is_call e es es2 xs x old mid new f sorts sorts2 k p t q made listed =
      let all = subst (λ l. TranslateAll typed set own l xs old mid) p t in
      moved e (call typed set own e f (callee typed set own f sorts) xs mid) x old
      (after_call typed set own e f (callee typed set own f sorts) mid) new
      (made ∙ ap (λ l. call typed set own e f (callee typed set own f l) xs mid) q)
      (listed ∙ ap (λ l. after_call typed set own e f (callee typed set own f l) mid) q) (of_call f sorts k all)

  pub is_construct : (e : TypedExpr) (es es2 : List TypedExpr) (xs : List Expr) (old new : List CheckAt) (c : ℕ)
      (d : CtorId) (sorts sorts2 : List GenericSort)
      → e.kind ≡ kind.Construct c sorts es → es2 ≡ es → TranslateAll typed set own es2 xs old new → sorts2 ≡ sorts
      → d ≡ ctor_number typed.ctors set.roots c (map (put own.args) sorts2) → Tr e (prog.Construct d xs) old new
  is_construct e es es2 xs old new c d sorts sorts2 k p t q made =
      let all = subst (λ l. TranslateAll typed set own l xs old new) p t in
      moved e (prog.Construct (ctor_number typed.ctors set.roots c (map (put own.args) sorts)) xs) (prog.Construct d xs)
      old new new
      (ap (λ i. prog.Construct i xs) (made ∙ ap (λ l. ctor_number typed.ctors set.roots c (map (put own.args) l)) q))
      refl (of_construct c sorts k all)

  pub is_field : (e base b2 : TypedExpr) (x y : Expr) (old new : List CheckAt) (j : ℕ) → e.kind ≡ kind.Field base j
      → b2 ≡ base
      → Tr b2 x old new → y ≡ x → Tr e (prog.Field y j) old new
  is_field e base b2 x y old new j k p t q =
      moved e (prog.Field x j) (prog.Field y j) old new new (ap (λ z. prog.Field z j) q) refl
      (of_field j k (of_part base b2 x old new p t))

  pub is_unary : (e a a2 : TypedExpr) (x y : Expr) (old new : List CheckAt) (op : UnaryOp)
      → e.kind ≡ kind.Unary op a → a2 ≡ a
      → Tr a2 x old new → y ≡ x → Tr e (prog.Unary op y) old new
  is_unary e a a2 x y old new op k p t q =
      moved e (prog.Unary op x) (prog.Unary op y) old new new (ap (λ z. prog.Unary op z) q) refl
      (of_unary op k (of_part a a2 x old new p t))

  pub is_binary : (e a b a2 b2 : TypedExpr) (x y x2 y2 : Expr) (old mid last new : List CheckAt) (op : BinaryOp)
      (d : Bool) (n : Option CheckId)
      → e.kind ≡ kind.Binary op a b → a2 ≡ a → b2 ≡ b → Tr a2 x old mid → Tr b2 y mid last → d ≡ is_division op
      → n ≡ number_if d last
      → new ≡ more_if d (check_at typed set own check.Division e) last → x2 ≡ x → y2 ≡ y
      → Tr e (prog.Binary op x2 y2 n) old new
  is_binary e a b a2 b2 x y x2 y2 old mid last new op d n k p q ta tb dv num more u v =
      let c = check_at typed set own check.Division e in
      moved e (prog.Binary op x y (number_if (is_division op) last)) (prog.Binary op x2 y2 n) old
      (more_if (is_division op) c last) new
      (ap (λ z. prog.Binary op z y2 n) u ∙ ap (λ z. prog.Binary op x z n) v
      ∙ ap (λ z. prog.Binary op x y z) (num ∙ ap (λ z. number_if z last) dv))
      (more ∙ ap (λ z. more_if z c last) dv)
      (of_binary op k (of_part a a2 x old mid p ta) (of_part b b2 y mid last q tb))

  pub is_if : (e c a b c2 a2 b2 : TypedExpr) (x y z x2 y2 z2 : Expr) (old mid last new : List CheckAt)
      → e.kind ≡ kind.If c a b → c2 ≡ c → a2 ≡ a → b2 ≡ b
      → Tr c2 x old mid → Tr a2 y mid last → Tr b2 z last new → x2 ≡ x → y2 ≡ y → z2 ≡ z
      → Tr e (prog.If x2 y2 z2) old new
  is_if e c a b c2 a2 b2 x y z x2 y2 z2 old mid last new k p q r tc ta tb u v w =
      moved e (prog.If x y z) (prog.If x2 y2 z2) old new new
      (ap (λ i. prog.If i y2 z2) u ∙ ap (λ i. prog.If x i z2) v ∙ ap (λ i. prog.If x y i) w) refl
      (of_if k (of_part c c2 x old mid p tc) (of_part a a2 y mid last q ta) (of_part b b2 z last new r tb))

  pub is_val : (e a b a2 b2 : TypedExpr) (x y x2 y2 : Expr) (old mid new : List CheckAt) → e.kind ≡ kind.Val a b
      → a2 ≡ a → b2 ≡ b
      → Tr a2 x old mid → Tr b2 y mid new → x2 ≡ x → y2 ≡ y → Tr e (prog.Val x2 y2) old new
  is_val e a b a2 b2 x y x2 y2 old mid new k p q ta tb u v =
      moved e (prog.Val x y) (prog.Val x2 y2) old new new (ap (λ z. prog.Val z y2) u ∙ ap (λ z. prog.Val x z) v) refl
      (of_val k (of_part a a2 x old mid p ta) (of_part b b2 y mid new q tb))

  pub is_assert : (e a b a2 b2 : TypedExpr) (x y x2 y2 : Expr) (old mid last new : List CheckAt) (n : CheckId)
      → e.kind ≡ kind.Assert a b → a2 ≡ a → b2 ≡ b
      → Tr a2 x old mid → n.0 ≡ length mid → last ≡ mid ++ check_at typed set own check.Assertion e ∷ []
      → Tr b2 y last new → x2 ≡ x → y2 ≡ y
      → Tr e (prog.Assert n x2 y2) old new
  is_assert e a b a2 b2 x y x2 y2 old mid last new n k p q ta num more tb u v =
      let numbered : ℕ → CheckId = λ i. record { 0 = i } in
      moved e (prog.Assert (record { 0 = length mid }) x y) (prog.Assert n x2 y2) old new new
      (ap (λ z. prog.Assert (numbered z) x2 y2) num ∙ ap (λ z. prog.Assert (record { 0 = length mid }) z y2) u
      ∙ ap (λ z. prog.Assert (record { 0 = length mid }) x z) v) refl
      (of_assert k (of_part a a2 x old mid p ta)
      (of_part b b2 y (mid ++ check_at typed set own check.Assertion e ∷ []) new q
      (subst (λ l. Tr b2 y l new) more tb)))

  pub is_match : (e m m2 mb mc : TypedExpr) (cases cb cd : List TypedCase) (x x2 : Expr) (ys : List Case)
      (old mid last new : List CheckAt) (covered : Bool) (n : Option CheckId)
      (s : GenericSort) (args : List GenericSort)
      → e.kind ≡ kind.Match m cases → m2 ≡ m → mb ≡ m → mc ≡ m → cb ≡ cases → cd ≡ cases → args ≡ own.args
      → Tr m2 x old mid
      → IsTrue covered ↔ Covers set.types.ctors (sort_at set.roots own.args mb.of)
      (unguarded_at typed set.roots (put own.args mb.of) cb)
      → n ≡ number_if (not covered) mid → last ≡ more_if (not covered) (check_at typed set own check.Match e) mid
      → s ≡ put args mc.of
      → TranslateCases typed set own s cd ys last new → x2 ≡ x → Tr e (prog.Match x2 ys n) old new
  is_match e m m2 mb mc cases cb cd x x2 ys old mid last new covered n s args k p pb pc q r a tm exact num more sort tc
      u =
      let c = check_at typed set own check.Match e in
      let exact_m = subst (λ (z : TypedExpr). IsTrue covered ↔ Covers set.types.ctors (sort_at set.roots own.args z.of)
      (unguarded_at typed set.roots (put own.args z.of) cb)) pb exact in
      let exact_all = subst (λ (l : List TypedCase). IsTrue covered ↔ Covers set.types.ctors
      (sort_at set.roots own.args m.of) (unguarded_at typed set.roots (put own.args m.of) l)) q exact_m in
      let sorted : s ≡ put own.args m.of =
      sort ∙ ap (λ (z : TypedExpr). put args z.of) pc ∙ ap (λ (l : List GenericSort). put l m.of) a in
      let cases_s = subst (λ (z : GenericSort). TranslateCases typed set own z cd ys last new) sorted tc in
      let cases_l = subst (λ (l : List TypedCase). TranslateCases typed set own (put own.args m.of) l ys last new) r
      cases_s in
      let cases_n = subst (λ (l : List CheckAt). TranslateCases typed set own (put own.args m.of) cases ys l new) more
      cases_l in
      moved e (prog.Match x ys (number_if (not covered) mid)) (prog.Match x2 ys n) old new new
      (ap (λ z. prog.Match z ys n) u ∙ ap (λ z. prog.Match x ys z) num) refl
      (of_match covered k (of_part m m2 x old mid p tm) exact_all cases_n)

  pub exprs_turn : (es : List TypedExpr) (i : ℕ) (e : TypedExpr) (xs more : List Expr) (x : Expr)
      (old mid new : List CheckAt) → i < length es → e ≡ get_or es i e
      → TranslateAll typed set own (take i es) xs old mid → Tr e x mid new → more ≡ xs ++ x ∷ []
      → TranslateAll typed set own (take (i + 1) es) more old new
  exprs_turn es i e xs more x old mid new lt is before t push =
      let taken : take (i + 1) es ≡ take i es ++ e ∷ [] =
      take_more es i e lt ∙ ap (λ z. take i es ++ z ∷ []) (sym is) in
      subst (λ l. TranslateAll typed set own l more old new) (sym taken)
      (subst (λ l. TranslateAll typed set own (take i es ++ e ∷ []) l old new) (sym push) (one_more before t))

  pub cases_turn : (s : GenericSort) (cs : List TypedCase) (i : ℕ) (c : TypedCase) (ys more : List Case) (y : Case)
      (old mid new : List CheckAt) → i < length cs → c ≡ get_or cs i c
      → TranslateCases typed set own s (take i cs) ys old mid → TranslateCase typed set own s c y mid new
      → more ≡ ys ++ y ∷ []
      → TranslateCases typed set own s (take (i + 1) cs) more old new
  cases_turn s cs i c ys more y old mid new lt is before t push =
      let taken : take (i + 1) cs ≡ take i cs ++ c ∷ [] =
      take_more cs i c lt ∙ ap (λ z. take i cs ++ z ∷ []) (sym is) in
      subst (λ l. TranslateCases typed set own s l more old new) (sym taken)
      (subst (λ l. TranslateCases typed set own s (take i cs ++ c ∷ []) l old new) (sym push) (more_cases before t))

  pub is_case : (s : GenericSort) (c : TypedCase) (guard : Option Expr) (body : Expr) (pattern : Pattern)
      (old mid new : List CheckAt)
      → pattern ≡ pattern_at typed set.roots (out-TypedCase c).pattern s
      → TranslateGuard typed set own (out-TypedCase c).guard guard old mid → Tr (out-TypedCase c).body body mid new
      → TranslateCase typed set own s c (record { pattern = pattern; guard = guard; body = body }) old new
  is_case s c guard body pattern old mid new p tg tb =
      subst (λ (z : Pattern). TranslateCase typed set own s c (record { pattern = z; guard = guard; body = body }) old
      new) (sym p) (one_case c tg tb)

  pub is_no_guard : (g : Option TypedExpr) (old : List CheckAt) → g ≡ None → TranslateGuard typed set own g None old old
  is_no_guard g old p = subst (λ (z : Option TypedExpr). TranslateGuard typed set own z None old old) (sym p) no_guard

  pub is_guard : (g : Option TypedExpr) (e e2 : TypedExpr) (x : Expr) (old new : List CheckAt) → g ≡ Some e → e2 ≡ e
      → Tr e2 x old new
      → TranslateGuard typed set own g (Some x) old new
  is_guard g e e2 x old new p q t =
      subst (λ (z : Option TypedExpr). TranslateGuard typed set own z (Some x) old new) (sym p)
      (one_guard (of_part e e2 x old new q t))
