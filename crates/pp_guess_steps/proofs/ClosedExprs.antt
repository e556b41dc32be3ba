-- Closed predicates: what joins, and is true of simple steps, of patterns' steps and of a call's, is true of the steps
-- of an expression that satisfies a condition.
use Rattle.std.proofs.Common.{ℕ, suc, ◌+◌, Bool, true, false, List, [], ◌∷◌, ◌++◌, map, Option, Some, None, sym, subst}
use Rattle.std.specs.Prelude.{pos}
use Rattle.pp_list.proofs.With.{With, elements}
use Rattle.pp_prog.proofs.Induction.{case_under, each_expr, under}
use Rattle.pp_tree.specs.declared.operator.BinaryOp.{BinaryOp}
use Rattle.pp_tree.specs.declared.operator.BinaryOp.TheVariants.{AndAlso, OrElse, Div, Rem, Equal}
use Rattle.pp_prog.specs.declared.expr.Case.{Case}
use Rattle.pp_prog.specs.declared.expr.Expr.{Expr}
use Rattle.pp_prog.specs.declared.expr.Expr.TheFolds.{fold-roll-Case, fold-roll-Expr, map-Case, map-Expr}
use Rattle.pp_prog.specs.declared.expr.Expr.TheOpen as layer
use Rattle.pp_prog.specs.declared.expr.Expr.TheViews.{roll-Case, roll-Expr}
use Rattle.pp_prog.specs.declared.expr.Pattern.{Pattern}
use Rattle.pp_prog.specs.declared.id.CheckId.{CheckId}
use Rattle.pp_prog.specs.declared.id.FunctionId.{FunctionId}
use Rattle.pp_steps.specs.declared.step.Step.{Step}
use Rattle.pp_steps.specs.declared.step.Step.TheVariants as steps
use Rattle.pp_steps.specs.Compile.{Arm, Compiling, Site, all, all_from, all_of, arm, arm_step, binary, cases, compile}
use Rattle.pp_steps.specs.Compile.{compile_step, deciding, operating, quotient, skipping, unless, when}
use Rattle.pp_steps.specs.Patterns.{fitting}
use Rattle.pp_steps.specs.Piece.{Piece, after, asks, choice, demand, pick_step, plain}
use Rattle.pp_steps_run.specs.Told.{AllOf}
use Rattle.pp_guess_steps.proofs.Conditions.{CaseHolds, Conditions, PartsHold}

-- neither a call nor a field of a pattern's constructor; a tree's constructor, and an open sort, satisfy the condition
abbrev pub IsSimpleOf : Conditions → Step → Type 0
IsSimpleOf q (steps.HasAnswer c) = ⊥
IsSimpleOf q (steps.Answer c) = ⊥
IsSimpleOf q (steps.CtorField c i a) = ⊥
IsSimpleOf q (steps.Construct c fields) = q.Makes c
IsSimpleOf q (steps.Open s) = q.Opens s
IsSimpleOf q s = Unit {0}

module _ (q : Conditions) (P : List Step → Type 0) (join : (xs ys : List Step) → P xs → P ys → P (xs ++ ys))
    (none : P []) (simple : (s : Step) → IsSimpleOf q s → P (s ∷ [])) where
  pub more : (s : Step) (ss : List Step) → IsSimpleOf q s → P ss → P (s ∷ ss)
  more s ss i h = join (s ∷ []) ss (simple s i) h

module _ (q : Conditions) (P : List Step → Type 0) (join : (xs ys : List Step) → P xs → P ys → P (xs ++ ys))
    (none : P []) (simple : (s : Step) → IsSimpleOf q s → P (s ∷ []))
    (pats : (p : Pattern) (k t : ℕ) → P (fitting p k t).steps) where
  -- the steps of what an expression is
  abbrev pub Closed : Compiling → Type 0
  Closed m = (k : ℕ) (env : List ℕ) (reach : ℕ) → P (m k env reach).steps

  abbrev pub ClosedSite : Site → Type 0
  ClosedSite site = (k reach : ℕ) (g : FunctionId) (pre down : Option CheckId) (args : List ℕ) → q.Meets g
      → P (site k reach g pre down args).steps

  abbrev pub AllClosed : List Compiling → Type 0
  AllClosed [] = Unit {0}
  AllClosed (m ∷ ms) = Closed m × AllClosed ms

  abbrev pub MaybeClosed : Option Compiling → Type 0
  MaybeClosed None = Unit {0}
  MaybeClosed (Some m) = Closed m

  pub record ArmClosed (a : Arm) : Type 0 where
    pub guard : MaybeClosed a.guard
    pub body : Closed a.body

  abbrev pub ArmsClosed : List Arm → Type 0
  ArmsClosed [] = Unit {0}
  ArmsClosed (a ∷ rest_arms) = ArmClosed a × ArmsClosed rest_arms

  pub demand_closed : (b : Bool) (k alive test : ℕ) → P (demand b k alive test).steps
  demand_closed true k alive test =
      more q P join none simple (steps.Both alive test) _ tt
      (more q P join none simple (steps.Not test) _ tt (simple (steps.Both alive (suc k)) tt))
  demand_closed false k alive test = simple (steps.Both alive test) tt

  unless_closed : (k alive test : ℕ) → P (unless k alive test).steps
  unless_closed k alive test = more q P join none simple (steps.Not test) _ tt (simple (steps.Both alive k) tt)

  pub all_closed : (ms : List Compiling) → AllClosed ms → (done : List ℕ) (k : ℕ) (env : List ℕ) (reach : ℕ)
      → P (all_from done ms k env reach).steps
  all_closed [] h done k env reach = none
  all_closed (m ∷ ms) h done k env reach =
      let x = m k env reach in
      join x.steps _ (h.0 k env reach) (all_closed ms h.1 (done ++ x.out ∷ []) (after k x) env x.alive)

  tests_closed : (ts : List ℕ) (k alive : ℕ) → P (all_of k ts alive).steps
  tests_closed [] k alive = none
  tests_closed (t ∷ ts) k alive =
      join (when k alive t).steps _ (simple (steps.Both alive t) tt) (tests_closed ts (after k (when k alive t)) k)

  pick_closed : (taken a : ℕ) (o : Option ℕ) → P (pick_step taken a o)
  pick_closed taken a None = none
  pick_closed taken a (Some b) = simple (steps.Choose taken a b) tt

  choice_closed : (k taken : ℕ) (x : Piece ℕ) (y : Piece (Option ℕ)) → P x.steps → P y.steps
      → P (choice k taken x y).steps
  choice_closed k taken x y hx hy = join x.steps _ hx (join y.steps _ hy
      (more q P join none simple (steps.Choose taken x.alive y.alive) _ tt (pick_closed taken x.out y.out)))

  skip_closed : (b : Compiling) → Closed b → (k : ℕ) (env : List ℕ) (taken out alive : ℕ)
      → P (skipping b k env taken out alive).steps
  skip_closed b h k env taken out alive =
      let y = b k env taken in choice_closed (after k y) taken y (plain [] (Some out) alive) (h k env taken) none

  quotient_closed : (asked : Option CheckId) (op : BinaryOp) (check : Option CheckId) (k alive x y : ℕ)
      → P (quotient asked op check k alive x y).steps
  quotient_closed asked op check k alive x y =
      join (steps.Int (pos 0) ∷ steps.Binary Equal y k ∷ steps.Not (suc k) ∷ []) _
      (more q P join none simple (steps.Int (pos 0)) _ tt
      (more q P join none simple (steps.Binary Equal y k) _ tt (simple (steps.Not (suc k)) tt)))
      (join (demand (asks asked check) (k + 3) alive (suc (suc k))).steps _
      (demand_closed (asks asked check) (k + 3) alive (suc (suc k))) (simple (steps.Binary op x y) tt))

  operating_closed : (asked : Option CheckId) (op : BinaryOp) (check : Option CheckId) (k alive x y : ℕ)
      → P (operating asked op check k alive x y).steps
  operating_closed asked Div check k alive x y = quotient_closed asked Div check k alive x y
  operating_closed asked Rem check k alive x y = quotient_closed asked Rem check k alive x y
  operating_closed asked op check k alive x y = simple (steps.Binary op x y) tt

  binary_closed : (asked : Option CheckId) (op : BinaryOp) (check : Option CheckId) (a b : Compiling) → Closed a
      → Closed b → Closed (binary asked op a b check)
  binary_closed asked AndAlso check a b ha hb k env reach =
      let x = a k env reach in
      let n = after k x in
      join x.steps _ (ha k env reach) (join (when n x.alive x.out).steps _ (simple (steps.Both x.alive x.out) tt)
      (skip_closed b hb (after n (when n x.alive x.out)) env n x.out x.alive))
  binary_closed asked OrElse check a b ha hb k env reach =
      let x = a k env reach in
      let n = after k x in
      join x.steps _ (ha k env reach) (join (unless n x.alive x.out).steps _ (unless_closed n x.alive x.out)
      (skip_closed b hb (after n (unless n x.alive x.out)) env (suc n) x.out x.alive))
  binary_closed asked op check a b ha hb k env reach =
      let x = a k env reach in
      let n = after k x in
      let y = b n env x.alive in
      join x.steps _ (ha k env reach) (join y.steps _ (hb n env x.alive)
      (operating_closed asked op check (after n y) y.alive x.out y.out))

  deciding_closed : (o : Option Compiling) → MaybeClosed o → (k : ℕ) (env : List ℕ) (reach fits : ℕ)
      → P (deciding o k env reach fits).steps
  deciding_closed None h k env reach fits = join (unless k reach fits).steps _ (unless_closed k reach fits) none
  deciding_closed (Some guard) h k env reach fits =
      let x = guard k env fits in
      let n = after k x in
      let m = after n (when n x.alive x.out) in
      join x.steps _ (h k env fits) (join (when n x.alive x.out).steps _ (simple (steps.Both x.alive x.out) tt)
      (join (unless m x.alive x.out).steps _ (unless_closed m x.alive x.out)
      (simple (steps.Choose fits (suc m) reach) tt)))

  cases_closed : (asked : Option CheckId) (xs : List Arm) → ArmsClosed xs → (check : Option CheckId) (t k : ℕ)
      (env : List ℕ) (reach : ℕ) → P (cases asked xs check t k env reach).steps
  cases_closed asked [] h check t k env reach = simple (steps.Bool false) tt
  cases_closed asked (a ∷ rest_arms) h check t k env reach =
      let p = fitting a.pattern k t in
      let q : Piece ℕ = plain p.steps t reach in
      let inner = env ++ p.bound in
      let n = after k q in
      let y = all_of n p.tests reach in
      let m = after n y in
      let g = deciding a.guard m inner reach y.out in
      let l = after m g in
      let x = a.body l inner g.out.0 in
      let rest = cases asked rest_arms check t (after l x) env g.out.1 in
      join p.steps _ (pats a.pattern k t) (join y.steps _ (tests_closed p.tests n reach)
      (join g.steps _ (deciding_closed a.guard h.0.guard m inner reach y.out)
      (choice_closed (after (after l x) rest) g.out.0 x rest (h.0.body l inner g.out.0)
      (cases_closed asked rest_arms h.1 check t (after l x) env g.out.1))))

  -- ---- expressions

  module _ (asked : Option CheckId) (site : Site) (its : ClosedSite site) where
    abbrev C : Expr → Type 0
    C e = q.Holds e → Closed (compile asked site e)

    abbrev Q : Case → Type 0
    Q c = q.Suits c → ArmClosed (arm asked site c)

    parts_closed : (ys : List (With C)) → AllOf q.Holds (elements ys)
        → AllClosed (map (compile asked site) (elements ys))
    parts_closed [] h = tt
    parts_closed (y ∷ ys) h = (y.1 h.0, parts_closed ys h.1)

    arms_closed : (ys : List (With Q)) → AllOf q.Suits (elements ys)
        → ArmsClosed (map (arm asked site) (elements ys))
    arms_closed [] h = tt
    arms_closed (y ∷ ys) h = (y.1 h.0, arms_closed ys h.1)

    level : (y : layer.Expr-F (With C) (With Q)) → PartsHold q.Makes q.Meets q.Holds q.Suits (under y)
        → Closed (compile_step asked site
        (map-Expr Expr Case Compiling Arm (compile asked site) (arm asked site) (under y)))
    level (layer.Int n) h k env reach = simple (steps.Int n) tt
    level (layer.Bool b) h k env reach = simple (steps.Bool b) tt
    level (layer.Var i) h k env reach = none
    level (layer.Unary op a) h k env reach = join (compile asked site a.0 k env reach).steps _ (a.1 h k env reach)
        (simple (steps.Unary op (compile asked site a.0 k env reach).out) tt)
    level (layer.Binary op a b check) h k env reach =
        binary_closed asked op check (compile asked site a.0) (compile asked site b.0) (a.1 h.0) (b.1 h.1) k env reach
    level (layer.Construct c args) h k env reach =
        let ms = map (compile asked site) (elements args) in
        join (all ms k env reach).steps _ (all_closed ms (parts_closed args h.1) [] k env reach)
        (simple (steps.Construct c (all ms k env reach).out) h.0)
    level (layer.Field x i) h k env reach = join (compile asked site x.0 k env reach).steps _ (x.1 h k env reach)
        (simple (steps.Field (compile asked site x.0 k env reach).out i) tt)
    level (layer.If t a b) h k env reach =
        let x = compile asked site t.0 k env reach in
        let n = after k x in
        let m = after n (when n x.alive x.out) in
        let l = after m (unless m x.alive x.out) in
        let y = compile asked site a.0 l env n in
        let z = compile asked site b.0 (after l y) env (suc m) in
        join x.steps _ (t.1 h.0 k env reach)
        (join (when n x.alive x.out).steps _ (simple (steps.Both x.alive x.out) tt)
        (join (unless m x.alive x.out).steps _ (unless_closed m x.alive x.out)
        (choice_closed (after (after l y) z) n y
        (record { steps = z.steps; out = Some z.out; alive = z.alive; fails = z.fails })
        (a.1 h.1 l env n) (b.1 h.2 (after l y) env (suc m)))))
    level (layer.Match x ys check) h k env reach =
        let y = compile asked site x.0 k env reach in
        join y.steps _ (x.1 h.0 k env reach)
        (cases_closed asked (map (arm asked site) (elements ys)) (arms_closed ys h.1)
        check y.out (after k y) env y.alive)
    level (layer.Val a b) h k env reach =
        let x = compile asked site a.0 k env reach in
        join x.steps _ (a.1 h.0 k env reach) (b.1 h.1 (after k x) (env ++ x.out ∷ []) x.alive)
    level (layer.Assert check t rest) h k env reach =
        let x = compile asked site t.0 k env reach in
        let n = after k x in
        let d = demand (asks asked (Some check)) n x.alive x.out in
        join x.steps _ (t.1 h.0 k env reach)
        (join d.steps _ (demand_closed (asks asked (Some check)) n x.alive x.out)
        (rest.1 h.1 (after n d) env d.alive))
    level (layer.Call g args pre down) h k env reach =
        let ms = map (compile asked site) (elements args) in
        let x = all ms k env reach in
        join x.steps _ (all_closed ms (parts_closed args h.1) [] k env reach)
        (its (after k x) x.alive g pre down x.out h.0)

    at_level : (y : layer.Expr-F (With C) (With Q)) → C (roll-Expr (under y))
    at_level y h = subst (λ (m : Compiling). Closed m)
        (sym (fold-roll-Expr Compiling Arm (compile_step asked site) arm_step (under y)))
        (level y (q.parts (under y) h))

    at_parts : (p : Pattern) (o : Option (With C)) (b : With C) → let y : layer.Case-F (With C) (With Q) =
        record { pattern = p; guard = o; body = b } in
        let z = case_under Q y in
        CaseHolds q.Makes q.Meets q.Holds q.Suits z
        → ArmClosed (arm_step (map-Case Expr Case Compiling Arm (compile asked site) (arm asked site) z))
    at_parts p None b h = record { guard = tt; body = b.1 h.1 }
    at_parts p (Some e) b h = record { guard = e.1 h.0; body = b.1 h.1 }

    at_case : (y : layer.Case-F (With C) (With Q)) → Q (roll-Case (case_under Q y))
    at_case y h =
        let z = case_under Q y in
        subst (λ (k : Arm). ArmClosed k) (sym (fold-roll-Case Compiling Arm (compile_step asked site) arm_step z))
        (at_parts y.pattern y.guard y.body (q.case_parts z h))

    pub expr_closed : (e : Expr) → q.Holds e → Closed (compile asked site e)
    expr_closed = each_expr C Q at_level at_case
