-- The forms of expressions, as they are compiled.
use Rattle.std.proofs.Common.{◌≡◌, ℕ, Bool, List, [], ◌∷◌, ◌++◌, length, map, Option, Some, sym, ap, ◌∙◌, subst}
use Rattle.pp_tree.specs.declared.operator.BinaryOp.{BinaryOp}
use Rattle.pp_prog.specs.declared.expr.Case.{Case}
use Rattle.pp_prog.specs.declared.expr.Expr.{Expr}
use Rattle.pp_prog.specs.declared.expr.Expr.TheFolds.{fold-roll-Expr, map-Expr}
use Rattle.pp_prog.specs.declared.expr.Expr.TheOpen as layer
use Rattle.pp_prog.specs.declared.expr.Expr.TheVariants.{Assert, Binary, Call, Construct, Field, If, Match, Unary, Val}
use Rattle.pp_prog.specs.declared.expr.Expr.TheVariants.{rolls-Assert, rolls-Binary, rolls-Call, rolls-Construct}
use Rattle.pp_prog.specs.declared.expr.Expr.TheVariants.{rolls-Field, rolls-If, rolls-Match, rolls-Unary, rolls-Val}
use Rattle.pp_prog.specs.declared.expr.Expr.TheViews.{roll-Expr}
use Rattle.pp_prog.specs.declared.id.CheckId.{CheckId}
use Rattle.pp_tree.specs.declared.operator.UnaryOp.{UnaryOp}
use Rattle.pp_prog.specs.declared.id.CtorId.{CtorId}
use Rattle.pp_prog.specs.declared.id.FunctionId.{FunctionId}
use Rattle.pp_steps.specs.declared.step.Step.TheVariants as steps
use Rattle.pp_steps.specs.Compile.{Arm, Compiling, Site, all, arm, arm_step, binary, branches, cases, compile}
use Rattle.pp_steps.specs.Compile.{compile_step, matched, number_or, one, unless, when}
use Rattle.pp_steps.specs.Piece.{asks, bind, demand}
use Rattle.pp_compile.specs.declared.work.Branch.{Branch}
use Rattle.pp_compile.specs.declared.work.Ends.{Ends}
use Rattle.pp_compile.specs.declared.work.Lists.{Lists}
use Rattle.pp_compile.specs.declared.work.Work.{Work}
use Rattle.pp_compile.specs.Written.{AreMade, IsCased, IsMade, IsWritten}
use Rattle.pp_compile.proofs.Joining.{bind_made, bind_many, bind_number}

at_form : (asked : Option CheckId) (site : Site) (o n : Work) (e : Expr) (y : layer.Expr-F Expr Case) (k : ℕ)
    (env : List ℕ) (reach : ℕ) (r : Ends)
    → e ≡ roll-Expr y
    → IsMade o n (compile_step asked site
    (map-Expr Expr Case Compiling Arm (compile asked site) (arm asked site) y) k env reach) r
    → IsMade o n (compile asked site e k env reach) r
at_form asked site o n e y k env reach r is h =
    subst (λ (m : Compiling). IsMade o n (m k env reach) r)
    (sym (ap (compile asked site) is ∙ fold-roll-Expr Compiling Arm (compile_step asked site) arm_step y)) h

module _ (asked : Option CheckId) (site : Site) (o : Work) (env : List ℕ) (reach : ℕ) where
  pub binary_arm : {n : Work} {e a b c d : Expr} {op : BinaryOp} {check : Option CheckId} {r : Ends}
      → e ≡ Binary op a b check → c ≡ a → d ≡ b
      → IsMade o n (binary asked op (compile asked site c) (compile asked site d) check (length o.steps) env reach) r
      → IsMade o n (compile asked site e (length o.steps) env reach) r
  binary_arm {n = n} {e = e} {a = a} {b = b} {c = c} {d = d} {op = op} {check = check} {r = r} is f g h =
      at_form asked site o n e (layer.Binary op a b check) (length o.steps) env reach r
      (is ∙ sym (rolls-Binary op a b check))
      (subst (λ (z : Expr). IsMade o n
      (binary asked op (compile asked site a) (compile asked site z) check (length o.steps) env reach) r) g
      (subst (λ (z : Expr). IsMade o n
      (binary asked op (compile asked site z) (compile asked site d) check (length o.steps) env reach) r) f h))

  pub construct_arm : {m n : Work} {e : Expr} {c : CtorId} {es ds : List Expr} {x : Lists} {r : Ends}
      → e ≡ Construct c es → ds ≡ es
      → AreMade o m (all (map (compile asked site) ds) (length o.steps) env reach) x
      → IsMade m n (one (steps.Construct c x.out) (length m.steps) x.alive) r
      → IsMade o n (compile asked site e (length o.steps) env reach) r
  construct_arm {m = m} {n = n} {e = e} {c = c} {es = es} {ds = ds} {x = x} {r = r} is f h g =
      at_form asked site o n e (layer.Construct c es) (length o.steps) env reach r (is ∙ sym (rolls-Construct c es))
      (bind_many o m n (all (map (compile asked site) es) (length o.steps) env reach)
      (λ k xs alive. one (steps.Construct c xs) k alive) x r
      (subst (λ (z : List Expr). AreMade o m (all (map (compile asked site) z) (length o.steps) env reach) x) f h) g)

  pub field_arm : {m n : Work} {e a b : Expr} {i : ℕ} {x r : Ends}
      → e ≡ Field a i → b ≡ a
      → IsMade o m (compile asked site b (length o.steps) env reach) x
      → IsMade m n (one (steps.Field x.out i) (length m.steps) x.alive) r
      → IsMade o n (compile asked site e (length o.steps) env reach) r
  field_arm {m = m} {n = n} {e = e} {a = a} {b = b} {i = i} {x = x} {r = r} is f h g =
      at_form asked site o n e (layer.Field a i) (length o.steps) env reach r (is ∙ sym (rolls-Field a i))
      (bind_made o m n (compile asked site a (length o.steps) env reach)
      (λ k y alive. one (steps.Field y i) k alive) x r
      (subst (λ (z : Expr). IsMade o m (compile asked site z (length o.steps) env reach) x) f h) g)

  pub val_arm : {m n : Work} {e a b c d : Expr} {inner : List ℕ} {x r : Ends}
      → e ≡ Val a b → c ≡ a → d ≡ b
      → IsMade o m (compile asked site c (length o.steps) env reach) x → inner ≡ env ++ x.out ∷ []
      → IsMade m n (compile asked site d (length m.steps) inner x.alive) r
      → IsMade o n (compile asked site e (length o.steps) env reach) r
  val_arm {m = m} {n = n} {e = e} {a = a} {b = b} {c = c} {d = d} {inner = inner} {x = x} {r = r} is f g h i q =
      at_form asked site o n e (layer.Val a b) (length o.steps) env reach r (is ∙ sym (rolls-Val a b))
      (bind_made o m n (compile asked site a (length o.steps) env reach)
      (λ k y alive. compile asked site b k (env ++ y ∷ []) alive) x r
      (subst (λ (z : Expr). IsMade o m (compile asked site z (length o.steps) env reach) x) f h)
      (subst (λ (z : Expr). IsMade m n (compile asked site z (length m.steps) (env ++ x.out ∷ []) x.alive) r) g
      (subst (λ (z : List ℕ). IsMade m n (compile asked site d (length m.steps) z x.alive) r) i q)))

  pub assert_arm : {m l n : Work} {e a b c d : Expr} {check : CheckId} {inner : List ℕ} {x y r : Ends} {t : Bool}
      → e ≡ Assert check a b → c ≡ a → d ≡ b
      → IsMade o m (compile asked site c (length o.steps) env reach) x → inner ≡ env → t ≡ asks asked (Some check)
      → IsMade m l (demand t (length m.steps) x.alive x.out) y
      → IsMade l n (compile asked site d (length l.steps) inner y.alive) r
      → IsMade o n (compile asked site e (length o.steps) env reach) r
  assert_arm {m = m} {l = l} {n = n} {e = e} {a = a} {b = b} {c = c} {d = d} {check = check} {inner = inner} {x = x}
      {y = y} {r = r} {t = t} is f g h i j p q =
      at_form asked site o n e (layer.Assert check a b) (length o.steps) env reach r
      (is ∙ sym (rolls-Assert check a b))
      (bind_made o m n (compile asked site a (length o.steps) env reach)
      (λ k v alive. bind k (demand (asks asked (Some check)) k alive v)
      (λ i2 u going. compile asked site b i2 env going)) x r
      (subst (λ (z : Expr). IsMade o m (compile asked site z (length o.steps) env reach) x) f h)
      (bind_made m l n (demand (asks asked (Some check)) (length m.steps) x.alive x.out)
      (λ i2 u going. compile asked site b i2 env going) y r
      (subst (λ z. IsMade m l (demand z (length m.steps) x.alive x.out) y) j p)
      (subst (λ (z : Expr). IsMade l n (compile asked site z (length l.steps) env y.alive) r) g
      (subst (λ (z : List ℕ). IsMade l n (compile asked site d (length l.steps) z y.alive) r) i q))))

  pub if_arm : {m l w n : Work} {e c a b d f g : Expr} {inner : List ℕ} {taken missed : ℕ} {x r : Ends}
      → e ≡ If c a b → d ≡ c → f ≡ a → g ≡ b
      → IsMade o m (compile asked site d (length o.steps) env reach) x → inner ≡ env
      → IsWritten m l (when (length m.steps) x.alive x.out) → taken ≡ (when (length m.steps) x.alive x.out).out
      → IsWritten l w (unless (length l.steps) x.alive x.out) → missed ≡ (unless (length l.steps) x.alive x.out).out
      → IsMade w n (branches (compile asked site f) (compile asked site g) (length w.steps) inner taken missed) r
      → IsMade o n (compile asked site e (length o.steps) env reach) r
  if_arm {m = m} {l = l} {w = w} {n = n} {e = e} {c = c} {a = a} {b = b} {d = d} {f = f} {g = g} {inner = inner}
      {taken = taken} {missed = missed} {x = x} {r = r} is e1 e2 e3 h i hw et hu em q =
      let A = compile asked site a in
      let B = compile asked site b in
      at_form asked site o n e (layer.If c a b) (length o.steps) env reach r (is ∙ sym (rolls-If c a b))
      (bind_made o m n (compile asked site c (length o.steps) env reach)
      (λ k y alive. bind k (when k alive y)
      (λ j t u. bind j (unless j alive y) (λ i2 s v. branches A B i2 env t s))) x r
      (subst (λ (z : Expr). IsMade o m (compile asked site z (length o.steps) env reach) x) e1 h)
      (bind_number m l n (when (length m.steps) x.alive x.out)
      (λ j t u. bind j (unless j x.alive x.out) (λ i2 s v. branches A B i2 env t s)) taken r hw et
      (bind_number l w n (unless (length l.steps) x.alive x.out) (λ i2 s v. branches A B i2 env taken s) missed r hu em
      (subst (λ (z : Expr). IsMade w n (branches A (compile asked site z) (length w.steps) env taken missed) r) e3
      (subst (λ (z : Expr). IsMade w n
      (branches (compile asked site z) (compile asked site g) (length w.steps) env taken missed) r) e2
      (subst (λ (z : List ℕ). IsMade w n
      (branches (compile asked site f) (compile asked site g) (length w.steps) z taken missed) r) i q))))))

  pub unary_arm : {m n : Work} {e a b : Expr} {op : UnaryOp} {x r : Ends}
      → e ≡ Unary op a → b ≡ a
      → IsMade o m (compile asked site b (length o.steps) env reach) x
      → IsMade m n (one (steps.Unary op x.out) (length m.steps) x.alive) r
      → IsMade o n (compile asked site e (length o.steps) env reach) r
  unary_arm {m = m} {n = n} {e = e} {a = a} {b = b} {op = op} {x = x} {r = r} is f h g =
      at_form asked site o n e (layer.Unary op a) (length o.steps) env reach r (is ∙ sym (rolls-Unary op a))
      (bind_made o m n (compile asked site a (length o.steps) env reach)
      (λ k y alive. one (steps.Unary op y) k alive) x r
      (subst (λ (z : Expr). IsMade o m (compile asked site z (length o.steps) env reach) x) f h) g)

  pub call_arm : {m n : Work} {e : Expr} {g : FunctionId} {pre down : Option CheckId} {es ds : List Expr}
      {x : Lists} {r : Ends}
      → e ≡ Call g es pre down → ds ≡ es
      → AreMade o m (all (map (compile asked site) ds) (length o.steps) env reach) x
      → IsMade m n (site (length m.steps) x.alive g pre down x.out) r
      → IsMade o n (compile asked site e (length o.steps) env reach) r
  call_arm {m = m} {n = n} {e = e} {g = g} {pre = pre} {down = down} {es = es} {ds = ds} {x = x} {r = r} is f h q =
      at_form asked site o n e (layer.Call g es pre down) (length o.steps) env reach r
      (is ∙ sym (rolls-Call g es pre down))
      (bind_many o m n (all (map (compile asked site) es) (length o.steps) env reach)
      (λ k xs alive. site k alive g pre down xs) x r
      (subst (λ (z : List Expr). AreMade o m (all (map (compile asked site) z) (length o.steps) env reach) x) f h) q)

  pub match_arm : {m n : Work} {e a b : Expr} {check : Option CheckId} {ks js : List Case} {inner : List ℕ} {x r : Ends}
      {y : Branch}
      → e ≡ Match a ks check → b ≡ a → js ≡ ks
      → IsMade o m (compile asked site b (length o.steps) env reach) x → inner ≡ env
      → IsCased m n (cases asked (map (arm asked site) js) check x.out (length m.steps) inner x.alive) y
      → r.out ≡ number_or x.out y.out → r.alive ≡ y.alive
      → IsMade o n (compile asked site e (length o.steps) env reach) r
  match_arm {m = m} {n = n} {e = e} {a = a} {b = b} {check = check} {ks = ks} {js = js} {inner = inner} {x = x} {r = r}
      {y = y} is f g h i q j j2 =
      let C = λ (z : List ℕ) (l : List Case). cases asked (map (arm asked site) l) check x.out (length m.steps) z
      x.alive in
      let q1 = subst (λ (l : List Case). IsCased m n (C env l) y) g
      (subst (λ (z : List ℕ). IsCased m n (C z js) y) i q) in
      let made : IsMade m n (matched x.out (C env ks)) r = record {
        written = record { steps = q1.written.steps; fails = q1.written.fails };
        out = j ∙ ap (number_or x.out) q1.out;
        alive = j2 ∙ q1.alive;
      } in
      at_form asked site o n e (layer.Match a ks check) (length o.steps) env reach r (is ∙ sym (rolls-Match a ks check))
      (bind_made o m n (compile asked site a (length o.steps) env reach)
      (λ k t alive. matched t (cases asked (map (arm asked site) ks) check t k env alive)) x r
      (subst (λ (z : Expr). IsMade o m (compile asked site z (length o.steps) env reach) x) f h) made)
