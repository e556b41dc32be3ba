-- The cases of a match, as they are written.
use Rattle.std.proofs.Common.{◌≡◌, ℕ, suc, ◌+◌, List, [], ◌∷◌, ◌++◌, length, map, Option, Some, None, sym, ap, ◌∙◌}
use Rattle.std.proofs.Common.{subst, arith, append_assoc, append-nil, length-append}
use Rattle.std.specs.Option.{option_map}
use Rattle.pp_prog.specs.declared.expr.Case.{Case}
use Rattle.pp_prog.specs.declared.expr.Expr.{Expr}
use Rattle.pp_prog.specs.declared.expr.Expr.TheFolds.{fold-roll-Case}
use Rattle.pp_prog.specs.declared.expr.Expr.TheViews.{rolls-struct-Case}
use Rattle.pp_prog.specs.declared.expr.Pattern.{Pattern}
use Rattle.pp_prog.specs.declared.id.CheckId.{CheckId}
use Rattle.pp_steps.specs.declared.step.Step.{Step}
use Rattle.pp_steps.specs.declared.step.Step.TheVariants as steps
use Rattle.pp_steps.specs.Compile.{Arm, Compiling, Site, all_of, arm, arm_step, cases, compile, compile_step, deciding}
use Rattle.pp_steps.specs.Patterns.{fitting}
use Rattle.pp_steps.specs.Piece.{Piece, after, joined, pick_step, picked, plain}
use Rattle.pp_compile.specs.declared.work.Branch.{Branch}
use Rattle.pp_compile.specs.declared.work.Ends.{Ends}
use Rattle.pp_compile.specs.declared.work.Goes.{Goes}
use Rattle.pp_compile.specs.declared.work.Tests.{Tests}
use Rattle.pp_compile.specs.declared.work.Tried.{Tried}
use Rattle.pp_compile.specs.declared.work.Work.{Work}
use Rattle.pp_compile.specs.Written.{Attempt, IsCased, IsDecided, IsFitted, IsMade, IsTried, IsWritten, attempting}
use Rattle.pp_compile.specs.Written.{chosen}
use Rattle.pp_compile.proofs.Joining.{end_is, written_join}

arm_parts : (asked : Option CheckId) (site : Site) (p : Pattern) (g : Option Expr) (b : Expr)
    → arm asked site (record { pattern = p; guard = g; body = b })
    ≡ record { pattern = p; guard = option_map (compile asked site) g; body = compile asked site b }
arm_parts asked site p None b =
    ap (arm asked site) (sym (rolls-struct-Case (record { pattern = p; guard = None; body = b })))
    ∙ fold-roll-Case Compiling Arm (compile_step asked site) arm_step
    (record { pattern = p; guard = None; body = b })
arm_parts asked site p (Some e) b =
    ap (arm asked site) (sym (rolls-struct-Case (record { pattern = p; guard = Some e; body = b })))
    ∙ fold-roll-Case Compiling Arm (compile_step asked site) arm_step
    (record { pattern = p; guard = Some e; body = b })

pub arm_is : (asked : Option CheckId) (site : Site) (k : Case)
    → arm asked site k ≡ record {
      pattern = k.pattern;
      guard = option_map (compile asked site) k.guard;
      body = compile
          asked site k.body;
    }
arm_is asked site k = arm_parts asked site k.pattern k.guard k.body

after_joined : {A B : Type 0} (k : ℕ) (x : Piece A) (y : Piece B) → after k (joined x y) ≡ after (after k x) y
after_joined k x y = ap (λ n. k + n) (length-append x.steps y.steps) ∙ add_assoc k (length x.steps) (length y.steps)
  where
    add_assoc : (a b c : ℕ) → a + (b + c) ≡ (a + b) + c
    add_assoc a b c = omega arith

four_assoc : {A : Type 0} (a b c d q : List A) → (a ++ (b ++ (c ++ d))) ++ q ≡ a ++ (b ++ (c ++ (d ++ q)))
four_assoc a b c d q =
    append_assoc a (b ++ (c ++ d)) q ∙ ap (λ l. a ++ l)
    (append_assoc b (c ++ d) q ∙ ap (λ l. b ++ l) (append_assoc c d q))

pub attempt_made : (asked : Option CheckId) (site : Site) (case : Case) (o : Work) (value : ℕ) (env : List ℕ)
    (reach : ℕ)
    {m l w n : Work} {p0 p1 : Tests} {ts inner last : List ℕ} {fits : ℕ} {goes : Goes} {left : Ends}
    → p0.tests ≡ [] → p0.bound ≡ [] → IsFitted o m p0 p1 (fitting case.pattern (length o.steps) value)
    → ts ≡ p1.tests → IsWritten m l (all_of (length m.steps) ts reach) → fits ≡ (all_of (length m.steps) ts reach).out
    → inner ≡ env ++ p1.bound
    → IsDecided l w (deciding (option_map (compile asked site) case.guard) (length l.steps) inner reach fits) goes
    → last ≡ inner
    → IsMade w n (compile asked site case.body (length w.steps) last goes.taken) left
    → IsTried o n (arm asked site case) value (length o.steps) env reach
    (record { taken = goes.taken; missed = goes.missed; left = left })
attempt_made asked site case o value env reach {m = m} {l = l} {w = w} {n = n} {p0 = p0} {p1 = p1} {ts = ts}
    {inner = inner} {last = last} {fits = fits} {goes = goes} {left = left} z1 z2 hf e ha hn hi hd hl hb =
    let a : Arm = record {
      pattern = case.pattern;
      guard = option_map (compile asked site) case.guard;
      body =
          compile asked site case.body;
    } in
    let k = length o.steps in
    let F = fitting case.pattern k value in
    let known = env ++ F.bound in
    let P : Piece ℕ = plain F.steps value reach in
    let hP : IsWritten o m P = record { steps = hf.steps; fails = hf.fails ∙ sym (append-nil o.fails) } in
    let kt = after k P in
    let e1 = end_is o m P hP in
    let et = e ∙ hf.tests ∙ ap (λ (q : List ℕ). q ++ F.tests) z1 in
    let T = all_of kt F.tests reach in
    let hT0 = subst (λ (q : List ℕ). IsWritten m l (all_of (length m.steps) q reach)) et ha in
    let hT = subst (λ i. IsWritten m l (all_of i F.tests reach)) e1 hT0 in
    let ef = hn ∙ ap (λ (q : List ℕ). (all_of (length m.steps) q reach).out) et
    ∙ ap (λ i. (all_of i F.tests reach).out) e1 in
    let kg = after kt T in
    let e2 = end_is m l T hT ∙ ap (λ i. after i T) e1 in
    let ei = hi ∙ ap (λ (q : List ℕ). env ++ q) (hf.bound ∙ ap (λ (q : List ℕ). q ++ F.bound) z2) in
    let G = deciding a.guard kg known reach T.out in
    let g1 = subst (λ i. IsDecided l w (deciding a.guard i inner reach fits) goes) e2 hd in
    let g2 = subst (λ (q : List ℕ). IsDecided l w (deciding a.guard kg q reach fits) goes) ei g1 in
    let hG = subst (λ i. IsDecided l w (deciding a.guard kg known reach i) goes) ef g2 in
    let lk = after kg G in
    let e3 = end_is l w G hG.written ∙ ap (λ i. after i G) e2 in
    let X = compile asked site case.body lk known G.out.0 in
    let x1 = subst (λ i. IsMade w n (compile asked site case.body i last goes.taken) left) e3 hb in
    let x2 = subst (λ (q : List ℕ). IsMade w n (compile asked site case.body lk q goes.taken) left) (hl ∙ ei) x1 in
    let hX = subst (λ i. IsMade w n (compile asked site case.body lk known i) left) hG.taken x2 in
    let end : Attempt = record { taken = G.out.0; missed = G.out.1; out = X.out } in
    let Z : Piece Attempt = record { steps = X.steps; out = end; alive = X.alive; fails = X.fails } in
    let hZ : IsWritten w n Z = record { steps = hX.written.steps; fails = hX.written.fails } in
    subst (λ (q : Arm). IsTried o n q value k env reach
    (record { taken = goes.taken; missed = goes.missed; left = left })) (sym (arm_is asked site case))
    (record {
      written = written_join o m n P (joined T (joined G Z)) hP
          (written_join m l n T (joined G Z) hT (written_join l w n G Z hG.written hZ));
      taken = hG.taken;
      missed = hG.missed;
      out = hX.out;
      alive = hX.alive;
    })

pub case_made : (asked : Option CheckId) (site : Site) (check : Option CheckId) (value : ℕ) (o : Work) (env : List ℕ)
    (reach : ℕ) (cs : List Case)
    {case : Case} {rest : List Case} {m l n : Work} {inner : List ℕ} {tried : Tried} {right : Branch} {both : Ends}
    → cs ≡ case ∷ rest
    → IsTried o m (arm asked site case) value (length o.steps) env reach tried → inner ≡ env
    → IsCased m l (cases asked (map (arm asked site) rest) check value (length m.steps) inner tried.missed) right
    → IsMade l n (chosen (length l.steps) tried.taken tried.left right.out right.alive) both
    → IsCased o n (cases asked (map (arm asked site) cs) check value (length o.steps) env reach)
    (record { out = Some both.out; alive = both.alive })
case_made asked site check value o env reach cs {case = case} {rest = rest} {m = m} {l = l} {n = n} {inner = inner}
    {tried = tried} {right = right} {both = both} is ht hi hr hb =
    let a = arm asked site case in
    let as' = map (arm asked site) rest in
    let k = length o.steps in
    let F = fitting a.pattern k value in
    let known = env ++ F.bound in
    let P : Piece ℕ = plain F.steps value reach in
    let T = all_of (after k P) F.tests reach in
    let kg = after (after k P) T in
    let G = deciding a.guard kg known reach T.out in
    let lk = after kg G in
    let X = a.body lk known G.out.0 in
    let i = after lk X in
    let end : Attempt = record { taken = G.out.0; missed = G.out.1; out = X.out } in
    let Z : Piece Attempt = record { steps = X.steps; out = end; alive = X.alive; fails = X.fails } in
    let shift = after_joined k P (joined T (joined G Z)) ∙ after_joined (after k P) T (joined G Z)
    ∙ after_joined kg G Z in
    let e1 : length m.steps ≡ i = end_is o m (attempting a value k env reach) ht.written ∙ shift in
    let Y = cases asked as' check value i env G.out.1 in
    let y1 = subst (λ j. IsCased m l (cases asked as' check value j inner tried.missed) right) e1 hr in
    let y2 = subst (λ (q : List ℕ). IsCased m l (cases asked as' check value i q tried.missed) right) hi y1 in
    let hY = subst (λ j. IsCased m l (cases asked as' check value i env j) right) ht.missed y2 in
    let e2 : length l.steps ≡ after i Y = end_is m l Y hY.written ∙ ap (λ j. after j Y) e1 in
    let tail = λ (j tk lo la : ℕ) (ro : Option ℕ) (ra : ℕ). plain (steps.Choose tk la ra ∷ pick_step tk lo ro)
    (picked (suc j) lo ro) j in
    let t1 = subst (λ j. IsMade l n (tail j tried.taken tried.left.out tried.left.alive right.out right.alive) both) e2
    hb in
    let t2 = subst (λ j. IsMade l n (tail (after i Y) j tried.left.out tried.left.alive right.out right.alive) both)
    ht.taken t1 in
    let t3 = subst (λ j. IsMade l n (tail (after i Y) G.out.0 j tried.left.alive right.out right.alive) both) ht.out
    t2 in
    let t4 = subst (λ j. IsMade l n (tail (after i Y) G.out.0 X.out j right.out right.alive) both) ht.alive t3 in
    let t5 = subst (λ (j : Option ℕ). IsMade l n (tail (after i Y) G.out.0 X.out X.alive j right.alive) both) hY.out
    t4 in
    let hT = subst (λ j. IsMade l n (tail (after i Y) G.out.0 X.out X.alive Y.out j) both) hY.alive t5 in
    let L : Piece ℕ = tail (after i Y) G.out.0 X.out X.alive Y.out Y.alive in
    let whole = written_join o m n (attempting a value k env reach) (joined Y L) ht.written
    (written_join m l n Y L hY.written hT.written) in
    subst (λ (q : List Case). IsCased o n (cases asked (map (arm asked site) q) check value k env reach)
    (record { out = Some both.out; alive = both.alive })) (sym is)
    (record {
      written = record {
        steps = whole.steps ∙ ap (λ (q : List Step). o.steps ++ q)
            (four_assoc P.steps T.steps G.steps X.steps (Y.steps ++ L.steps));
        fails = whole.fails ∙ ap (λ (q : List ℕ). o.fails ++ q)
            (four_assoc P.fails T.fails G.fails X.fails (Y.fails ++ [])
            ∙ ap (λ (q : List ℕ). P.fails ++ (T.fails ++ (G.fails ++ (X.fails ++ q)))) (append-nil Y.fails));
      };
      out = ap (λ (j : ℕ). Some j) hT.out;
      alive = hT.alive;
    })
