-- The steps of a guess run, as they are written.
use Rattle.std.proofs.Common.{◌≡◌, ◌∙◌, ℕ, zero, suc, nat_eq, nat_lt, Bool, true, false, if◌then◌else◌, List, [], ◌∷◌}
use Rattle.std.proofs.Common.{◌++◌, ◌+◌, length, length-append, append_assoc, append-nil, Some, None, refl, sym, ap}
use Rattle.std.proofs.Common.{subst, arith}
use Rattle.pp_tree.specs.declared.operator.BinaryOp.TheVariants.{Equal}
use Rattle.pp_prog.specs.declared.expr.Function.{Function}
use Rattle.pp_steps.specs.declared.step.Step.{Step}
use Rattle.pp_steps.specs.declared.step.Step.TheVariants as steps
use Rattle.pp_steps.specs.Compile.{compile, one}
use Rattle.pp_steps.specs.Guesses.{GuessSteps, Standing, agreeing, agreeing_with, all_unfolded, answering_alike, asking}
use Rattle.pp_steps.specs.Guesses.{calls_from, equal_all, equal_answers, grown, holding, implying, standing}
use Rattle.pp_steps.specs.Guesses.{unfolded_of, with_agreement}
use Rattle.pp_steps.specs.Piece.{Piece, after, bind, demand, plain}
use Rattle.pp_compile.specs.declared.work.Ends.{Ends}
use Rattle.pp_compile.specs.declared.work.Work.{Work}
use Rattle.pp_compile.specs.Guessed.{IsAdded}
use Rattle.pp_compile.specs.Written.{IsMade, IsWritten}
use Rattle.pp_compile.proofs.Adding.{added_join, bind_added}
use Rattle.pp_compile.proofs.Joining.{bind_made, bind_number, end_is, written_join}

-- ---- calls that stand

none_before : (k : ℕ) → nat_lt k 0 ≡ false
none_before zero = grind arith
none_before (suc k) = grind arith

-- all calls stand from number 0 on
pub from_zero : (cs : List Standing) → calls_from 0 cs ≡ cs
from_zero [] = refl
from_zero (c ∷ cs) = here (nat_lt c.has 0) (none_before c.has) (from_zero cs)
  where
    here : (b : Bool) → b ≡ false → calls_from 0 cs ≡ cs → (if b then calls_from 0 cs else c ∷ calls_from 0 cs) ≡ c ∷ cs
    here true off e = absurd (cc)
    here false off e = ap (λ (l : List Standing). c ∷ l) e

-- ---- a call that is unfolded

pub tie_made : (functions : List Function) (f : Function) (c : Standing) (o : Work) {m1 m2 m3 m4 m5 n : Work}
    {given last values : List ℕ} {done wait : ℕ} {body same agreed ends r : Ends}
    → given ≡ c.call.args → wait ≡ suc c.call.wait
    → IsWritten o m1 (one (steps.Both c.call.reach c.has) done 0) → done ≡ length o.steps
    → IsMade m1 m2 (compile None (asking functions wait) f.body (length m1.steps) given done) body → last ≡ given
    → IsMade m2 m3 (one (steps.Binary Equal body.out c.result) (length m2.steps) body.alive) same
    → IsMade m3 m4 (demand false (length m3.steps) same.alive same.out) agreed
    → values ≡ last ++ c.result ∷ []
    → IsMade m4 m5 (holding (asking functions wait) f.post (length m4.steps) values agreed.alive) ends
    → IsMade m5 n (implying (length m5.steps) done ends.alive) r
    → IsMade o n (unfolded_of functions (Some f) (length o.steps) c) r
tie_made functions f c o {m1 = m1} {m2 = m2} {m3 = m3} {m4 = m4} {m5 = m5} {n = n} {given = given} {last = last}
    {values = values} {done = done} {wait = wait} {body = body} {same = same} {agreed = agreed} {ends = ends} {r = r}
    eg ew hd ed hb el hs ha ev hh hi =
    let site = asking functions (suc c.call.wait) in
    let hb1 = subst (λ w. IsMade m1 m2 (compile None (asking functions w) f.body (length m1.steps) given done) body)
    ew hb in
    let hb2 = subst (λ (l : List ℕ). IsMade m1 m2 (compile None site f.body (length m1.steps) l done) body) eg hb1 in
    let hh1 = subst (λ w. IsMade m4 m5
    (holding (asking functions w) f.post (length m4.steps) values agreed.alive) ends) ew hh in
    let hh2 = subst (λ (l : List ℕ). IsMade m4 m5 (holding site f.post (length m4.steps) l agreed.alive) ends)
    (ev ∙ ap (λ (l : List ℕ). l ++ c.result ∷ []) (el ∙ eg)) hh1 in
    let hd1 : IsWritten o m1 (plain (steps.Both c.call.reach c.has ∷ []) (length o.steps) (length o.steps)) =
    record { steps = hd.steps; fails = hd.fails } in
    bind_number o m1 n (plain (steps.Both c.call.reach c.has ∷ []) (length o.steps) (length o.steps))
    (λ i d _. bind i (compile None site f.body i c.call.args d) (λ m v alive.
    bind m (plain (steps.Binary Equal v c.result ∷ []) m alive) (λ l s valued.
    bind l (demand false l valued s) (λ j _ a.
    bind j (holding site f.post j (c.call.args ++ c.result ∷ []) a) (λ k _ e. implying k d e)))))
    done r hd1 ed
    (bind_made m1 m2 n (compile None site f.body (length m1.steps) c.call.args done)
    (λ m v alive. bind m (plain (steps.Binary Equal v c.result ∷ []) m alive) (λ l s valued.
    bind l (demand false l valued s) (λ j _ a.
    bind j (holding site f.post j (c.call.args ++ c.result ∷ []) a) (λ k _ e. implying k done e))))
    body r hb2
    (bind_made m2 m3 n (one (steps.Binary Equal body.out c.result) (length m2.steps) body.alive)
    (λ l s valued. bind l (demand false l valued s) (λ j _ a.
    bind j (holding site f.post j (c.call.args ++ c.result ∷ []) a) (λ k _ e. implying k done e)))
    same r hs
    (bind_made m3 m4 n (demand false (length m3.steps) same.alive same.out)
    (λ j _ a. bind j (holding site f.post j (c.call.args ++ c.result ∷ []) a) (λ k _ e. implying k done e))
    agreed r ha
    (bind_made m4 m5 n (holding site f.post (length m4.steps) (c.call.args ++ c.result ∷ []) agreed.alive)
    (λ k _ e. implying k done e) ends r hh2 hi))))

-- ---- two calls

pub agree_made : (c d : Standing) (true_one : ℕ) (o : Work) {m1 m2 m3 n : Work} {p q r xs ys : List ℕ}
    {same near : Ends}
    → xs ≡ c.call.args → ys ≡ d.call.args
    → IsMade o m1 (equal_all (length o.steps) xs ys true_one) same
    → IsMade m1 m2 (plain (steps.Both same.out c.call.reach ∷ steps.Both (length m1.steps) d.call.reach ∷ [])
    (suc (length m1.steps)) same.out) near
    → IsAdded m2 m3 p q (answering_alike (nat_eq c.call.wait d.call.wait) (length m2.steps) c d near.out)
    → IsAdded m3 n q r (equal_answers (length m3.steps) c d near.out)
    → IsAdded o n p r (agreeing (length o.steps) c d true_one)
agree_made c d true_one o {m1 = m1} {m2 = m2} {m3 = m3} {n = n} {p = p} {q = q} {r = r} {xs = xs} {ys = ys}
    {same = same} {near = near} ex ey hs hn ha he =
    let hs1 = subst (λ (l : List ℕ). IsMade o m1 (equal_all (length o.steps) l ys true_one) same) ex hs in
    let hs2 = subst (λ (l : List ℕ). IsMade o m1 (equal_all (length o.steps) c.call.args l true_one) same) ey hs1 in
    bind_added o m1 n p r (equal_all (length o.steps) c.call.args d.call.args true_one)
    (λ i s _. bind i (plain (steps.Both s c.call.reach ∷ steps.Both i d.call.reach ∷ []) (suc i) s) (λ m x _.
    bind m (answering_alike (nat_eq c.call.wait d.call.wait) m c d x) (λ j alike _.
    bind j (equal_answers j c d x) (λ k equal _. plain [] (alike ++ equal) s))))
    same hs2
    (bind_added m1 m2 n p r (plain (steps.Both same.out c.call.reach ∷ steps.Both (length m1.steps) d.call.reach ∷ [])
    (suc (length m1.steps)) same.out)
    (λ m x _. bind m (answering_alike (nat_eq c.call.wait d.call.wait) m c d x) (λ j alike _.
    bind j (equal_answers j c d x) (λ k equal _. plain [] (alike ++ equal) same.out)))
    near hn
    (added_join m2 m3 n p q r (answering_alike (nat_eq c.call.wait d.call.wait) (length m2.steps) c d near.out)
    (λ j. equal_answers j c d near.out) same.out ha he))

-- the pieces of two lists, one after another
record AreWith (k : ℕ) (c : Standing) (xs ys : List Standing) (true_one : ℕ) : Type 0 where
  steps : (agreeing_with k c (xs ++ ys) true_one).steps ≡ (agreeing_with k c xs true_one).steps
      ++ (agreeing_with (after k (agreeing_with k c xs true_one)) c ys true_one).steps
  fails : (agreeing_with k c (xs ++ ys) true_one).fails ≡ (agreeing_with k c xs true_one).fails
      ++ (agreeing_with (after k (agreeing_with k c xs true_one)) c ys true_one).fails
  out : (agreeing_with k c (xs ++ ys) true_one).out ≡ (agreeing_with k c xs true_one).out
      ++ (agreeing_with (after k (agreeing_with k c xs true_one)) c ys true_one).out

none_more : (k : ℕ) → k ≡ k + 0
none_more k = omega arith

-- the number after a piece, another, and nothing more
after_two : (k : ℕ) (xs ys : List Step) → (k + length xs) + length ys ≡ k + length (xs ++ (ys ++ []))
after_two k xs ys = omega (arith, length-append xs (ys ++ []), ap length (append-nil ys))

-- a piece between two others, with nothing behind the second
between : {A : Type 0} (f z x y : List A) → z ≡ x ++ y → f ++ (z ++ []) ≡ (f ++ (x ++ [])) ++ y
between f z x y e =
    ap (λ l. f ++ l) (append-nil z ∙ e) ∙ sym (append_assoc f x y)
    ∙ ap (λ l. (f ++ l) ++ y) (sym (append-nil x))

with_append : (k : ℕ) (c : Standing) (xs ys : List Standing) (true_one : ℕ) → AreWith k c xs ys true_one
with_append k c [] ys true_one =
    let e = none_more k in
    record {
      steps = ap (λ i. (agreeing_with i c ys true_one).steps) e;
      fails = ap (λ i. (agreeing_with i c ys true_one).fails) e;
      out = ap (λ i. (agreeing_with i c ys true_one).out) e;
    }
with_append k c (d ∷ xs) ys true_one =
    let F : Piece (List ℕ) = if nat_eq c.call.callee.0 d.call.callee.0 then agreeing k c d true_one
    else plain [] [] true_one in
    let n = after k F in
    let X = agreeing_with n c xs true_one in
    let h = with_append n c xs ys true_one in
    let Z = agreeing_with n c (xs ++ ys) true_one in
    let e : after n X ≡ k + length (F.steps ++ (X.steps ++ [])) = after_two k F.steps X.steps in
    let Y = λ (i : ℕ). agreeing_with i c ys true_one in
    record {
      steps = between F.steps Z.steps X.steps (Y (after n X)).steps h.steps
          ∙ ap (λ i. (F.steps ++ (X.steps ++ [])) ++ (Y i).steps) e;
      fails = between F.fails Z.fails X.fails (Y (after n X)).fails h.fails
          ∙ ap (λ i. (F.fails ++ (X.fails ++ [])) ++ (Y i).fails) e;
      out = ap (λ (l : List ℕ). F.out ++ l) h.out ∙ sym (append_assoc F.out X.out (Y (after n X)).out)
          ∙ ap (λ i. (F.out ++ X.out) ++ (Y i).out) e;
    }

pub with_both : (c : Standing) (xs ys : List Standing) (true_one : ℕ) (o m n : Work) (p q r : List ℕ)
    → IsAdded o m p q (agreeing_with (length o.steps) c xs true_one)
    → IsAdded m n q r (agreeing_with (length m.steps) c ys true_one)
    → IsAdded o n p r (agreeing_with (length o.steps) c (xs ++ ys) true_one)
with_both c xs ys true_one o m n p q r h g =
    let k = length o.steps in
    let X = agreeing_with k c xs true_one in
    let g1 = subst (λ i. IsAdded m n q r (agreeing_with i c ys true_one)) (end_is o m X h.written) g in
    let Y = agreeing_with (after k X) c ys true_one in
    let a = with_append k c xs ys true_one in
    let w = written_join o m n X Y h.written g1.written in
    record {
      written = record {
        steps = w.steps ∙ sym (ap (λ (l : List Step). o.steps ++ l) a.steps);
        fails = w.fails ∙ sym (ap (λ (l : List ℕ). o.fails ++ l) a.fails);
      };
      added = g1.added ∙ ap (λ (l : List ℕ). l ++ Y.out) h.added ∙ append_assoc p X.out Y.out
          ∙ sym (ap (λ (l : List ℕ). p ++ l) a.out);
    }

-- ---- rounds

pub grown_made : (functions : List Function) (round : ℕ) (g r : GuessSteps) (w0 w : Work) {u : List ℕ}
    {cs : List Standing} {last : ℕ}
    → w0.steps ≡ g.steps → cs ≡ calls_from 0 (standing 0 g.steps) → last ≡ length g.steps
    → IsAdded w0 w g.supposed u (all_unfolded functions round (length w0.steps) cs)
    → r ≡ with_agreement last (record {
      steps = w.steps;
      arguments = g.arguments;
      fails = g.fails;
      true_one = g.true_one;
      supposed = u;
    })
    → r ≡ grown functions round g
grown_made functions round g r w0 w {u = u} {cs = cs} {last = last} hw hc hl a hr =
    let k = length g.steps in
    let calls = standing 0 g.steps in
    let x = all_unfolded functions round k calls in
    let a1 = subst (λ (l : List Standing). IsAdded w0 w g.supposed u
    (all_unfolded functions round (length w0.steps) l)) (hc ∙ from_zero calls) a in
    let a2 = subst (λ i. IsAdded w0 w g.supposed u (all_unfolded functions round i calls)) (ap length hw) a1 in
    let with = λ (i : ℕ) (ss : List Step) (ns : List ℕ). with_agreement i (record {
      steps = ss;
      arguments = g.arguments;
      fails = g.fails;
      true_one = g.true_one;
      supposed = ns;
    }) in
    hr ∙ ap (λ i. with i w.steps u) hl
    ∙ ap (λ (l : List Step). with k l u) (a2.written.steps ∙ ap (λ (l : List Step). l ++ x.steps) hw)
    ∙ ap (λ (l : List ℕ). with k (g.steps ++ x.steps) l) a2.added
