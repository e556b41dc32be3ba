-- Pieces that were written one after another.
use Rattle.std.proofs.Common.{◌≡◌, IfOk, Result, Ok, Err, ℕ, suc, ◌+◌, List, [], ◌∷◌, ◌++◌, length, Option, Some, None}
use Rattle.std.proofs.Common.{sym, ap, ◌∙◌, subst, append_assoc, length-append}
use Rattle.pp_tree.specs.declared.operator.BinaryOp.TheVariants.{Equal}
use Rattle.pp_prog.specs.declared.expr.Expr.{Expr}
use Rattle.pp_prog.specs.declared.expr.Function.{Function}
use Rattle.pp_prog.specs.declared.id.CheckId.{CheckId}
use Rattle.pp_steps.specs.declared.step.Step.{Step}
use Rattle.pp_steps.specs.declared.step.Step.TheVariants as steps
use Rattle.pp_steps.specs.Compile.{Site, compile, one}
use Rattle.pp_steps.specs.Frames.{Frame, admitting, descending, entering, falling, measuring}
use Rattle.pp_steps.specs.Piece.{Piece, after, bind, joined, plain}
use Rattle.pp_compile.specs.declared.work.Ends.{Ends}
use Rattle.pp_compile.specs.declared.work.Framed.{Framed}
use Rattle.pp_compile.specs.declared.work.Lists.{Lists}
use Rattle.pp_compile.specs.declared.work.Work.{Work}
use Rattle.pp_compile.specs.Written.{AreMade, IsFramed, IsMade, IsWritten}

pub written_join : {A B : Type 0} (a b c : Work) (x : Piece A) (y : Piece B) → IsWritten a b x → IsWritten b c y
    → IsWritten a c (joined x y)
written_join a b c x y h g = record {
  steps = g.steps ∙ ap (λ (l : List Step). l ++ y.steps) h.steps ∙ append_assoc a.steps x.steps y.steps;
  fails = g.fails ∙ ap (λ (l : List ℕ). l ++ y.fails) h.fails ∙ append_assoc a.fails x.fails y.fails;
}

pub end_is : {A : Type 0} (a b : Work) (x : Piece A) → IsWritten a b x → length b.steps ≡ after (length a.steps) x
end_is a b x h = ap length h.steps ∙ length-append a.steps x.steps

pub made_join : {A : Type 0} (a b c : Work) (x : Piece A) (y : Piece ℕ) (r : Ends) → IsWritten a b x
    → IsMade b c y r → IsMade a c (joined x y) r
made_join a b c x y r h g = record { written = written_join a b c x y h g.written; out = g.out; alive = g.alive }

pub fall_made : (o a b m n : Work) (x z y : ℕ) (xs ys : List ℕ) (alive down same : ℕ) (rest r : Ends)
    → IsWritten o a (one (steps.GoesDown x y) down 0) → down ≡ length o.steps
    → IsWritten a b (one (steps.Binary Equal x y) same 0) → same ≡ length a.steps
    → IsMade b m (falling (z ∷ xs) ys (length b.steps) alive) rest
    → IsMade m n (plain (steps.Both same rest.out ∷ steps.Choose down down (length m.steps) ∷ [])
    (suc (length m.steps)) alive) r
    → IsMade o n (falling (x ∷ z ∷ xs) (y ∷ ys) (length o.steps) alive) r
fall_made o a b m n x z y xs ys alive down same rest r h1 e1 h2 e2 hr hl =
    let k = length o.steps in
    let p : Piece ℕ = plain (steps.GoesDown x y ∷ steps.Binary Equal x y ∷ []) k alive in
    let both = written_join o a b (one (steps.GoesDown x y) down 0) (one (steps.Binary Equal x y) same 0) h1 h2 in
    let hp : IsWritten o b p = record { steps = both.steps; fails = both.fails } in
    let eb = end_is o b p hp in
    let q = falling (z ∷ xs) ys (after k p) alive in
    let hq : IsMade b m q rest = subst (λ i. IsMade b m (falling (z ∷ xs) ys i alive) rest) eb hr in
    let em = end_is b m q hq.written ∙ ap (λ i. after i q) eb in
    let is_same : same ≡ suc k = e2 ∙ end_is o a (one (steps.GoesDown x y) down 0) h1 ∙ plus_one k in
    let last = λ (s d i out : ℕ). IsMade m n (plain (steps.Both s out ∷ steps.Choose d d i ∷ []) (suc i) alive) r in
    let hl1 : last (suc k) k (after (after k p) q) q.out =
    subst (λ s. last s k (after (after k p) q) q.out) is_same
    (subst (λ d. last same d (after (after k p) q) q.out) e1
    (subst (λ i. last same down i q.out) em (subst (λ out. last same down (length m.steps) out) hq.out hl))) in
    made_join o b n p (joined q
    (plain (steps.Both (suc k) q.out ∷ steps.Choose k k (after (after k p) q) ∷ [])
    (suc (after (after k p) q)) alive)) r hp
    (made_join b m n q (plain (steps.Both (suc k) q.out ∷ steps.Choose k k (after (after k p) q) ∷ [])
    (suc (after (after k p) q)) alive) r hq.written hl1)
  where
    plus_one : (i : ℕ) → i + 1 ≡ suc i
    plus_one i = omega Rattle.std.proofs.Common.arith

pub ok_map : {A E : Type 0} {P Q : A → Type 0} (r : Result A E) → IfOk r P → ((a : A) → P a → Q a) → IfOk r Q
ok_map (Ok a) h k = k a h
ok_map (Err e) h k = h

pub bind_made : (o m n : Work) (x : Piece ℕ) (go : ℕ → ℕ → ℕ → Piece ℕ) (p r : Ends) → IsMade o m x p
    → IsMade m n (go (length m.steps) p.out p.alive) r → IsMade o n (bind (length o.steps) x go) r
bind_made o m n x go p r h g =
    let k = after (length o.steps) x in
    let g1 = subst (λ i. IsMade m n (go i p.out p.alive) r) (end_is o m x h.written) g in
    let g2 = subst (λ i. IsMade m n (go k i p.alive) r) h.out g1 in
    let g3 = subst (λ i. IsMade m n (go k x.out i) r) h.alive g2 in
    made_join o m n x (go k x.out x.alive) r h.written g3

pub bind_many : (o m n : Work) (x : Piece (List ℕ)) (go : ℕ → List ℕ → ℕ → Piece ℕ) (p : Lists) (r : Ends)
    → AreMade o m x p
    → IsMade m n (go (length m.steps) p.out p.alive) r → IsMade o n (bind (length o.steps) x go) r
bind_many o m n x go p r h g =
    let k = after (length o.steps) x in
    let g1 = subst (λ i. IsMade m n (go i p.out p.alive) r) (end_is o m x h.written) g in
    let g2 = subst (λ (i : List ℕ). IsMade m n (go k i p.alive) r) h.out g1 in
    let g3 = subst (λ i. IsMade m n (go k x.out i) r) h.alive g2 in
    made_join o m n x (go k x.out x.alive) r h.written g3

pub bind_number : (o m n : Work) (x : Piece ℕ) (go : ℕ → ℕ → ℕ → Piece ℕ) (t : ℕ) (r : Ends) → IsWritten o m x
    → t ≡ x.out
    → IsMade m n (go (length m.steps) t x.alive) r → IsMade o n (bind (length o.steps) x go) r
bind_number o m n x go t r h e g =
    let k = after (length o.steps) x in
    let g1 = subst (λ i. IsMade m n (go i t x.alive) r) (end_is o m x h) g in
    let g2 = subst (λ i. IsMade m n (go k i x.alive) r) e g1 in
    made_join o m n x (go k x.out x.alive) r h g2

pub bind_frame : (o m n : Work) (x : Piece Frame) (go : ℕ → Frame → ℕ → Piece ℕ) (p : Framed) (r : Ends)
    → IsFramed o m x p
    → IsMade m n (go (length m.steps) p.frame p.alive) r → IsMade o n (bind (length o.steps) x go) r
bind_frame o m n x go p r h g =
    let k = after (length o.steps) x in
    let g1 = subst (λ i. IsMade m n (go i p.frame p.alive) r) (end_is o m x h.written) g in
    let g2 = subst (λ (i : Frame). IsMade m n (go k i p.alive) r) h.out g1 in
    let g3 = subst (λ i. IsMade m n (go k x.out i) r) h.alive g2 in
    made_join o m n x (go k x.out x.alive) r h.written g3

-- a call of a function, by its parts
pub enter_made : (sites : Option CheckId → Frame
    → Site) (asked : Option CheckId) (frame : Frame) (f : Function) (pre down : Option CheckId)
    (o : Work) (args : List ℕ)
    (reach : ℕ) {m l w n : Work} {inner last : List ℕ} {ms : List Expr} {allowed entered r : Ends} {new : Framed}
    → IsMade o m (admitting asked (sites None None) f.pre pre (length o.steps) args reach) allowed → inner ≡ args
    → ms ≡ f.measure
    → IsFramed m l (measuring None (sites None None) ms (length m.steps) inner allowed.alive) new → last ≡ inner
    → IsMade l w (descending asked down frame new.frame (length l.steps) new.alive) entered
    → IsMade w n (compile None (sites None new.frame) f.body (length w.steps) last entered.alive) r
    → IsMade o n (entering (sites None) asked frame (Some f) (length o.steps) reach pre down args) r
enter_made sites asked frame f pre down o args reach {m = m} {l = l} {w = w} {n = n} {inner = inner} {last = last}
    {ms = ms} {allowed = allowed} {entered = entered} {r = r} {new = new} ha e1 e2 hm e3 hd hb =
    bind_made o m n (admitting asked (sites None None) f.pre pre (length o.steps) args reach)
    (λ i u a1. bind i (measuring None (sites None None) f.measure i args a1)
    (λ j fr a2. bind j (descending asked down frame fr j a2)
    (λ k v a3. compile None (sites None fr) f.body k args a3)))
    allowed r ha
    (bind_frame m l n (measuring None (sites None None) f.measure (length m.steps) args allowed.alive)
    (λ j fr a2. bind j (descending asked down frame fr j a2)
    (λ k v a3. compile None (sites None fr) f.body k args a3)) new r
    (subst (λ (z : List Expr). IsFramed m l
    (measuring None (sites None None) z (length m.steps) args allowed.alive) new) e2
    (subst (λ (z : List ℕ). IsFramed m l
    (measuring None (sites None None) ms (length m.steps) z allowed.alive) new) e1 hm))
    (bind_made l w n (descending asked down frame new.frame (length l.steps) new.alive)
    (λ k v a3. compile None (sites None new.frame) f.body k args a3) entered r hd
    (subst (λ (z : List ℕ). IsMade w n
    (compile None (sites None new.frame) f.body (length w.steps) z entered.alive) r) (e3 ∙ e1) hb)))

pub fall_arm : (o : Work) (new old : List ℕ)
    (alive : ℕ) {a b m n : Work} {x z y down same : ℕ} {ws xs ys : List ℕ} {rest r : Ends}
    → new ≡ x ∷ ws → ws ≡ z ∷ xs → old ≡ y ∷ ys
    → IsWritten o a (one (steps.GoesDown x y) down 0) → down ≡ length o.steps
    → IsWritten a b (one (steps.Binary Equal x y) same 0) → same ≡ length a.steps
    → IsMade b m (falling ws ys (length b.steps) alive) rest
    → IsMade m n (plain (steps.Both same rest.out ∷ steps.Choose down down (length m.steps) ∷ [])
    (suc (length m.steps)) alive) r
    → IsMade o n (falling new old (length o.steps) alive) r
fall_arm o new old alive {a = a} {b = b} {m = m} {n = n} {x = x} {z = z} {y = y} {down = down} {same = same}
    {ws = ws} {xs = xs} {ys = ys} {rest = rest} {r = r} e f g h1 e1 h2 e2 hr hl =
    subst (λ (l : List ℕ). IsMade o n (falling l old (length o.steps) alive) r)
    (sym (e ∙ ap (λ (l : List ℕ). x ∷ l) f))
    (subst (λ (l : List ℕ). IsMade o n (falling (x ∷ z ∷ xs) l (length o.steps) alive) r) (sym g)
    (fall_made o a b m n x z y xs ys alive down same rest r h1 e1 h2 e2
    (subst (λ (l : List ℕ). IsMade b m (falling l ys (length b.steps) alive) rest) f hr) hl))
