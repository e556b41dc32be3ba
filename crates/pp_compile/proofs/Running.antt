-- The steps of a run, as they are written.
use Rattle.std.proofs.Common.{◌≡◌, ℕ, ◌+◌, List, [], ◌∷◌, ◌++◌, length, Option, Some, None, refl, ap, ◌∙◌, subst}
use Rattle.std.proofs.Common.{append_assoc}
use Rattle.pp_prog.specs.declared.expr.Expr.{Expr}
use Rattle.pp_prog.specs.declared.expr.Function.{Function}
use Rattle.pp_prog.specs.declared.expr.Param.{Param}
use Rattle.pp_prog.specs.declared.id.CheckId.{CheckId}
use Rattle.pp_prog.specs.Sorts.{param_sorts}
use Rattle.pp_steps.specs.declared.step.Step.{Step}
use Rattle.pp_steps.specs.declared.step.Step.TheVariants as steps
use Rattle.pp_steps.specs.Compile.{Site, compile}
use Rattle.pp_steps.specs.Frames.{Frame, allowing, any_of, arguments, finishing, measuring, running}
use Rattle.pp_steps.specs.Frames.{starting}
use Rattle.pp_steps.specs.Guesses.{GuessSteps}
use Rattle.pp_steps.specs.Piece.{after, bind}
use Rattle.pp_compile.specs.declared.work.Ends.{Ends}
use Rattle.pp_compile.specs.declared.work.Framed.{Framed}
use Rattle.pp_compile.specs.declared.work.Lists.{Lists}
use Rattle.pp_compile.specs.declared.work.Work.{Work}
use Rattle.pp_compile.specs.Guessed.{guess_of, whole_run}
use Rattle.pp_compile.specs.Written.{AreMade, IsFramed, IsMade, IsWritten}
use Rattle.pp_compile.proofs.Joining.{bind_frame, bind_made, end_is}

pub start_made : (calls : Frame
    → Site) (asked : Option CheckId) (f : Function) (o : Work) (args : List ℕ) (reach : ℕ) {m l n : Work}
    {inner last values : List ℕ} {ms : List Expr} {new : Framed} {x r : Ends}
    → ms ≡ f.measure → IsFramed o m (measuring asked (calls None) ms (length o.steps) args reach) new → inner ≡ args
    → IsMade m l (compile asked (calls new.frame) f.body (length m.steps) inner new.alive) x → last ≡ inner
    → values ≡ last ++ x.out ∷ []
    → IsMade l n (finishing asked (calls new.frame) f.post (length l.steps) values x.alive) r
    → IsMade o n (starting calls asked f (length o.steps) args reach) r
start_made calls asked f o args reach {m = m} {l = l} {n = n} {inner = inner} {last = last} {values = values}
    {ms = ms} {new = new} {x = x} {r = r} e hm e1 hb e2 e3 hf =
    bind_frame o m n (measuring asked (calls None) f.measure (length o.steps) args reach)
    (λ i fr a. bind i (compile asked (calls fr) f.body i args a)
    (λ j v going. finishing asked (calls fr) f.post j (args ++ v ∷ []) going)) new r
    (subst (λ (z : List Expr). IsFramed o m (measuring asked (calls None) z (length o.steps) args reach) new) e hm)
    (bind_made m l n (compile asked (calls new.frame) f.body (length m.steps) args new.alive)
    (λ j v going. finishing asked (calls new.frame) f.post j (args ++ v ∷ []) going) x r
    (subst (λ (z : List ℕ). IsMade m l (compile asked (calls new.frame) f.body (length m.steps) z new.alive) x) e1 hb)
    (subst (λ (z : List ℕ). IsMade l n (finishing asked (calls new.frame) f.post (length l.steps) z x.alive) r)
    (e3 ∙ ap (λ (z : List ℕ). z ++ x.out ∷ []) (e2 ∙ e1)) hf))

pub run_made : (calls : Frame
    → Site) (asked : Option CheckId) (f : Function) (o : Work) (args : List ℕ) (reach : ℕ) {m n : Work}
    {inner : List ℕ} {allowed r : Ends}
    → IsMade o m (allowing asked (calls None) f.pre (length o.steps) args reach) allowed → inner ≡ args
    → IsMade m n (starting calls asked f (length m.steps) inner allowed.alive) r
    → IsMade o n (running calls asked f (length o.steps) args reach) r
run_made calls asked f o args reach {m = m} {n = n} {inner = inner} {allowed = allowed} {r = r} ha e hs =
    bind_made o m n (allowing asked (calls None) f.pre (length o.steps) args reach)
    (λ i u going. starting calls asked f i args going) allowed r ha
    (subst (λ (z : List ℕ). IsMade m n (starting calls asked f (length m.steps) z allowed.alive) r) e hs)

-- what tells that the numbers stand doesn't count
any_same : (ks : List ℕ) (k a b : ℕ)
    → ((any_of ks k a).steps ≡ (any_of ks k b).steps) × ((any_of ks k a).out ≡ (any_of ks k b).out)
any_same [] k a b = (refl, refl)
any_same (x ∷ []) k a b = (refl, refl)
any_same (x ∷ y ∷ ks) k a b =
    let h = any_same (y ∷ ks) k a b in (
      ap (λ (l : List Step). l ++ steps.Choose x x (any_of (y ∷ ks) k a).out ∷ []) h.0
          ∙ ap (λ i. (any_of (y ∷ ks) k b).steps ++ steps.Choose x x i ∷ []) h.1,
      ap (λ (l : List Step). k + length l) h.0,
    )

-- what a guess run is
abbrev guess : List Step → List ℕ → ℕ → ℕ → List ℕ → GuessSteps
guess s a f t u = record { steps = s; arguments = a; fails = f; true_one = t; supposed = u }

guess_same : {s s1 : List Step} {a a1 u u1 : List ℕ} {f f1 t t1 : ℕ}
    → s ≡ s1 → a ≡ a1 → f ≡ f1 → t ≡ t1 → u ≡ u1 → guess s a f t u ≡ guess s1 a1 f1 t1 u1
guess_same e1 e2 e3 e4 e5 = cc

-- the run of which the answer is made, with the number that is true
pub whole_made : (calls : Frame → Site) (f : Function) (check : CheckId) {w0 w1 w2 w3 w4 : Work} {args : Lists}
    {e : Ends} {given fl none : List ℕ} {found : ℕ} {ps : List Param}
    → w0.steps ≡ [] → w0.fails ≡ [] → ps ≡ f.params → AreMade w0 w1 (arguments (param_sorts ps)) args
    → IsMade w1 w2 (running calls (Some check) f (length w1.steps) args.out args.alive) e → given ≡ args.out
    → w3.steps ≡ w2.steps → fl ≡ w2.fails
    → IsWritten w3 w4 (any_of fl (length w3.steps) 0) → found ≡ (any_of fl (length w3.steps) 0).out → none ≡ []
    → guess_of (record {
      steps = w4.steps;
      arguments = given;
      fails = found;
      true_one = args.alive;
      supposed = none;
    }) ≡ whole_run calls check f
whole_made calls f check {w0 = w0} {w1 = w1} {w2 = w2} {w3 = w3} {w4 = w4} {args = args} {e = e}
    {given = given} {fl = fl} {none = none} {found = found} {ps = ps} z0 y0 hp ha0 hr g h3 hf hw hn hs =
    let A = arguments (param_sorts f.params) in
    let ha = subst (λ (l : List Param). AreMade w0 w1 (arguments (param_sorts l)) args) hp ha0 in
    let run = λ (i : ℕ) (as' : List ℕ) (a : ℕ). running calls (Some check) f i as' a in
    let e1 : length w1.steps ≡ after 0 A = end_is w0 w1 A ha.written ∙ ap (λ (l : List Step). after (length l) A) z0 in
    let R = run (after 0 A) A.out A.alive in
    let r1 = subst (λ i. IsMade w1 w2 (run i args.out args.alive) e) e1 hr in
    let r2 = subst (λ (l : List ℕ). IsMade w1 w2 (run (after 0 A) l args.alive) e) ha.out r1 in
    let r3 = subst (λ i. IsMade w1 w2 (run (after 0 A) A.out i) e) ha.alive r2 in
    let s1 : w1.steps ≡ A.steps = ha.written.steps ∙ ap (λ (l : List Step). l ++ A.steps) z0 in
    let f1 : w1.fails ≡ [] = ha.written.fails ∙ ap (λ (l : List ℕ). l ++ []) y0 in
    let f2 : fl ≡ R.fails = hf ∙ r3.written.fails ∙ ap (λ (l : List ℕ). l ++ R.fails) f1 in
    let s2 : w3.steps ≡ A.steps ++ R.steps = h3 ∙ r3.written.steps ∙ ap (λ (l : List Step). l ++ R.steps) s1 in
    let k = after (after 0 A) R in
    let e2 : length w3.steps ≡ k = ap length h3 ∙ end_is w1 w2 R r3.written ∙ ap (λ i. after i R) e1 in
    let F = any_of R.fails k A.alive in
    let same = any_same R.fails k 0 A.alive in
    let to = ap (λ i. (any_of fl i 0).steps) e2 ∙ ap (λ (l : List ℕ). (any_of l k 0).steps) f2 ∙ same.0 in
    let steps : w4.steps ≡ A.steps ++ (R.steps ++ F.steps) =
    hw.steps ∙ ap (λ (l : List Step). l ++ (any_of fl (length w3.steps) 0).steps) s2 ∙ ap
    (λ (l : List Step). (A.steps ++ R.steps) ++ l) to ∙ append_assoc A.steps R.steps F.steps in
    let arguments : given ≡ A.out = g ∙ ha.out in
    let fails : found ≡ F.out = hn ∙ ap (λ i. (any_of fl i 0).out) e2 ∙ ap (λ (l : List ℕ). (any_of l k 0).out) f2
    ∙ same.1 in
    let true_one : args.alive ≡ A.alive = ha.alive in
    guess_same steps arguments fails true_one hs
