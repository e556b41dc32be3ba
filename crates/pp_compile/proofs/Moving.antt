-- The steps of moves, as they are written.
use Rattle.std.proofs.Common.{◌≡◌, ◌∙◌, ℕ, suc, false, List, [], ◌∷◌, ◌++◌, length, Some, None, ap, subst}
use Rattle.pp_tree.specs.declared.operator.BinaryOp.TheVariants.{Equal}
use Rattle.pp_prog.specs.declared.expr.Function.{Function}
use Rattle.pp_steps.specs.declared.step.Step.TheVariants as steps
use Rattle.pp_steps.specs.Compile.{compile, one}
use Rattle.pp_steps.specs.Guesses.{Standing, asking, holding, implying}
use Rattle.pp_steps.specs.Piece.{bind, demand, plain}
use Rattle.pp_demand_steps.specs.Moves.{bodied_of, posted_of}
use Rattle.pp_compile.specs.declared.work.Ends.{Ends}
use Rattle.pp_compile.specs.declared.work.Work.{Work}
use Rattle.pp_compile.specs.Written.{IsMade, IsWritten}
use Rattle.pp_compile.proofs.Joining.{bind_made, bind_number}

pub body_made : (functions : List Function) (f : Function) (c : Standing) (o : Work) {m1 m2 m3 m4 n : Work}
    {given : List ℕ} {done wait : ℕ} {body same agreed r : Ends}
    → given ≡ c.call.args → wait ≡ suc c.call.wait
    → IsWritten o m1 (one (steps.Both c.call.reach c.has) done 0) → done ≡ length o.steps
    → IsMade m1 m2 (compile None (asking functions wait) f.body (length m1.steps) given done) body
    → IsMade m2 m3 (one (steps.Binary Equal body.out c.result) (length m2.steps) body.alive) same
    → IsMade m3 m4 (demand false (length m3.steps) same.alive same.out) agreed
    → IsMade m4 n (implying (length m4.steps) done agreed.alive) r
    → IsMade o n (bodied_of functions (Some f) (length o.steps) c) r
body_made functions f c o {m1 = m1} {m2 = m2} {m3 = m3} {m4 = m4} {n = n} {given = given} {done = done} {wait = wait}
    {body = body} {same = same} {agreed = agreed} {r = r} eg ew hd ed hb hs ha hi =
    let site = asking functions (suc c.call.wait) in
    let hb1 = subst (λ w. IsMade m1 m2 (compile None (asking functions w) f.body (length m1.steps) given done) body)
    ew hb in
    let hb2 = subst (λ (l : List ℕ). IsMade m1 m2 (compile None site f.body (length m1.steps) l done) body) eg hb1 in
    let hd1 : IsWritten o m1 (plain (steps.Both c.call.reach c.has ∷ []) (length o.steps) (length o.steps)) =
    record { steps = hd.steps; fails = hd.fails } in
    bind_number o m1 n (plain (steps.Both c.call.reach c.has ∷ []) (length o.steps) (length o.steps))
    (λ i d _. bind i (compile None site f.body i c.call.args d) (λ m v alive.
    bind m (plain (steps.Binary Equal v c.result ∷ []) m alive) (λ l s valued.
    bind l (demand false l valued s) (λ j _ a. implying j d a))))
    done r hd1 ed
    (bind_made m1 m2 n (compile None site f.body (length m1.steps) c.call.args done)
    (λ m v alive. bind m (plain (steps.Binary Equal v c.result ∷ []) m alive) (λ l s valued.
    bind l (demand false l valued s) (λ j _ a. implying j done a)))
    body r hb2
    (bind_made m2 m3 n (one (steps.Binary Equal body.out c.result) (length m2.steps) body.alive)
    (λ l s valued. bind l (demand false l valued s) (λ j _ a. implying j done a))
    same r hs
    (bind_made m3 m4 n (demand false (length m3.steps) same.alive same.out) (λ j _ a. implying j done a) agreed r ha
    hi)))

pub post_made : (functions : List Function) (f : Function) (c : Standing) (o : Work) {m1 m2 n : Work}
    {given values : List ℕ} {done wait : ℕ} {ends r : Ends}
    → given ≡ c.call.args → wait ≡ suc c.call.wait
    → IsWritten o m1 (one (steps.Both c.call.reach c.has) done 0) → done ≡ length o.steps
    → values ≡ given ++ c.result ∷ []
    → IsMade m1 m2 (holding (asking functions wait) f.post (length m1.steps) values done) ends
    → IsMade m2 n (implying (length m2.steps) done ends.alive) r
    → IsMade o n (posted_of functions (Some f) (length o.steps) c) r
post_made functions f c o {m1 = m1} {m2 = m2} {n = n} {given = given} {values = values} {done = done} {wait = wait}
    {ends = ends} {r = r} eg ew hd ed ev hh hi =
    let site = asking functions (suc c.call.wait) in
    let hh1 = subst (λ w. IsMade m1 m2 (holding (asking functions w) f.post (length m1.steps) values done) ends) ew hh
    in
    let hh2 = subst (λ (l : List ℕ). IsMade m1 m2 (holding site f.post (length m1.steps) l done) ends)
    (ev ∙ ap (λ (l : List ℕ). l ++ c.result ∷ []) eg) hh1 in
    let hd1 : IsWritten o m1 (plain (steps.Both c.call.reach c.has ∷ []) (length o.steps) (length o.steps)) =
    record { steps = hd.steps; fails = hd.fails } in
    bind_number o m1 n (plain (steps.Both c.call.reach c.has ∷ []) (length o.steps) (length o.steps))
    (λ i d _. bind i (holding site f.post i (c.call.args ++ c.result ∷ []) d) (λ k _ e. implying k d e))
    done r hd1 ed
    (bind_made m1 m2 n (holding site f.post (length m1.steps) (c.call.args ++ c.result ∷ []) done)
    (λ k _ e. implying k done e) ends r hh2 hi)
