-- A run over other calls ends as it did where these keep the values and some of the stops of the first ones.
use Rattle.std.proofs.Common.{◌≤◌, ℕ, Bool, true, false, List, [], ◌∷◌, ◌++◌, map, Option, Some, None, Ok, Err, refl}
use Rattle.std.proofs.Common.{sym}
use Rattle.std.proofs.Common.{ap, subst, arith}
use Rattle.std.specs.Prelude.{slice_get}
use Rattle.pp_prog.specs.declared.expr.Expr.{Expr}
use Rattle.pp_prog.specs.declared.expr.Function.{Function}
use Rattle.pp_prog.specs.declared.id.CheckId.{CheckId}
use Rattle.pp_prog.specs.declared.id.FunctionId.{FunctionId}
use Rattle.pp_prog.specs.declared.types.Ctor.{Ctor}
use Rattle.pp_prog.specs.declared.value.Value.{Value}
use Rattle.pp_eval.specs.declared.outcome.Outcome.TheVariants.{Done, Outside}
use Rattle.pp_eval.specs.declared.outcome.Stop.{Stop}
use Rattle.pp_eval.specs.declared.outcome.Stop.TheVariants as stop
use Rattle.pp_eval.specs.Invocation.{admits, allowed, descends, frame_of}
use Rattle.pp_eval.specs.Meaning.{CallMeaning, Frame, all_from, meaning}
use Rattle.pp_eval.specs.Operators.{truth}
use Rattle.pp_eval.specs.Part.{Part, and_then, either, failed, inside}
use Rattle.pp_eval.specs.Runs.{finished, run_with, started}
use Rattle.pp_run_laws.proofs.ExprFollows.{expr_follows}
use Rattle.pp_run_laws.proofs.Follows.{Follows, Kept}
use Rattle.pp_guess_runs.specs.Guess.{compared, is_check, own_call}
use Rattle.pp_guess_steps.proofs.FuelsAgree.{AnyStop, any_closed}

-- of the stops, those in S are kept
module _ (S : Stop → Type 0) (inner : (g : FunctionId) (c : CheckId) → S (stop.Inner g c) → S (stop.Fails c)) where
  abbrev pub Keeps : {A : Type 0} → Part A → Part A → Type 0
  Keeps p q = Kept AnyStop S p q

  keep_same : {A : Type 0} (p : Part A) → Keeps p p
  keep_same (Ok a) = refl
  keep_same (Err x) = (tt, λ s. refl)

  keep_then : {A B : Type 0} (p q : Part A) (go on : A → Part B) → Keeps p q → ((a : A) → Keeps (go a) (on a))
      → Keeps (and_then p go) (and_then q on)
  keep_then (Ok a) q go on h k = subst (λ z. Keeps (go a) (and_then z on)) (sym h) (k a)
  keep_then (Err x) q go on h k = (tt, λ s. ap (λ z. and_then z on) (h.1 s))

  keep_inside : {A : Type 0} (g : FunctionId) (p q : Part A) → Keeps p q → Keeps (inside g p) (inside g q)
  keep_inside g (Ok a) q h = ap (inside g) h
  keep_inside g (Err (stop.Fails c)) q h = (tt, λ s. ap (inside g) (h.1 (inner g c s)))
  keep_inside g (Err (stop.Inner f c)) q h = (tt, λ s. ap (inside g) (h.1 s))
  keep_inside g (Err stop.Deep) q h = (tt, λ s. ap (inside g) (h.1 s))
  keep_inside g (Err stop.Stuck) q h = (tt, λ s. ap (inside g) (h.1 s))

  keep_either : {A : Type 0} (t : Bool) (a b c d : Part A) → Keeps a b → Keeps c d → Keeps (either t a c) (either t b d)
  keep_either true a b c d h k = h
  keep_either false a b c d h k = k

  -- calls of which values and own failures are kept
  abbrev pub CallsKeep : CallMeaning → CallMeaning → Type 0
  CallsKeep c d = (frame : Frame) (g : FunctionId) (pre down : Option CheckId) (args : List Value)
      → Keeps (c frame g pre down args) (d frame g pre down args)

  self : (n : ℕ) → n ≤ n
  self n = omega arith

  module _ (c d : CallMeaning) (keep : CallsKeep c d) where
    pub expr_keeps : (e : Expr) (frame : Frame) (env : List Value)
        → Keeps (meaning c e frame env) (meaning d e frame env)
    expr_keeps e frame env =
        let h : Follows AnyStop S (meaning c e frame env) (λ m. meaning d e frame env) =
        expr_follows AnyStop S any_closed c (λ m. d) frame frame e
        (λ g has pre down args. record { from = 0; kept = λ m le. keep frame g pre down args }) env in
        h.kept h.from (self h.from)

    allowed_keeps : (pre : Option Expr) (args : List Value) → Keeps (allowed c pre args) (allowed d pre args)
    allowed_keeps None args = refl
    allowed_keeps (Some pre) args =
        keep_then (meaning c pre None args) (meaning d pre None args) truth truth (expr_keeps pre None args)
        (λ v. keep_same (truth v))

    list_keeps : (es : List Expr) (done : List Value) (args : List Value)
        → Keeps (all_from done (map (meaning c) es) None args) (all_from done (map (meaning d) es) None args)
    list_keeps [] done args = refl
    list_keeps (e ∷ es) done args = keep_then (meaning c e None args) (meaning d e None args) _ _
        (expr_keeps e None args)
        (λ v. list_keeps es (done ++ v ∷ []) args)

    frame_keeps : (es : List Expr) (args : List Value) → Keeps (frame_of c es args) (frame_of d es args)
    frame_keeps [] args = refl
    frame_keeps (e ∷ es) args = keep_then (all_from [] (map (meaning c) (e ∷ es)) None args)
        (all_from [] (map (meaning d) (e ∷ es)) None args) _ _ (list_keeps (e ∷ es) [] args) (λ vs. refl)

    admits_keeps : (g : FunctionId) (pre : Option Expr) (check : Option CheckId) (args : List Value)
        → Keeps (admits c g pre check args) (admits d g pre check args)
    admits_keeps g pre check args = keep_then (inside g (allowed c pre args)) (inside g (allowed d pre args)) _ _
        (keep_inside g _ _ (allowed_keeps pre args)) (λ t. keep_same (either t (Ok tt) (failed check)))

    finished_keeps : (post : Option (CheckId × Expr)) (frame : Frame) (args : List Value) (v : Value)
        → Keeps (finished c post frame args v) (finished d post frame args v)
    finished_keeps None frame args v = refl
    finished_keeps (Some post) frame args v =
        keep_then (meaning c post.1 frame (args ++ v ∷ [])) (meaning d post.1 frame (args ++ v ∷ [])) _ _
        (expr_keeps post.1 frame (args ++ v ∷ []))
        (λ p. keep_same (and_then (truth p) (λ t. either t (Ok (Done v)) (Err (stop.Fails post.0)))))

    started_keeps : (f : Function) (args : List Value) → Keeps (started c f args) (started d f args)
    started_keeps f args = keep_then (frame_of c f.measure args) (frame_of d f.measure args) _ _
        (frame_keeps f.measure args)
        (λ frame. keep_then (meaning c f.body frame args) (meaning d f.body frame args) _ _
        (expr_keeps f.body frame args)
        (λ v. finished_keeps f.post frame args v))

    -- a run keeps its end and the failure of an own check
    pub run_keeps : (f : Function) (args : List Value) → Keeps (run_with c f args) (run_with d f args)
    run_keeps f args = keep_then (allowed c f.pre args) (allowed d f.pre args) _ _ (allowed_keeps f.pre args)
        (λ t. keep_either t _ _ _ _ (started_keeps f args) (keep_same (Ok Outside)))

  -- calls from the own frame
  module _ (ctors : List Ctor) (fs : List Function) (c : CheckId) (old_con old_out con out : CallMeaning)
      (con_keep : CallsKeep old_con con) (out_keep : CallsKeep old_out out) where
    pub own_keep : (frame : Frame) (g : FunctionId) (pre down : Option CheckId) (args : List Value)
        → Keeps (own_call ctors c old_con old_out (slice_get fs g.0) frame g pre down args)
        (own_call ctors c con out (slice_get fs g.0) frame g pre down args)
    own_keep frame g pre down args = by (slice_get fs g.0)
      where
        by : (o : Option Function) → Keeps (own_call ctors c old_con old_out o frame g pre down args)
            (own_call ctors c con out o frame g pre down args)
        by None = (tt, λ s. refl)
        by (Some f) = keep_then (admits old_con g f.pre pre args) (admits con g f.pre pre args) _ _
            (admits_keeps old_con con con_keep g f.pre pre args)
            (λ u. keep_then (compared ctors c old_con f.measure g down frame args)
            (compared ctors c con f.measure g down frame args) _ _
            (keep_either (is_check c down) _ _ _ _
            (keep_then (inside g (frame_of old_con f.measure args))
            (inside g (frame_of con f.measure args)) _ _
            (keep_inside g _ _ (frame_keeps old_con con con_keep f.measure args))
            (λ new. keep_same (descends ctors down frame new))) (keep_same (Ok tt)))
            (λ u2. out_keep frame g pre down args))
