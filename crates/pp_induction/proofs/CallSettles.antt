-- A call whose precondition is true and whose own calls are known has a value: the body's, of which the postcondition
-- is true.
use Rattle.std.proofs.Common.{◌≡◌, ℕ, zero, suc, Bool, true, false, List, [], ◌∷◌, ◌++◌, Option, Some, None, Ok, Err}
use Rattle.std.proofs.Common.{map, refl, sym, ap, ◌∙◌, subst, arith}
use Rattle.pp_list.specs.Joined.{joined}
use Rattle.pp_prog.specs.declared.expr.Expr.{Expr}
use Rattle.pp_prog.specs.declared.expr.Function.{Function}
use Rattle.pp_prog.specs.declared.id.CheckId.{CheckId}
use Rattle.pp_prog.specs.declared.id.FunctionId.{FunctionId}
use Rattle.pp_prog.specs.declared.program.Program.{Program}
use Rattle.pp_prog.specs.declared.value.Value.{Value}
use Rattle.pp_prog.specs.Calls.{calls, function_calls, post_calls, pre_calls}
use Rattle.pp_prog.specs.ExprSorts.{is_sorted_post}
use Rattle.pp_prog.specs.Listing.{post_sites}
use Rattle.pp_prog.specs.Sorts.{param_sorts}
use Rattle.pp_eval.specs.declared.outcome.Outcome.TheVariants.{Done, Outside}
use Rattle.pp_eval.specs.declared.outcome.Stop.TheVariants as stop
use Rattle.pp_eval.specs.Invocation.{calls_to}
use Rattle.pp_eval.specs.Meaning.{CallMeaning, Frame, meaning}
use Rattle.pp_eval.specs.Operators.{truth}
use Rattle.pp_eval.specs.Part.{Part, and_then, either, inside}
use Rattle.pp_eval.specs.Runs.{finished, run, run_at, started}
use Rattle.pp_eval.proofs.Trees.{equal_self}
use Rattle.pp_sound.specs.Sound.{IsCalled, IsCheckOf}
use Rattle.pp_sound.proofs.Calls.{condition_fine, whole}
use Rattle.pp_prog.proofs.ValueSorts.{Has, have_more, have_one}
use Rattle.pp_sound.proofs.Exprs.{AreGood, expr_sound}
use Rattle.pp_sound.proofs.Parts.{IsAny, IsFine, MayStop, fine_value}
use Rattle.pp_sound.proofs.Sites.{AreMet, met_head, met_left, met_right}
use Rattle.pp_run_laws.specs.Laws.{SameAt}
use Rattle.pp_run_laws.proofs.Depends.{expr_same, same_left, same_right}
use Rattle.pp_run_laws.proofs.Eventually.{Eventually, both_eventually, mapped, together}
use Rattle.pp_run_laws.proofs.Follows.{Comes}
use Rattle.pp_run_laws.proofs.Parts.{done_run}
use Rattle.pp_guess_runs.specs.Answers.{answers_of, truth as true_with, value_done}
use Rattle.pp_guess_runs.specs.Guess.{agreed, held, or_deep, unfolded}
use Rattle.pp_induction.specs.Ends.{IsSettled}
use Rattle.pp_induction.proofs.Callees.{AreKnown}
use Rattle.pp_induction.proofs.Contracts.{Enters}
use Rattle.pp_induction.proofs.Fates.{HasValue}
use Rattle.pp_induction.proofs.Parts.{claimed, claimed_follows, known_follows}
use Rattle.pp_induction.proofs.Refuted.{FailIn, Settled, part_settles, refuted, runs_in}
use Rattle.pp_induction.proofs.Views.{View, called_over, calls_in, frame_in, frame_kept, in_called, in_run}

claimed_same : (c d : CallMeaning) (post : Option (CheckId × Expr)) → SameAt (post_calls post) c d → (frame : Frame)
    (args : List Value) (v : Value) → claimed c post frame args v ≡ claimed d post frame args v
claimed_same c d None same frame args v = refl
claimed_same c d (Some post) same frame args v =
    ap (λ q. and_then q truth) (expr_same c d post.1 same frame (args ++ v ∷ []))

-- the postcondition of a run, and that of a call of a guess run, by whether it is true
finished_claimed : (c : CallMeaning) (post : Option (CheckId × Expr)) (frame : Frame) (args : List Value) (v : Value)
    → claimed c post frame args v ≡ Ok true → finished c post frame args v ≡ Ok (Done v)
finished_claimed c None frame args v e = refl
finished_claimed c (Some post) frame args v e = by (meaning c post.1 frame (args ++ v ∷ [])) e
  where
    by : (q : Part Value) → and_then q truth ≡ Ok true
        → and_then q (λ p. and_then (truth p) (λ t. either t (Ok (Done v)) (Err (stop.Fails post.0)))) ≡ Ok (Done v)
    by (Ok x) e = ap (λ q. and_then q (λ t. either t (Ok (Done v)) (Err (stop.Fails post.0)))) e
    by (Err s) e = cc

finished_stops : (c : CallMeaning) (post : Option (CheckId × Expr)) (frame : Frame) (args : List Value) (v : Value)
    (d : CheckId)
    → claimed c post frame args v ≡ Err (stop.Fails d) → finished c post frame args v ≡ Err (stop.Fails d)
finished_stops c None frame args v d e = cc
finished_stops c (Some post) frame args v d e = by (meaning c post.1 frame (args ++ v ∷ [])) e
  where
    by : (q : Part Value) → and_then q truth ≡ Err (stop.Fails d)
        → and_then q (λ p. and_then (truth p) (λ t. either t (Ok (Done v)) (Err (stop.Fails post.0)))) ≡ Err
        (stop.Fails d)
    by (Ok x) e = ap (λ q. and_then q (λ t. either t (Ok (Done v)) (Err (stop.Fails post.0)))) e
    by (Err s) e = ap (λ q. and_then q (λ t. either t (Ok (Done v)) (Err (stop.Fails post.0)))) e

finished_refused : (c : CallMeaning) (post : CheckId × Expr) (frame : Frame) (args : List Value) (v : Value)
    → claimed c (Some post) frame args v ≡ Ok false → finished c (Some post) frame args v ≡ Err (stop.Fails post.0)
finished_refused c post frame args v e = by (meaning c post.1 frame (args ++ v ∷ [])) e
  where
    by : (q : Part Value) → and_then q truth ≡ Ok false
        → and_then q (λ p. and_then (truth p) (λ t. either t (Ok (Done v)) (Err (stop.Fails post.0)))) ≡ Err
        (stop.Fails post.0)
    by (Ok x) e = ap (λ q. and_then q (λ t. either t (Ok (Done v)) (Err (stop.Fails post.0)))) e
    by (Err s) e = cc

held_claimed : (c : CallMeaning) (post : Option (CheckId × Expr)) (args : List Value) (v : Value)
    → claimed c post None args v ≡ Ok true → held c post args v ≡ Ok v
held_claimed c None args v e = refl
held_claimed c (Some post) args v e = by (meaning c post.1 None (args ++ v ∷ [])) e
  where
    by : (q : Part Value) → and_then q truth ≡ Ok true
        → and_then q (λ x. and_then (truth x) (λ t. either t (Ok v) (Err stop.Deep))) ≡ Ok v
    by (Ok x) e = ap (λ q. and_then q (λ t. either t (Ok v) (Err stop.Deep))) e
    by (Err s) e = cc

module _ (p : Program) (g : FunctionId) (f : Function) (args : List Value) (is_called : IsCalled p g.0 f args)
    (settled : (c : CheckId) → IsCheckOf p g.0 c.0 → IsSettled p g.0 c) (new : Frame) (enters : Enters p g.0 f args new)
    (known : AreKnown p g.0 new (function_calls f)) where
  abbrev viewed : View → ℕ → CallMeaning
  viewed v m = calls_in p.types.ctors p.functions v m

  abbrev BodyComes : Value → Type 0
  BodyComes w = (v : View) → Comes (λ m. meaning (viewed v m) f.body (frame_in v new) args) w

  abbrev ClaimComes : Value → Bool → Type 0
  ClaimComes w t = (v : View) → Comes (λ m. claimed (viewed v m) f.post (frame_in v new) args w) t

  -- the run, where the body stops, or the postcondition
  stops_third : (c : CheckId) → FailIn c (λ v m. meaning (viewed v m) f.body (frame_in v new) args)
      → FailIn c (runs_in p g.0 f args is_called)
  stops_third c stops v kept =
      both_eventually (together (enters.allowed v) (enters.measured v)) (stops v kept) (λ m h e.
      let cs = viewed v m in
      ap (λ q. and_then q (λ allows. either allows (started cs f args) (Ok Outside))) h.0
      ∙ ap (λ q. and_then q (λ frame. and_then (meaning cs f.body frame args) (λ w. finished cs f.post frame args w)))
      h.1
      ∙ ap (λ q. and_then q (λ w. finished cs f.post new args w))
      (subst (λ (o : Frame). meaning cs f.body o args ≡ Err (stop.Fails c)) (frame_kept v c new kept) e))

  stops_last : (c : CheckId) (w : Value) → BodyComes w
      → FailIn c (λ v m. finished (viewed v m) f.post (frame_in v new) args w)
      → FailIn c (runs_in p g.0 f args is_called)
  stops_last c w body stops v kept =
      both_eventually (together (enters.allowed v) (enters.measured v)) (together (body v) (stops v kept)) (λ m h k.
      let cs = viewed v m in
      ap (λ q. and_then q (λ allows. either allows (started cs f args) (Ok Outside))) h.0
      ∙ ap (λ q. and_then q (λ frame. and_then (meaning cs f.body frame args) (λ w. finished cs f.post frame args w)))
      h.1
      ∙ ap (λ q. and_then q (λ w. finished cs f.post new args w))
      (subst (λ (o : Frame). meaning cs f.body o args ≡ Ok w) (frame_kept v c new kept) k.0)
      ∙ subst (λ (o : Frame). finished cs f.post o args w ≡ Err (stop.Fails c)) (frame_kept v c new kept) k.1)

  body_settles : Settled (Has p.types.ctors f.result) (λ v m. meaning (viewed v m) f.body (frame_in v new) args)
  body_settles =
      let w = whole p g.0 f is_called.function in
      part_settles p g.0 new (function_calls f) known (Has p.types.ctors f.result) (λ cs. meaning cs f.body new args) _
      (λ D cs good. expr_sound p D g.0 cs good f.body (param_sorts f.params) f.result w.body_sorted w.body_met new
      args is_called.arguments)
      (λ cs same. expr_same _ cs f.body
      (same_right (pre_calls f.pre ++ joined (map calls f.measure)) (calls f.body) _ cs
      (same_left (pre_calls f.pre ++ joined (map calls f.measure) ++ calls f.body) (post_calls f.post) _ cs same)) new
      args)
      (λ v. known_follows p g.0 new (function_calls f) known v f.body args)
      (λ c is stops. refuted p g.0 f args is_called c (settled c is) (stops_third c stops))

  claimed_fine : (w : Value) → Has p.types.ctors f.result w → (D : Type 0) (cs : CallMeaning) → AreGood p D g.0 cs
      → IsFine (MayStop p D g.0) (IsAny {A = Bool}) (claimed cs f.post new args w)
  claimed_fine w has D cs good = let k = whole p g.0 f is_called.function in by f.post k.post_sorted k.post_met
    where
      by : (post : Option (CheckId × Expr))
          → is_sorted_post p.types p.functions post (param_sorts f.params ++ f.result ∷ []) ≡ true
          → AreMet p g.0 (post_sites p.types p.functions post f.result (param_sorts f.params))
          → IsFine (MayStop p D g.0) (IsAny {A = Bool}) (claimed cs post new args w)
      by None sorted met = fine_value tt
      by (Some post) sorted met =
          condition_fine p D g.0 cs good post.1 (param_sorts f.params ++ f.result ∷ []) sorted (met_left _ _ met) new
          (args ++ w ∷ []) (have_more p.types.ctors (param_sorts f.params) (f.result ∷ []) args (w ∷ [])
          is_called.arguments (have_one p.types.ctors f.result w has))

  claim_settles : (w : Value) → Has p.types.ctors f.result w → BodyComes w
      → Settled (IsAny {A = Bool}) (λ v m. claimed (viewed v m) f.post (frame_in v new) args w)
  claim_settles w has body =
      part_settles p g.0 new (function_calls f) known IsAny (λ cs. claimed cs f.post new args w) _
      (claimed_fine w has)
      (λ cs same. claimed_same _ cs f.post (same_right (pre_calls f.pre ++ joined (map calls f.measure) ++ calls
      f.body) (post_calls f.post) _ cs same) new args w)
      (λ v. claimed_follows p g.0 new (function_calls f) known v f.post args w)
      (λ c is stops. refuted p g.0 f args is_called c (settled c is) (stops_last c w body
      (λ v kept. mapped (stops v kept) (λ m e. finished_stops (viewed v m) f.post (frame_in v new) args w c e))))

  -- a postcondition that isn't true fails its check
  claim_true : (w : Value) → BodyComes w → (t : Bool) → ClaimComes w t → ClaimComes w true
  claim_true w body true claim = claim
  claim_true w body false claim = let k = whole p g.0 f is_called.function in absurd (by f.post refl k.post_met)
    where
      by : (post : Option (CheckId × Expr)) → f.post ≡ post
          → AreMet p g.0 (post_sites p.types p.functions post f.result (param_sorts f.params)) → ⊥
      by None is met =
          let e = claim in_run in
          let no : Ok true ≡ Ok false = sym (ap (λ (o : Option (CheckId × Expr)). claimed (viewed in_run e.from) o new
          args w) is) ∙ e.holds e.from (omega arith) in cc
      by (Some post) is met =
          let own = (met_head (met_right _ _ met)).own in
          refuted p g.0 f args is_called post.0 (settled post.0 own) (stops_last post.0 w body
          (λ v kept. mapped (claim v) (λ m e.
          ap (λ (o : Option (CheckId × Expr)). finished (viewed v m) o (frame_in v new) args w) is
          ∙ finished_refused (viewed v m) post (frame_in v new) args w
          (sym (ap (λ (o : Option (CheckId × Expr)). claimed (viewed v m) o (frame_in v new) args w) is) ∙ e))))

  module _ (w : Value) (body : BodyComes w) (claim : ClaimComes w true) where
    run_done : Eventually (λ m. run p.types.ctors p.functions f args m ≡ Done w)
    run_done =
        both_eventually (together (enters.allowed in_run) (enters.measured in_run))
        (together (body in_run) (claim in_run)) (λ m h k.
        let cs = calls_to p.types.ctors p.functions m in
        done_run cs f args w (record {
          new = new;
          allowed = h.0;
          measured = h.1;
          valued = k.0;
          finished = finished_claimed cs f.post new args w k.1;
        }))

    answer_comes : Eventually (λ m. answers_of p.types.ctors p.functions (true_with m) g args ≡ Some w)
    answer_comes =
        mapped run_done (λ m e. ap (λ o. value_done (run_at p.types.ctors p.functions o args m))
        is_called.function ∙ ap value_done e)

    called_comes : (n : ℕ) (frame : Frame) (pre down : Option CheckId)
        → Comes (λ m. called_over p.types.ctors p.functions n m frame g pre down args) w
    called_comes zero frame pre down = mapped answer_comes (λ m e. ap or_deep e)
    called_comes (suc n) frame pre down =
        both_eventually answer_comes (together (body (in_called n)) (claim (in_called n))) (λ m a k.
        let cs = called_over p.types.ctors p.functions n m in
        ap (λ o. unfolded cs (answers_of p.types.ctors p.functions (true_with m) g args) o g args) is_called.function
        ∙ ap (λ o. unfolded cs o (Some f) g args) a
        ∙ ap (λ q. inside g (and_then q (λ u. and_then (held cs f.post args u) (agreed (Some w))))) k.0
        ∙ ap (λ q. inside g (and_then q (agreed (Some w)))) (held_claimed cs f.post args w k.1)
        ∙ ap (λ t. inside g (either t (Ok w) (Err stop.Deep))) (equal_self w))

    has_value : HasValue p.types.ctors p.functions g f args new w
    has_value = record { body = body in_run; done = run_done; called = called_comes }

  -- the call has a value
  pub call_settles : (w : Value) × HasValue p.types.ctors p.functions g f args new w
  call_settles =
      let b = body_settles in
      let c = claim_settles b.value b.holds b.comes in
      (b.value, has_value b.value b.comes (claim_true b.value b.comes c.value c.comes))
