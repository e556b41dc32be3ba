-- What a run that ends says of its parts, and what a call makes of them.
use Rattle.std.proofs.Common.{◌≡◌, Bool, true, false, List, [], ◌∷◌, ◌++◌, Option, Some, None, Ok, Err, refl, sym, ap}
use Rattle.std.proofs.Common.{◌∙◌, subst}
use Rattle.std.specs.Prelude.{⊤}
use Rattle.pp_prog.specs.declared.expr.Expr.{Expr}
use Rattle.pp_prog.specs.declared.expr.Function.{Function}
use Rattle.pp_prog.specs.declared.id.CheckId.{CheckId}
use Rattle.pp_prog.specs.declared.id.FunctionId.{FunctionId}
use Rattle.pp_prog.specs.declared.types.Ctor.{Ctor}
use Rattle.pp_prog.specs.declared.value.Value.{Value}
use Rattle.pp_eval.specs.declared.outcome.Outcome.{Outcome}
use Rattle.pp_eval.specs.declared.outcome.Outcome.TheVariants.{Done, Outside, Fails, Inner, Deep}
use Rattle.pp_eval.specs.declared.outcome.Stop.TheVariants as stop
use Rattle.pp_eval.specs.Invocation.{allowed, calls_to, descends, enters, frame_of}
use Rattle.pp_eval.specs.Meaning.{CallMeaning, Frame, meaning}
use Rattle.pp_eval.specs.Operators.{truth}
use Rattle.pp_eval.specs.Part.{Part, and_then, either, failed, inside}
use Rattle.pp_eval.specs.Runs.{finished, outcome, run_with, started}
use Rattle.pp_run_laws.specs.Laws.{CallsAreRuns}

-- the run ended at no check, and not too deep
abbrev IsEnded : Outcome → Type 0
IsEnded (Done v) = Unit {0}
IsEnded Outside = Unit {0}
IsEnded (Fails c) = ⊥
IsEnded (Inner g c) = ⊥
IsEnded Deep = ⊥

-- where a run ended, each part of it has a value
then_ended : {A : Type 0} (part : Part A) (go : A → Part Outcome) (o : Outcome) → IsEnded o
    → outcome (and_then part go) ≡ o → (a : A) × (part ≡ Ok a) × (outcome (go a) ≡ o)
then_ended (Ok a) go o ended e = (a, refl, e)
then_ended (Err (stop.Fails c)) go o ended e = absurd (subst IsEnded (sym e) ended)
then_ended (Err (stop.Inner g c)) go o ended e = absurd (subst IsEnded (sym e) ended)
then_ended (Err stop.Deep) go o ended e = absurd (subst IsEnded (sym e) ended)
then_ended (Err stop.Stuck) go o ended e = absurd (subst IsEnded (sym e) ended)

-- a check that failed stays the failure
pub failed_stays : (check : Option CheckId) (go : ⊤ → Part Value) → and_then (failed check) go ≡ failed check
failed_stays None go = refl
failed_stays (Some c) go = refl

module _ (c : CallMeaning) where
  either_done : (t : Bool) (v w : Value) (check : CheckId)
      → outcome (either t (Ok (Done v)) (Err (stop.Fails check))) ≡ Done w → (v ≡ w) × (t ≡ true)
  either_done true v w check e = (cc, refl)
  either_done false v w check e = cc

  finished_done : (post : Option (CheckId × Expr)) (frame : Frame) (args : List Value) (v w : Value)
      → outcome (finished c post frame args v) ≡ Done w → (v ≡ w) × (finished c post frame args v ≡ Ok (Done v))
  finished_done None frame args v w e = (cc, refl)
  finished_done (Some post) frame args v w e =
      let p = then_ended (meaning c post.1 frame (args ++ v ∷ [])) (λ p. and_then (truth p)
      (λ t. either t (Ok (Done v)) (Err (stop.Fails post.0)))) (Done w) tt e in
      let t = then_ended (truth p.0) (λ t. either t (Ok (Done v)) (Err (stop.Fails post.0))) (Done w) tt p.2 in
      let d = either_done t.0 v w post.0 t.2 in (
        d.0,
        ap (λ q. and_then q (λ p. and_then (truth p) (λ t. either t (Ok (Done v)) (Err (stop.Fails post.0))))) p.1
            ∙ ap (λ q. and_then q (λ t. either t (Ok (Done v)) (Err (stop.Fails post.0)))) t.1
            ∙ ap (λ q. either q (Ok (Done v)) (Err (stop.Fails post.0))) d.1,
      )

  finished_inside : (post : Option (CheckId × Expr)) (frame : Frame) (args : List Value) (v : Value)
      → outcome (finished c post frame args v) ≡ Outside → ⊥
  finished_inside None frame args v e = cc
  finished_inside (Some post) frame args v e =
      let p = then_ended (meaning c post.1 frame (args ++ v ∷ [])) (λ p. and_then (truth p)
      (λ t. either t (Ok (Done v)) (Err (stop.Fails post.0)))) Outside tt e in
      let t = then_ended (truth p.0) (λ t. either t (Ok (Done v)) (Err (stop.Fails post.0))) Outside tt p.2 in by t.0
      t.2
    where
      by : (t : Bool) → outcome (either t (Ok (Done v)) (Err (stop.Fails post.0))) ≡ Outside → ⊥
      by true e = cc
      by false e = cc

  -- the parts of a run that is done with v
  pub record AreDone (f : Function) (args : List Value) (v : Value) : Type 0 where
    pub new : Frame
    pub allowed : allowed c f.pre args ≡ Ok true
    pub measured : frame_of c f.measure args ≡ Ok new
    pub valued : meaning c f.body new args ≡ Ok v
    pub finished : finished c f.post new args v ≡ Ok (Done v)

  pub done_parts : (f : Function) (args : List Value) (v : Value) → outcome (run_with c f args) ≡ Done v
      → AreDone f args v
  done_parts f args v e = let a = then_ended (allowed c f.pre args) _ (Done v) tt e in by a.0 a.1 a.2
    where
      by : (t : Bool) → allowed c f.pre args ≡ Ok t → outcome (either t (started c f args) (Ok Outside)) ≡ Done v
          → AreDone f args v
      by false is e = cc
      by true is e =
          let m = then_ended (frame_of c f.measure args) _ (Done v) tt e in
          let b = then_ended (meaning c f.body m.0 args) _ (Done v) tt m.2 in
          let d = finished_done f.post m.0 args b.0 v b.2 in
          record {
            new = m.0;
            allowed = is;
            measured = m.1;
            valued = b.1 ∙ ap Ok d.0;
            finished = subst (λ (w : Value). finished c f.post m.0 args w ≡ Ok (Done w)) d.0 d.1;
          }

  pub outside_part : (f : Function) (args : List Value) → outcome (run_with c f args) ≡ Outside
      → allowed c f.pre args ≡ Ok false
  outside_part f args e = let a = then_ended (allowed c f.pre args) _ Outside tt e in by a.0 a.1 a.2
    where
      by : (t : Bool) → allowed c f.pre args ≡ Ok t → outcome (either t (started c f args) (Ok Outside)) ≡ Outside
          → allowed c f.pre args ≡ Ok false
      by false is e = is
      by true is e =
          let m = then_ended (frame_of c f.measure args) _ Outside tt e in
          let b = then_ended (meaning c f.body m.0 args) _ Outside tt m.2 in
          absurd (finished_inside f.post m.0 args b.0 b.2)

  pub done_run : (f : Function) (args : List Value) (v : Value) → AreDone f args v
      → outcome (run_with c f args) ≡ Done v
  done_run f args v h =
      ap (λ q. outcome (and_then q (λ allows. either allows (started c f args) (Ok Outside)))) h.allowed
      ∙ ap (λ q. outcome (and_then q (λ frame. and_then (meaning c f.body frame args)
      (λ w. finished c f.post frame args w)))) h.measured
      ∙ ap (λ q. outcome (and_then q (λ w. finished c f.post h.new args w))) h.valued ∙ ap outcome h.finished

  pub outside_run : (f : Function) (args : List Value) → allowed c f.pre args ≡ Ok false
      → outcome (run_with c f args) ≡ Outside
  outside_run f args e = ap (λ q. outcome (and_then q (λ allows. either allows (started c f args) (Ok Outside)))) e

  pub refused_call : (ctors : List Ctor) (f : Function) (args : List Value) → allowed c f.pre args ≡ Ok false
      → (frame : Frame) (g : FunctionId) (pre down : Option CheckId)
      → enters c ctors (Some f) frame g pre down args ≡ failed pre
  refused_call ctors f args e frame g pre down =
      ap (λ q. and_then q (λ _. and_then (inside g (frame_of c f.measure args))
      (λ new. and_then (descends ctors down frame new) (λ _. inside g (meaning c f.body new args)))))
      (ap (λ q. and_then (inside g q) (λ t. either t (Ok tt) (failed pre))) e) ∙ failed_stays pre _

  pub entered_call : (ctors : List Ctor) (f : Function) (args : List Value) (new : Frame)
      → allowed c f.pre args ≡ Ok true → frame_of c f.measure args ≡ Ok new
      → (frame : Frame) (g : FunctionId) (pre down : Option CheckId)
      → enters c ctors (Some f) frame g pre down args ≡ and_then (descends ctors down frame new)
      (λ _. inside g (meaning c f.body new args))
  entered_call ctors f args new e m frame g pre down =
      ap (λ q. and_then q (λ _. and_then (inside g (frame_of c f.measure args))
      (λ new. and_then (descends ctors down frame new) (λ _. inside g (meaning c f.body new args)))))
      (ap (λ q. and_then (inside g q) (λ t. either t (Ok tt) (failed pre))) e)
      ∙ ap (λ q. and_then (inside g q) (λ new. and_then (descends ctors down frame new)
      (λ _. inside g (meaning c f.body new args)))) m

pub calls_are_runs : CallsAreRuns
calls_are_runs = record {
  outside = λ ctors fs g f is args n e frame pre down.
      let c = calls_to ctors fs n in
      ap (λ o. enters c ctors o frame g pre down args) is ∙ refused_call c ctors f args (outside_part c f args e)
      frame g pre down;
  done = λ ctors fs g f is args n v e.
      let c = calls_to ctors fs n in
      let d = done_parts c f args v e in (
        d.new,
        d.measured,
        λ frame pre down. ap (λ o. enters c ctors o frame g pre down args) is ∙ entered_call c ctors f args d.new
            d.allowed d.measured frame g pre down
            ∙ ap (λ q. and_then (descends ctors down frame d.new) (λ _. inside g q)) d.valued,
      );
}
