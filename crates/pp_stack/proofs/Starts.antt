-- The frame of a run: its measure values, and what is evaluated in it.
use Rattle.std.proofs.Common.{◌≡◌, ◌∙◌, ℕ, ◌-◌, List, [], ◌∷◌, Some, None, Result, Ok, Err, sym, ap, subst, arith}
use Rattle.std.proofs.Common.{length, drop, map}
use Rattle.std.specs.Prelude.{◌==◌, false}
use Rattle.pp_prog.specs.declared.expr.Expr.{Expr}
use Rattle.pp_prog.specs.declared.expr.Function.{Function}
use Rattle.pp_prog.specs.declared.value.Value.{Value}
use Rattle.pp_eval.specs.declared.outcome.Halt.{Halt}
use Rattle.pp_eval.specs.declared.outcome.Halt.TheVariants.{Memory, Stopped}
use Rattle.pp_eval.specs.declared.outcome.Outcome.{Outcome}
use Rattle.pp_eval.specs.declared.outcome.Stop.{Stop}
use Rattle.pp_eval.specs.Invocation.{frame_of}
use Rattle.pp_eval.specs.Meaning.{Frame, all, meaning}
use Rattle.pp_eval.specs.Part.{Part, Tells, and_then}
use Rattle.pp_eval.specs.Runs.{finished, started}
use Rattle.pp_stack.specs.declared.machine.Machine.{Machine}
use Rattle.pp_stack.specs.declared.stacks.Stacks.{Stacks}
use Rattle.pp_stack.specs.declared.todo.Code.{Code}
use Rattle.pp_stack.specs.declared.todo.Todo.{Todo}
use Rattle.pp_stack.specs.Left.{calls, evaluate_all, value_in}
use Rattle.pp_stack.specs.Moves.{AllHeld, Ends, Measures, StandFor, Values}
use Rattle.pp_stack.specs.State.{State, frame_in, framed_state, last, root, scope, state_of, with_measure}
use Rattle.pp_stack.proofs.Ends.{part_ends}
use Rattle.pp_stack.proofs.Steps.{machine}

last_of_none : (vs : List Value) → last (length vs) vs ≡ vs
last_of_none vs =
    let none : length vs - length vs ≡ 0 = omega arith in ap (λ (n : ℕ). drop n vs) none

-- what is in scope in the frame of a run
pub root_scope : (fuel : ℕ) (args : List Value) → scope (root fuel args) ≡ args
root_scope fuel args = last_of_none args

-- so many measure values, which were results, are the frame's
abbrev measured_as : ℕ → State → State
measured_as n s = record s { here = record s.here { measured = Some n } }

measured_is : (fuel : ℕ) (args vs : List Value) (s : State) (n : ℕ)
    → s ≡ with_measure 0 (record (root fuel args) { temps = vs }) → n ≡ length (drop 0 vs)
    → measured_as n s ≡ framed_state (Some vs) (root fuel args)
measured_is fuel args vs s n is count = ap (measured_as n) is ∙ ap (λ (m : ℕ). measured_as m
    (with_measure 0 (record (root fuel args) { temps = vs }))) count

-- the measure list that a machine was begun with in a run's own frame
module _ (code : Code) (fuel : ℕ) (args : List Value) (e : Expr) (es : List Expr) where
  abbrev values_of_all : Part (List Value)
  values_of_all = all (map (meaning (calls code fuel)) (e ∷ es)) None (scope (root fuel args))

  frame_is : (vs : List Value) → values_of_all ≡ Ok vs → frame_of (calls code fuel) (e ∷ es) args ≡ Ok (Some vs)
  frame_is vs is =
      ap (λ (env : List Value). let r : Part Frame = and_then (all (map (meaning (calls code fuel)) (e ∷ es)) None env)
      (λ values. Ok (Some values)) in r) (sym (root_scope fuel args))
      ∙ ap (λ (p : Part (List Value)). let r : Part Frame = and_then p (λ values. Ok (Some values)) in r) is

  at_root : {A : Type 0} (a : A) (todo : List Todo) (mid new : Stacks) (count : ℕ)
      → Ends (Ok a) (machine todo mid) (evaluate_all code (e ∷ es) Ok (root fuel args)) → AllHeld new
      → state_of new ≡ with_measure 0 (state_of mid) → count ≡ length (drop 0 (state_of mid).temps)
      → Measures (Ok a) (root fuel args)
      (machine todo (record new { here = record new.here { measured = Some count } }))
      (frame_of (calls code fuel) (e ∷ es) args)
  at_root a todo mid new count (held, none, ends) all is many =
      let go : List Value → State = λ vs. record (root fuel args) { temps = vs } in
      let p = part_ends (root fuel args).here go values_of_all (state_of mid) ends in
      let here = measured_is fuel args p.0 (state_of new) count
      (is ∙ ap (with_measure 0) p.2) (many ∙ ap (λ (s : State). length (drop 0 s.temps)) p.2) in
      let stand : StandFor (record new { here = record new.here { measured = Some count } })
      (framed_state (Some p.0) (root fuel args)) =
      record { all = record { temps = all.temps; env = all.env; measures = all.measures }; same = here } in
      (Some p.0, frame_is p.0 p.1, record { none = none; stand = stand })

  pub measures_end : {A : Type 0} (a : A) (todo : List Todo) (mid new : Stacks) (count : ℕ) (s : State)
      → s ≡ root fuel args → Ends (Ok a) (machine todo mid) (evaluate_all code (e ∷ es) Ok s) → AllHeld new
      → state_of new ≡ with_measure 0 (state_of mid) → count ≡ length (drop 0 (state_of mid).temps)
      → Measures (Ok a) s (machine todo (record new { here = record new.here { measured = Some count } }))
      (frame_of (calls code fuel) (e ∷ es) args)
  measures_end a todo mid new count s own ends all is many =
      subst (λ (t : State). Measures (Ok a) t (machine todo (record new {
        here = record new.here {
          measured = Some count;
        };
      })) (frame_of (calls code fuel) (e ∷ es) args)) (sym own)
      (at_root a todo mid new count (subst (λ (t : State). Ends (Ok a) (machine todo mid)
      (evaluate_all code (e ∷ es) Ok t)) own ends) all is many)

-- what is evaluated in a run's own frame, with its measure values
framed_part : {A : Type 0} (F : ℕ → Frame → List Value → A) (fuel : ℕ) (args : List Value) (frame : Frame)
    → F (framed_state frame (root fuel args)).here.fuel (frame_in (framed_state frame (root fuel args)))
    (scope (framed_state frame (root fuel args))) ≡ F fuel frame args
framed_part F fuel args None = ap (F fuel None) (last_of_none args)
framed_part F fuel args (Some vs) =
    ap (λ (ms : List Value). F fuel (Some ms) (last (length args) args)) (last_of_none vs)
    ∙ ap (F fuel (Some vs)) (last_of_none args)

module _ (code : Code) (f : Function) (fuel : ℕ) (args : List Value) (frame : Frame) (s : State)
    (framed : frame_of (calls code fuel) f.measure args ≡ Ok frame) (is : s ≡ framed_state frame (root fuel args)) where
  started_as : started (calls code fuel) f args
      ≡ and_then (value_in code f.body s) (λ v. finished (calls code s.here.fuel) f.post (frame_in s) (scope s) v)
  started_as =
      ap (λ (p : Part Frame). let r : Part Outcome =
      and_then p (λ new. and_then (meaning (calls code fuel) f.body new args)
      (λ v. finished (calls code fuel) f.post new args v)) in r) framed
      ∙ sym (framed_part (λ (n : ℕ) (new : Frame) (env : List Value). let r : Part Outcome = and_then
      (meaning (calls code n) f.body new env) (λ v. finished (calls code n) f.post new env v) in r) fuel args frame)
      ∙ sym (ap (λ (t : State). let r : Part Outcome = and_then (value_in code f.body t)
      (λ v. finished (calls code t.here.fuel) f.post (frame_in t) (scope t) v) in r) is)

  -- the body has a value
  pub started_ends : (t : State) (v : Value) → t ≡ s → value_in code f.body s ≡ Ok v
      → finished (calls code t.here.fuel) f.post (frame_in t) (scope t) v ≡ started (calls code fuel) f args
  started_ends t v same value =
      ap (λ (u : State). finished (calls code u.here.fuel) f.post (frame_in u) (scope u) v) same
      ∙ sym (started_as ∙ ap (λ (p : Part Value). let r : Part Outcome = and_then p
      (λ v. finished (calls code s.here.fuel) f.post (frame_in s) (scope s) v) in r) value)

  -- the body stops
  pub started_stops : (stop : Stop) → value_in code f.body s ≡ Err stop → started (calls code fuel) f args ≡ Err stop
  started_stops stop stops =
      started_as ∙ ap (λ (p : Part Value). let r : Part Outcome = and_then p
      (λ v. finished (calls code s.here.fuel) f.post (frame_in s) (scope s) v) in r) stops

  stopped_tells : (h : Halt) (m : Machine) (old : State) → Values (Err h) old m (value_in code f.body s)
      → Tells {A = Outcome} (Err h) (started (calls code fuel) f args)
  stopped_tells Memory m old values = tt
  stopped_tells (Stopped stop) m old values = started_stops stop values

  pub body_halts : (m : Machine) (r : Result Outcome Halt) (h : Halt) → r ≡ Err h
      → Values (Err h) s m (value_in code f.body s) → Tells r (started (calls code fuel) f args)
  body_halts m r h is values =
      subst (λ (q : Result Outcome Halt). Tells q (started (calls code fuel) f args)) (sym is)
      (stopped_tells h m s values)

-- the same of a list that isn't empty
pub measures_are : {A : Type 0} (code : Code) (fuel : ℕ) (args : List Value) (es : List Expr) → false ≡ (length es == 0)
    → (a : A) (todo : List Todo) (mid new : Stacks) (count : ℕ) (s : State) (whole : Part State) → s ≡ root fuel args
    → whole ≡ evaluate_all code es Ok s → Ends (Ok a) (machine todo mid) whole → AllHeld new
    → state_of new ≡ with_measure 0 (state_of mid) → count ≡ length (drop 0 (state_of mid).temps)
    → Measures (Ok a) s (machine todo (record new { here = record new.here { measured = Some count } }))
    (frame_of (calls code fuel) es args)
measures_are code fuel args [] some a todo mid new count s whole own left ends all is many = absurd (cc)
measures_are code fuel args (e ∷ es) some a todo mid new count s whole own left ends all is many =
    measures_end code fuel args e es a todo mid new count s own
    (subst (λ (p : Part State). Ends (Ok a) (machine todo mid) p) left ends) all is many
