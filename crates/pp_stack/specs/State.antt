-- The values that a machine works on, and what is done with them alone. Source: own.
use Rattle.std.specs.Prelude.{ℕ, ◌+◌, ◌-◌, Bool, List, [], ◌∷◌, ◌++◌, Option, Some, None, Ok, length, take, drop}
use Rattle.std.specs.Prelude.{slice_get, ⊤}
use Rattle.std.specs.Option.{option_map}
use Rattle.pp_tree.specs.declared.operator.BinaryOp.{BinaryOp}
use Rattle.pp_tree.specs.declared.operator.UnaryOp.{UnaryOp}
use Rattle.pp_prog.specs.declared.id.CheckId.{CheckId}
use Rattle.pp_prog.specs.declared.id.CtorId.{CtorId}
use Rattle.pp_prog.specs.declared.types.Ctor.{Ctor}
use Rattle.pp_prog.specs.declared.value.Value.{Value}
use Rattle.pp_prog.specs.declared.value.Value.TheVariants.{Tree}
use Rattle.pp_eval.specs.Invocation.{descends}
use Rattle.pp_eval.specs.Meaning.{Frame, field}
use Rattle.pp_eval.specs.Operators.{operated, truth, unary}
use Rattle.pp_eval.specs.Part.{Part, and_then, found}
use Rattle.pp_store.specs.Values.{values_of}
use Rattle.pp_stack.specs.declared.stacks.Stacks.{Stacks}
use Rattle.pp_stack.specs.declared.todo.Here.{Here}
use Rattle.pp_stack.specs.declared.todo.Site.{Site}

-- results that are still to be used, the values in scope of all open frames, their measure values, and the frame that
-- is evaluated
pub record State : Type 0 where
  pub temps : List Value
  pub env : List Value
  pub measures : List Value
  pub here : Here

-- what the stacks stand for
abbrev pub state_of : Stacks → State
state_of s = record {
  temps = values_of s.store s.temps;
  env = values_of s.store s.env;
  measures = values_of s.store s.measures;
  here = s.here;
}

-- so many from the end, or all where there are fewer
abbrev pub last : ℕ → List Value → List Value
last n vs = drop (length vs - n) vs

-- all but so many at the end
abbrev pub without : ℕ → List Value → List Value
without n vs = take (length vs - n) vs

-- the values in scope
abbrev pub scope : State → List Value
scope s = last s.here.bound s.env

-- the measure values of the frame
abbrev pub frame_in : State → Frame
frame_in s = option_map (λ n. last n s.measures) s.here.measured

abbrev pub pushed : State → Value → State
pushed s v = record s { temps = s.temps ++ v ∷ [] }

abbrev pub behind_one : Value → Option (List Value × Value) → Option (List Value × Value)
behind_one v None = Some ([], v)
behind_one v (Some p) = Some (v ∷ p.0, p.1)

-- all but the last, and the last
abbrev pub parted : List Value → Option (List Value × Value)
parted [] = None
parted (v ∷ vs) = behind_one v (parted vs)

-- the value on top, and the rest
abbrev pub popped : State → Part (Value × State)
popped s = and_then (found (parted s.temps)) (λ p. Ok (p.1, record s { temps = p.0 }))

-- the truth value on top, and the rest
abbrev pub tested : State → Part (Bool × State)
tested s = and_then (popped s) (λ p. and_then (truth p.0) (λ t. Ok (t, p.1)))

-- the part's value is put on top
abbrev pub put : State → Part Value → Part State
put s part = and_then part (λ v. Ok (pushed s v))

abbrev pub looked_up : ℕ → State → Part State
looked_up i s = put s (found (slice_get (scope s) i))

abbrev pub applied : UnaryOp → State → Part State
applied op s = and_then (popped s) (λ p. put p.1 (unary op p.0))

abbrev pub operated_on : BinaryOp → Option CheckId → State → Part State
operated_on op check s =
    and_then (popped s) (λ y. and_then (popped y.1) (λ x. put x.1 (operated op check x.0 y.0)))

abbrev pub selected : ℕ → State → Part State
selected k s = and_then (popped s) (λ p. put p.1 (field p.0 k))

-- the results from this place on are gone
abbrev pub cut_at : ℕ → State → State
cut_at first s = record s { temps = take first s.temps }

abbrev pub constructed : CtorId → ℕ → State → State
constructed c first s = pushed (cut_at first s) (Tree c (drop first s.temps))

-- these values come into scope
abbrev pub with_bound : List Value → State → State
with_bound vs s = record s { env = s.env ++ vs; here = record s.here { bound = s.here.bound + length vs } }

abbrev pub bound_one : State → Part State
bound_one s = and_then (popped s) (λ p. Ok (with_bound (p.0 ∷ []) p.1))

-- so many values go out of scope
abbrev pub forgotten : ℕ → State → State
forgotten n s = record s { env = without n s.env; here = record s.here { bound = s.here.bound - n } }

-- the results from this place on are arguments of a call
abbrev pub passed : ℕ → State → State
passed first s = record s { temps = take first s.temps; env = s.env ++ drop first s.temps }

-- the frame of a call with so many arguments and so many measure values
abbrev pub inner : Here → Site → Option ℕ → Here
inner here site measured =
    record { fuel = here.fuel - 1; called = Some site.callee; bound = site.count; measured = measured }

-- the frame is this one
abbrev pub at_frame : Here → State → State
at_frame here s = record s { here = here }

-- whether the results from this place on are below the measure values of the frame
abbrev pub compared : List Ctor → Option CheckId → ℕ → State → Part ⊤
compared ctors check first s = descends ctors check (frame_in s) (Some (drop first s.temps))

-- the results from this place on are measure values
abbrev pub with_measure : ℕ → State → State
with_measure first s = record s { temps = take first s.temps; measures = s.measures ++ drop first s.temps }

-- the measure values of the frame go
abbrev pub unmeasured : Option ℕ → List Value → List Value
unmeasured None vs = vs
unmeasured (Some n) vs = without n vs

-- a body ends, and its caller's frame is this one
abbrev pub left_for : Here → State → State
left_for here s = record s {
  env = without s.here.bound s.env;
  measures = unmeasured s.here.measured s.measures;
  here = here;
}

-- the state of a run on these arguments, with this fuel
abbrev pub root : ℕ → List Value → State
root fuel args = record {
  temps = [];
  env = args;
  measures = [];
  here = record { fuel = fuel; called = None; bound = length args; measured = None };
}

-- the run's own frame has these measure values
abbrev pub framed_state : Frame → State → State
framed_state None s = s
framed_state (Some vs) s = record s {
  measures = s.measures ++ vs;
  here = record s.here { measured = Some (length vs) };
}
