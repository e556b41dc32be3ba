-- What calls say that move a machine's values. Source: own.
use Rattle.std.specs.Prelude.{◌≡◌, ℕ, Bool, true, false, List, [], ◌++◌, Option, Some, None, Result, Ok, Err, length}
use Rattle.pp_prog.specs.declared.id.FunctionId.{FunctionId}
use Rattle.pp_prog.specs.declared.value.Value.{Value}
use Rattle.pp_eval.specs.declared.outcome.Halt.{Halt}
use Rattle.pp_eval.specs.declared.outcome.Halt.TheVariants.{Memory, Stopped}
use Rattle.pp_eval.specs.Meaning.{Frame}
use Rattle.pp_eval.specs.Part.{Part}
use Rattle.pp_store.specs.declared.held.Held.{Held}
use Rattle.pp_store.specs.Values.{AreHeld, IsHeld, value_of, values_of}
use Rattle.pp_stack.specs.declared.machine.Machine.{Machine}
use Rattle.pp_stack.specs.declared.stacks.Stacks.{Stacks}
use Rattle.pp_stack.specs.declared.todo.Code.{Code}
use Rattle.pp_stack.specs.Left.{left}
use Rattle.pp_stack.specs.See.{seen}
use Rattle.pp_stack.specs.State.{State, framed_state, state_of, with_bound}

-- each tree among them is one of the store
pub record AllHeld (s : Stacks) : Type 0 where
  pub temps : AreHeld s.store s.temps
  pub env : AreHeld s.store s.env
  pub measures : AreHeld s.store s.measures

-- the stacks stand for this state
pub record StandFor (s : Stacks) (values : State) : Type 0 where
  pub all : AllHeld s
  pub same : state_of s ≡ values

-- what a move of the stacks says of a part
abbrev pub Moves : {A : Type 0} → Result A Halt → Stacks → Part State → Type 0
Moves (Ok a) new part = AllHeld new × (part ≡ Ok (state_of new))
Moves (Err Memory) new part = Unit {0}
Moves (Err (Stopped s)) new part = part ≡ Err s

-- what a machine's step in a frame of this function, or in the run's own, says of what was to come: it is still to come
abbrev pub Comes : Code → {A : Type 0} → Result A Halt → Machine → Option FunctionId → Part State → Type 0
Comes code (Ok a) new called whole = AllHeld new.stacks × (whole ≡ left code new.todo (state_of new.stacks))
Comes code (Err Memory) new called whole = Unit {0}
Comes code (Err (Stopped s)) new called whole = whole ≡ Err (seen called s)

-- what a machine's run says of what was to come: nothing is left
abbrev pub Ends : {A : Type 0} → Result A Halt → Machine → Part State → Type 0
Ends (Ok a) new whole = AllHeld new.stacks × (new.todo ≡ []) × (whole ≡ Ok (state_of new.stacks))
Ends (Err Memory) new whole = Unit {0}
Ends (Err (Stopped s)) new whole = whole ≡ Err s

-- nothing is left to do, and the values are these
pub record IsIdle (m : Machine) (values : State) : Type 0 where
  pub none : m.todo ≡ []
  pub stand : StandFor m.stacks values

-- what a move says that gives a held value
abbrev pub Pops : Result Held Halt → Stacks → Part (Value × State) → Type 0
Pops (Ok held) new part =
    AllHeld new × IsHeld new.store held × (part ≡ Ok (value_of new.store held, state_of new))
Pops (Err Memory) new part = Unit {0}
Pops (Err (Stopped s)) new part = part ≡ Err s

-- what a move says that gives a truth value
abbrev pub Tests : Result Bool Halt → Stacks → Part (Bool × State) → Type 0
Tests (Ok t) new part = AllHeld new × (part ≡ Ok (t, state_of new))
Tests (Err Memory) new part = Unit {0}
Tests (Err (Stopped s)) new part = part ≡ Err s

-- these were added to a list, and stand for the values
pub record AddsValues (trees : List Value) (old new : List Held) (vs : List Value) : Type 0 where
  pub more : List Held
  pub added : new ≡ old ++ more
  pub held : AreHeld trees more
  pub values : values_of trees more ≡ vs

-- what was added to a list that stands for what a pattern binds
abbrev pub Adds : List Value → List Held → List Held → Bool → Option (List Value) → Type 0
Adds trees old new true bound = (vs : List Value) × (bound ≡ Some vs) × AddsValues trees old new vs
Adds trees old new false bound = (bound ≡ None) × ((vs : List Value) × AddsValues trees old new vs)

-- what came into scope that a pattern binds: so many, or nothing where the value doesn't fit
abbrev pub Binds : Option ℕ → State → Stacks → Option (List Value) → Type 0
Binds (Some count) old new bound = (vs : List Value) × (bound ≡ Some vs) × (count ≡ length vs)
    × StandFor new (with_bound vs old)
Binds None old new bound = (bound ≡ None) × StandFor new old

-- what a run of a machine that ends in a held value says of a part: the values are then as they were
abbrev pub Values : Result Held Halt → State → Machine → Part Value → Type 0
Values (Ok held) old new part =
    IsIdle new old × IsHeld new.stacks.store held × (part ≡ Ok (value_of new.stacks.store held))
Values (Err Memory) old new part = Unit {0}
Values (Err (Stopped s)) old new part = part ≡ Err s

-- what one says that ends in a truth value
abbrev pub Truths : Result Bool Halt → State → Machine → Part Bool → Type 0
Truths (Ok t) old new part = IsIdle new old × (part ≡ Ok t)
Truths (Err Memory) old new part = Unit {0}
Truths (Err (Stopped s)) old new part = part ≡ Err s

-- what the evaluation of the measure list says: the frame has its values then
abbrev pub Measures : {A : Type 0} → Result A Halt → State → Machine → Part Frame → Type 0
Measures (Ok a) old new part = (frame : Frame) × (part ≡ Ok frame) × IsIdle new (framed_state frame old)
Measures (Err Memory) old new part = Unit {0}
Measures (Err (Stopped s)) old new part = part ≡ Err s
