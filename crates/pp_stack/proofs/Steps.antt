-- A step that puts something before what is left keeps what was to come.
use Rattle.std.proofs.Common.{◌≡◌, ◌∙◌, List, [], ◌∷◌, ◌++◌, Option, None, Result, Ok, Err, sym, ap, subst}
use Rattle.pp_prog.specs.declared.id.FunctionId.{FunctionId}
use Rattle.pp_eval.specs.declared.outcome.Halt.{Halt}
use Rattle.pp_eval.specs.declared.outcome.Halt.TheVariants.{Memory, Stopped}
use Rattle.pp_eval.specs.Part.{Part}
use Rattle.pp_stack.specs.declared.machine.Machine.{Machine}
use Rattle.pp_stack.specs.declared.stacks.Stacks.{Stacks}
use Rattle.pp_stack.specs.declared.todo.Code.{Code}
use Rattle.pp_stack.specs.declared.todo.Here.{Here}
use Rattle.pp_stack.specs.declared.todo.Todo.{Todo}
use Rattle.pp_stack.specs.Left.{Rest, after, left}
use Rattle.pp_stack.specs.Moves.{AllHeld, Comes, Ends}
use Rattle.pp_stack.specs.State.{State, state_of}
use Rattle.pp_stack.proofs.Todos.{left_push, left_push2, left_push3}

abbrev pub machine : List Todo → Stacks → Machine
machine todo stacks = record { todo = todo; stacks = stacks }

module _ (code : Code) (here : Here) where
  -- one thing, two or three are put before what is left
  pub comes_push : (old todo : List Todo) (t : Todo) (new : Stacks) (whole : Part State) → AllHeld new
      → todo ≡ old ++ t ∷ [] → after code t (left code old) (state_of new) ≡ whole
      → Comes code {A = Unit {0}} (Ok tt) (machine todo new) here.called whole
  comes_push old todo t new whole held is same =
      (held, sym same ∙ ap (λ (k : Rest). k (state_of new)) (sym (left_push code old todo t is)))

  pub comes_push2 : (old mid todo : List Todo) (t u : Todo) (new : Stacks) (whole : Part State) → AllHeld new
      → mid ≡ old ++ t ∷ [] → todo ≡ mid ++ u ∷ [] → after code u (after code t (left code old)) (state_of new) ≡ whole
      → Comes code {A = Unit {0}} (Ok tt) (machine todo new) here.called whole
  comes_push2 old mid todo t u new whole held first second same =
      (held, sym same ∙ ap (λ (k : Rest). k (state_of new)) (sym (left_push2 code old mid todo t u first second)))

  pub comes_push3 : (old mid more todo : List Todo) (t u v : Todo) (new : Stacks) (whole : Part State) → AllHeld new
      → mid ≡ old ++ t ∷ [] → more ≡ mid ++ u ∷ [] → todo ≡ more ++ v ∷ []
      → after code v (after code u (after code t (left code old))) (state_of new) ≡ whole
      → Comes code {A = Unit {0}} (Ok tt) (machine todo new) here.called whole
  comes_push3 old mid more todo t u v new whole held first second third same = (
    held,
    sym same ∙ ap (λ (k : Rest). k (state_of new)) (sym (left_push3 code old mid more todo t u v first second
        third)),
  )

-- what is still to come, of another part that is the same, as the same function's frame tells it
pub comes_same : {A : Type 0} (code : Code) (r : Result A Halt) (m : Machine) (called before : Option FunctionId)
    (part whole : Part State) → called ≡ before → part ≡ whole → Comes code r m called part
    → Comes code r m before whole
comes_same code r m called before part whole frame same comes =
    subst (λ (f : Option FunctionId). Comes code r m f whole) frame
    (subst (λ (p : Part State). Comes code r m called p) same comes)

-- what the thing that is taken and the others come to, in a state where all that is left comes to this
pub turn_left : (code : Code) (todo rest : List Todo) (t : Todo) (s : State) (whole : Part State)
    → todo ≡ rest ++ t ∷ [] → left code todo s ≡ whole → after code t (left code rest) s ≡ whole
turn_left code todo rest t s whole is same = sym (ap (λ (k : Rest). k s) (left_push code rest todo t is)) ∙ same

-- a turn that halts ends the run
halted_ends : (A B : Type 0) (code : Code) (h : Halt) (mid m : Machine) (part whole : Part State) → part ≡ whole
    → Comes code {A = A} (Err h) mid None part → Ends {A = B} (Err h) m whole
halted_ends A B code Memory mid m part whole same comes = tt
halted_ends A B code (Stopped s) mid m part whole same comes = sym same ∙ comes

pub halt_ends : {B : Type 0} (A : Type 0) (code : Code) (r : Result B Halt) (h : Halt) (mid m : Machine)
    (part whole : Part State) → r ≡ Err h → part ≡ whole → Comes code {A = A} (Err h) mid None part → Ends r m whole
halt_ends {B} A code r h mid m part whole is same comes =
    subst (λ (q : Result B Halt). Ends q m whole) (sym is) (halted_ends A B code h mid m part whole same comes)
