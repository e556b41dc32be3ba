-- What a call does. Fuel is the nesting of calls: a call needs one unit, and its precondition, its measure list and its
-- body get one less. Source: Stainless documentation on require and decreases; fuel is own.
use Rattle.std.specs.Prelude.{ℕ, zero, suc, Bool, List, [], ◌∷◌, Option, Some, None, Ok, Err, map, slice_get, ⊤}
use Rattle.std.specs.Option.{option_map}
use Rattle.pp_prog.specs.declared.expr.Expr.{Expr}
use Rattle.pp_prog.specs.declared.expr.Function.{Function}
use Rattle.pp_prog.specs.declared.id.CheckId.{CheckId}
use Rattle.pp_prog.specs.declared.id.FunctionId.{FunctionId}
use Rattle.pp_prog.specs.declared.types.Ctor.{Ctor}
use Rattle.pp_prog.specs.declared.value.Value.{Value}
use Rattle.pp_eval.specs.declared.outcome.Stop.TheVariants.{Fails, Deep, Stuck}
use Rattle.pp_eval.specs.Meaning.{CallMeaning, Frame, all, guarded, meaning}
use Rattle.pp_eval.specs.Measure.{is_below}
use Rattle.pp_eval.specs.Part.{Part, and_then, either, failed, inside}

-- where the site has a measure check and both frames have measure values, the new ones are below those of the calling
-- frame; else the check fails
abbrev pub descends : List Ctor → Option CheckId → Frame → Frame → Part ⊤
descends ctors None old new = Ok tt
descends ctors (Some check) None new = Ok tt
descends ctors (Some check) (Some old) None = Ok tt
descends ctors (Some check) (Some old) (Some new) = either (is_below ctors new old) (Ok tt) (Err (Fails check))

module _ (calls : CallMeaning) where
  -- whether the precondition is true of the arguments; none always is
  abbrev pub allowed : Option Expr → List Value → Part Bool
  allowed pre args = guarded (option_map (meaning calls) pre) None args

  -- the precondition of g is true of the arguments; else the site's check fails
  abbrev pub admits : FunctionId → Option Expr → Option CheckId → List Value → Part ⊤
  admits g pre check args = and_then (inside g (allowed pre args)) (λ t. either t (Ok tt) (failed check))

  -- the measure values of a frame on these arguments, where a measure list is written
  abbrev pub frame_of : List Expr → List Value → Part Frame
  frame_of [] args = Ok None
  frame_of (e ∷ es) args = and_then (all (map (meaning calls) (e ∷ es)) None args) (λ values. Ok (Some values))

  -- the measure list, and then the body in the frame of its values: `own` says what is made of a measure list that
  -- stops, `asks` what is asked of the frame before the body, and `ends` what is made of the body
  abbrev pub framed : {A : Type 0} → (Part Frame → Part Frame) → (Frame → Part ⊤) → (Frame → Part Value → Part A)
      → Function → List Value → Part A
  framed own asks ends f args =
      and_then (own (frame_of f.measure args)) (λ new.
      and_then (asks new) (λ _. ends new (meaning calls f.body new args)))

  -- a call of the function, which has the number g: its precondition, its measure list, which is compared, and its
  -- body. A call of a function that isn't there has no meaning.
  abbrev pub enters : List Ctor → Option Function → CallMeaning
  enters ctors None frame g pre measure args = Err Stuck
  enters ctors (Some f) frame g pre measure args =
      and_then (admits g f.pre pre args) (λ _.
      framed (inside g) (descends ctors measure frame) (λ new body. inside g body) f args)

-- calls nested at most n deep, where those that are nested deeper do what is said first
abbrev pub calls_over : CallMeaning → List Ctor → List Function → ℕ → CallMeaning
calls_over deeper ctors functions zero frame g pre measure args = deeper frame g pre measure args
calls_over deeper ctors functions (suc n) frame g pre measure args =
    enters (calls_over deeper ctors functions n) ctors (slice_get functions g.0) frame g pre measure args

-- a call with no fuel left
abbrev pub no_fuel : CallMeaning
no_fuel frame g pre measure args = Err Deep

-- what a call does with fuel n, in a program of these constructors and functions
abbrev pub calls_to : List Ctor → List Function → ℕ → CallMeaning
calls_to = calls_over no_fuel

-- the outcome of an expression with fuel n, in a frame, with the values in scope
abbrev pub eval : List Ctor → List Function → ℕ → Frame → List Value → Expr → Part Value
eval ctors functions n frame env e = meaning (calls_to ctors functions n) e frame env
