-- Moves of what is held, in a store that grows, are moves of the values that it stands for.
use Rattle.std.proofs.Common.{◌≡◌, ◌∙◌, ℕ, ◌-◌, Bool, true, false, List, [], ◌∷◌, ◌++◌, Option, Some, Ok, Err, refl}
use Rattle.std.proofs.Common.{sym, ap, length, take, drop}
use Rattle.std.proofs.lemmas.List.{drop-map, length-map, map-append, take-map}
use Rattle.std.proofs.lemmas.List.Elements.{All-take}
use Rattle.std.specs.Option.{option_map}
use Rattle.std.specs.Prelude.{⊤}
use Rattle.pp_tree.specs.declared.operator.BinaryOp.{BinaryOp}
use Rattle.pp_prog.specs.declared.id.CheckId.{CheckId}
use Rattle.pp_prog.specs.declared.id.CtorId.{CtorId}
use Rattle.pp_prog.specs.declared.types.Ctor.{Ctor}
use Rattle.pp_prog.specs.declared.value.Value.{Value}
use Rattle.pp_prog.specs.declared.value.Value.TheVariants.{Tree}
use Rattle.pp_eval.specs.declared.outcome.Halt.{Halt}
use Rattle.pp_eval.specs.declared.outcome.Halt.TheVariants.{Memory, Stopped}
use Rattle.pp_eval.specs.declared.outcome.Stop.TheVariants.{Fails}
use Rattle.pp_eval.specs.Invocation.{descends}
use Rattle.pp_eval.specs.Measure.{is_below}
use Rattle.pp_eval.specs.Operators.{operated}
use Rattle.pp_eval.specs.Part.{Part, Tells, and_then, either}
use Rattle.pp_store.specs.declared.held.Held.{Held}
use Rattle.pp_store.specs.Values.{Extends, IsBefore, value_of, values_of}
use Rattle.pp_store.proofs.Values.{extends_values}
use Rattle.pp_stack.specs.declared.stacks.Stacks.{Stacks}
use Rattle.pp_stack.specs.declared.todo.Here.{Here}
use Rattle.pp_stack.specs.Moves.{AllHeld, Moves}
use Rattle.pp_stack.specs.State.{State, compared, constructed, last, operated_on, passed, popped, pushed, put, state_of}
use Rattle.pp_stack.specs.State.{with_measure}
use Rattle.pp_stack.proofs.Lifts.{pop_moves}

abbrev state : List Value → List Value → List Value → Here → State
state temps env measures here = record { temps = temps; env = env; measures = measures; here = here }

same_state : (s t e f m n : List Value) (here : Here) → s ≡ t → e ≡ f → m ≡ n → state s e m here ≡ state t f n here
same_state s t e f m n here p q r =
    ap (λ (l : List Value). state l e m here) p ∙ ap (λ (l : List Value). state t l m here) q
    ∙ ap (λ (l : List Value). state t f l here) r

-- the first ones, and the others
first_values : (trees : List Value) (n : ℕ) (hs : List Held) → values_of trees (take n hs) ≡ take n (values_of trees hs)
first_values trees n hs = sym (take-map (value_of trees) n hs)

other_values : (trees : List Value) (n : ℕ) (hs : List Held) → values_of trees (drop n hs) ≡ drop n (values_of trees hs)
other_values trees n hs = sym (drop-map (value_of trees) n hs)

module _ (s : Stacks) where
  -- ---- a store that has grown

  module _ (store : List Value) (grows : Extends s.store store) (all : AllHeld s) where
    -- a value that wasn't held yet is put on top
    pub pushed_grown : (h : Held) (v : Value) → value_of store h ≡ v
        → (let r : Part State = Ok (pushed (state_of (record s { store = store })) (value_of store h)) in r)
        ≡ Ok (pushed (state_of s) v)
    pushed_grown h v is =
        ap (λ (t : State). let r : Part State = Ok t in r)
        (same_state _ _ _ _ _ _ s.here
        (ap (λ (vs : List Value). vs ++ value_of store h ∷ []) (extends_values s.store store grows s.temps all.temps)
        ∙ ap (λ (w : Value). values_of s.store s.temps ++ w ∷ []) is)
        (extends_values s.store store grows s.env all.env)
        (extends_values s.store store grows s.measures all.measures))

    -- a tree is made of the results from a place on
    pub constructed_grown : (c : CtorId) (first : ℕ) (temps : List Held) (h : Held) → temps ≡ take first s.temps
        → value_of store h ≡ Tree c (values_of s.store (drop first s.temps))
        → (let r : Part State =
        Ok (pushed (state_of (record s { temps = temps; store = store })) (value_of store h)) in r)
        ≡ Ok (constructed c first (state_of s))
    constructed_grown c first temps h kept is =
        ap (λ (t : State). let r : Part State = Ok t in r)
        (same_state _ _ _ _ _ _ s.here
        (ap (λ (hs : List Held). values_of store hs ++ value_of store h ∷ []) kept
        ∙ ap (λ (vs : List Value). vs ++ value_of store h ∷ [])
        (extends_values s.store store grows (take first s.temps)
        (All-take (IsBefore (length s.store)) first s.temps all.temps)
        ∙ first_values s.store first s.temps)
        ∙ ap (λ (v : Value). take first (values_of s.store s.temps) ++ v ∷ [])
        (is ∙ ap (λ (vs : List Value). Tree c vs) (other_values s.store first s.temps)))
        (extends_values s.store store grows s.env all.env)
        (extends_values s.store store grows s.measures all.measures))

  -- ---- results move to another list

  moved_values : (first : ℕ) (to grown values : List Held) → grown ≡ to ++ values → values ≡ drop first s.temps
      → values_of s.store grown ≡ values_of s.store to ++ drop first (values_of s.store s.temps)
  moved_values first to grown values grows are =
      ap (values_of s.store) grows ∙ map-append (value_of s.store) to values
      ∙ ap (λ (hs : List Held). values_of s.store to ++ values_of s.store hs) are
      ∙ ap (λ (vs : List Value). values_of s.store to ++ vs) (other_values s.store first s.temps)

  kept_values : (first : ℕ) (temps : List Held) → temps ≡ take first s.temps
      → values_of s.store temps ≡ take first (values_of s.store s.temps)
  kept_values first temps kept = ap (values_of s.store) kept ∙ first_values s.store first s.temps

  module _ (first : ℕ) (temps values grown : List Held) (kept : temps ≡ take first s.temps)
      (are : values ≡ drop first s.temps)
    where
      pub pass_state : grown ≡ s.env ++ values
          → state_of (record s { temps = temps; env = grown }) ≡ passed first (state_of s)
      pass_state grows =
          same_state _ _ _ _ _ _ s.here (kept_values first temps kept) (moved_values first s.env grown values grows are)
          refl

      pub measure_state : grown ≡ s.measures ++ values
          → state_of (record s { temps = temps; measures = grown }) ≡ with_measure first (state_of s)
      measure_state grows =
          same_state _ _ _ _ _ _ s.here (kept_values first temps kept) refl
          (moved_values first s.measures grown values grows are)

  -- ---- measures

  module _ (ctors : List Ctor) (check : Option CheckId) (first : ℕ) (k : CheckId) (count : ℕ) (new old : List Held)
      (checked : check ≡ Some k) (measured : s.here.measured ≡ Some count) (news : new ≡ drop first s.temps)
      (olds : old ≡ drop (length s.measures - count) s.measures) (below : Bool)
      (is : below ≡ is_below ctors (values_of s.store new) (values_of s.store old))
    where
      old_values : values_of s.store old ≡ last count (values_of s.store s.measures)
      old_values =
          ap (values_of s.store) olds ∙ other_values s.store (length s.measures - count) s.measures
          ∙ ap (λ (n : ℕ). drop (n - count) (values_of s.store s.measures))
          (sym (length-map s.measures (value_of s.store)))

      new_values : values_of s.store new ≡ drop first (values_of s.store s.temps)
      new_values = ap (values_of s.store) news ∙ other_values s.store first s.temps

      compared_by : compared ctors check first (state_of s) ≡ either below (Ok tt) (Err (Fails k))
      compared_by =
          ap (λ (o : Option CheckId). compared ctors o first (state_of s)) checked
          ∙ ap (λ (o : Option ℕ). descends ctors (Some k) (option_map (λ n. last n (values_of s.store s.measures)) o)
          (Some (drop first (values_of s.store s.temps)))) measured
          ∙ ap (λ (b : Bool). let r : Part ⊤ = either b (Ok tt) (Err (Fails k)) in r)
          (ap (λ (vs : List Value). is_below ctors vs (last count (values_of s.store s.measures))) (sym new_values)
          ∙ ap (λ (vs : List Value). is_below ctors (values_of s.store new) vs) (sym old_values) ∙ sym is)

      pub is_compared : below ≡ true → compared ctors check first (state_of s) ≡ Ok tt
      is_compared e = compared_by ∙ ap (λ (b : Bool). let r : Part ⊤ = either b (Ok tt) (Err (Fails k)) in r) e

      pub not_compared : below ≡ false → compared ctors check first (state_of s) ≡ Err (Fails k)
      not_compared e = compared_by ∙ ap (λ (b : Bool). let r : Part ⊤ = either b (Ok tt) (Err (Fails k)) in r) e

  -- ---- an operator on the two values on top

  module _ (mid temps : List Held) (x y : Held) (all : AllHeld s) (right : s.temps ≡ mid ++ y ∷ [])
      (left : mid ≡ temps ++ x ∷ [])
    where
      abbrev below_y : Stacks
      below_y = record s { temps = mid }

      abbrev below_x : Stacks
      below_x = record s { temps = temps }

      pub operated_popped : (op : BinaryOp) (check : Option CheckId) → operated_on op check (state_of s)
          ≡ put (state_of below_x) (operated op check (value_of s.store x) (value_of s.store y))
      operated_popped op check =
          ap (λ (r : Part (Value × State)). and_then r (λ q. and_then (popped q.1)
          (λ p. put p.1 (operated op check p.0 q.0)))) (pop_moves s y mid all right).2
          ∙ ap (λ (r : Part (Value × State)). and_then r (λ p. put p.1 (operated op check p.0 (value_of s.store y))))
          (pop_moves below_y x temps (pop_moves s y mid all right).0 left).2

-- a stop of a part whose value would be put on top
pub put_stops : (halt : Halt) (new : Stacks) (s : State) (part : Part Value) (whole : Part State)
    → Tells {A = Value} (Err halt) part → whole ≡ put s part → Moves {A = Unit {0}} (Err halt) new whole
put_stops Memory new s part whole tells is = tt
put_stops (Stopped stop) new s part whole tells is = is ∙ ap (put s) tells
