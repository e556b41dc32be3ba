-- Moves of what is held are moves of the values that it stands for.
use Rattle.std.proofs.Common.{◌≡◌, ◌∙◌, ℕ, ◌-◌, List, [], ◌∷◌, ◌++◌, Option, Some, None, Ok, Err, sym, ap, subst}
use Rattle.std.proofs.Common.{length, take}
use Rattle.std.proofs.lemmas.List.{map_push, take-map, length-map}
use Rattle.std.proofs.lemmas.List.Elements.{All-push, All-take, All-drop, All-head}
use Rattle.std.proofs.Math.Seq.{take-append_seam, drop-append_seam}
use Rattle.pp_prog.specs.declared.value.Value.{Value}
use Rattle.pp_eval.specs.declared.outcome.Stop.TheVariants.{Stuck}
use Rattle.pp_eval.specs.Part.{Part, and_then, found}
use Rattle.pp_store.specs.declared.held.Held.{Held}
use Rattle.pp_store.specs.Values.{AreHeld, IsBefore, IsHeld, value_of, values_of}
use Rattle.pp_stack.specs.declared.stacks.Stacks.{Stacks}
use Rattle.pp_stack.specs.Moves.{AllHeld, Moves, Pops}
use Rattle.pp_stack.specs.declared.todo.Here.{Here}
use Rattle.pp_stack.specs.State.{State, forgotten, left_for, parted, popped, pushed, state_of, unmeasured, without}
use Rattle.pp_stack.proofs.Going.{parted_push}

-- all but so many at the end
pub without_values : (trees : List Value) (hs : List Held) (n : ℕ)
    → values_of trees (take (length hs - n) hs) ≡ without n (values_of trees hs)
without_values trees hs n =
    sym (take-map (value_of trees) (length hs - n) hs)
    ∙ ap (λ (m : ℕ). take (m - n) (values_of trees hs)) (sym (length-map hs (value_of trees)))

-- the last of some that are held, and the others
pub others_held : (trees : List Value) (hs : List Held) (h : Held) → AreHeld trees (hs ++ h ∷ []) → AreHeld trees hs
others_held trees hs h all =
    subst (λ (ks : List Held). AreHeld trees ks) (take-append_seam hs (h ∷ []))
    (All-take (IsBefore (length trees)) (length hs) (hs ++ h ∷ []) all)

pub last_held : (trees : List Value) (hs : List Held) (h : Held) → AreHeld trees (hs ++ h ∷ []) → IsHeld trees h
last_held trees hs h all =
    All-head (IsBefore (length trees)) h [] (subst (λ (ks : List Held). AreHeld trees ks)
    (drop-append_seam hs (h ∷ [])) (All-drop (IsBefore (length trees)) (length hs) (hs ++ h ∷ []) all))

module _ (s : Stacks) where
  abbrev with_temps : List Held → Stacks
  with_temps temps = record s { temps = temps }

  abbrev on_temps : List Value → State
  on_temps vs = record (state_of s) { temps = vs }

  temps_held : (temps : List Held) → AllHeld s → AreHeld s.store temps → AllHeld (with_temps temps)
  temps_held temps all held = record { temps = held; env = all.env; measures = all.measures }

  -- a value is put on top
  pub push_moves : (h : Held) (temps : List Held) → AllHeld s → IsHeld s.store h → temps ≡ s.temps ++ h ∷ []
      → Moves {A = Unit {0}} (Ok tt) (with_temps temps) (Ok (pushed (state_of s) (value_of s.store h)))
  push_moves h temps all one is = (
    temps_held temps all (subst (λ (hs : List Held). AreHeld s.store hs) (sym is)
        (All-push (IsBefore (length s.store)) s.temps h all.temps one)),
    ap (λ (vs : List Value). let r : Part State = Ok (on_temps vs) in r)
        (sym (map_push (value_of s.store) s.temps h) ∙ ap (values_of s.store) (sym is)),
  )

  -- the value on top is taken
  pub pop_moves : (h : Held) (temps : List Held) → AllHeld s → s.temps ≡ temps ++ h ∷ []
      → Pops (Ok h) (with_temps temps) (popped (state_of s))
  pop_moves h temps all is =
      let held : AreHeld s.store (temps ++ h ∷ []) = subst (λ (hs : List Held). AreHeld s.store hs) is all.temps in (
        temps_held temps all (others_held s.store temps h held),
        last_held s.store temps h held,
        ap (λ (o : Option (List Value × Value)). and_then (found o) (λ p. let r : Part (Value × State) =
            Ok (p.1, on_temps p.0) in r)) (ap parted (ap (values_of s.store) is ∙ map_push (value_of s.store) temps h)
            ∙ parted_push (values_of s.store temps) (value_of s.store h)),
      )

  -- no value is on top
  pub none_popped : s.temps ≡ [] → popped (state_of s) ≡ Err Stuck
  none_popped is = ap (λ (hs : List Held). popped (on_temps (values_of s.store hs))) is

  -- so many at the end of the environment go
  env_kept : (env : List Held) (kept count : ℕ) → kept ≡ length s.env - count → env ≡ take kept s.env
      → values_of s.store env ≡ without count (values_of s.store s.env)
  env_kept env kept count many is =
      ap (values_of s.store) is ∙ ap (λ (n : ℕ). values_of s.store (take n s.env)) many
      ∙ without_values s.store s.env count

  pub forget_moves : (env : List Held) (kept count bound : ℕ) → kept ≡ length s.env - count → env ≡ take kept s.env
      → bound ≡ s.here.bound - count
      → state_of (record s { env = env; here = record s.here { bound = bound } }) ≡ forgotten count (state_of s)
  forget_moves env kept count bound many is fewer =
      ap (λ (vs : List Value). let r : State =
      record (state_of s) { env = vs; here = record s.here { bound = bound } } in r)
      (env_kept env kept count many is)
      ∙ ap (λ (n : ℕ). let r : State = record (state_of s) {
        env = without count (values_of s.store s.env);
        here = record s.here { bound = n };
      } in r) fewer

  -- what the frame has goes, and the frame is this one
  pub leave_moves : (env measures : List Held) (here : Here) (kept : ℕ) → kept ≡ length s.env - s.here.bound
      → env ≡ take kept s.env
      → values_of s.store measures ≡ unmeasured s.here.measured (values_of s.store s.measures)
      → state_of (record s { env = env; measures = measures; here = here }) ≡ left_for here (state_of s)
  leave_moves env measures here kept many is fewer =
      ap (λ (vs : List Value). let r : State = record (state_of s) {
        env = vs;
        measures = values_of s.store measures;
        here = here;
      } in r) (env_kept env kept s.here.bound many is)
      ∙ ap (λ (vs : List Value). let r : State = record (state_of s) {
        env = without s.here.bound (values_of s.store s.env);
        measures = vs;
        here = here;
      } in r) fewer

  pub none_measured : s.here.measured ≡ None
      → values_of s.store s.measures ≡ unmeasured s.here.measured (values_of s.store s.measures)
  none_measured is = ap (λ (o : Option ℕ). unmeasured o (values_of s.store s.measures)) (sym is)

  pub some_measured : (measures : List Held) (kept count : ℕ) → s.here.measured ≡ Some count
      → kept ≡ length s.measures - count → measures ≡ take kept s.measures
      → values_of s.store measures ≡ unmeasured s.here.measured (values_of s.store s.measures)
  some_measured measures kept count some many is =
      ap (values_of s.store) is ∙ ap (λ (n : ℕ). values_of s.store (take n s.measures)) many
      ∙ without_values s.store s.measures count
      ∙ ap (λ (o : Option ℕ). unmeasured o (values_of s.store s.measures)) (sym some)
