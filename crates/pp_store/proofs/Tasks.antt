-- What the tasks that are left make of the values that were made.
use Rattle.std.proofs.Common.{◌≡◌, ◌∙◌, ℕ, ◌<◌, List, [], ◌∷◌, ◌++◌, All, length, map, reverse, take, drop, refl}
use Rattle.std.proofs.Common.{sym, ap, subst}
use Rattle.std.specs.List.{sum_by}
use Rattle.std.proofs.lemmas.List.{length-map, map-append, map_push}
use Rattle.std.proofs.lemmas.List.Elements.{All-append, All-cons, All-head, All-map, All-nil}
use Rattle.pp_prog.specs.declared.id.CtorId.{CtorId}
use Rattle.pp_prog.specs.declared.value.Value.{Value}
use Rattle.pp_prog.specs.declared.value.Value.TheVariants as value
use Rattle.pp_store.specs.declared.held.Held.{Held}
use Rattle.pp_store.specs.declared.held.Held.TheVariants as held
use Rattle.pp_store.specs.declared.unload.Task.{Task}
use Rattle.pp_store.specs.declared.unload.Task.TheVariants.{Unload, Build}
use Rattle.pp_store.specs.Values.{IsHeld, value_of, values_of}
use Rattle.pp_store.specs.Work.{IsOpened, IsUnloaded, Step, Put, Join, tree_steps, tree_tasks}
use Rattle.pp_store.proofs.Pairs.{all_left, all_right}
use Rattle.pp_store.proofs.Steps.{ComesTo, joined_comes, joined_less, only_value, opened_comes, opened_less}
use Rattle.pp_store.proofs.Steps.{put_comes, put_less, work}

module _ (trees : List Value) where
  abbrev pub step_of : Task → Step
  step_of (Unload h) = Put (value_of trees h)
  step_of (Build c n) = Join c n

  abbrev pub steps_of : List Task → List Step
  steps_of tasks = map step_of tasks

  abbrev pub IsHeldTask : Task → Type 0
  IsHeldTask (Unload h) = IsHeld trees h
  IsHeldTask (Build c n) = Unit {0}

  -- how much work the tasks are
  abbrev pub work_of : List Task → ℕ
  work_of tasks = sum_by work (steps_of tasks)

  -- the tasks come to the value alone, and all that they unload is held
  pub record IsUnloading (v : Value) (tasks : List Task) (values : List Value) : Type 0 where
    pub held : All IsHeldTask tasks
    pub comes : ComesTo v (steps_of tasks) values

  pub unloading_first : (h : Held) → IsHeld trees h → IsUnloading (value_of trees h) (Unload h ∷ []) []
  unloading_first h is =
      record { held = All-cons IsHeldTask (Unload h) [] is (All-nil IsHeldTask); comes = refl }

  steps_of_fields : (fs : List Held) → steps_of (map Unload fs) ≡ map Put (values_of trees fs)
  steps_of_fields [] = refl
  steps_of_fields (f ∷ fs) = ap (λ (l : List Step). Put (value_of trees f) ∷ l) (steps_of_fields fs)

  steps_of_tree : (c : CtorId) (fs : List Held)
      → steps_of (tree_tasks c fs) ≡ tree_steps c (values_of trees fs)
  steps_of_tree c fs =
      ap (λ (n : ℕ). Join c n ∷ steps_of (map Unload fs)) (sym (length-map fs (value_of trees)))
      ∙ ap (λ (l : List Step). Join c (length (values_of trees fs)) ∷ l) (steps_of_fields fs)

  opened_steps : (rest next : List Task) (c : CtorId) (fs : List Held) → next ≡ rest ++ tree_tasks c fs
      → steps_of next ≡ steps_of rest ++ tree_steps c (values_of trees fs)
  opened_steps rest next c fs grows =
      ap steps_of grows ∙ map-append step_of rest (tree_tasks c fs)
      ∙ ap (λ (l : List Step). steps_of rest ++ l) (steps_of_tree c fs)

  -- ---- a task is done

  module _ (tasks rest : List Task) (task : Task) (popped : tasks ≡ rest ++ task ∷ []) where
    popped_steps : steps_of tasks ≡ steps_of rest ++ step_of task ∷ []
    popped_steps = ap steps_of popped ∙ map_push step_of rest task

    unload_step : (h : Held) → task ≡ Unload h → step_of task ≡ Put (value_of trees h)
    unload_step h e = ap step_of e

    build_step : (c : CtorId) (n : ℕ) → task ≡ Build c n → step_of task ≡ Join c n
    build_step c n e = ap step_of e

    leaf_less : (h : Held) (next : List Task) → task ≡ Unload h → next ≡ rest → work_of next < work_of tasks
    leaf_less h next e same =
        put_less (steps_of tasks) (steps_of rest) (step_of task) popped_steps (value_of trees h) (steps_of next)
        (unload_step h e) (ap steps_of same)

    pub unloaded_less : (h : Held) (next : List Task) (values new : List Value) → task ≡ Unload h
        → IsUnloaded trees rest next values new h → work_of next < work_of tasks
    unloaded_less (held.Int n) next values new e u = leaf_less (held.Int n) next e u.0
    unloaded_less (held.Bool b) next values new e u = leaf_less (held.Bool b) next e u.0
    unloaded_less (held.Tree k) next values new e u =
        let o = u.0 in
        opened_less (steps_of tasks) (steps_of rest) (step_of task) popped_steps (value_of trees (held.Tree k)) o.ctor
        (values_of trees o.fields) (steps_of next) (unload_step (held.Tree k) e) o.value
        (opened_steps rest next o.ctor o.fields o.grows)

    pub built_less : (c : CtorId) (n : ℕ) → task ≡ Build c n → work_of rest < work_of tasks
    built_less c n e =
        joined_less (steps_of tasks) (steps_of rest) (step_of task) popped_steps c n (build_step c n e)

    module _ (v : Value) (values : List Value) (is : IsUnloading v tasks values) where
      rest_held : All IsHeldTask rest
      rest_held = all_left IsHeldTask rest (task ∷ []) (subst (All IsHeldTask) popped is.held)

      pub task_held : (h : Held) → task ≡ Unload h → IsHeld trees h
      task_held h e =
          subst IsHeldTask e
          (All-head IsHeldTask task [] (all_right IsHeldTask rest (task ∷ []) (subst (All IsHeldTask) popped is.held)))

      leaf : (h : Held) (w : Value) (next : List Task) (new : List Value) → task ≡ Unload h → value_of trees h ≡ w
          → next ≡ rest → new ≡ values ++ w ∷ [] → IsUnloading v next new
      leaf h w next new e f same grows =
          record {
            held = subst (All IsHeldTask) (sym same) rest_held;
            comes = put_comes (steps_of tasks) (steps_of rest) (step_of task) popped_steps v values is.comes w
                (steps_of next) new (unload_step h e ∙ ap Put f) (ap steps_of same) grows;
          }

      tree : (k : ℕ) (next : List Task) (new : List Value) → task ≡ Unload (held.Tree k)
          → IsOpened trees k rest next → new ≡ values → IsUnloading v next new
      tree k next new e o same =
          record {
            held = subst (All IsHeldTask) (sym o.grows)
                (All-append IsHeldTask rest (tree_tasks o.ctor o.fields) rest_held
                (All-cons IsHeldTask (Build o.ctor (length o.fields)) (map Unload o.fields) tt
                (All-map IsHeldTask Unload o.fields o.held)));
            comes = opened_comes (steps_of tasks) (steps_of rest) (step_of task) popped_steps v values is.comes
                (value_of trees (held.Tree k)) o.ctor (values_of trees o.fields) (steps_of next) new
                (unload_step (held.Tree k) e) o.value (opened_steps rest next o.ctor o.fields o.grows) same;
          }

      pub unloaded_next : (h : Held) (next : List Task) (new : List Value) → task ≡ Unload h
          → IsUnloaded trees rest next values new h → IsUnloading v next new
      unloaded_next (held.Int n) next new e u = leaf (held.Int n) (value.Int n) next new e refl u.0 u.1
      unloaded_next (held.Bool b) next new e u = leaf (held.Bool b) (value.Bool b) next new e refl u.0 u.1
      unloaded_next (held.Tree k) next new e u = tree k next new e u.0 u.1

      -- a tree is built of the last values
      pub built : (c : CtorId) (n : ℕ) (new : List Value) → task ≡ Build c n
          → reverse new ≡ value.Tree c (take n (reverse values)) ∷ drop n (reverse values) → IsUnloading v rest new
      built c n new e made =
          record {
            held = rest_held;
            comes = joined_comes (steps_of tasks) (steps_of rest) (step_of task) popped_steps v values is.comes c n new
                (build_step c n e) made;
          }

  -- ---- no task is left

  pub unloaded : (v : Value) (tasks : List Task) (values : List Value) → IsUnloading v tasks values → tasks ≡ []
      → values ≡ v ∷ []
  unloaded v tasks values is e = only_value v (steps_of tasks) values is.comes (ap steps_of e)
