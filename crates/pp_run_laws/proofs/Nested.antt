-- A call tree that is at most n deep needs no more fuel.
use Rattle.std.proofs.Common.{◌≡◌, ℕ, zero, suc, List, Option, Some, None, slice_get, refl, sym, ap, ◌∙◌, subst}
use Rattle.std.proofs.Common.{Contains}
use Rattle.std.proofs.Math.Logic.{∥∥₁_elim}
use Rattle.pp_graph.specs.Reaches.{calls_of}
use Rattle.pp_prog.specs.declared.expr.Function.{Function}
use Rattle.pp_prog.specs.declared.id.CheckId.{CheckId}
use Rattle.pp_prog.specs.declared.id.FunctionId.{FunctionId}
use Rattle.pp_prog.specs.declared.types.Ctor.{Ctor}
use Rattle.pp_prog.specs.declared.value.Value.{Value}
use Rattle.pp_prog.specs.Calls.{call_table, function_calls}
use Rattle.pp_eval.specs.Invocation.{calls_over, enters, no_fuel}
use Rattle.pp_eval.specs.Meaning.{CallMeaning, Frame}
use Rattle.pp_eval.specs.Runs.{outcome, run_with}
use Rattle.pp_sound.proofs.Answered.{can_answer_sorted}
use Rattle.pp_sound.proofs.Laws.{deep_by_fuel_alone}
use Rattle.pp_checks.specs.Closed.{Nests}
use Rattle.pp_checks.proofs.Ruling.{calls_at}
use Rattle.pp_run_laws.specs.Laws.{NestedNeverDeep, SameAt}
use Rattle.pp_run_laws.proofs.Depends.{enters_same, run_same}

module _ (ctors : List Ctor) (fs : List Function) (c d : CallMeaning) where
  -- the two do the same at calls of h with this fuel
  abbrev AreSame : ℕ → FunctionId → Type 0
  AreSame n h =
      (frame : Frame) (pre down : Option CheckId) (args : List Value)
      → calls_over c ctors fs n frame h pre down args ≡ calls_over d ctors fs n frame h pre down args

  entered : (n : ℕ) (g : FunctionId) (o : Option Function) → slice_get fs g.0 ≡ o
      → ((h : FunctionId) → Contains (calls_of (call_table fs) g.0) h.0 → AreSame n h) → AreSame (suc n) g
  entered n g o e same frame pre down args =
      ap (λ q. enters (calls_over c ctors fs n) ctors q frame g pre down args) e ∙ by o e
      ∙ sym (ap (λ q. enters (calls_over d ctors fs n) ctors q frame g pre down args) e)
    where
      by : (q : Option Function) → slice_get fs g.0 ≡ q → enters (calls_over c ctors fs n) ctors q frame g pre down args
          ≡ enters (calls_over d ctors fs n) ctors q frame g pre down args
      by None is = refl
      by (Some f) is =
          let same_at : SameAt (function_calls f) (calls_over c ctors fs n) (calls_over d ctors fs n) =
          λ frame h has. same h (subst (λ l. Contains l h.0) (sym (calls_at fs g.0 f is)) has) frame in
          enters_same (calls_over c ctors fs n) (calls_over d ctors fs n) ctors f same_at frame g pre down args

  -- calls of functions whose call tree is at most n deep don't come to those that are nested deeper
  same_nested : (n : ℕ) (g : FunctionId) → Nests (call_table fs) n g.0 → AreSame (suc n) g
  same_nested zero g nests frame pre down args =
      entered zero g (slice_get fs g.0) refl (λ h has frame pre down args. absurd (nests h.0 has)) frame pre down args
  same_nested (suc n) g nests frame pre down args =
      entered (suc n) g (slice_get fs g.0) refl (λ h has. same_nested n h (nests h.0 has)) frame pre down args

  -- so a run of such a function is the same, whatever those do that are nested deeper
  run_nested : (n i : ℕ) (f : Function) → slice_get fs i ≡ Some f → Nests (call_table fs) n i → (args : List Value)
      → run_with (calls_over c ctors fs n) f args ≡ run_with (calls_over d ctors fs n) f args
  run_nested zero i f is nests args =
      run_same _ _ f (λ frame g has. absurd (nests g.0 (subst (λ l. Contains l g.0) (sym (calls_at fs i f is)) has)))
      args
  run_nested (suc n) i f is nests args =
      run_same _ _ f
      (λ frame g has. same_nested n g (nests g.0 (subst (λ l. Contains l g.0) (sym (calls_at fs i f is)) has)) frame)
      args

pub nested_never_deep : NestedNeverDeep
nested_never_deep p i f args called n nests e =
    ∥∥₁_elim (can_answer_sorted p) ⊥_prop (λ k. deep_by_fuel_alone p k.0 k.1 i f args called n
    (sym (ap outcome (run_nested p.types.ctors p.functions no_fuel k.0 n i f called.function nests args)) ∙ e))
  where
    ⊥_prop : IsProp ⊥
    ⊥_prop = hlevel
