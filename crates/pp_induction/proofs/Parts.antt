-- Parts of a function over calls that are known: each is followed in each view.
use Rattle.std.proofs.Common.{ℕ, Bool, true, List, [], ◌∷◌, ◌++◌, map, Option, Some, None, Ok, subst}
use Rattle.pp_prog.specs.declared.expr.Expr.{Expr}
use Rattle.pp_prog.specs.declared.id.CheckId.{CheckId}
use Rattle.pp_prog.specs.declared.program.Program.{Program}
use Rattle.pp_prog.specs.declared.value.Value.{Value}
use Rattle.pp_eval.specs.Invocation.{allowed, frame_of}
use Rattle.pp_eval.specs.Meaning.{CallMeaning, Frame, all_from, meaning}
use Rattle.pp_eval.specs.Operators.{truth}
use Rattle.pp_eval.specs.Part.{Part, and_then}
use Rattle.pp_run_laws.proofs.ExprFollows.{expr_follows}
use Rattle.pp_run_laws.proofs.Follows.{Follows, follows_same, follows_then, follows_value}
use Rattle.pp_run_laws.proofs.Stops.{truth_stops}
use Rattle.pp_induction.proofs.Callees.{AreKnown, fate_at, known_calls, told_at}
use Rattle.pp_induction.proofs.Fates.{fate_follows}
use Rattle.pp_induction.proofs.Views.{IsKept, NotInner, View, calls_in, frame_in, frame_none, not_inner_closed}

-- whether the postcondition is true of the arguments and the result; none always is
abbrev pub claimed : CallMeaning → Option (CheckId × Expr) → Frame → List Value → Value → Part Bool
claimed calls None frame args v = Ok true
claimed calls (Some post) frame args v = and_then (meaning calls post.1 frame (args ++ v ∷ [])) truth

module _ (p : Program) (i : ℕ) (old : Frame) (gs : List ℕ) (known : AreKnown p i old gs) (v : View) where
  abbrev ideal : CallMeaning
  ideal = known_calls p i old gs known

  abbrev viewed : ℕ → CallMeaning
  viewed m = calls_in p.types.ctors p.functions v m

  pub known_follows : (e : Expr) (env : List Value)
      → Follows NotInner (IsKept v) (meaning ideal e old env) (λ m. meaning (viewed m) e (frame_in v old) env)
  known_follows e env =
      expr_follows NotInner (IsKept v) not_inner_closed ideal viewed old (frame_in v old) e
      (λ g has pre down args. fate_follows p.types.ctors p.functions old g args pre down v
      (fate_at p i old gs known g args)
      (told_at p i old gs known g args)) env

  condition_follows : (e : Expr) (env : List Value)
      → Follows NotInner (IsKept v) (and_then (meaning ideal e old env) truth)
      (λ m. and_then (meaning (viewed m) e (frame_in v old) env) truth)
  condition_follows e env =
      follows_then (known_follows e env) (λ x. follows_same (truth x) (truth_stops NotInner tt x))

  list_follows : (es : List Expr) (done env : List Value) → Follows NotInner (IsKept v)
      (all_from done (map (meaning ideal) es) old env) (λ m. all_from done (map (meaning (viewed m)) es)
      (frame_in v old) env)
  list_follows [] done env = follows_value
  list_follows (e ∷ es) done env = follows_then (known_follows e env) (λ x. list_follows es (done ++ x ∷ []) env)

  pub claimed_follows : (post : Option (CheckId × Expr)) (args : List Value) (w : Value)
      → Follows NotInner (IsKept v) (claimed ideal post old args w)
      (λ m. claimed (viewed m) post (frame_in v old) args w)
  claimed_follows None args w = follows_value
  claimed_follows (Some post) args w = condition_follows post.1 (args ++ w ∷ [])

module _ (p : Program) (i : ℕ) (gs : List ℕ) (known : AreKnown p i None gs) (v : View) where
  pub allowed_follows : (pre : Option Expr) (args : List Value) → Follows NotInner (IsKept v)
      (allowed (known_calls p i None gs known) pre args) (λ m. allowed (calls_in p.types.ctors p.functions v m) pre
      args)
  allowed_follows None args = follows_value
  allowed_follows (Some pre) args =
      subst (λ (frame : Frame). Follows NotInner (IsKept v) (and_then
      (meaning (known_calls p i None gs known) pre None args) truth)
      (λ m. and_then (meaning (calls_in p.types.ctors p.functions v m) pre frame args) truth)) (frame_none v)
      (condition_follows p i None gs known v pre args)

  pub frame_follows : (es : List Expr) (args : List Value) → Follows NotInner (IsKept v)
      (frame_of (known_calls p i None gs known) es args) (λ m. frame_of (calls_in p.types.ctors p.functions v m) es
      args)
  frame_follows [] args = follows_value
  frame_follows (e ∷ es) args =
      follows_then
      (subst (λ (frame : Frame). Follows NotInner (IsKept v) (all_from []
      (map (meaning (known_calls p i None gs known)) (e ∷ es)) None args)
      (λ m. all_from [] (map (meaning (calls_in p.types.ctors p.functions v m)) (e ∷ es)) frame args)) (frame_none v)
      (list_follows p i None gs known v (e ∷ es) [] args))
      (λ vs. follows_value)
