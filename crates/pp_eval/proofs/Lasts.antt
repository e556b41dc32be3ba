-- More fuel changes no outcome of a run but Deep.
use Rattle.std.proofs.Common.{◌≡◌, List, [], ◌∷◌, ◌++◌, Option, Some, None, Ok, Err, refl, ap}
use Rattle.std.specs.Prelude.{◌≢◌}
use Rattle.pp_prog.specs.declared.expr.Expr.{Expr}
use Rattle.pp_prog.specs.declared.expr.Function.{Function}
use Rattle.pp_prog.specs.declared.id.CheckId.{CheckId}
use Rattle.pp_prog.specs.declared.value.Value.{Value}
use Rattle.pp_eval.specs.declared.outcome.Outcome.{Outcome}
use Rattle.pp_eval.specs.declared.outcome.Outcome.TheVariants.{Done, Deep}
use Rattle.pp_eval.specs.declared.outcome.Stop.TheVariants as stop
use Rattle.pp_eval.specs.Invocation.{calls_to}
use Rattle.pp_eval.specs.Laws.{LastsWithFuel, PartsLastWithFuel}
use Rattle.pp_eval.specs.Meaning.{CallMeaning, Frame}
use Rattle.pp_eval.specs.Operators.{truth}
use Rattle.pp_eval.specs.Part.{Part, either}
use Rattle.pp_eval.specs.Runs.{finished, outcome, run_with, started}
use Rattle.pp_eval.proofs.Extends.{CallsCover, Extends, allowed_extends, calls_cover, either_extends, eval_extends}
use Rattle.pp_eval.proofs.Extends.{expr_covers, frame_extends, part_lasts, same_extends, then_extends}

module _ (c d : CallMeaning) (more : CallsCover c d) where
  finished_extends : (post : Option (CheckId × Expr)) (frame : Frame) (args : List Value) (v : Value)
      → Extends (finished c post frame args v) (finished d post frame args v)
  finished_extends None frame args v = refl
  finished_extends (Some post) frame args v =
      then_extends _ _ _ _ (expr_covers c d more post.1 frame (args ++ v ∷ [])) (λ p.
      then_extends _ _ _ _ (same_extends (truth p)) (λ t. same_extends
      (either t (Ok (Done v)) (Err (stop.Fails post.0)))))

  started_extends : (f : Function) (args : List Value) → Extends (started c f args) (started d f args)
  started_extends f args =
      then_extends _ _ _ _ (frame_extends c d more f.measure args) (λ frame.
      then_extends _ _ _ _ (expr_covers c d more f.body frame args) (λ v. finished_extends f.post frame args v))

  -- a run over calls that have more values
  pub run_extends : (f : Function) (args : List Value) → Extends (run_with c f args) (run_with d f args)
  run_extends f args =
      then_extends _ _ _ _ (allowed_extends c d more f.pre args)
      (λ allows. either_extends allows _ _ _ _ (started_extends f args) refl)

outcome_lasts : (r s : Part Outcome) → Extends r s → outcome r ≢ Deep → outcome s ≡ outcome r
outcome_lasts (Ok o) s e ne = ap outcome e
outcome_lasts (Err (stop.Fails c)) s e ne = ap outcome e
outcome_lasts (Err (stop.Inner g c)) s e ne = ap outcome e
outcome_lasts (Err stop.Deep) s e ne = absurd (ne refl)
outcome_lasts (Err stop.Stuck) s e ne = absurd (ne refl)

pub lasts : LastsWithFuel
lasts ctors fs f args n m le ne =
    outcome_lasts _ _ (run_extends (calls_to ctors fs n) (calls_to ctors fs m) (calls_cover ctors fs n m le) f args) ne

pub parts_last : PartsLastWithFuel
parts_last = record {
  expressions = λ ctors fs n m frame env e le never. part_lasts _ _ (eval_extends ctors fs n m frame env e le) never;
  runs = λ ctors fs f args n m le never.
      part_lasts _ _ (run_extends (calls_to ctors fs n) (calls_to ctors fs m) (calls_cover ctors fs n m le) f args)
      never;
}
