-- The second half: values that obey all steps but the open calls, and for which the failing number and all that is
-- supposed are true, are those of a guess run that fails.
use Rattle.std.proofs.Common.{◌≡◌, ◌-◌, ℕ, zero, suc, List, [], ◌∷◌, ◌++◌, map, Option}
use Rattle.std.proofs.Common.{Some, None, Ok, Err, refl, sym, ap, ◌∙◌, subst, Contains}
use Rattle.std.specs.Prelude.{nat_eq, slice_get}
use Rattle.std.proofs.lemmas.Bool.{eqb-true}
use Rattle.pp_prog.specs.declared.expr.Expr.{Expr}
use Rattle.pp_prog.specs.declared.expr.Function.{Function}
use Rattle.pp_prog.specs.declared.id.CheckId.{CheckId}
use Rattle.pp_prog.specs.declared.id.CtorId.{CtorId}
use Rattle.pp_prog.specs.declared.id.FunctionId.{FunctionId}
use Rattle.pp_prog.specs.declared.types.Ctor.{Ctor}
use Rattle.pp_prog.specs.declared.value.Value.{Value}
use Rattle.pp_prog.specs.declared.value.Value.TheVariants.{Bool as Truth}
use Rattle.pp_eval.specs.declared.outcome.Outcome.{Outcome}
use Rattle.pp_eval.specs.declared.outcome.Stop.{Stop}
use Rattle.pp_eval.specs.declared.outcome.Stop.TheVariants as stop
use Rattle.pp_eval.specs.Meaning.{CallMeaning, Frame, meaning}
use Rattle.pp_eval.specs.Operators.{truth}
use Rattle.pp_eval.specs.Part.{Part, and_then}
use Rattle.pp_eval.specs.Runs.{run_with}
use Rattle.pp_eval.proofs.Extends.{CallsCover, Extends}
use Rattle.pp_eval.proofs.Lasts.{run_extends}
use Rattle.pp_guess_runs.specs.Guess.{called, one_less, or_deep, own}
use Rattle.pp_steps.specs.Guesses.{Standing, guess_steps}
use Rattle.pp_steps.specs.Meaning.{Missing, Values, bit}
use Rattle.pp_steps.proofs.Counting.{minus_zero}
use Rattle.pp_steps_run.specs.Told.{AllOf, AreValues, On}
use Rattle.pp_steps_run.proofs.Lasting.{Lasts}
use Rattle.pp_guess_steps.proofs.OwnFrame.{A, base_of, failed_is, fails_is, fails_told, own_cover}
use Rattle.pp_guess_steps.specs.Laws.{ObeysRest}
use Rattle.pp_guess_steps.specs.OpenCalls.{answered, own_answered, own_calls}
use Rattle.pp_guess_steps.proofs.AllTrue.{all, Own, answers, obeys, all_true, deep_some}
use Rattle.pp_guess_steps.proofs.Failures.{pred_is}
use Rattle.pp_guess_steps.proofs.OwnWorld.{hit_of}

deep_other : (o : Option Value) (s : Stop) → or_deep o ≡ Err s → s ≡ stop.Deep
deep_other None s e = let same : stop.Deep ≡ s = cc in sym same
deep_other (Some v) s e = cc

module _ (ctors : List Ctor) (functions : List Function) (field : CtorId → ℕ → Value) (ρ : Values) (f : Function)
    (check : CheckId) (N : ℕ) where
  abbrev World : Missing
  World = Own ctors functions field ρ f check N

  abbrev Calls : List Standing
  Calls = all ctors functions field ρ f check N

  abbrev W : FunctionId → List Value → Option Value
  W = answers ctors functions field ρ f check N

  abbrev An : ℕ → CallMeaning
  An w = answered functions World w

  module _ (rest : ObeysRest ctors World ρ 0 (guess_steps functions f check N).steps)
      (on : AllOf (On ρ) (guess_steps functions f check N).supposed)
      (truths : (c : Standing) → Contains Calls c → ρ c.has ≡ Truth (bit (ρ c.has)))
      (Full : ℕ → CallMeaning) (cover : (w : ℕ) → CallsCover (An w) (Full w))
      (body_lasts : (c : Standing) (g : Function) → Contains Calls c → slice_get functions c.call.callee.0 ≡ Some g
      → Lasts (meaning (Full (suc c.call.wait)) g.body None (map ρ c.call.args)))
      (post_lasts : (c : Standing) (g : Function) (post : CheckId × Expr) → Contains Calls c
      → slice_get functions c.call.callee.0 ≡ Some g → g.post ≡ Some post
      → Lasts (and_then (meaning (Full (suc c.call.wait)) post.1 None (map ρ c.call.args ++ ρ c.result ∷ [])) truth))
    where
      any_called : (n : ℕ) (frame : Frame) (g : FunctionId) (pre down : Option CheckId) (vs : List Value)
          → called functions W n frame g pre down vs ≡ called functions W n None g None None vs
      any_called zero frame g pre down vs = refl
      any_called (suc n) frame g pre down vs = refl

      -- what an open call is answered, the guess run's call comes to
      covers_at : (w m : ℕ) → N - w ≡ m → CallsCover (An w) (called functions W m)
      covers_at w m e frame g pre down vs = by (An w frame g pre down vs) refl
        where
          by : (p : Part Value) → An w frame g pre down vs ≡ p → Extends p (called functions W m frame g pre down vs)
          by (Ok u) is =
              let d = hit_of ρ Calls (λ i. nat_eq i w) g vs u (deep_some _ u is) in
              let r = all_true ctors functions field ρ f check N rest on truths Full cover body_lasts post_lasts d.0
              (d.1).there (record { reach = (d.1).reach; has = (d.1).has }) in
              any_called m frame g pre down vs
              ∙ ap (λ i. called functions W i None g None None vs) (sym e)
              ∙ ap (λ i. called functions W (N - i) None g None None vs) (sym (eqb-true d.0.call.wait w (d.1).wait))
              ∙ ap (λ i. called functions W (N - d.0.call.wait) None i None None vs) (sym (d.1).callee)
              ∙ ap (λ l. called functions W (N - d.0.call.wait) None d.0.call.callee None None l) (sym (d.1).args)
              ∙ r ∙ ap Ok (d.1).value
          by (Err s) is = subst (λ z. Extends (Err z) (called functions W m frame g pre down vs))
              (sym (deep_other _ s is)) tt

      abbrev OwnSteps : CallMeaning
      OwnSteps = own_answered ctors functions World check

      abbrev OwnFull : CallMeaning
      OwnFull = own_calls ctors functions check (Full 1) (Full 0)

      -- the guess run over the table of the calls that were left open fails the check
      pub guess_answers : (args : List Value) → AreValues ρ (A functions f check).out args → Lasts
          (run_with OwnFull f args)
          → On ρ (guess_steps functions f check N).fails → run_with (own ctors functions W check N) f args ≡ Err
          (stop.Fails check)
      guess_answers args are lasts wrong =
          let h = base_of functions f check ctors World ρ N (obeys ctors functions field ρ f check N rest on truths) in
          let is = fails_told ctors functions World ρ check (Full 1) (Full 0) (cover 1) (cover 0) f args h are lasts in
          let failed = failed_is check (run_with OwnSteps f args)
          (sym is ∙ subst (λ k. On ρ k) (fails_is functions f check N) wrong) in
          let more = run_extends OwnSteps (own ctors functions W check N)
          (λ frame g pre down vs. own_cover ctors check (An 1) (An 0) (called functions W (one_less N))
          (called functions W N)
          (covers_at 1 (one_less N) (pred_is N)) (covers_at 0 N (minus_zero N)) (slice_get functions g.0) frame g pre
          down
          vs) f args in
          extends_failed (run_with OwnSteps f args) (run_with (own ctors functions W check N) f args) failed more
        where
          extends_failed : (p q : Part Outcome) → p ≡ Err (stop.Fails check) → Extends p q → q ≡ Err (stop.Fails check)
          extends_failed p q e h =
              let g : Extends (Err (stop.Fails check)) q = subst (λ z. Extends z q) e h in g
