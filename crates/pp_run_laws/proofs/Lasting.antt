-- More fuel changes only what was Deep, so one fuel serves finitely many runs.
use Rattle.std.proofs.Common.{◌≡◌, ◌≢◌, ℕ, ◌+◌, ◌≤◌, List, [], ◌∷◌, Ok, Err, refl, sym, ◌∙◌, arith}
use Rattle.std.proofs.lemmas.List.Elements.{All-cons, All-head, All-nil, All-tail, All-weaker}
use Rattle.pp_prog.specs.declared.expr.Function.{Function}
use Rattle.pp_prog.specs.declared.types.Ctor.{Ctor}
use Rattle.pp_prog.specs.declared.value.Value.{Value}
use Rattle.pp_eval.specs.declared.outcome.Outcome.TheVariants as outcome
use Rattle.pp_eval.specs.Runs.{run}
use Rattle.pp_eval.proofs.Lasts.{lasts}
use Rattle.pp_run_laws.specs.Laws.{OneFuelServes}

more_fuel : (ctors : List Ctor) (fs : List Function) (f : Function) (args : List Value) (n m : ℕ) → n ≤ m
    → run ctors fs f args n ≢ outcome.Deep → run ctors fs f args m ≢ outcome.Deep
more_fuel ctors fs f args n m le never e = never (sym (lasts ctors fs f args n m le never) ∙ e)

pub one_fuel_serves : OneFuelServes
one_fuel_serves ctors fs [] each = (0, All-nil (λ r. run ctors fs r.0 r.1 0 ≢ outcome.Deep))
one_fuel_serves ctors fs (r ∷ runs) each =
    let first = All-head (λ q. (n : ℕ) × (run ctors fs q.0 q.1 n ≢ outcome.Deep)) r runs each in
    let rest = one_fuel_serves ctors fs runs (All-tail (λ q. (n : ℕ) × (run ctors fs q.0 q.1 n ≢ outcome.Deep)) r runs
    each) in
    let n = first.0 + rest.0 in (
      n,
      All-cons (λ q. run ctors fs q.0 q.1 n ≢ outcome.Deep) r runs (more_fuel ctors fs r.0 r.1 first.0 n (omega arith)
          first.1)
          (All-weaker (λ q. run ctors fs q.0 q.1 rest.0 ≢ outcome.Deep) (λ q. run ctors fs q.0 q.1 n ≢ outcome.Deep)
          (λ q never. more_fuel ctors fs q.0 q.1 rest.0 n (omega arith) never) runs rest.1),
    )
