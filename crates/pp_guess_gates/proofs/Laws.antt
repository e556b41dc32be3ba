-- The steps of a round of a guess run fit the estimate of that round.
use Rattle.std.proofs.Common.{◌≡◌, ℕ, suc, ◌+◌, ◌*◌, ◌<◌, ◌≤◌, List, [], map, length, Some, sym, ap}
use Rattle.std.proofs.Common.{◌∙◌, arith}
use Rattle.std.specs.Prelude.{slice_get}
use Rattle.pp_prog.specs.declared.expr.Function.{Function}
use Rattle.pp_prog.specs.declared.id.CheckId.{CheckId}
use Rattle.pp_prog.specs.declared.id.DataId.{DataId}
use Rattle.pp_prog.specs.declared.program.Program.{Program}
use Rattle.pp_prog.specs.Sorts.{param_sorts}
use Rattle.pp_domain.specs.Allowance.{times}
use Rattle.pp_estimate.specs.Estimates.{inputs, own_frame, single}
use Rattle.pp_estimate.specs.Events.{Event, calls, compares, cost, looks}
use Rattle.pp_steps.specs.Frames.{numbers}
use Rattle.pp_steps.specs.Guesses.{GuessSteps, Standing, guess_steps, standing}
use Rattle.pp_steps_run.specs.Told.{AllOf}
use Rattle.pp_guess_steps.specs.Laws.{HaveGuessSorts}
use Rattle.pp_guess_gates.specs.Laws.{GuessesFit}
use Rattle.pp_guess_gates.specs.Measure.{round_gates}
use Rattle.pp_guess_gates.proofs.Alone.{all_alone, all_left, compared_after, looked_after, weight_is}
use Rattle.pp_guess_gates.proofs.Looks.{data_number}
use Rattle.pp_guess_gates.proofs.Pairs.{called_by, pairs_worth}
use Rattle.pp_guess_gates.proofs.Prices.{Prices, worth_is}
use Rattle.pp_guess_gates.proofs.Reserves.{left_in}
use Rattle.pp_guess_gates.proofs.Rounds.{arguments_same, last_light}
use Rattle.pp_guess_gates.proofs.Taken.{all_taken, looks_fit}
use Rattle.pp_guess_gates.proofs.Together.{calls_fit, calls_priced, fewer_by_price, none_stray}

module _ (p : Program) (i : ℕ) (f : Function) (is : slice_get p.functions i ≡ Some f) (check : CheckId) (n : ℕ)
    (run : HaveGuessSorts p.types (guess_steps p.functions f check n) (param_sorts f.params)) where
  abbrev g : GuessSteps
  g = guess_steps p.functions f check n

  abbrev all : List Standing
  all = standing 0 g.steps

  abbrev es : List Event
  es = (own_frame p.types p.functions f n 1).events

  -- the looks of all steps, and the comparisons
  abbrev looked : List DataId
  looked = looked_after run.sorts [] 0 g.steps

  abbrev compared : ℕ
  compared = compared_after run.sorts 0 g.steps

  -- what the steps take besides looks and comparisons, and what it is bounded by
  abbrev alone : ℕ
  alone = all_alone p.types run.sorts 0 g.steps + length g.supposed + 1

  abbrev most : ℕ
  most = 2 * inputs p.types 1 (param_sorts f.params) + 2 * cost es + pairs_worth p [] all

  args : map run.sorts (numbers 0 (param_sorts f.params)) ≡ param_sorts f.params
  args = ap (map run.sorts) (sym (arguments_same p f check n)) ∙ run.arguments

  -- with these prices
  priced : (ψ : Prices) → alone + all_left (left_in p ψ n n) all
      + (ψ.look * times (data_number ψ.datatype) looked + ψ.compare * compared)
      ≤ most + (ψ.look * looks es ψ.datatype + (ψ.compare * compares es + ψ.call * calls es ψ.function))
  priced ψ =
      let light = last_light p run.sorts ψ n i f is check args run.sorted in
      let weighs = weight_is p.types run.sorts ψ (left_in p ψ n n) 0 g.steps [] 0 in
      let none = no_price ψ.look ψ.compare in
      let worth_here = worth_is ψ es in
      omega arith
    where
      no_price : (a b : ℕ) → a * 0 + b * 0 ≡ 0
      no_price a b = omega arith

  alone_fits : alone ≤ most
  alone_fits =
      let h = priced (record { datatype = 0; look = 0; compare = 0; function = 0; call = 0; stray = 0 }) in omega arith

  looks_fewer : (d : ℕ) → times (data_number d) looked ≤ looks es d
  looks_fewer d =
      let h = priced (record { datatype = d; look = suc most; compare = 0; function = 0; call = 0; stray = 0 }) in
      fewer_by_price most (times (data_number d) looked) (looks es d) (omega arith)

  compares_fewer : compared ≤ compares es
  compares_fewer =
      let h = priced (record { datatype = 0; look = 0; compare = suc most; function = 0; call = 0; stray = 0 }) in
      fewer_by_price most compared (compares es) (omega arith)

  calls_fewer : (j : ℕ) → called_by j all ≤ calls es j
  calls_fewer j =
      let ψ : Prices = record { datatype = 0; look = 0; compare = 0; function = j; call = suc most; stray = 0 } in
      let h = priced ψ in
      let e = calls_priced p ψ n all in
      fewer_by_price most (called_by j all) (calls es j) (omega arith)

  calls_known : AllOf (λ c. c.call.callee.0 < length p.functions) all
  calls_known =
      let ψ : Prices = record { datatype = 0; look = 0; compare = 0; function = 0; call = 0; stray = suc most } in
      let h = priced ψ in none_stray p ψ n all (omega arith)

  -- the gates and inputs, the constant, the supposed numbers, and as many more as there are steps
  all_fit : 1 + (round_gates p.types run.sorts [] 0 0 g.steps + length g.supposed) + length g.steps
      ≤ single p.types p.functions f n 1
  all_fit =
      let taken = all_taken p.types run.sorts 0 g.steps [] 0 run.sorted tt in
      let few = taken.few in
      let looks_are = looks_fit p.types p.functions looked compared es taken.listed looks_fewer compares_fewer in
      let pairs_are = calls_fit p all es calls_known calls_fewer in
      let fits = alone_fits in
      omega arith

pub guesses_fit : GuessesFit
guesses_fit plan p plans i f is check n run =
    let fits = all_fit p i f is check n run in
    record { gates = omega arith; steps = omega arith }
