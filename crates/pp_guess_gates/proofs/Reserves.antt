-- What is left for a call that stands open: what the visits of its body and its postcondition are worth, which a later
-- round unfolds. It is taken at arguments without height, since visits of higher ones are worth no less.
use Rattle.std.proofs.Common.{◌≡◌, ℕ, zero, suc, ◌+◌, ◌-◌, ◌≤◌, if◌then◌else◌, Bool, true, false, List, [], ◌∷◌}
use Rattle.std.proofs.Common.{map}
use Rattle.std.proofs.Common.{Option, Some, None, sym, ap, arith}
use Rattle.std.proofs.lemmas.Bool.Decides.{nat_tests}
use Rattle.std.proofs.lemmas.Option.{slice_get_within}
use Rattle.std.specs.Prelude.{◌<◌, nat_lt, slice_get, length}
use Rattle.pp_prog.specs.declared.expr.Function.{Function}
use Rattle.pp_prog.specs.declared.id.FunctionId.{FunctionId}
use Rattle.pp_prog.specs.declared.program.Program.{Program}
use Rattle.pp_prog.specs.declared.sort.Sort.{Sort}
use Rattle.pp_prog.specs.declared.sort.Sort.TheVariants as sort
use Rattle.pp_prog.specs.Sizes.{height_at}
use Rattle.pp_prog.specs.Sorts.{param_sorts}
use Rattle.pp_estimate.specs.declared.shape.Shape.{Shape}
use Rattle.pp_estimate.specs.Estimates.{shapes_to}
use Rattle.pp_estimate.specs.Frames.{components, inner_calls, post_events}
use Rattle.pp_estimate.specs.Visits.{Calls, Visit, shape_of, visit_of}
use Rattle.pp_estimate_laws.proofs.Growth.{ShapesGrow, shapes_grow}
use Rattle.pp_estimate_laws.proofs.Numbers.{plus_grows}
use Rattle.pp_steps.specs.declared.step.OpenCall.{OpenCall}
use Rattle.pp_steps.specs.Sorted.{Sorts}
use Rattle.pp_guess_gates.proofs.Prices.{Prices, call_price, worth, worth_grows}
use Rattle.pp_guess_gates.proofs.Scopes.{Are}
use Rattle.pp_estimate_laws.proofs.Visits.{CallsGrow, expr_grows}
use Rattle.pp_estimate_laws.proofs.Frames.{components_grow, inner_grow, post_grows}

-- arguments without height are at most as high as any of their sorts
pub none_higher : (σ : Sorts) (ns : List ℕ) (hs : List Shape) (ss : List Sort) → Are σ ns hs ss
    → ShapesGrow (shapes_to 0 ss) hs
none_higher σ [] [] [] a = tt
none_higher σ (n ∷ ns) (h ∷ hs) (s ∷ ss) a =
    (record { sorts = sym a.0.shape; heights = low s h.height }, none_higher σ ns hs ss a.1)
  where
    low : (s : Sort) (n : ℕ) → height_at 0 s ≤ n
    low sort.Int n = omega arith
    low sort.Bool n = omega arith
    low (sort.Tree d) n = omega arith
none_higher σ ns hs ss a = absurd a

module _ (p : Program) (ψ : Prices) where
  -- the visits of f, with these calls, at these arguments
  abbrev pub measure_shapes : Calls → Function → List Shape → List Shape
  measure_shapes calls f hs = map shape_of (components p.types calls f.measure hs)

  abbrev pub body_visit : Calls → Function → List Shape → Visit
  body_visit calls f hs = visit_of p.types calls f.body (measure_shapes calls f hs) hs

  -- what its body and its postcondition are worth
  abbrev pub body_worth : Calls → Function → List Shape → ℕ
  body_worth calls f hs =
      let v = body_visit calls f hs in
      worth ψ v.events + worth ψ (post_events p.types calls f.post (measure_shapes calls f hs) hs v.shape)

  abbrev pub worth_left : Calls → Option Function → ℕ
  worth_left calls None = 0
  worth_left calls (Some f) = body_worth calls f (shapes_to 0 (param_sorts f.params))

  -- what is left for a call with so much fuel
  abbrev pub reserve : ℕ → FunctionId → ℕ
  reserve zero g = 0
  reserve (suc m) g = 10 + worth_left (inner_calls p.types p.functions m) (slice_get p.functions g.0)

  module _ (calls : Calls) (more : CallsGrow calls calls) where
    body_grows : (f : Function) (a b : List Shape) → ShapesGrow a b → body_worth calls f a ≤ body_worth calls f b
    body_grows f a b h =
        let measures = shapes_grow _ _ (components_grow p.types calls more f.measure a b h) in
        let body = expr_grows p.types calls calls more f.body _ _ a b measures h in
        plus_grows _ _ _ _ (worth_grows ψ _ _ body.events)
        (worth_grows ψ _ _ (post_grows p.types calls more f.post _ _ a b _ _ measures h body.shapes))

  -- at any arguments of the parameters' sorts the visits are worth what is left
  pub reserve_low : (σ : Sorts) (m : ℕ) (g : FunctionId) (f : Function) → slice_get p.functions g.0 ≡ Some f
      → (ns : List ℕ) (hs : List Shape) → Are σ ns hs (param_sorts f.params)
      → reserve (suc m) g ≤ 10 + body_worth (inner_calls p.types p.functions m) f hs
  reserve_low σ m g f is ns hs are =
      let calls = inner_calls p.types p.functions m in
      let at = ap (worth_left calls) is in
      let grows = body_grows calls (inner_grow p.types p.functions m) f (shapes_to 0 (param_sorts f.params)) hs
      (none_higher σ ns hs (param_sorts f.params) are) in
      omega arith

  -- the price of an open call
  abbrev pub open_price : OpenCall → ℕ
  open_price c = call_price ψ c.callee + (if nat_lt c.callee.0 (length p.functions) then 0 else ψ.stray)

  -- what an open call leaves in round n, of which the calls that wait for fewer than r rounds are unfolded: its price,
  -- and what is left for it
  abbrev pub left_in : ℕ → ℕ → OpenCall → ℕ
  left_in n r c = open_price c + (if nat_lt c.wait r then 0 else reserve (n - c.wait) c.callee)

  pub left_low : (n r : ℕ) (c : OpenCall) (f : Function) → slice_get p.functions c.callee.0 ≡ Some f
      → left_in n r c ≤ call_price ψ c.callee + reserve (n - c.wait) c.callee
  left_low n r c f is =
      by (nat_lt c.callee.0 (length p.functions)) (nat_lt c.wait r) (call_price ψ c.callee)
      (reserve (n - c.wait) c.callee)
      (lt_on c.callee.0 (length p.functions) (slice_get_within p.functions c.callee.0 f is))
    where
      lt_on : (a b : ℕ) → a < b → nat_lt a b ≡ true
      lt_on a b h = grind (arith, nat_tests)

      by : (a b : Bool) (x m : ℕ) → a ≡ true
          → x + (if a then 0 else ψ.stray) + (if b then 0 else m) ≤ x + m
      by false b x m h = cc
      by true true x m h = omega arith
      by true false x m h = omega arith
