-- Calls and their pairs, one after another, are no more than those of the estimate.
use Rattle.std.proofs.Common.{◌≡◌, ℕ, suc, ◌+◌, ◌*◌, ◌<◌, ◌≤◌, inl, inr, if◌then◌else◌, Bool, true, false, List}
use Rattle.std.proofs.Common.{[], ◌∷◌, ◌++◌, length, refl, sym, ap, subst, arith, append_assoc, append-nil}
use Rattle.std.proofs.lemmas.Bool.Decides.{leb_tells, nat_tests}
use Rattle.std.proofs.Math.Nat.{add-mul, mul-add, mul-le-mul_left, mul-suc}
use Rattle.std.specs.Prelude.{nat_eq, nat_lt, slice_get}
use Rattle.pp_prog.specs.declared.program.Program.{Program}
use Rattle.pp_estimate.specs.Estimates.{by_calls, pairs, sum_below}
use Rattle.pp_estimate.specs.Events.{Event, calls, one_if}
use Rattle.pp_estimate_laws.proofs.Numbers.{below_grows, le_same, times_grow}
use Rattle.pp_steps.specs.Guesses.{Standing}
use Rattle.pp_steps_run.specs.Told.{AllOf}
use Rattle.pp_guess_gates.proofs.Alone.{all_left}
use Rattle.pp_guess_gates.proofs.Looks.{pairs_grow, pairs_next, sum_more}
use Rattle.pp_guess_gates.proofs.Pairs.{called_by, pair_worth, pairs_worth}
use Rattle.pp_guess_gates.proofs.Prices.{Prices}
use Rattle.pp_guess_gates.proofs.Reserves.{left_in}

-- a price that is greater than all else tells that there are no more on the one side
pub fewer_by_price : (most a b : ℕ) → suc most * a ≤ most + suc most * b → a ≤ b
fewer_by_price most a b le = elim (leb_tells a b) [
  | inl low ↦ low.1
  | inr high ↦ absurd (no (mul-le-mul_left (suc most) (above high.1)))
]
  where
    above : b < a → suc b ≤ a
    above h = omega arith

    no : suc most * suc b ≤ suc most * a → ⊥
    no h = let e = mul-suc (suc most) b in omega arith

called_more : (g : ℕ) (cs : List Standing) (c : Standing) → called_by g cs ≤ called_by g (cs ++ c ∷ [])
called_more g [] c = omega arith
called_more g (d ∷ cs) c = let rest = called_more g cs c in omega arith

called_here : (cs : List Standing) (c : Standing)
    → called_by c.call.callee.0 (cs ++ c ∷ []) ≡ suc (called_by c.call.callee.0 cs)
called_here [] c = by (nat_eq c.call.callee.0 c.call.callee.0) (same_number c.call.callee.0)
  where
    same_number : (n : ℕ) → nat_eq n n ≡ true
    same_number n = grind (arith, nat_tests)

    by : (b : Bool) → b ≡ true → one_if b + 0 ≡ 1
    by true e = refl
    by false e = cc
called_here (d ∷ cs) c = let rest = called_here cs c in omega arith

module _ (p : Program) where
  abbrev count : ℕ
  count = length p.functions

  -- what the estimate takes for the pairs of these calls
  abbrev calls_worth : List Standing → ℕ
  calls_worth cs = sum_below count (λ g. pairs (called_by g cs) * pair_worth (slice_get p.functions g))

  abbrev Known : Standing → Type 0
  Known c = c.call.callee.0 < count

  pairs_fit : (olds cs : List Standing) → AllOf Known cs
      → pairs_worth p olds cs + calls_worth olds ≤ calls_worth (olds ++ cs)
  pairs_fit olds [] h = subst (λ l. 0 + calls_worth olds ≤ calls_worth l) (sym (append-nil olds)) (omega arith)
  pairs_fit olds (c ∷ cs) h =
      let g = c.call.callee.0 in
      let most = pair_worth (slice_get p.functions g) in
      let rest = pairs_fit (olds ++ c ∷ []) cs h.1 in
      let at = ap calls_worth (append_assoc olds (c ∷ []) cs) in
      let next = ap (λ i. pairs i * most) (called_here olds c) in
      let one = ap (λ i. i * most) (pairs_next (called_by g olds)) in
      let two = add-mul (pairs (called_by g olds)) (called_by g olds) most in
      let more = sum_more count (λ i. pairs (called_by i olds) * pair_worth (slice_get p.functions i))
      (λ i. pairs (called_by i (olds ++ c ∷ [])) * pair_worth (slice_get p.functions i)) g (called_by g olds * most) h.0
      (λ i. times_grow _ _ _ _ (pairs_grow _ _ (called_more i olds c)) (le_same (pair_worth (slice_get p.functions i))))
      (omega arith) in
      omega arith

  -- where there are no more calls of any function, the estimate takes no less for their pairs
  pub calls_fit : (cs : List Standing) (es : List Event) → AllOf Known cs → ((g : ℕ) → called_by g cs ≤ calls es g)
      → pairs_worth p [] cs ≤ by_calls p.types p.functions es
  calls_fit cs es known each =
      let pairs_are = pairs_fit [] cs known in
      let fewer = below_grows count (λ g. pairs (called_by g cs) * pair_worth (slice_get p.functions g))
      (λ g. pairs (calls es g) * pair_worth (slice_get p.functions g))
      (λ g. times_grow _ _ _ _ (pairs_grow _ _ (each g)) (le_same (pair_worth (slice_get p.functions g)))) in
      omega arith

  -- ---- what calls leave

  module _ (ψ : Prices) (n : ℕ) where
    abbrev leaves : List Standing → ℕ
    leaves = all_left (left_in p ψ n n)

    -- at least the prices of the calls of the priced function
    pub calls_priced : (cs : List Standing) → ψ.call * called_by ψ.function cs ≤ leaves cs
    calls_priced [] = omega arith
    calls_priced (c ∷ cs) =
        let rest = calls_priced cs in
        let e = mul-add ψ.call (one_if (nat_eq ψ.function c.call.callee.0)) (called_by ψ.function cs) in
        let one = priced (nat_eq ψ.function c.call.callee.0) (nat_eq c.call.callee.0 ψ.function)
        (turned ψ.function c.call.callee.0) in
        omega arith
      where
        turned : (a b : ℕ) → nat_eq a b ≡ nat_eq b a
        turned a b = grind (arith, nat_tests)

        priced : (a b : Bool) → a ≡ b → ψ.call * one_if a ≡ (if b then ψ.call else 0)
        priced true true e = omega arith
        priced false false e = omega arith
        priced true false e = cc
        priced false true e = cc

    -- and where a stray call costs more than all that is left, none is stray
    pub none_stray : (cs : List Standing) → leaves cs < ψ.stray → AllOf Known cs
    none_stray [] less = tt
    none_stray (c ∷ cs) less =
        (by (nat_lt c.call.callee.0 count) refl, none_stray cs (omega arith))
      where
        told : (a b : ℕ) → nat_lt a b ≡ true → a < b
        told a b h = grind (arith, nat_tests)

        by : (b : Bool) → nat_lt c.call.callee.0 count ≡ b → c.call.callee.0 < count
        by true e = told c.call.callee.0 count e
        by false e = absurd (let at = ap (λ b. if b then 0 else ψ.stray) e in omega arith)
