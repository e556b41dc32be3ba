-- Once the calls that wait for r rounds are unfolded, nothing more is left for them, and their steps weigh at most what
-- was.
use Rattle.std.proofs.Common.{◌≡◌, ℕ, suc, ◌+◌, ◌-◌, ◌<◌, ◌≤◌, if◌then◌else◌, Bool, true, false, List, []}
use Rattle.std.proofs.Common.{◌∷◌, ◌++◌, length, refl, ap, arith, length-append}
use Rattle.std.proofs.lemmas.Bool.{eqb-true}
use Rattle.std.proofs.lemmas.Bool.Decides.{nat_tests}
use Rattle.std.specs.Prelude.{nat_eq, nat_lt}
use Rattle.pp_prog.specs.declared.program.Program.{Program}
use Rattle.pp_steps.specs.declared.step.OpenCall.{OpenCall}
use Rattle.pp_steps.specs.declared.step.Step.{Step}
use Rattle.pp_steps.specs.declared.step.Step.TheVariants as steps
use Rattle.pp_steps.specs.Guesses.{Standing, all_unfolded, one_unfolded, standing, unfolded_call}
use Rattle.pp_steps.specs.Piece.{Piece, after, joined, plain}
use Rattle.pp_steps.specs.Sorted.{AllSorted, Sorts}
use Rattle.pp_steps_run.specs.Told.{AllOf}
use Rattle.pp_guess_steps.proofs.Sorting.{IsCallSorted}
use Rattle.pp_guess_gates.proofs.Pieces.{load, load_of_both, sorted_left, sorted_right, weight, weight_of_both}
use Rattle.pp_guess_gates.proofs.Prices.{Prices}
use Rattle.pp_guess_gates.proofs.Reserves.{left_in, open_price, reserve}
use Rattle.pp_guess_gates.proofs.Unfolding.{call_unfolds}

module _ (p : Program) (σ : Sorts) (ψ : Prices) (n r : ℕ) where
  abbrev old : OpenCall → ℕ
  old = left_in p ψ n r

  abbrev new : OpenCall → ℕ
  new = left_in p ψ n (suc r)

  -- what is left for the calls that wait for r rounds
  abbrev freed_by : OpenCall → ℕ
  freed_by c = if nat_eq c.wait r then reserve p ψ (n - c.wait) c.callee else 0

  abbrev pub freed : List Standing → ℕ
  freed [] = 0
  freed (c ∷ cs) = freed_by c.call + freed cs

  call_freed : (c : OpenCall) → old c ≡ new c + freed_by c
  call_freed c = tests (open_price p ψ c) c.wait (reserve p ψ (n - c.wait) c.callee)
    where
      tests : (a w m : ℕ) → a + (if nat_lt w r then 0 else m)
          ≡ a + (if nat_lt w (suc r) then 0 else m) + (if nat_eq w r then m else 0)
      tests a w m = grind (arith, nat_tests)

  abbrev W : ℕ → List Step → ℕ
  W = weight p.types σ ψ old

  abbrev V : ℕ → List Step → ℕ
  V = weight p.types σ ψ new

  steps_freed : (k : ℕ) (ss : List Step) → W k ss ≡ V k ss + freed (standing k ss)
  steps_freed k [] = refl
  steps_freed k (steps.HasAnswer c ∷ ss) = let rest = steps_freed (suc k) ss in let here = call_freed c in omega arith
  steps_freed k (steps.Answer c ∷ ss) = let rest = steps_freed (suc k) ss in omega arith
  steps_freed k (steps.Open s ∷ ss) = let rest = steps_freed (suc k) ss in omega arith
  steps_freed k (steps.Int z ∷ ss) = let rest = steps_freed (suc k) ss in omega arith
  steps_freed k (steps.Bool b ∷ ss) = let rest = steps_freed (suc k) ss in omega arith
  steps_freed k (steps.Not a ∷ ss) = let rest = steps_freed (suc k) ss in omega arith
  steps_freed k (steps.Both a b ∷ ss) = let rest = steps_freed (suc k) ss in omega arith
  steps_freed k (steps.Choose c a b ∷ ss) = let rest = steps_freed (suc k) ss in omega arith
  steps_freed k (steps.Unary op a ∷ ss) = let rest = steps_freed (suc k) ss in omega arith
  steps_freed k (steps.Binary op a b ∷ ss) = let rest = steps_freed (suc k) ss in omega arith
  steps_freed k (steps.Construct c fields ∷ ss) = let rest = steps_freed (suc k) ss in omega arith
  steps_freed k (steps.IsCtor c m a ∷ ss) = let rest = steps_freed (suc k) ss in omega arith
  steps_freed k (steps.CtorField c i a ∷ ss) = let rest = steps_freed (suc k) ss in omega arith
  steps_freed k (steps.Field a i ∷ ss) = let rest = steps_freed (suc k) ss in omega arith
  steps_freed k (steps.IsAlike a b ∷ ss) = let rest = steps_freed (suc k) ss in omega arith
  steps_freed k (steps.GoesDown a b ∷ ss) = let rest = steps_freed (suc k) ss in omega arith

  abbrev L : {A : Type 0} → ℕ → Piece A → ℕ
  L = load p.types σ ψ new

  module _ (less : r < n) where
    one_unfolds : (b : Bool) (c : Standing) → nat_eq c.call.wait r ≡ b → IsCallSorted p σ c → (k : ℕ)
        → AllSorted p.types σ k (one_unfolded p.functions b k c).steps
        → L k (one_unfolded p.functions b k c) + length (one_unfolded p.functions b k c).out
        ≤ (if b then reserve p ψ (n - c.call.wait) c.call.callee else 0)
    one_unfolds false c e s k m = omega arith
    one_unfolds true c e s k m =
        let waits = eqb-true c.call.wait r e in
        let x = unfolded_call p.functions k c in
        let y : Piece (List ℕ) = plain [] (x.out ∷ []) 0 in
        let fuel : n - r ≡ suc (n - suc r) = omega arith in
        let h = call_unfolds p σ ψ n (suc r) r (n - suc r) fuel c waits s k (sorted_left p.types σ k x y m) in
        let at = ap (λ i. reserve p ψ (n - i) c.call.callee) waits in
        let sum_is = load_of_both p.types σ ψ new k x y in
        omega arith

    pub all_unfold : (cs : List Standing) → AllOf (IsCallSorted p σ) cs → (k : ℕ)
        → AllSorted p.types σ k (all_unfolded p.functions r k cs).steps
        → L k (all_unfolded p.functions r k cs) + length (all_unfolded p.functions r k cs).out ≤ freed cs
    all_unfold [] s k m = omega arith
    all_unfold (c ∷ cs) s k m =
        let x = one_unfolded p.functions (nat_eq c.call.wait r) k c in
        let i = after k x in
        let y = all_unfolded p.functions r i cs in
        let z : Piece (List ℕ) = plain [] (x.out ++ y.out) 0 in
        let my = sorted_right p.types σ k x (joined y z) m in
        let hx = one_unfolds (nat_eq c.call.wait r) c refl s.0 k (sorted_left p.types σ k x (joined y z) m) in
        let hy = all_unfold cs s.1 i (sorted_left p.types σ i y z my) in
        let sum_1 = load_of_both p.types σ ψ new k x (joined y z) in
        let sum_2 = load_of_both p.types σ ψ new i y z in
        let outs = length-append x.out y.out in
        omega arith

    -- the steps of the next round, before its calls agree, and what is supposed of them weigh no more than this one's
    pub round_unfolds : (ss : List Step) → AllOf (IsCallSorted p σ) (standing 0 ss)
        → AllSorted p.types σ (length ss) (all_unfolded p.functions r (length ss) (standing 0 ss)).steps
        → let x = all_unfolded p.functions r (length ss) (standing 0 ss) in V 0 (ss ++ x.steps) + length x.out ≤ W 0 ss
    round_unfolds ss s m =
        let x = all_unfolded p.functions r (length ss) (standing 0 ss) in
        let few = all_unfold (standing 0 ss) s (length ss) m in
        let free = steps_freed 0 ss in
        let both = weight_of_both p.types σ ψ new 0 ss x.steps in
        let start : 0 + length ss ≡ length ss = omega arith in
        let at = ap (λ i. V i x.steps) start in
        omega arith
