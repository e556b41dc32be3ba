-- What steps weigh is what they take by themselves, the prices of their looks and comparisons, and what open calls
-- leave.
use Rattle.std.proofs.Common.{◌≡◌, ℕ, suc, ◌+◌, ◌*◌, if◌then◌else◌, Bool, true, false, List, [], ◌∷◌, ◌++◌, ap, arith}
use Rattle.std.proofs.Math.Nat.{mul-add}
use Rattle.std.specs.Prelude.{nat_eq}
use Rattle.pp_prog.specs.declared.id.DataId.{DataId}
use Rattle.pp_prog.specs.declared.sort.Sort.{Sort}
use Rattle.pp_prog.specs.declared.sort.Sort.TheVariants as sort
use Rattle.pp_prog.specs.declared.types.TypeTable.{TypeTable}
use Rattle.pp_prog.specs.Sizes.{by_sort, width}
use Rattle.pp_domain.specs.Allowance.{times}
use Rattle.pp_steps.specs.declared.step.OpenCall.{OpenCall}
use Rattle.pp_steps.specs.declared.step.Step.{Step}
use Rattle.pp_steps.specs.declared.step.Step.TheVariants as steps
use Rattle.pp_operators.specs.Gates.{unary_gates}
use Rattle.pp_steps.specs.Guesses.{Standing, standing}
use Rattle.pp_steps.specs.Sorted.{Sorts}
use Rattle.pp_guess_gates.specs.Measure.{datatype_in, newly_compared, newly_looked, operator_gates}
use Rattle.pp_guess_gates.proofs.Pieces.{weight}
use Rattle.pp_guess_gates.proofs.Prices.{Prices, look_price}

-- what is left by these calls
abbrev pub all_left : (OpenCall → ℕ) → List Standing → ℕ
all_left left [] = 0
all_left left (c ∷ cs) = left c.call + all_left left cs

module _ (σ : Sorts) where
  -- the datatypes of the trees that were looked at after these steps, the first of which has the number k, and before
  abbrev pub looked_after : List DataId → ℕ → List Step → List DataId
  looked_after looks k [] = looks
  looked_after looks k (s ∷ ss) = looked_after (newly_looked σ k s ++ looks) (suc k) ss

  -- and how often two trees were compared
  abbrev pub compared_after : ℕ → List Step → ℕ
  compared_after compares [] = compares
  compared_after compares (s ∷ ss) = compared_after (newly_compared σ s + compares) ss

module _ (types : TypeTable) (σ : Sorts) where
  -- a step by itself: one, and what it takes besides looks and comparisons
  abbrev pub alone : ℕ → Step → ℕ
  alone k (steps.Open s) = 1 + width s
  alone k (steps.HasAnswer c) = 2
  alone k (steps.Answer c) = 1 + width c.result
  alone k (steps.Both a b) = 2
  alone k (steps.Choose c a b) = 1 + width (σ k)
  alone k (steps.Unary op a) = 1 + unary_gates op
  alone k (steps.Binary op a b) = 1 + operator_gates types op (σ a)
  alone k (steps.GoesDown a b) = 1 + by_sort 1024 0 (λ d. 194) (σ a)
  alone k s = 1

  -- all steps, the first of which has the number k
  abbrev pub all_alone : ℕ → List Step → ℕ
  all_alone k [] = 0
  all_alone k (s ∷ ss) = alone k s + all_alone (suc k) ss

  module _ (ψ : Prices) (left : OpenCall → ℕ) where
    abbrev pub priced_data : DataId
    priced_data = record { 0 = ψ.datatype }

    -- a look at a tree
    look_priced : (s : Sort) (looks : List DataId)
        → ψ.look * times priced_data (datatype_in s ++ looks)
        ≡ by_sort 0 0 (look_price ψ) s + ψ.look * times priced_data looks
    look_priced sort.Int looks = omega arith
    look_priced sort.Bool looks = omega arith
    look_priced (sort.Tree d) looks = by (nat_eq d.0 ψ.datatype) (times priced_data looks)
      where
        by : (b : Bool) (n : ℕ)
            → ψ.look * (if b then 1 + n else n) ≡ (if b then ψ.look else 0) + ψ.look * n
        by true n = let e = mul-add ψ.look 1 n in let one : ψ.look * 1 ≡ ψ.look = omega arith in omega arith
        by false n = omega arith

    -- a comparison of two values
    comparison_priced : (s : Sort) (compares : ℕ)
        → by_sort 1024 0 (λ d. 194) s + ψ.compare * (by_sort 0 0 (λ d. 1) s + compares)
        ≡ by_sort 1024 0 (λ d. 194 + ψ.compare) s + ψ.compare * compares
    comparison_priced sort.Int compares = let e = mul-add ψ.compare 0 compares in omega arith
    comparison_priced sort.Bool compares = let e = mul-add ψ.compare 0 compares in omega arith
    comparison_priced (sort.Tree d) compares =
        let e = mul-add ψ.compare 1 compares in let one : ψ.compare * 1 ≡ ψ.compare = omega arith in omega arith

    nothing_priced : (compares : ℕ) → ψ.compare * (0 + compares) ≡ ψ.compare * compares
    nothing_priced compares = ap (λ n. ψ.compare * n) (plain compares)
      where
        plain : (n : ℕ) → 0 + n ≡ n
        plain n = omega arith

    -- what the prices of these looks and comparisons are
    abbrev pub spent : List DataId → ℕ → ℕ
    spent looks compares = ψ.look * times priced_data looks + ψ.compare * compares

    abbrev W : ℕ → List Step → ℕ
    W = weight types σ ψ left

    pub weight_is : (k : ℕ) (ss : List Step) (looks : List DataId) (compares : ℕ)
        → W k ss + spent looks compares
        ≡ all_alone k ss + all_left left (standing k ss)
        + spent (looked_after σ looks k ss) (compared_after σ compares ss)
    weight_is k [] looks compares = omega arith
    weight_is k (steps.HasAnswer c ∷ ss) looks compares =
        let rest = weight_is (suc k) ss looks (0 + compares) in let e = nothing_priced compares in omega arith
    weight_is k (steps.Answer c ∷ ss) looks compares =
        let rest = weight_is (suc k) ss looks (0 + compares) in let e = nothing_priced compares in omega arith
    weight_is k (steps.Open s ∷ ss) looks compares =
        let rest = weight_is (suc k) ss looks (0 + compares) in let e = nothing_priced compares in omega arith
    weight_is k (steps.Int z ∷ ss) looks compares =
        let rest = weight_is (suc k) ss looks (0 + compares) in let e = nothing_priced compares in omega arith
    weight_is k (steps.Bool b ∷ ss) looks compares =
        let rest = weight_is (suc k) ss looks (0 + compares) in let e = nothing_priced compares in omega arith
    weight_is k (steps.Not a ∷ ss) looks compares =
        let rest = weight_is (suc k) ss looks (0 + compares) in let e = nothing_priced compares in omega arith
    weight_is k (steps.Both a b ∷ ss) looks compares =
        let rest = weight_is (suc k) ss looks (0 + compares) in let e = nothing_priced compares in omega arith
    weight_is k (steps.Choose c a b ∷ ss) looks compares =
        let rest = weight_is (suc k) ss looks (0 + compares) in let e = nothing_priced compares in omega arith
    weight_is k (steps.Unary op a ∷ ss) looks compares =
        let rest = weight_is (suc k) ss looks (0 + compares) in let e = nothing_priced compares in omega arith
    weight_is k (steps.Binary op a b ∷ ss) looks compares =
        let rest = weight_is (suc k) ss looks (0 + compares) in let e = nothing_priced compares in omega arith
    weight_is k (steps.CtorField c i a ∷ ss) looks compares =
        let rest = weight_is (suc k) ss looks (0 + compares) in let e = nothing_priced compares in omega arith
    weight_is k (steps.IsAlike a b ∷ ss) looks compares =
        let rest = weight_is (suc k) ss looks (0 + compares) in let e = nothing_priced compares in omega arith
    weight_is k (steps.Construct c fields ∷ ss) looks compares =
        let rest = weight_is (suc k) ss (datatype_in (σ k) ++ looks) (0 + compares) in
        let here = look_priced (σ k) looks in
        let e = nothing_priced compares in
        omega arith
    weight_is k (steps.IsCtor c n a ∷ ss) looks compares =
        let rest = weight_is (suc k) ss (datatype_in (σ a) ++ looks) (0 + compares) in
        let here = look_priced (σ a) looks in
        let e = nothing_priced compares in
        omega arith
    weight_is k (steps.Field a i ∷ ss) looks compares =
        let rest = weight_is (suc k) ss (datatype_in (σ a) ++ looks) (0 + compares) in
        let here = look_priced (σ a) looks in
        let e = nothing_priced compares in
        omega arith
    weight_is k (steps.GoesDown a b ∷ ss) looks compares =
        let rest = weight_is (suc k) ss looks (by_sort 0 0 (λ d. 1) (σ a) + compares) in
        let here = comparison_priced (σ a) compares in
        omega arith
