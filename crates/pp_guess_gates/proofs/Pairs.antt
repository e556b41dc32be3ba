-- Each two calls of one function: what says that they agree weighs at most what the estimate takes for a pair.
use Rattle.std.proofs.Common.{◌≡◌, ℕ, suc, ◌+◌, ◌*◌, ◌≤◌, if◌then◌else◌, Bool, true, false, List, [], ◌∷◌, ◌++◌, map}
use Rattle.std.proofs.Common.{sum, length, Option, Some, None, refl, sym, ap, ◌∙◌, arith, append_assoc, append-nil}
use Rattle.std.proofs.Common.{length-append}
use Rattle.std.proofs.lemmas.Bool.{eqb-true}
use Rattle.std.proofs.lemmas.List.Sums.{sum-map, sum_by-cons}
use Rattle.std.proofs.Math.Nat.{add-mul}
use Rattle.std.specs.Prelude.{nat_eq, slice_get}
use Rattle.pp_tree.specs.declared.operator.BinaryOp.TheVariants.{Equal}
use Rattle.pp_prog.specs.declared.expr.Function.{Function}
use Rattle.pp_prog.specs.declared.program.Program.{Program}
use Rattle.pp_prog.specs.declared.sort.Sort.{Sort}
use Rattle.pp_prog.specs.declared.sort.Sort.TheVariants as sort
use Rattle.pp_prog.specs.Sizes.{by_sort, width}
use Rattle.pp_estimate.specs.Estimates.{widths_at}
use Rattle.pp_estimate.specs.Events.{one_if}
use Rattle.pp_steps.specs.declared.step.OpenCall.{OpenCall}
use Rattle.pp_steps.specs.declared.step.Step.{Step}
use Rattle.pp_steps.specs.declared.step.Step.TheVariants as steps
use Rattle.pp_steps.specs.Frames.{result_of}
use Rattle.pp_steps.specs.Guesses.{Standing, agreeing, agreeing_with, all_agreeing, answering_alike, equal_all}
use Rattle.pp_steps.specs.Guesses.{equal_answers, params_of}
use Rattle.pp_steps.specs.Piece.{Piece, after, joined, plain}
use Rattle.pp_steps.specs.Sorted.{Sorts}
use Rattle.pp_steps_run.specs.Told.{AllOf}
use Rattle.pp_steps_run.proofs.Pieces.{all_join}
use Rattle.pp_guess_steps.proofs.Sorting.{IsCallSorted}
use Rattle.pp_guess_gates.proofs.Pieces.{weight, weight_of_both}
use Rattle.pp_guess_gates.proofs.Prices.{Prices}

-- an argument of a pair, and the result with what stands beside it
argument_fits : (s : Sort) → 3 + by_sort 64 1 (λ d. 64) s ≤ 4 * width s
argument_fits sort.Int = omega arith
argument_fits sort.Bool = omega arith
argument_fits (sort.Tree d) = omega arith

result_fits : (s : Sort) → 21 + by_sort 64 1 (λ d. 64) s ≤ 64 + 4 * width s
result_fits sort.Int = omega arith
result_fits sort.Bool = omega arith
result_fits (sort.Tree d) = omega arith

widths_first : (s : Sort) (ss : List Sort) → sum (map width (s ∷ ss)) ≡ width s + sum (map width ss)
widths_first s ss = rw (sum-map width (s ∷ ss), sum_by-cons width s ss, ← sum-map width ss) refl

-- what the estimate takes for a pair of calls of a function
abbrev pub pair_worth : Option Function → ℕ
pair_worth o = 64 + 4 * widths_at o

-- how many of the calls are of function number g
abbrev pub called_by : ℕ → List Standing → ℕ
called_by g [] = 0
called_by g (c ∷ cs) = one_if (nat_eq g c.call.callee.0) + called_by g cs

module _ (p : Program) where
  -- what all pairs of later calls with earlier ones are estimated at
  abbrev pub pairs_worth : List Standing → List Standing → ℕ
  pairs_worth olds [] = 0
  pairs_worth olds (c ∷ cs) =
      called_by c.call.callee.0 olds * pair_worth (slice_get p.functions c.call.callee.0)
      + pairs_worth (olds ++ c ∷ []) cs

  pub pairs_split : (olds xs ys : List Standing)
      → pairs_worth olds (xs ++ ys) ≡ pairs_worth olds xs + pairs_worth (olds ++ xs) ys
  pairs_split olds [] ys = ap (λ l. pairs_worth l ys) (sym (append-nil olds)) ∙ none_more _
    where
      none_more : (n : ℕ) → n ≡ 0 + n
      none_more n = omega arith
  pairs_split olds (x ∷ xs) ys =
      let rest = pairs_split (olds ++ x ∷ []) xs ys in
      let at = ap (λ l. pairs_worth l ys) (append_assoc olds (x ∷ []) xs) in
      omega arith

module _ (p : Program) (σ : Sorts) (ψ : Prices) (left : OpenCall → ℕ) where
  abbrev W : ℕ → List Step → ℕ
  W = weight p.types σ ψ left

  equal_few : (k : ℕ) (xs ys : List ℕ) (test : ℕ) (ss : List Sort) → map σ xs ≡ ss → map σ ys ≡ ss
      → W k (equal_all k xs ys test).steps ≤ 4 * sum (map width ss)
  equal_few k [] [] test ss a b = omega arith
  equal_few k [] (y ∷ ys) test [] a b = let no : σ y ∷ map σ ys ≡ [] = b in cc
  equal_few k [] (y ∷ ys) test (s ∷ ss) a b = let no : [] ≡ s ∷ ss = a in cc
  equal_few k (x ∷ xs) [] test [] a b = let no : σ x ∷ map σ xs ≡ [] = a in cc
  equal_few k (x ∷ xs) [] test (s ∷ ss) a b = let no : [] ≡ s ∷ ss = b in cc
  equal_few k (x ∷ xs) (y ∷ ys) test [] a b = let no : σ x ∷ map σ xs ≡ [] = a in cc
  equal_few k (x ∷ xs) (y ∷ ys) test (s ∷ ss) a b =
      let first : σ x ∷ map σ xs ≡ s ∷ ss = a in
      let second : σ y ∷ map σ ys ≡ s ∷ ss = b in
      let here : σ x ≡ s = cc in
      let these : map σ xs ≡ ss = cc in
      let those : map σ ys ≡ ss = cc in
      let p2 : Piece ℕ = plain (steps.Binary Equal x y ∷ steps.Both test k ∷ []) (suc k) test in
      let rest = equal_few (after k p2) xs ys (suc k) ss these those in
      let both = weight_of_both p.types σ ψ left k p2.steps (equal_all (after k p2) xs ys (suc k)).steps in
      let same = ap (λ t. by_sort 64 1 (λ d. 64) t) here in
      let fits = argument_fits s in
      let more = widths_first s ss in
      omega arith

  alike_few : (b : Bool) (k : ℕ) (c d : Standing) (near : ℕ) → IsCallSorted p σ c
      → W k (answering_alike b k c d near).steps + length (answering_alike b k c d near).out ≤ 7
  alike_few false k c d near s = omega arith
  alike_few true k c d near s = let bit = ap (λ t. by_sort 64 1 (λ d. 64) t) s.has in omega arith

  answers_few : (k : ℕ) (c d : Standing) (near : ℕ)
      → W k (equal_answers k c d near).steps + length (equal_answers k c d near).out
      ≤ 10 + by_sort 64 1 (λ d. 64) (σ c.result)
  answers_few k c d near = omega arith

  -- calls of one function, of this function if it is there
  module _ (k : ℕ) (c d : Standing) (t : ℕ) (s : IsCallSorted p σ c) (z : IsCallSorted p σ d)
      (same : d.call.callee.0 ≡ c.call.callee.0) where
    abbrev f : Option Function
    f = slice_get p.functions c.call.callee.0

    widths_are : (o : Option Function) → 4 * sum (map width (params_of o)) + (21 + by_sort 64 1 (λ d. 64) (result_of o))
        ≤ pair_worth o
    widths_are None = omega arith
    widths_are (Some g) = let fits = result_fits g.result in omega arith

    agreeing_few : W k (agreeing k c d t).steps + length (agreeing k c d t).out ≤ pair_worth f
    agreeing_few =
        let x = equal_all k c.call.args d.call.args t in
        let i = after k x in
        let near : Piece ℕ = plain (steps.Both x.out c.call.reach ∷ steps.Both i d.call.reach ∷ []) (suc i) x.out in
        let j = after i near in
        let a = answering_alike (nat_eq c.call.wait d.call.wait) j c d (suc i) in
        let l = after j a in
        let e = equal_answers l c d (suc i) in
        let u : Piece (List ℕ) = plain [] (a.out ++ e.out) x.out in
        let first = s.args ∙ s.labels.params in
        let second = z.args ∙ z.labels.params ∙ ap (λ i. params_of (slice_get p.functions i)) same in
        let hx = equal_few k c.call.args d.call.args t (params_of f) first second in
        let ha = alike_few (nat_eq c.call.wait d.call.wait) j c d (suc i) s in
        let he = answers_few l c d (suc i) in
        let result = ap (λ t. by_sort 64 1 (λ d. 64) t) (s.result ∙ s.labels.result) in
        let sum_1 = weight_of_both p.types σ ψ left k x.steps (joined near (joined a (joined e u))).steps in
        let sum_2 = weight_of_both p.types σ ψ left i near.steps (joined a (joined e u)).steps in
        let sum_3 = weight_of_both p.types σ ψ left j a.steps (joined e u).steps in
        let sum_4 = weight_of_both p.types σ ψ left l e.steps u.steps in
        let outs = length-append a.out e.out in
        let fits = widths_are f in
        omega arith

  one_pair : (b : Bool) (k : ℕ) (c d : Standing) (t : ℕ) → IsCallSorted p σ c → IsCallSorted p σ d
      → nat_eq c.call.callee.0 d.call.callee.0 ≡ b
      → let x = if b then agreeing k c d t else plain [] [] t in
      W k x.steps + length x.out ≤ one_if b * pair_worth (slice_get p.functions c.call.callee.0)
  one_pair false k c d t s z e = omega arith
  one_pair true k c d t s z e =
      let few = agreeing_few k c d t s z (sym (eqb-true c.call.callee.0 d.call.callee.0 e)) in omega arith

  with_few : (k : ℕ) (c : Standing) (ds : List Standing) (t : ℕ) → IsCallSorted p σ c → AllOf (IsCallSorted p σ) ds
      → W k (agreeing_with k c ds t).steps + length (agreeing_with k c ds t).out
      ≤ called_by c.call.callee.0 ds * pair_worth (slice_get p.functions c.call.callee.0)
  with_few k c [] t s z = omega arith
  with_few k c (d ∷ ds) t s z =
      let b = nat_eq c.call.callee.0 d.call.callee.0 in
      let x = if b then agreeing k c d t else plain [] [] t in
      let i = after k x in
      let y = agreeing_with i c ds t in
      let u : Piece (List ℕ) = plain [] (x.out ++ y.out) t in
      let hx = one_pair b k c d t s z.0 refl in
      let hy = with_few i c ds t s z.1 in
      let sum_1 = weight_of_both p.types σ ψ left k x.steps (joined y u).steps in
      let sum_2 = weight_of_both p.types σ ψ left i y.steps u.steps in
      let outs = length-append x.out y.out in
      let more = add-mul (one_if b) (called_by c.call.callee.0 ds)
      (pair_worth (slice_get p.functions c.call.callee.0)) in
      omega arith

  pub pairs_few : (k : ℕ) (olds cs : List Standing) (t : ℕ) → AllOf (IsCallSorted p σ) olds
      → AllOf (IsCallSorted p σ) cs
      → W k (all_agreeing k olds cs t).steps + length (all_agreeing k olds cs t).out ≤ pairs_worth p olds cs
  pairs_few k olds [] t s z = omega arith
  pairs_few k olds (c ∷ cs) t s z =
      let x = agreeing_with k c olds t in
      let i = after k x in
      let y = all_agreeing i (olds ++ c ∷ []) cs t in
      let u : Piece (List ℕ) = plain [] (x.out ++ y.out) t in
      let hx = with_few k c olds t z.0 s in
      let hy = pairs_few i (olds ++ c ∷ []) cs t (all_join (IsCallSorted p σ) olds (c ∷ []) s (z.0, tt)) z.1 in
      let sum_1 = weight_of_both p.types σ ψ left k x.steps (joined y u).steps in
      let sum_2 = weight_of_both p.types σ ψ left i y.steps u.steps in
      let outs = length-append x.out y.out in
      omega arith
