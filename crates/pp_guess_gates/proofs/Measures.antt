-- Measures that are compared: their steps weigh at most what the comparison is worth, and eleven for each component.
use Rattle.std.proofs.Common.{◌≡◌, ℕ, suc, ◌+◌, ◌*◌, ◌≤◌, List, [], ◌∷◌, length, Option, Some, None, sym, ◌∙◌, subst}
use Rattle.std.proofs.Common.{arith}
use Rattle.std.proofs.lemmas.List.{length-map}
use Rattle.pp_tree.specs.declared.operator.BinaryOp.TheVariants.{Equal}
use Rattle.pp_prog.specs.declared.id.CheckId.{CheckId}
use Rattle.pp_prog.specs.declared.sort.Sort.{Sort}
use Rattle.pp_prog.specs.declared.sort.Sort.TheVariants as sort
use Rattle.pp_prog.specs.declared.types.TypeTable.{TypeTable}
use Rattle.pp_prog.specs.Sizes.{bits, by_sort, nodes}
use Rattle.pp_estimate.specs.declared.shape.Shape.{Shape}
use Rattle.pp_estimate.specs.Visits.{compared, comparison, component_events}
use Rattle.pp_estimate_laws.proofs.Numbers.{le_same, times_grow}
use Rattle.pp_steps.specs.declared.step.OpenCall.{OpenCall}
use Rattle.pp_steps.specs.declared.step.Step.TheVariants as steps
use Rattle.pp_steps.specs.Frames.{Frame, descending, falling, lower, shaped}
use Rattle.pp_steps.specs.Piece.{Piece, after, asks, demand, joined, plain}
use Rattle.pp_steps.specs.Sorted.{AllSorted, Sorts}
use Rattle.pp_steps_gates.proofs.Pieces.{IsBit}
use Rattle.pp_steps_gates.proofs.Tables.{FrameCovers, Row, number_of, numbers_of, shape_in, shapes_in}
use Rattle.pp_guess_gates.proofs.Pieces.{IsLight, bit_choice, demand_light, joined_light, lighter, load, sorted_left}
use Rattle.pp_guess_gates.proofs.Pieces.{sorted_right}
use Rattle.pp_guess_gates.proofs.Prices.{Prices, worth, worth_of_both}
use Rattle.pp_guess_gates.proofs.Scopes.{IsOf}

module _ (types : TypeTable) (ψ : Prices) where
  -- the product that a compared tree weighs is at least that of trees without bits and nodes
  least_product : (b m : ℕ) → 128 ≤ 4 * (32 + b) * (1 + m)
  least_product b m = times_grow 128 (4 * (32 + b)) 1 (1 + m) (wide b) (one_more m)
    where
      wide : (b : ℕ) → 128 ≤ 4 * (32 + b)
      wide b = omega arith

      one_more : (m : ℕ) → 1 ≤ 1 + m
      one_more m = omega arith

  -- a component that goes down, and is equal
  component_fits : (s : Sort) (new old : ℕ)
      → by_sort 1024 0 (λ d. 194 + ψ.compare) s + by_sort 64 1 (λ d. 64) s
      ≤ worth ψ (component_events types s new old) + 2
  component_fits sort.Int new old = omega arith
  component_fits sort.Bool new old = omega arith
  component_fits (sort.Tree d) new old =
      let least = least_product (bits types new (sort.Tree d)) (nodes types old (sort.Tree d)) in omega arith

-- the number has the sort of the shape
abbrev pub Fits : Sorts → ℕ → Shape → Type 0
Fits σ n h = σ n ≡ h.sort

pub shape_fits : (σ : Sorts) (n : ℕ) (h : Shape) (s : Sort) → IsOf σ n h s → Fits σ n h
shape_fits σ n h s a = a.has ∙ sym a.shape

module _ (types : TypeTable) (σ : Sorts) (ψ : Prices) (left : OpenCall → ℕ) where
  abbrev L : {A : Type 0} → ℕ → Piece A → ℕ
  L = load types σ ψ left

  row_fits : (x y : Row (Fits σ))
      → by_sort 1024 0 (λ d. 194 + ψ.compare) (σ x.number) + by_sort 64 1 (λ d. 64) (σ x.number)
      ≤ worth ψ (component_events types x.shape.sort x.shape.height y.shape.height) + 2
  row_fits x y =
      subst (λ s. by_sort 1024 0 (λ d. 194 + ψ.compare) s + by_sort 64 1 (λ d. 64) s
      ≤ worth ψ (component_events types x.shape.sort x.shape.height y.shape.height) + 2) (sym x.has)
      (component_fits types ψ x.shape.sort x.shape.height y.shape.height)

  falling_light : (new old : List (Row (Fits σ))) (k alive : ℕ) → IsBit σ alive
      → AllSorted types σ k (falling (numbers_of new) (numbers_of old) k alive).steps
      → IsLight types σ ψ left (IsBit σ) k (falling (numbers_of new) (numbers_of old) k alive)
      (worth ψ (comparison types (shapes_in new) (shapes_in old)) + (8 * length new + 1))
  falling_light [] old k alive a m = record { out = m.0; alive = a; few = omega arith }
  falling_light (x ∷ xs) [] k alive a m = record { out = m.0; alive = a; few = omega arith }
  falling_light (x ∷ []) (y ∷ ys) k alive a m =
      let fits = row_fits x y in
      let es = component_events types x.shape.sort x.shape.height y.shape.height in
      let worth_is = worth_of_both ψ es [] in
      record { out = m.0.1; alive = a; few = omega arith }
  falling_light (x ∷ z ∷ xs) (y ∷ ys) k alive a m =
      let new = z ∷ xs in
      let p : Piece ℕ = plain
      (steps.GoesDown x.number y.number ∷ steps.Binary Equal x.number y.number ∷ []) k alive in
      let i = after k p in
      let q = falling (numbers_of new) (numbers_of ys) i alive in
      let j = after i q in
      let l : Piece ℕ = plain (steps.Both (suc k) q.out ∷ steps.Choose k k j ∷ []) (suc j) alive in
      let mq = sorted_right types σ k p (joined q l) m in
      let ml = sorted_right types σ i q l mq in
      let hq = falling_light new ys i alive a (sorted_left types σ i q l mq) in
      let bit : IsBit σ (suc j) = sym ml.1.0.1 ∙ m.0.1 in
      let one = bit_choice types σ ψ left (suc j) k k j bit in
      let fits = row_fits x y in
      let es = component_events types x.shape.sort x.shape.height y.shape.height in
      let worth_is = worth_of_both ψ es (comparison types (shapes_in new) (shapes_in ys)) in
      let few_p : L k p ≤ worth ψ es + 4 = omega arith in
      let few_l : L j l ≤ 4 = omega arith in
      let few_q = hq.few in
      lighter types σ ψ left (IsBit σ) k (joined p (joined q l))
      (worth ψ es + 4 + (worth ψ (comparison types (shapes_in new) (shapes_in ys)) + (8 * length new + 1) + 4))
      (worth ψ (comparison types (shapes_in (x ∷ new)) (shapes_in (y ∷ ys))) + (8 * length (x ∷ new) + 1))
      (joined_light types σ ψ left (IsBit σ) k p (joined q l) (worth ψ es + 4) _ few_p
      (joined_light types σ ψ left (IsBit σ) i q l _ 4 few_q (record { out = bit; alive = a; few = few_l })))
      (omega arith)

  shaped_light : (new old : List ℕ) (k test alive : ℕ) → IsBit σ test → IsBit σ alive
      → AllSorted types σ k (shaped new old k test alive).steps
      → IsLight types σ ψ left (IsBit σ) k (shaped new old k test alive) (3 * length new + 1)
  shaped_light [] [] k test alive t a m = record { out = t; alive = a; few = omega arith }
  shaped_light [] (y ∷ ys) k test alive t a m = record { out = m.0; alive = a; few = omega arith }
  shaped_light (x ∷ xs) [] k test alive t a m = record { out = m.0; alive = a; few = omega arith }
  shaped_light (x ∷ xs) (y ∷ ys) k test alive t a m =
      let p : Piece ℕ = plain (steps.IsAlike x y ∷ steps.Both test k ∷ []) (suc k) alive in
      let q = shaped xs ys (after k p) (suc k) alive in
      let hq = shaped_light xs ys (after k p) (suc k) alive m.1.0.2 a (sorted_right types σ k p q m) in
      lighter types σ ψ left (IsBit σ) k (joined p q) (3 + (3 * length xs + 1)) (3 * suc (length xs) + 1)
      (joined_light types σ ψ left (IsBit σ) k p q 3 (3 * length xs + 1) (le_same 3) hq) (omega arith)

  lower_light : (new old : List (Row (Fits σ))) (k alive : ℕ) → IsBit σ alive
      → AllSorted types σ k (lower (numbers_of new) (numbers_of old) k alive).steps
      → IsLight types σ ψ left (IsBit σ) k (lower (numbers_of new) (numbers_of old) k alive)
      (worth ψ (comparison types (shapes_in new) (shapes_in old)) + (11 * length new + 2))
  lower_light new old k alive a m =
      let p = falling (numbers_of new) (numbers_of old) k alive in
      let q = shaped (numbers_of new) (numbers_of old) (after k p) p.out alive in
      let hp = falling_light new old k alive a (sorted_left types σ k p q m) in
      let hq = shaped_light (numbers_of new) (numbers_of old) (after k p) p.out alive hp.out a
      (sorted_right types σ k p q m) in
      let count = length-map new number_of in
      let most = worth ψ (comparison types (shapes_in new) (shapes_in old)) in
      lighter types σ ψ left (IsBit σ) k (joined p q) (most + (8 * length new + 1) + (3 * length (numbers_of new) + 1))
      (most + (11 * length new + 2))
      (joined_light types σ ψ left (IsBit σ) k p q _ (3 * length (numbers_of new) + 1) hp.few hq) (omega arith)

  compared_light : (asked : Option CheckId) (c : CheckId) (new old : List (Row (Fits σ))) (k alive : ℕ) → IsBit σ alive
      → AllSorted types σ k
      (descending asked (Some c) (Some (numbers_of old)) (Some (numbers_of new)) k alive).steps
      → IsLight types σ ψ left (IsBit σ) k
      (descending asked (Some c) (Some (numbers_of old)) (Some (numbers_of new)) k alive)
      (worth ψ (comparison types (shapes_in new) (shapes_in old)) + (11 * length (shapes_in new) + 9))
  compared_light asked c new old k alive a m =
      let p = lower (numbers_of new) (numbers_of old) k alive in
      let d = demand (asks asked (Some c)) (after k p) p.alive p.out in
      let hp = lower_light new old k alive a (sorted_left types σ k p d m) in
      let hd = demand_light types σ ψ left (asks asked (Some c)) (after k p) p.alive p.out
      (sorted_right types σ k p d m) in
      let count = length-map new shape_in in
      let most = worth ψ (comparison types (shapes_in new) (shapes_in old)) in
      lighter types σ ψ left (IsBit σ) k (joined p d) (most + (11 * length new + 2) + 7)
      (most + (11 * length (shapes_in new) + 9)) (joined_light types σ ψ left (IsBit σ) k p d _ 7 hp.few hd)
      (omega arith)

  pub descending_light : (asked check : Option CheckId) (old new : Frame) (oh nh : List Shape)
      → FrameCovers (Fits σ) old oh → FrameCovers (Fits σ) new nh → (k alive : ℕ) → IsBit σ alive
      → AllSorted types σ k (descending asked check old new k alive).steps
      → IsLight types σ ψ left (IsBit σ) k (descending asked check old new k alive)
      (worth ψ (compared types check nh oh) + (11 * length nh + 9))
  descending_light asked None old new oh nh o n k alive a m = record { out = a; alive = a; few = omega arith }
  descending_light asked (Some c) None new oh nh o n k alive a m = record { out = a; alive = a; few = omega arith }
  descending_light asked (Some c) (Some os) None oh nh o n k alive a m =
      record { out = a; alive = a; few = omega arith }
  descending_light asked (Some c) (Some os) (Some ns) oh nh o n k alive a m =
      let most = λ (xs ys : List Shape). worth ψ (comparison types xs ys) + (11 * length xs + 9) in
      let sorted = subst (λ z. AllSorted types σ k (descending asked (Some c) (Some z) (Some ns) k alive).steps)
      (sym o.numbers) m in
      let sorted_both = subst
      (λ z. AllSorted types σ k (descending asked (Some c) (Some (numbers_of o.rows)) (Some z) k alive).steps)
      (sym n.numbers) sorted in
      subst (λ z. IsLight types σ ψ left (IsBit σ) k (descending asked (Some c) (Some z) (Some ns) k alive)
      (most nh oh)) o.numbers
      (subst (λ z. IsLight types σ ψ left (IsBit σ) k
      (descending asked (Some c) (Some (numbers_of o.rows)) (Some z) k alive) (most nh oh)) n.numbers
      (subst (λ z. IsLight types σ ψ left (IsBit σ) k
      (descending asked (Some c) (Some (numbers_of o.rows)) (Some (numbers_of n.rows)) k alive) (most nh z)) o.shapes
      (subst (λ z. IsLight types σ ψ left (IsBit σ) k
      (descending asked (Some c) (Some (numbers_of o.rows)) (Some (numbers_of n.rows)) k alive)
      (most z (shapes_in o.rows))) n.shapes (compared_light asked c n.rows o.rows k alive a sorted_both))))
