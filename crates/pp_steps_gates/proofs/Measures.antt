-- Measures that are compared: their steps take at most twice what the comparison costs, and four gates for each
-- component.
use Rattle.std.proofs.Common.{◌≡◌, ℕ, suc, false, ◌+◌, ◌*◌, ◌≤◌, max, min, List, [], ◌∷◌, length, Option, Some, None}
use Rattle.std.proofs.Common.{sym, ◌∙◌, subst, arith}
use Rattle.std.proofs.lemmas.List.{length-map}
use Rattle.std.proofs.Math.Nat.{min-le_left}
use Rattle.pp_tree.specs.declared.operator.BinaryOp.TheVariants.{Equal}
use Rattle.pp_prog.specs.declared.id.CheckId.{CheckId}
use Rattle.pp_prog.specs.declared.sort.Sort.{Sort}
use Rattle.pp_prog.specs.declared.sort.Sort.TheVariants as sort
use Rattle.pp_prog.specs.declared.types.TypeTable.{TypeTable}
use Rattle.pp_prog.specs.Sizes.{nodes}
use Rattle.pp_estimate.specs.declared.shape.Shape.{Shape}
use Rattle.pp_estimate.specs.Events.{cost}
use Rattle.pp_estimate.specs.Visits.{compared, comparison, component_events}
use Rattle.pp_estimate_laws.proofs.Growth.{cost_of_both}
use Rattle.pp_estimate_laws.proofs.Numbers.{le_same, le_then, plus_grows, times_grow}
use Rattle.pp_estimate_laws.proofs.Sizes.{bits_grow, nodes_grow}
use Rattle.pp_steps.specs.declared.step.Step.TheVariants as steps
use Rattle.pp_steps.specs.Frames.{Frame, descending, falling, lower, shaped}
use Rattle.pp_steps.specs.Gates.{Heights, descent_gates, equality_gates}
use Rattle.pp_steps.specs.Piece.{Piece, after, asks, demand, joined, plain}
use Rattle.pp_steps.specs.Sorted.{Sorts}
use Rattle.pp_steps_gates.proofs.Operators.{equality_fits}
use Rattle.pp_steps_gates.proofs.Pieces.{Has, IsBit, IsFew, IsMade, bit_choice, demand_few, fewer, joined_few, load}
use Rattle.pp_steps_gates.proofs.Pieces.{made_left, made_right, one_few, plain_few}
use Rattle.pp_steps_gates.proofs.Scopes.{IsOf}
use Rattle.pp_steps_gates.proofs.Tables.{FrameCovers, Row, number_of, numbers_of, shape_in, shapes_in}

module _ (types : TypeTable) where
  pub product_more : (a b m : ℕ) → a ≤ b → a ≤ b * (1 + m)
  product_more a b m h = subst (λ n. n ≤ b * (1 + m)) (times_one a) (times_grow a b 1 (1 + m) h (one_more m))
    where
      times_one : (n : ℕ) → n * 1 ≡ n
      times_one n = omega arith

      one_more : (n : ℕ) → 1 ≤ 1 + n
      one_more n = omega arith

  descent_fits : (s : Sort) (g h new old : ℕ) → g ≤ new → h ≤ old
      → descent_gates types g h s ≤ cost (component_events types s new old)
  descent_fits sort.Int g h new old le low = omega arith
  descent_fits sort.Bool g h new old le low = omega arith
  descent_fits (sort.Tree d) g h new old le low =
      let wide = times_grow 4 4 _ _ (le_same 4)
      (plus_grows 32 32 _ _ (le_same 32) (bits_grow types g new (sort.Tree d) le)) in
      let deep = plus_grows 1 1 _ _ (le_same 1) (nodes_grow types h old (sort.Tree d) low) in
      let both = times_grow _ _ _ _ wide deep in
      omega arith

  same_fits : (s : Sort) (g new old : ℕ) → g ≤ new
      → equality_gates types g s ≤ cost (component_events types s new old) + 1
  same_fits sort.Int g new old le = omega arith
  same_fits sort.Bool g new old le = omega arith
  same_fits (sort.Tree d) g new old le =
      let fits = equality_fits types (sort.Tree d) g new le in
      let more = product_more _ _ (nodes types old (sort.Tree d)) fits in
      omega arith

module _ (types : TypeTable) (σ : Sorts) (η : Heights) where
  abbrev L : {A : Type 0} → ℕ → Piece A → ℕ
  L = load types σ η

  -- the number has the sort and at most the height of the shape
  abbrev pub Fits : ℕ → Shape → Type 0
  Fits n h = Has types σ η h.sort h.height n

  pub shape_fits : (n : ℕ) (h : Shape) (s : Sort) → IsOf types σ η n h s → Fits n h
  shape_fits n h s a = subst (λ z. Has types σ η z h.height n) (sym a.shape) a.has

  row_descent : (x y : Row Fits)
      → descent_gates types (η x.number) (η y.number) (σ x.number) ≤ cost (component_events types x.shape.sort
      x.shape.height y.shape.height)
  row_descent x y =
      subst (λ s. descent_gates types (η x.number) (η y.number) s ≤ cost (component_events types x.shape.sort
      x.shape.height y.shape.height)) (sym x.has.sort)
      (descent_fits types x.shape.sort (η x.number) (η y.number) x.shape.height y.shape.height
      x.has.height y.has.height)

  row_same : (x y : Row Fits)
      → equality_gates types (min (η x.number) (η y.number)) (σ x.number) ≤ cost (component_events types x.shape.sort
      x.shape.height y.shape.height) + 1
  row_same x y =
      subst (λ s. equality_gates types (min (η x.number) (η y.number)) s ≤ cost (component_events types x.shape.sort
      x.shape.height y.shape.height) + 1) (sym x.has.sort)
      (same_fits types x.shape.sort (min (η x.number) (η y.number)) x.shape.height y.shape.height
      (le_then _ _ _ (min-le_left (η x.number) (η y.number)) x.has.height))

  falling_few : (new old : List (Row Fits)) (k alive : ℕ) → IsBit σ alive
      → IsMade types σ η k (falling (numbers_of new) (numbers_of old) k alive).steps
      → IsFew types σ η (IsBit σ) k (falling (numbers_of new) (numbers_of old) k alive)
      (2 * cost (comparison types (shapes_in new) (shapes_in old)) + 3 * length new)
  falling_few [] old k alive a m = one_few types σ η (IsBit σ) (steps.Bool false) k alive m.0.0 a
  falling_few (x ∷ xs) [] k alive a m =
      record { out = m.0.0; alive = a; few = omega arith }
  falling_few (x ∷ []) (y ∷ ys) k alive a m =
      let fits = row_descent x y in
      let es = component_events types x.shape.sort x.shape.height y.shape.height in
      let cost_is = cost_of_both es [] in
      record { out = m.0.0.1; alive = a; few = omega arith }
  falling_few (x ∷ z ∷ xs) (y ∷ ys) k alive a m =
      let new = z ∷ xs in
      let p : Piece ℕ = plain
      (steps.GoesDown x.number y.number ∷ steps.Binary Equal x.number y.number ∷ []) k alive in
      let i = after k p in
      let q = falling (numbers_of new) (numbers_of ys) i alive in
      let j = after i q in
      let l : Piece ℕ = plain (steps.Both (suc k) q.out ∷ steps.Choose k k j ∷ []) (suc j) alive in
      let mq = made_right types σ η k p (joined q l) m in
      let ml = made_right types σ η i q l mq in
      let hq = falling_few new ys i alive a (made_left types σ η i q l mq) in
      let bit : IsBit σ (suc j) = sym ml.1.0.0.1 ∙ m.0.0.1 in
      let one = bit_choice types σ η (σ (suc j)) (max (η k) (η j)) bit in
      let down = row_descent x y in
      let same = row_same x y in
      let es = component_events types x.shape.sort x.shape.height y.shape.height in
      let cost_is = cost_of_both es (comparison types (shapes_in new) (shapes_in ys)) in
      let few_p : L k p ≤ 2 * cost es + 1 = omega arith in
      let few_l : L j l ≤ 2 = omega arith in
      let few_q = hq.few in
      fewer types σ η (IsBit σ) k (joined p (joined q l))
      (2 * cost es + 1 + (2 * cost (comparison types (shapes_in new) (shapes_in ys)) + 3 * length new + 2))
      (2 * cost (comparison types (shapes_in (x ∷ new)) (shapes_in (y ∷ ys))) + 3 * length (x ∷ new))
      (joined_few types σ η (IsBit σ) k p (joined q l) (2 * cost es + 1) _ few_p
      (joined_few types σ η (IsBit σ) i q l _ 2 few_q (record { out = bit; alive = a; few = few_l }))) (omega arith)

  shaped_few : (new old : List ℕ) (k test alive : ℕ) → IsBit σ test → IsBit σ alive
      → IsMade types σ η k (shaped new old k test alive).steps
      → IsFew types σ η (IsBit σ) k (shaped new old k test alive) (length new)
  shaped_few [] [] k test alive t a m = plain_few types σ η (IsBit σ) k test alive t a
  shaped_few [] (y ∷ ys) k test alive t a m = one_few types σ η (IsBit σ) (steps.Bool false) k alive m.0.0 a
  shaped_few (x ∷ xs) [] k test alive t a m = record { out = m.0.0; alive = a; few = omega arith }
  shaped_few (x ∷ xs) (y ∷ ys) k test alive t a m =
      let p : Piece ℕ = plain (steps.IsAlike x y ∷ steps.Both test k ∷ []) (suc k) alive in
      let q = shaped xs ys (after k p) (suc k) alive in
      let hq = shaped_few xs ys (after k p) (suc k) alive m.1.0.0.2 a (made_right types σ η k p q m) in
      fewer types σ η (IsBit σ) k (joined p q) (1 + length xs) (suc (length xs))
      (joined_few types σ η (IsBit σ) k p q 1 (length xs) (le_same 1) hq) (omega arith)

  lower_few : (new old : List (Row Fits)) (k alive : ℕ) → IsBit σ alive
      → IsMade types σ η k (lower (numbers_of new) (numbers_of old) k alive).steps
      → IsFew types σ η (IsBit σ) k (lower (numbers_of new) (numbers_of old) k alive)
      (2 * cost (comparison types (shapes_in new) (shapes_in old)) + 4 * length new)
  lower_few new old k alive a m =
      let p = falling (numbers_of new) (numbers_of old) k alive in
      let q = shaped (numbers_of new) (numbers_of old) (after k p) p.out alive in
      let hp = falling_few new old k alive a (made_left types σ η k p q m) in
      let hq = shaped_few (numbers_of new) (numbers_of old) (after k p) p.out alive hp.out a
      (made_right types σ η k p q m) in
      let count = length-map new number_of in
      let costs = cost (comparison types (shapes_in new) (shapes_in old)) in
      fewer types σ η (IsBit σ) k (joined p q) (2 * costs + 3 * length new + length (numbers_of new))
      (2 * costs + 4 * length new)
      (joined_few types σ η (IsBit σ) k p q _ (length (numbers_of new)) hp.few hq) (omega arith)

  compared_few : (asked : Option CheckId) (c : CheckId) (new old : List (Row Fits)) (k alive : ℕ) → IsBit σ alive
      → IsMade types σ η k
      (descending asked (Some c) (Some (numbers_of old)) (Some (numbers_of new)) k alive).steps
      → IsFew types σ η (IsBit σ) k (descending asked (Some c) (Some (numbers_of old)) (Some (numbers_of new)) k alive)
      (2 * cost (comparison types (shapes_in new) (shapes_in old)) + (4 * length (shapes_in new) + 3))
  compared_few asked c new old k alive a m =
      let p = lower (numbers_of new) (numbers_of old) k alive in
      let d = demand (asks asked (Some c)) (after k p) p.alive p.out in
      let hp = lower_few new old k alive a (made_left types σ η k p d m) in
      let hd = demand_few types σ η (asks asked (Some c)) (after k p) p.alive p.out (made_right types σ η k p d m) in
      let count = length-map new shape_in in
      let costs = cost (comparison types (shapes_in new) (shapes_in old)) in
      fewer types σ η (IsBit σ) k (joined p d) (2 * costs + 4 * length new + 3)
      (2 * costs + (4 * length (shapes_in new) + 3)) (joined_few types σ η (IsBit σ) k p d _ 3 hp.few hd) (omega arith)

  pub descending_few : (asked check : Option CheckId) (old new : Frame) (oh nh : List Shape) → FrameCovers Fits old oh
      → FrameCovers Fits new nh → (k alive : ℕ) → IsBit σ alive
      → IsMade types σ η k (descending asked check old new k alive).steps
      → IsFew types σ η (IsBit σ) k (descending asked check old new k alive)
      (2 * cost (compared types check nh oh) + (4 * length nh + 3))
  descending_few asked None old new oh nh o n k alive a m = record { out = a; alive = a; few = omega arith }
  descending_few asked (Some c) None new oh nh o n k alive a m = record { out = a; alive = a; few = omega arith }
  descending_few asked (Some c) (Some os) None oh nh o n k alive a m =
      record { out = a; alive = a; few = omega arith }
  descending_few asked (Some c) (Some os) (Some ns) oh nh o n k alive a m =
      let most = λ (xs ys : List Shape). 2 * cost (comparison types xs ys) + (4 * length xs + 3) in
      let made = subst (λ z. IsMade types σ η k (descending asked (Some c) (Some z) (Some ns) k alive).steps)
      (sym o.numbers) m in
      let made_both = subst
      (λ z. IsMade types σ η k (descending asked (Some c) (Some (numbers_of o.rows)) (Some z) k alive).steps)
      (sym n.numbers) made in
      subst (λ z. IsFew types σ η (IsBit σ) k (descending asked (Some c) (Some z) (Some ns) k alive) (most nh oh))
      o.numbers
      (subst (λ z. IsFew types σ η (IsBit σ) k (descending asked (Some c) (Some (numbers_of o.rows)) (Some z) k alive)
      (most nh oh)) n.numbers
      (subst (λ z. IsFew types σ η (IsBit σ) k
      (descending asked (Some c) (Some (numbers_of o.rows)) (Some (numbers_of n.rows)) k alive) (most nh z)) o.shapes
      (subst (λ z. IsFew types σ η (IsBit σ) k
      (descending asked (Some c) (Some (numbers_of o.rows)) (Some (numbers_of n.rows)) k alive)
      (most z (shapes_in o.rows))) n.shapes (compared_few asked c n.rows o.rows k alive a made_both))))
