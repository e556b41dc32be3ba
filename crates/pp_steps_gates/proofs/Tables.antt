-- The numbers of a measure with their shapes, row by row.
use Rattle.std.proofs.Common.{◌≡◌, ℕ, List, [], ◌∷◌, map, Some, None, refl, ap}
use Rattle.pp_prog.specs.declared.sort.Sort.{Sort}
use Rattle.pp_estimate.specs.declared.shape.Shape.{Shape}
use Rattle.pp_steps.specs.Frames.{Frame}
use Rattle.pp_steps_gates.proofs.Aligned.{Aligned}

module _ (R : ℕ → Shape → Type 0) where
  -- a number with its shape
  pub record Row : Type 0 where
    pub number : ℕ
    pub shape : Shape
    pub has : R number shape

abbrev pub number_of : {R : ℕ → Shape → Type 0} → Row R → ℕ
number_of r = r.number

abbrev pub shape_in : {R : ℕ → Shape → Type 0} → Row R → Shape
shape_in r = r.shape

abbrev pub numbers_of : {R : ℕ → Shape → Type 0} → List (Row R) → List ℕ
numbers_of rows = map number_of rows

abbrev pub shapes_in : {R : ℕ → Shape → Type 0} → List (Row R) → List Shape
shapes_in rows = map shape_in rows

module _ (R : ℕ → Shape → Type 0) where
  -- numbers and their shapes, at one place each
  pub record IsTable (ns : List ℕ) (hs : List Shape) : Type 0 where
    pub rows : List (Row R)
    pub numbers : numbers_of rows ≡ ns
    pub shapes : shapes_in rows ≡ hs

  pub table_of : (Q : ℕ → Shape → Sort → Type 0) → ((n : ℕ) (h : Shape) (s : Sort) → Q n h s → R n h)
      → (ns : List ℕ) (hs : List Shape) (ss : List Sort) → Aligned Q ns hs ss → IsTable ns hs
  table_of Q fit [] [] [] a = record { rows = []; numbers = refl; shapes = refl }
  table_of Q fit (n ∷ ns) (h ∷ hs) (s ∷ ss) a =
      let t = table_of Q fit ns hs ss a.1 in
      let row : Row R = record { number = n; shape = h; has = fit n h s a.0 } in
      record { rows = row ∷ t.rows; numbers = ap (λ z. n ∷ z) t.numbers; shapes = ap (λ z. h ∷ z) t.shapes }
  table_of Q fit ns hs ss a = absurd a

  -- the numbers of a frame's measure, if there are any, are those of the shapes
  abbrev pub FrameCovers : Frame → List Shape → Type 0
  FrameCovers None hs = Unit {0}
  FrameCovers (Some ns) hs = IsTable ns hs
