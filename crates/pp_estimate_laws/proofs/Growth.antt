-- Shapes of which one is at most as high as the other, and events of which one list costs at most as much as the other
-- and has the same looks, calls and comparisons.
use Rattle.std.proofs.Common.{◌≡◌, ◌∙◌, ◌≤◌, ◌+◌, ℕ, zero, suc, Bool, List, [], ◌∷◌, ◌++◌, map}
use Rattle.std.proofs.Common.{refl, ap, arith}
use Rattle.pp_prog.specs.declared.sort.Sort.{Sort}
use Rattle.pp_estimate.specs.declared.shape.Shape.{Shape}
use Rattle.pp_estimate.specs.Events.{Event, calls, compares, cost, count, is_call, is_compare, is_look, looks, one_if}
use Rattle.pp_estimate.specs.Events.{weight, work}
use Rattle.pp_estimate.specs.Visits.{Visit, all_events, shape, shape_at, shape_of, tallest, word}
use Rattle.pp_estimate_laws.proofs.Numbers.{le_same, max_grows, plus_grows}

-- ---- shapes

pub record ShapeGrows (s t : Shape) : Type 0 where
  pub sorts : s.sort ≡ t.sort
  pub heights : s.height ≤ t.height

abbrev pub ShapesGrow : List Shape → List Shape → Type 0
ShapesGrow [] [] = Unit {0}
ShapesGrow [] (t ∷ ts) = ⊥
ShapesGrow (s ∷ ss) [] = ⊥
ShapesGrow (s ∷ ss) (t ∷ ts) = ShapeGrows s t × ShapesGrow ss ts

pub shape_same : (s : Shape) → ShapeGrows s s
shape_same s = record { sorts = refl; heights = le_same s.height }

pub shapes_append : (a b c d : List Shape) → ShapesGrow a b → ShapesGrow c d → ShapesGrow (a ++ c) (b ++ d)
shapes_append [] [] c d h k = k
shapes_append [] (t ∷ b) c d h k = absurd h
shapes_append (s ∷ a) [] c d h k = absurd h
shapes_append (s ∷ a) (t ∷ b) c d h k = (h.0, shapes_append a b c d h.1 k)

pub tallest_grows : (a b : List Shape) → ShapesGrow a b → tallest a ≤ tallest b
tallest_grows [] [] h = le_same 0
tallest_grows [] (t ∷ b) h = absurd h
tallest_grows (s ∷ a) [] h = absurd h
tallest_grows (s ∷ a) (t ∷ b) h = max_grows s.height t.height (tallest a) (tallest b) h.0.heights
    (tallest_grows a b h.1)

pub shape_at_grows : (a b : List Shape) (i : ℕ) → ShapesGrow a b → ShapeGrows (shape_at a i) (shape_at b i)
shape_at_grows [] [] i h = shape_same word
shape_at_grows [] (t ∷ b) i h = absurd h
shape_at_grows (s ∷ a) [] i h = absurd h
shape_at_grows (s ∷ a) (t ∷ b) zero h = h.0
shape_at_grows (s ∷ a) (t ∷ b) (suc i) h = shape_at_grows a b i h.1

pub of_sort : (s : Sort) (h k : ℕ) → h ≤ k → ShapeGrows (shape s h) (shape s k)
of_sort s h k le = record { sorts = refl; heights = le }

-- ---- events

pub record EventsGrow (a b : List Event) : Type 0 where
  pub costs : cost a ≤ cost b
  pub looks : (d : ℕ) → looks a d ≡ looks b d
  pub calls : (g : ℕ) → calls a g ≡ calls b g
  pub compares : compares a ≡ compares b

pub events_same : (a : List Event) → EventsGrow a a
events_same a = record { costs = le_same (cost a); looks = λ d. refl; calls = λ g. refl; compares = refl }

none_more : (n : ℕ) → n ≡ 0 + n
none_more n = omega arith

pub cost_of_both : (a b : List Event) → cost (a ++ b) ≡ cost a + cost b
cost_of_both [] b = none_more (cost b)
cost_of_both (e ∷ a) b = ap (λ n. weight e + n) (cost_of_both a b) ∙ sum_moved (weight e) (cost a) (cost b)
  where
    sum_moved : (x y z : ℕ) → x + (y + z) ≡ (x + y) + z
    sum_moved x y z = omega arith

count_of_both : (test : Event → Bool) (a b : List Event) → count test (a ++ b) ≡ count test a + count test b
count_of_both test [] b = none_more (count test b)
count_of_both test (e ∷ a) b =
    ap (λ n. one_if (test e) + n) (count_of_both test a b) ∙ sum_moved (one_if (test e)) (count test a) (count test b)
  where
    sum_moved : (x y z : ℕ) → x + (y + z) ≡ (x + y) + z
    sum_moved x y z = omega arith

counts_together : (test : Event → Bool) (a b c d : List Event) → count test a ≡ count test b
    → count test c ≡ count test d
    → count test (a ++ c) ≡ count test (b ++ d)
counts_together test a b c d h k = rw (count_of_both test a c, count_of_both test b d, h, k) refl

pub events_append : (a b c d : List Event) → EventsGrow a b → EventsGrow c d → EventsGrow (a ++ c) (b ++ d)
events_append a b c d h k = record {
  costs = rw (cost_of_both a c, cost_of_both b d) (plus_grows (cost a) (cost b) (cost c) (cost d) h.costs k.costs);
  looks = λ x. counts_together (is_look x) a b c d (h.looks x) (k.looks x);
  calls = λ g. counts_together (is_call g) a b c d (h.calls g) (k.calls g);
  compares = counts_together is_compare a b c d h.compares k.compares;
}

pub events_append_three : (a b c d e f : List Event) → EventsGrow a b → EventsGrow c d → EventsGrow e f
    → EventsGrow (a ++ c ++ e) (b ++ d ++ f)
events_append_three a b c d e f h k l = events_append (a ++ c) (b ++ d) e f (events_append a b c d h k) l

-- one weight is at most the other
pub weights_grow : (n m : ℕ) → n ≤ m → EventsGrow (work n ∷ []) (work m ∷ [])
weights_grow n m le = record {
  costs = plus_grows n m 0 0 le (le_same 0);
  looks = λ d. refl;
  calls =
      λ g. refl;
  compares = refl;
}

-- ---- visits

pub record VisitGrows (v w : Visit) : Type 0 where
  pub shapes : ShapeGrows v.shape w.shape
  pub events : EventsGrow v.events w.events

abbrev pub VisitsGrow : List Visit → List Visit → Type 0
VisitsGrow [] [] = Unit {0}
VisitsGrow [] (w ∷ ws) = ⊥
VisitsGrow (v ∷ vs) [] = ⊥
VisitsGrow (v ∷ vs) (w ∷ ws) = VisitGrows v w × VisitsGrow vs ws

pub all_events_grow : (a b : List Visit) → VisitsGrow a b → EventsGrow (all_events a) (all_events b)
all_events_grow [] [] h = events_same []
all_events_grow [] (w ∷ b) h = absurd h
all_events_grow (v ∷ a) [] h = absurd h
all_events_grow (v ∷ a) (w ∷ b) h = events_append v.events w.events (all_events a) (all_events b) h.0.events
    (all_events_grow a b h.1)

pub shapes_grow : (a b : List Visit) → VisitsGrow a b → ShapesGrow (map shape_of a) (map shape_of b)
shapes_grow [] [] h = tt
shapes_grow [] (w ∷ b) h = absurd h
shapes_grow (v ∷ a) [] h = absurd h
shapes_grow (v ∷ a) (w ∷ b) h = (h.0.shapes, shapes_grow a b h.1)
