-- What a pattern binds at a higher value is higher.
use Rattle.std.proofs.Common.{◌≤◌, ◌-◌, List, [], ◌∷◌, map, sym, subst, arith}
use Rattle.std.specs.Prelude.{slice_get}
use Rattle.pp_list.proofs.With.{With, elements}
use Rattle.pp_prog.proofs.Induction.{each_pattern, pattern_under}
use Rattle.pp_prog.specs.declared.expr.Pattern.{Pattern}
use Rattle.pp_prog.specs.declared.expr.Pattern.TheFolds.{fold-roll-Pattern, map-Pattern}
use Rattle.pp_prog.specs.declared.expr.Pattern.TheOpen as pattern
use Rattle.pp_prog.specs.declared.expr.Pattern.TheViews.{roll-Pattern}
use Rattle.pp_prog.specs.declared.sort.Sort.{Sort}
use Rattle.pp_prog.specs.declared.types.Ctor.{Ctor}
use Rattle.pp_prog.specs.Results.{fields_of_ctor}
use Rattle.pp_estimate.specs.declared.shape.Shape.{Shape}
use Rattle.pp_estimate.specs.Visits.{Binding, bind_each, bind_step, bound, part}
use Rattle.pp_estimate_laws.proofs.Growth.{ShapeGrows, ShapesGrow, of_sort, shapes_append}
use Rattle.pp_estimate_laws.proofs.Sizes.{height_grows}

pub part_grows : (s t : Shape) (of : Sort) → ShapeGrows s t → ShapeGrows (part s of) (part t of)
part_grows s t of h =
    let heights = h.heights in
    let less : s.height - 1 ≤ t.height - 1 = omega arith in
    of_sort of _ _ (height_grows (s.height - 1) (t.height - 1) of less)

module _ (ctors : List Ctor) where
  abbrev R : Pattern → Type 0
  R p = (s t : Shape) → ShapeGrows s t → ShapesGrow (bound ctors p s) (bound ctors p t)

  abbrev inner : List (With R) → List Binding
  inner ps = map (bound ctors) (elements ps)

  fields_grow : (ps : List (With R)) (ss : List Sort) (s t : Shape) → ShapeGrows s t
      → ShapesGrow (bind_each s (inner ps) ss) (bind_each t (inner ps) ss)
  fields_grow [] ss s t h = tt
  fields_grow (p ∷ ps) [] s t h = tt
  fields_grow (p ∷ ps) (f ∷ ss) s t h =
      shapes_append (bound ctors p.0 (part s f)) (bound ctors p.0 (part t f)) (bind_each s (inner ps) ss)
      (bind_each t (inner ps) ss)
      (p.1 (part s f) (part t f) (part_grows s t f h)) (fields_grow ps ss s t h)

  pattern_level : (y : pattern.Pattern-F (With R)) (s t : Shape) → ShapeGrows s t
      → let b = bind_step ctors (map-Pattern Pattern Binding (bound ctors) (pattern_under y)) in
      ShapesGrow (b s) (b t)
  pattern_level pattern.Any s t h = tt
  pattern_level (pattern.Bind p) s t h = (h, p.1 s t h)
  pattern_level (pattern.Int n) s t h = tt
  pattern_level (pattern.Bool b) s t h = tt
  pattern_level (pattern.Ctor c ps) s t h = fields_grow ps (fields_of_ctor (slice_get ctors c.0)) s t h

  at_pattern : (y : pattern.Pattern-F (With R)) → R (roll-Pattern (pattern_under y))
  at_pattern y s t h =
      let z = pattern_under y in
      let one = fold-roll-Pattern Binding (bind_step ctors) z in
      subst (λ (b : Binding). ShapesGrow (b s) (b t)) (sym one) (pattern_level y s t h)

  pub bound_grows : (p : Pattern) → R p
  bound_grows = each_pattern R at_pattern
