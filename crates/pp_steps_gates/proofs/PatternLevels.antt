-- Any relation between the steps, shapes, events and sorts of patterns holds of each pattern, where it holds of each
-- level of a pattern whose parts it holds of.
use Rattle.std.proofs.Common.{List, sym, subst}
use Rattle.pp_list.proofs.With.{With}
use Rattle.pp_prog.proofs.Induction.{each_pattern, pattern_under}
use Rattle.pp_prog.specs.declared.expr.Pattern.{Pattern}
use Rattle.pp_prog.specs.declared.expr.Pattern.TheFolds.{fold-roll-Pattern, map-Pattern}
use Rattle.pp_prog.specs.declared.expr.Pattern.TheOpen as pattern
use Rattle.pp_prog.specs.declared.expr.Pattern.TheViews.{roll-Pattern}
use Rattle.pp_prog.specs.declared.types.TypeTable.{TypeTable}
use Rattle.pp_prog.specs.PatternSorts as sorts
use Rattle.pp_prog.specs.PatternSorts.{bound_sorts}
use Rattle.pp_estimate.specs.Events.{Event}
use Rattle.pp_estimate.specs.Visits.{Binding, bind_step, bound, pattern_events, pattern_step}
use Rattle.pp_steps.specs.Patterns.{Matching, fitting, fitting_step}

module _ (types : TypeTable) (R : Matching → Binding → List Event → sorts.Binding → Type 0) where
  abbrev pub PatternCovers : Pattern → Type 0
  PatternCovers p = R (fitting p) (bound types.ctors p) (pattern_events types.ctors p) (bound_sorts types.ctors p)

  abbrev matched_level : pattern.Pattern-F Pattern → Matching
  matched_level z = fitting_step (map-Pattern Pattern Matching fitting z)

  abbrev bound_level : pattern.Pattern-F Pattern → Binding
  bound_level z = bind_step types.ctors (map-Pattern Pattern Binding (bound types.ctors) z)

  abbrev events_level : pattern.Pattern-F Pattern → List Event
  events_level z = pattern_step types.ctors (map-Pattern Pattern (List Event) (pattern_events types.ctors) z)

  abbrev sorts_level : pattern.Pattern-F Pattern → sorts.Binding
  sorts_level z = sorts.bind_step types.ctors (map-Pattern Pattern sorts.Binding (bound_sorts types.ctors) z)

  -- one level of a pattern, where R holds of its parts
  abbrev pub PatternLevelCovers : pattern.Pattern-F (With PatternCovers) → Type 0
  PatternLevelCovers y =
      let z = pattern_under y in R (matched_level z) (bound_level z) (events_level z) (sorts_level z)

  module _ (level : (y : pattern.Pattern-F (With PatternCovers)) → PatternLevelCovers y) where
    at_level : (y : pattern.Pattern-F (With PatternCovers)) → PatternCovers (roll-Pattern (pattern_under y))
    at_level y =
        let z = pattern_under y in
        let e = roll-Pattern z in
        subst (λ (f : Matching). R f (bound types.ctors e) (pattern_events types.ctors e) (bound_sorts types.ctors e))
        (sym (fold-roll-Pattern Matching fitting_step z))
        (subst (λ (b : Binding). R (matched_level z) b (pattern_events types.ctors e) (bound_sorts types.ctors e))
        (sym (fold-roll-Pattern Binding (bind_step types.ctors) z))
        (subst (λ (es : List Event). R (matched_level z) (bound_level z) es (bound_sorts types.ctors e))
        (sym (fold-roll-Pattern (List Event) (pattern_step types.ctors) z))
        (subst (λ (b : sorts.Binding). R (matched_level z) (bound_level z) (events_level z) b)
        (sym (fold-roll-Pattern sorts.Binding (sorts.bind_step types.ctors) z)) (level y))))

    pub pattern_by_levels : (p : Pattern) → PatternCovers p
    pattern_by_levels = each_pattern PatternCovers at_level
