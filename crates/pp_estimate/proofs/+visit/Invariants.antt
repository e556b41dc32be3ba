use Rattle.std.proofs.Common.{◌≡◌, ◌+◌, ◌-◌, ◌*◌, drop, map, take}
use Rattle.pp_prog.specs.declared.expr.Case.{size-Case}
use Rattle.pp_prog.specs.declared.expr.Expr.{size-Expr}
use Rattle.pp_estimate.specs.Counted.{counted}
use Rattle.pp_estimate.specs.Place.{IsSound, place_arm, place_visit}
use Rattle.pp_estimate.specs.Visits.{all_events, arms, shape_of, visits}
use Rattle.pp_prog.proofs.ExprSizes.{most_case, most_size, option_size}
use Rattle.pp_estimate.proofs.Width.{function_size, level, width}
use Rattle.pp_estimate.proofs.+visit.Given as goal

abbrev pub decreases-visit::visit : goal.decreases-visit::visit
decreases-visit::visit l = level l.place.own l.place.fuel * width l.place.functions.now + (5 * size-Expr l.e.now + 1)

abbrev pub decreases-visit::visit_all : goal.decreases-visit::visit_all
decreases-visit::visit_all l = level l.place.own l.place.fuel * width l.place.functions.now
    + (5 * most_size l.es.now + 2)

abbrev pub decreases-visit::visit_cases : goal.decreases-visit::visit_cases
decreases-visit::visit_cases l = level l.place.own l.place.fuel * width l.place.functions.now
    + (5 * most_case l.cases.now + 4)

abbrev pub decreases-visit::visit_each : goal.decreases-visit::visit_each
decreases-visit::visit_each l = level l.place.own l.place.fuel * width l.place.functions.now
    + (5 * most_case l.cases.now + 3)

abbrev pub decreases-visit::visit_one : goal.decreases-visit::visit_one
decreases-visit::visit_one l = level l.place.own l.place.fuel * width l.place.functions.now
    + (5 * size-Case l.c.now + 2)

abbrev pub decreases-visit::visit_guard : goal.decreases-visit::visit_guard
decreases-visit::visit_guard l = level l.place.own l.place.fuel * width l.place.functions.now
    + (5 * option_size l.guard.now + 2)

abbrev pub decreases-frames::call : goal.decreases-frames::call
decreases-frames::call l = level l.place.own l.place.fuel * width l.place.functions.now

abbrev pub decreases-frames::contracts : goal.decreases-frames::contracts
decreases-frames::contracts l = level l.place.own l.place.fuel * width l.place.functions.now
    + (5 * function_size l.f.now + 4)

abbrev pub decreases-frames::contract_of : goal.decreases-frames::contract_of
decreases-frames::contract_of l = width l.place.functions.now - 2

abbrev pub decreases-frames::frame_of : goal.decreases-frames::frame_of
decreases-frames::frame_of l = level l.place.own l.place.fuel * width l.place.functions.now
    + (5 * function_size l.f.now + 6)

abbrev pub decreases-frames::known_frame : goal.decreases-frames::known_frame
decreases-frames::known_frame l = (level l.place.own l.place.fuel + 1) * width l.place.functions.now - 2

abbrev pub invariant-visit::visit_all-loop-e : goal.invariant-visit::visit_all-loop-e
invariant-visit::visit_all-loop-e l =
    let v = place_visit l.place in
    record {
      shapes : l.shapes ≡ map shape_of (visits (map v (take l.e-index l.es)) l.old l.initial.env);
      counts : counted l.initial.counts (all_events (visits (map v l.es) l.old l.initial.env))
          ≡ counted l.counts (all_events (visits (map v (drop l.e-index l.es)) l.old l.initial.env));
      kept : l.env ≡ l.initial.env;
      sound : IsSound l.place l.memo l.counts;
    }

abbrev pub invariant-visit::visit_each-loop-c : goal.invariant-visit::visit_each-loop-c
invariant-visit::visit_each-loop-c l =
    let v = place_arm l.place in
    record {
      shapes : l.shapes ≡ map shape_of (arms (map v (take l.c-index l.cases)) l.s l.old l.initial.env);
      counts : counted l.initial.counts (all_events (arms (map v l.cases) l.s l.old l.initial.env))
          ≡ counted l.counts (all_events (arms (map v (drop l.c-index l.cases)) l.s l.old l.initial.env));
      kept : l.env ≡ l.initial.env;
      sound : IsSound l.place l.memo l.counts;
    }
