use Rattle.std.proofs.Common.{◌≡◌, ◌∙◌, ◌++◌, ◌∷◌, ◌<◌, [], Bool, List, OnOk, Option, map, length, slice_get, refl, sym}
use Rattle.std.proofs.Common.{ap, subst, arith, rules}
use Rattle.pp_prog.specs.declared.expr.Function.{Function}
use Rattle.pp_prog.specs.declared.types.Ctor.{Ctor}
use Rattle.pp_prog.specs.Results.{tree_result}
use Rattle.pp_estimate.specs.declared.counts.Counts.{Counts}
use Rattle.pp_estimate.specs.declared.memo.Memo.{Memo}
use Rattle.pp_estimate.specs.declared.shape.Shape.{Shape}
use Rattle.pp_estimate.specs.Counted.{MemoOf, Sound, counted, framed}
use Rattle.pp_estimate.specs.Events.{called, work}
use Rattle.pp_estimate.specs.Frames.{calls_from, frame, frame_at, inner_calls}
use Rattle.pp_estimate.specs.Place.{place_arm, place_called, place_calls, place_visit}
use Rattle.pp_estimate.specs.Visits.{at_shape, bound, compared, in_env, look_at, node, pattern_events}
use Rattle.pp_estimate.proofs.Calling.{added_frame, added_true, called_counts, called_shape, contract_falls}
use Rattle.pp_estimate.proofs.Calling.{found_frame, frame_falls, frame_found, frame_within, sound_more, sound_rows}
use Rattle.pp_estimate.proofs.Calling.{sound_start, unfinished_called, unfinished_own}
use Rattle.pp_estimate.proofs.Parts.{case_shape, moved, moved_shape, runs_length, runs_more, shapes_more}
use Rattle.pp_estimate.proofs.Parts.{visited_assert, visited_binary, visited_call, visited_case, visited_cases}
use Rattle.pp_estimate.proofs.Parts.{visited_construct, visited_field, visited_if, visited_match, visited_unary}
use Rattle.pp_estimate.proofs.Parts.{visited_val}
use Rattle.pp_prog.proofs.ExprSizes.{case_deeper}
use Rattle.pp_estimate.proofs.Width.{level}
use Rattle.pp_estimate.proofs.+visit.Goals as goal
use Rattle.pp_estimate.proofs.+visit.Goals.{frames::call-then-place+in_ok-measure+in_ok-compare}
use Rattle.pp_estimate.proofs.+visit.Goals.{frames::call-else-place, frames::frame_of-in-None}
use Rattle.pp_estimate.proofs.+visit.Goals.{frames::frame_of-in-Some+in_ok-push-in-Some+in_ok-visit-in-Some}
use Rattle.pp_estimate.proofs.+visit.Goals.{frames::known_frame-in-None+in_ok-frame-in-None}
use Rattle.pp_estimate.proofs.+visit.Goals.{frames::known_frame-in-Some-at+in_ok-frame-in-Some-at}

pub visit::visit-returns-in_ok-visit-in-Unary-clause-counted :
    goal.visit::visit-returns-in_ok-visit-in-Unary-clause-counted
visit::visit-returns-in_ok-visit-in-Unary-clause-counted t c =
    visited_unary c.args.place.types.now (place_calls c.args.place) c.args.old.now c.args.env.now _ _ _ _ _ _ _ _
    c.in-Unary.is c.get.ensures c.in_ok-visit-in-Unary.ensures.counted c.unary_gates.ensures
    c.weighed-in-Unary.ensures.counted

pub visit::visit-returns-in_ok-extra-in-Binary-clause-counted :
    goal.visit::visit-returns-in_ok-extra-in-Binary-clause-counted
visit::visit-returns-in_ok-extra-in-Binary-clause-counted t c =
    visited_binary c.args.place.types.now (place_calls c.args.place) c.args.old.now c.args.env.now _ _ _ _ _ _ _ _ _ _ _
    _
    _ _ _ c.in-Binary.is c.get-in-Binary.ensures c.get-in-Binary-2.ensures c.in_ok-left-in-Binary.ensures.kept
    c.in_ok-left-in-Binary.ensures.counted c.in_ok-left-in-Binary.ensures.shape
    c.in_ok-right-in-Binary.ensures.counted c.in_ok-right-in-Binary.ensures.shape
    c.in_ok-extra-in-Binary.ensures.weight
    c.weighed-in-Binary.ensures.counted

pub visit::visit-returns-in_ok-shapes-in-Construct-clause-counted :
    goal.visit::visit-returns-in_ok-shapes-in-Construct-clause-counted
visit::visit-returns-in_ok-shapes-in-Construct-clause-counted t c =
    visited_construct c.args.place.types.now (place_calls c.args.place) c.args.old.now c.args.env.now _ _ _ _ _ _ _
    c.in-Construct.is c.as_slice-in-Construct.ensures c.in_ok-shapes-in-Construct.ensures.counted
    c.constructed.ensures.counted

pub visit::visit-returns-in_ok-shapes-in-Construct-clause-sound :
    goal.visit::visit-returns-in_ok-shapes-in-Construct-clause-sound
visit::visit-returns-in_ok-shapes-in-Construct-clause-sound t c =
    sound_more c.args.place.types.now c.args.place.functions.now _ _ _
    (look_at (tree_result (slice_get c.args.place.types.now.ctors c.in-Construct.c.0)) ++ node 0)
    c.in_ok-shapes-in-Construct.ensures.sound c.constructed.ensures.counted

pub visit::visit-returns-in_ok-extra-in-If-clause-counted : goal.visit::visit-returns-in_ok-extra-in-If-clause-counted
visit::visit-returns-in_ok-extra-in-If-clause-counted t c =
    visited_if c.args.place.types.now (place_calls c.args.place) c.args.old.now c.args.env.now _ _ _ _ _ _ _ _ _ _ _ _ _
    _
    _ _ _ _ c.in-If.is c.get-in-If.ensures c.get-in-If-2.ensures c.get-in-If-3.ensures
    c.in_ok-visit-in-If.ensures.kept (c.in_ok-left-in-If.ensures.kept ∙ c.in_ok-visit-in-If.ensures.kept)
    c.in_ok-visit-in-If.ensures.counted c.in_ok-left-in-If.ensures.counted c.in_ok-left-in-If.ensures.shape
    c.in_ok-right-in-If.ensures.counted c.in_ok-right-in-If.ensures.shape c.max-height.ensures
    c.in_ok-extra-in-If.ensures.weight c.weighed-in-If.ensures.counted

pub visit::visit-returns-in_ok-extra-in-Binary-clause-sound :
    goal.visit::visit-returns-in_ok-extra-in-Binary-clause-sound
visit::visit-returns-in_ok-extra-in-Binary-clause-sound t c =
    sound_rows c.args.place.types.now c.args.place.functions.now _ _ _ _ (node c.in_ok-extra-in-Binary.extra)
    c.in_ok-right-in-Binary.ensures.sound c.in_ok-extra-in-Binary.ensures.rows
    c.weighed-in-Binary.ensures.counted

pub visit::visit-returns-in_ok-extra-in-If-clause-sound : goal.visit::visit-returns-in_ok-extra-in-If-clause-sound
visit::visit-returns-in_ok-extra-in-If-clause-sound t c =
    sound_rows c.args.place.types.now c.args.place.functions.now _ _ _ _ (node c.in_ok-extra-in-If.extra)
    c.in_ok-right-in-If.ensures.sound c.in_ok-extra-in-If.ensures.rows c.weighed-in-If.ensures.counted

pub visit::visit-returns-in_ok-result-in-Assert-clause-counted :
    goal.visit::visit-returns-in_ok-result-in-Assert-clause-counted
visit::visit-returns-in_ok-result-in-Assert-clause-counted t c =
    visited_assert c.args.place.types.now (place_calls c.args.place) c.args.old.now c.args.env.now _ _ _ _ _ _ _ _ _ _ _
    c.in-Assert.is c.get-in-Assert.ensures c.get-in-Assert-2.ensures c.in_ok-visit-in-Assert.ensures.kept
    c.in_ok-visit-in-Assert.ensures.counted c.in_ok-result-in-Assert.ensures.counted c.add_node-in-Assert.ensures

pub visit::visit-returns-in_ok-result-in-Val-clause-counted :
    goal.visit::visit-returns-in_ok-result-in-Val-clause-counted
visit::visit-returns-in_ok-result-in-Val-clause-counted t c =
    visited_val c.args.place.types.now (place_calls c.args.place) c.args.old.now c.args.env.now _ _ _ _ _ _ _ _ _ _ _ _
    c.in-Val.is c.get-in-Val.ensures c.get-in-Val-2.ensures c.in_ok-s-in-Val.ensures.kept
    c.in_ok-push-in-Val.ensures.ok c.in_ok-s-in-Val.ensures.counted c.in_ok-s-in-Val.ensures.shape
    c.in_ok-result-in-Val.ensures.counted c.add_node.ensures

pub visit::visit-returns-in_ok-s-in-Match-clause-counted : goal.visit::visit-returns-in_ok-s-in-Match-clause-counted
visit::visit-returns-in_ok-s-in-Match-clause-counted t c =
    subst (λ (k : Counts). OnOk c.visit_cases.result (c.visit_cases.new.counts ≡ k))
    (visited_match c.args.place.types.now (place_calls c.args.place) c.args.old.now c.args.env.now _ _ _ _ _ _ _ _ _
    _
    c.in-Match.is c.get-in-Match.ensures c.as_slice-in-Match.ensures c.in_ok-s-in-Match.ensures.kept
    c.in_ok-s-in-Match.ensures.counted c.in_ok-s-in-Match.ensures.shape) c.visit_cases.ensures.counted

pub visit::visit-returns-in_ok-shapes-in-Call-clause-counted :
    goal.visit::visit-returns-in_ok-shapes-in-Call-clause-counted
visit::visit-returns-in_ok-shapes-in-Call-clause-counted t c =
    subst (λ (k : Counts). OnOk c.call.result (c.call.new.counts ≡ k))
    (visited_call c.args.place.types.now (place_calls c.args.place) c.args.old.now c.args.env.now _ _ _ _ _ _ _ _ _
    _ _ c.in-Call.is c.as_slice-in-Call.ensures c.in_ok-shapes-in-Call.ensures.counted
    c.in_ok-shapes-in-Call.ensures.shape c.as_slice-given.ensures c.add_call_node.ensures)
    c.call.ensures.counted

pub visit::visit-returns-in_ok-whole-in-Field-clause-counted :
    goal.visit::visit-returns-in_ok-whole-in-Field-clause-counted
visit::visit-returns-in_ok-whole-in-Field-clause-counted t c =
    visited_field c.args.place.types.now (place_calls c.args.place) c.args.old.now c.args.env.now _ _ _ _ _ _ _ _
    c.in-Field.is c.get-in-Field.ensures c.in_ok-whole-in-Field.ensures.counted c.in_ok-whole-in-Field.ensures.shape
    c.selected.ensures.counted

pub visit::visit-returns-in_ok-whole-in-Field-clause-sound : goal.visit::visit-returns-in_ok-whole-in-Field-clause-sound
visit::visit-returns-in_ok-whole-in-Field-clause-sound t c =
    sound_more c.args.place.types.now c.args.place.functions.now _ _ _
    (look_at c.in_ok-whole-in-Field.whole.sort ++ node 0) c.in_ok-whole-in-Field.ensures.sound
    c.selected.ensures.counted

pub visit::visit-call-requires : goal.visit::visit-call-requires
visit::visit-call-requires t c = (
  omega arith,
  sound_more c.args.place.types.now c.args.place.functions.now _ _ _ (node 0 ++ called c.in-Call.callee ∷ [])
      c.in_ok-shapes-in-Call.ensures.sound c.add_call_node.ensures,
)

pub visit::visit_all-loop-e-preserved : goal.visit::visit_all-loop-e-preserved
visit::visit_all-loop-e-preserved t c =
    let v = (place_visit c.args.place) in
    let run = in_env c.args.old.now c.args.env.now in
    record {
      shapes = shapes_more v run c.args.es.now c.loop-e.e-index c.e-item.result c.loop-e.shapes _ c.in_ok-s.s
          c.loop-e-test.true c.e-item.is c.loop-e.invariant.shapes
          (moved_shape c.args.place.types.now (place_calls c.args.place) c.args.old.now c.args.env.now _ _ _ _ refl
          c.loop-e.invariant.kept c.in_ok-s.ensures.shape) c.in_ok-push.ensures.ok;
      counts = runs_more v run c.args.es.now c.loop-e.e-index c.e-item.result c.args.counts.now c.loop-e.counts
          c.visit.new.counts c.loop-e-test.true c.e-item.is c.loop-e.invariant.counts
          (moved c.args.place.types.now (place_calls c.args.place) c.args.old.now c.args.env.now _ _ _ _ _ refl
          c.loop-e.invariant.kept c.in_ok-s.ensures.counted);
      kept = c.in_ok-s.ensures.kept ∙ c.loop-e.invariant.kept;
      sound = c.in_ok-s.ensures.sound;
    }

pub visit::visit_cases-returns-clause-counted : goal.visit::visit_cases-returns-clause-counted
visit::visit_cases-returns-clause-counted t c =
    let v = (place_arm c.args.place) in
    let run = at_shape c.args.s c.args.old.now c.args.env.now in
    visited_cases c.args.place.types.now _ _ _ (map run (map v c.args.cases.now)) _ _ _ _ _ _ _ _
    c.in_ok-shapes.ensures.counted c.in_ok-shapes.ensures.shape c.as_slice.ensures c.as_slice-2.ensures
    c.first_sort-sort.ensures c.tallest_of-height.ensures c.in_ok-extra.ensures.weight c.saturating_mul.ensures
    (runs_length v run c.args.cases.now) c.add_node.ensures

pub visit::visit_cases-returns-clause-sound : goal.visit::visit_cases-returns-clause-sound
visit::visit_cases-returns-clause-sound t c =
    sound_rows c.args.place.types.now c.args.place.functions.now _ _ _ _ (node c.saturating_mul.result)
    c.in_ok-shapes.ensures.sound c.in_ok-extra.ensures.rows c.add_node.ensures

pub visit::visit_each-loop-c-preserved : goal.visit::visit_each-loop-c-preserved
visit::visit_each-loop-c-preserved t c =
    let v = (place_arm c.args.place) in
    let run = at_shape c.args.s c.args.old.now c.args.env.now in
    let here = λ (l : List Shape). (place_arm c.args.place) c.c-item.result c.args.s c.args.old.now l in
    record {
      shapes = shapes_more v run c.args.cases.now c.loop-c.c-index c.c-item.result c.loop-c.shapes _ c.in_ok-r.r
          c.loop-c-test.true c.c-item.is c.loop-c.invariant.shapes
          (c.in_ok-r.ensures.shape ∙ ap (λ (l : List Shape). (here l).shape) c.loop-c.invariant.kept)
          c.in_ok-push.ensures.ok;
      counts = runs_more v run c.args.cases.now c.loop-c.c-index c.c-item.result c.args.counts.now c.loop-c.counts
          c.visit_one.new.counts c.loop-c-test.true c.c-item.is c.loop-c.invariant.counts
          (c.in_ok-r.ensures.counted ∙ ap (λ (l : List Shape). counted c.loop-c.counts (here l).events)
          c.loop-c.invariant.kept);
      kept = c.in_ok-r.ensures.kept ∙ c.loop-c.invariant.kept;
      sound = c.in_ok-r.ensures.sound;
    }

pub visit::visit_one-returns-clause-counted : goal.visit::visit_one-returns-clause-counted
visit::visit_one-returns-clause-counted t c =
    visited_case c.args.place.types.now (place_calls c.args.place) c.args.old.now c.args.env.now _ _ _ _ c.args.c.now
    c.args.s _ _ (c.in_ok-bind.ensures.bound
    ∙ ap (λ (k : List Ctor). c.args.env.now ++ bound k c.args.c.now.pattern c.args.s) c.as_slice.ensures)
    c.in_ok-visit_guard.ensures.kept (c.in_ok-bind.ensures.counted
    ∙ ap (λ (k : List Ctor). counted c.args.counts.now (pattern_events k c.args.c.now.pattern)) c.as_slice.ensures)
    c.in_ok-visit_guard.ensures.counted c.in_ok-result.ensures.counted

pub visit::visit_one-returns-clause-shape : goal.visit::visit_one-returns-clause-shape
visit::visit_one-returns-clause-shape t c =
    case_shape c.args.place.types.now (place_calls c.args.place) c.args.old.now c.args.env.now c.args.c.now c.args.s _ _
    _
    (c.in_ok-bind.ensures.bound ∙ ap (λ (k : List Ctor). c.args.env.now ++ bound k c.args.c.now.pattern c.args.s)
    c.as_slice.ensures) c.in_ok-visit_guard.ensures.kept c.in_ok-result.ensures.shape

pub visit::visit_one-visit_guard-requires : goal.visit::visit_one-visit_guard-requires
visit::visit_one-visit_guard-requires t c = (
  omega (arith, (case_deeper c.args.c.now).0),
  sound_more c.args.place.types.now c.args.place.functions.now _ _ _
      (pattern_events c.args.place.types.now.ctors c.args.c.now.pattern) c.requires
      (c.in_ok-bind.ensures.counted ∙ ap (λ (k : List Ctor). counted c.args.counts.now
      (pattern_events k c.args.c.now.pattern)) c.as_slice.ensures),
)

pub frames::call-returns-clause-counted : goal.frames::call-returns-clause-counted
frames::call-returns-clause-counted t c =
    called_counts c.args.place.types.now c.args.place.functions.now c.args.place.own c.args.place.fuel c.args.g
    c.args.check c.args.old.now c.args.args.now _ _ _ _ _ c.if-place-eq0.false c.requires.counts
    (frame_found c.args.place.types.now c.args.place.functions.now _ _ _ _ _ c.in_ok-i.ensures.frame
    c.as_slice-2.ensures) c.add_all.ensures c.as_slice-3.ensures c.in_ok-compare-2.ensures.counted

pub frames::call-returns-clause-shape : goal.frames::call-returns-clause-shape
frames::call-returns-clause-shape t c =
    called_shape c.args.place.types.now c.args.place.functions.now c.args.place.own c.args.place.fuel c.args.g
    c.args.check c.args.old.now c.args.args.now _ c.if-place-eq0.false
    (frame_found c.args.place.types.now c.args.place.functions.now _ _ _ _ _ c.in_ok-i.ensures.frame
    c.as_slice-2.ensures)

pub frames::call-returns-clause-sound : goal.frames::call-returns-clause-sound
frames::call-returns-clause-sound t c =
    let s = called_counts c.args.place.types.now c.args.place.functions.now c.args.place.own c.args.place.fuel c.args.g
    c.args.check c.args.old.now c.args.args.now _ _ _ _ _ c.if-place-eq0.false c.requires.counts
    (frame_found c.args.place.types.now c.args.place.functions.now _ _ _ _ _ c.in_ok-i.ensures.frame
    c.as_slice-2.ensures) c.add_all.ensures c.as_slice-3.ensures c.in_ok-compare-2.ensures.counted in
    sound_rows c.args.place.types.now c.args.place.functions.now _ _ _ _
    (place_calls c.args.place c.args.g c.args.check c.args.old.now c.args.args.now).events
    (record { memo = c.in_ok-i.ensures.sound; counts = c.requires.counts }) c.in_ok-compare-2.ensures.rows s

pub frames::call-contract_of-requires : goal.frames::call-contract_of-requires
frames::call-contract_of-requires t c = (
  omega (
    arith,
    contract_falls c.args.place.own c.args.place.fuel c.args.place.functions.now c.if-place.true
        c.if-place-eq0.true,
  ),
  sound_more c.args.place.types.now c.args.place.functions.now _ _ _ (work 32 ∷ [])
      c.requires (c.add_work.ensures 32 refl),
)

pub frames::call-returns-then-place-eq0-clause-counted : goal.frames::call-returns-then-place-eq0-clause-counted
frames::call-returns-then-place-eq0-clause-counted t c =
    elim c.if-place.branch [
      | frames::call-then-place+in_ok-measure+in_ok-compare w ↦ w.counts-is
          ∙ unfinished_own c.args.place.types.now c.args.place.functions.now c.args.place.own c.args.place.fuel c.args.g
          c.args.check c.args.old.now c.args.args.now _ _ _ _ _ w.if-place.true c.if-place-eq0.true
          (c.add_work.ensures 32 refl) w.in_ok-measure.ensures.counted
          (w.as_slice.ensures ∙ w.in_ok-measure.ensures.shape) w.in_ok-compare.ensures.counted
      | frames::call-else-place w ↦ w.counts-is
          ∙ unfinished_called c.args.place.types.now c.args.place.functions.now c.args.place.own c.args.place.fuel
          c.args.g c.args.check c.args.old.now c.args.args.now _ _ w.if-place.false c.if-place-eq0.true
          (c.add_work.ensures 32 refl)
    ]

pub frames::call-returns-then-place-eq0-clause-sound : goal.frames::call-returns-then-place-eq0-clause-sound
frames::call-returns-then-place-eq0-clause-sound t c =
    elim c.if-place.branch [
      | frames::call-then-place+in_ok-measure+in_ok-compare w
          ↦ subst (λ (m : Memo). Sound c.args.place.types.now c.args.place.functions.now m c.if-place.counts)
          (sym w.memo-is) (sound_rows c.args.place.types.now c.args.place.functions.now _ _ _ _
          (compared c.args.place.types.now c.args.check w.as_slice.result.now c.args.old.now)
          w.in_ok-measure.ensures.sound w.in_ok-compare.ensures.rows (w.counts-is ∙ w.in_ok-compare.ensures.counted))
      | frames::call-else-place w ↦ sound_more c.args.place.types.now c.args.place.functions.now _ _ _ (work 32 ∷ [])
          (subst (λ (m : Memo). Sound c.args.place.types.now c.args.place.functions.now m c.args.counts.now)
          (sym w.memo-is) c.requires) (w.counts-is ∙ c.add_work.ensures 32 refl)
    ]

pub frames::call-bounds-as_slice-i : goal.frames::call-bounds-as_slice-i
frames::call-bounds-as_slice-i t c = frame_within c.args.place.types.now c.args.place.functions.now _ _ _ _
    c.in_ok-i.ensures.frame c.as_slice-2.ensures

pub frames::call-offset_bounds-as_slice-i : goal.frames::call-offset_bounds-as_slice-i
frames::call-offset_bounds-as_slice-i t c =
    let low : c.in_ok-i.i < length c.as_slice-2.result.now = frame_within c.args.place.types.now
    c.args.place.functions.now _ _ _ _ c.in_ok-i.ensures.frame c.as_slice-2.ensures in
    search rules

pub frames::frame_of-returns-clause-sound : goal.frames::frame_of-returns-clause-sound
frames::frame_of-returns-clause-sound t c =
    elim c.match-f.branch [
      | frames::frame_of-in-None w ↦ subst (MemoOf c.args.place.types.now c.args.place.functions.now) (sym w.memo-is)
          c.in_ok-result.ensures.sound.memo
      | frames::frame_of-in-Some+in_ok-push-in-Some+in_ok-visit-in-Some w
          ↦ subst (MemoOf c.args.place.types.now c.args.place.functions.now) (sym w.memo-is)
          w.in_ok-visit-in-Some.ensures.sound.memo
    ]

pub frames::frame_of-contracts-requires : goal.frames::frame_of-contracts-requires
frames::frame_of-contracts-requires t c = (
  omega arith,
  sound_start c.args.place.types.now c.args.place.functions.now _ _ _ c.requires c.len.ensures
      c.in_ok-counts.ensures,
)

pub frames::known_frame-returns-clause-frame : goal.frames::known_frame-returns-clause-frame
frames::known_frame-returns-clause-frame t c =
    let added : c.match-at.frame ≡ place_called c.args.place c.args.g c.args.args.now = elim c.match-at.branch [
      | frames::known_frame-in-None+in_ok-frame-in-None w ↦ w.frame-is ∙ w.in_ok-frame-in-None.ensures
          ∙ ap (λ (f : Option Function). framed c.args.place.types.now c.args.place.functions.now
          (frame_at c.args.place.types.now (inner_calls c.args.place.types.now c.args.place.functions.now
          c.args.place.fuel) f c.args.args.now)) w.in-None.ensures
      | frames::known_frame-in-Some-at+in_ok-frame-in-Some-at w ↦ w.frame-is ∙ w.in_ok-frame-in-Some-at.ensures.frame
          ∙ ap (λ (b : Bool). framed c.args.place.types.now c.args.place.functions.now
          (frame c.args.place.types.now (calls_from c.args.place.types.now c.args.place.functions.now b
          c.args.place.fuel) w.in-Some-at.f.now c.args.args.now)) c.requires.called
          ∙ ap (λ (f : Option Function). framed c.args.place.types.now c.args.place.functions.now
          (frame_at c.args.place.types.now (inner_calls c.args.place.types.now c.args.place.functions.now
          c.args.place.fuel) f c.args.args.now)) w.in-Some-at.ensures
    ] in
    added_frame c.args.place.types.now c.args.place.functions.now _ _ _ _ _ c.len-i.ensures c.in_ok-push.ensures
    added

pub frames::known_frame-returns-clause-sound : goal.frames::known_frame-returns-clause-sound
frames::known_frame-returns-clause-sound t c =
    let added : c.match-at.frame ≡ place_called c.args.place c.args.g c.args.args.now = elim c.match-at.branch [
      | frames::known_frame-in-None+in_ok-frame-in-None w ↦ w.frame-is ∙ w.in_ok-frame-in-None.ensures
          ∙ ap (λ (f : Option Function). framed c.args.place.types.now c.args.place.functions.now
          (frame_at c.args.place.types.now (inner_calls c.args.place.types.now c.args.place.functions.now
          c.args.place.fuel) f c.args.args.now)) w.in-None.ensures
      | frames::known_frame-in-Some-at+in_ok-frame-in-Some-at w ↦ w.frame-is ∙ w.in_ok-frame-in-Some-at.ensures.frame
          ∙ ap (λ (b : Bool). framed c.args.place.types.now c.args.place.functions.now
          (frame c.args.place.types.now (calls_from c.args.place.types.now c.args.place.functions.now b
          c.args.place.fuel) w.in-Some-at.f.now c.args.args.now)) c.requires.called
          ∙ ap (λ (f : Option Function). framed c.args.place.types.now c.args.place.functions.now
          (frame_at c.args.place.types.now (inner_calls c.args.place.types.now c.args.place.functions.now
          c.args.place.fuel) f c.args.args.now)) w.in-Some-at.ensures
    ] in
    let before : MemoOf c.args.place.types.now c.args.place.functions.now c.match-at.memo = elim c.match-at.branch [
      | frames::known_frame-in-None+in_ok-frame-in-None w
          ↦ subst (MemoOf c.args.place.types.now c.args.place.functions.now) (sym w.memo-is) c.requires.memo
      | frames::known_frame-in-Some-at+in_ok-frame-in-Some-at w
          ↦ subst (MemoOf c.args.place.types.now c.args.place.functions.now) (sym w.memo-is)
          w.in_ok-frame-in-Some-at.ensures.sound
    ] in
    record {
      known = added_true c.args.place.types.now c.args.place.functions.now _ _ _ before.known c.in_ok-push.ensures
          (added ∙ ap (λ (l : List Shape). framed c.args.place.types.now c.args.place.functions.now
          (frame_at c.args.place.types.now (inner_calls c.args.place.types.now c.args.place.functions.now
          c.args.place.fuel) (slice_get c.args.place.functions.now c.args.g.0) l)) (sym c.in_ok-from_slice.ensures));
      rows = before.rows;
    }

pub frames::known_frame-returns-in-Some-clause-frame : goal.frames::known_frame-returns-in-Some-clause-frame
frames::known_frame-returns-in-Some-clause-frame t c =
    found_frame c.args.place.types.now c.args.place.functions.now _ _ c.args.place.fuel c.args.g c.args.args.now
    c.requires.memo.known c.in-Some.ensures

pub frames::known_frame-frame_of-requires : goal.frames::known_frame-frame_of-requires
frames::known_frame-frame_of-requires t c = (
  omega (
    arith,
    frame_falls (level c.args.place.own c.args.place.fuel) c.args.place.functions.now c.args.g.0
        c.in-Some-at.f.now (sym c.in-Some-at.ensures),
  ),
  c.requires.memo,
)
