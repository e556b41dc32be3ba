use Rattle.std.proofs.Common.{subst, sym, List}
use Rattle.std.proofs.lemmas.Option.{slice_get-get_or}
use Rattle.pp_prog.specs.declared.sort.Sort.{Sort}
use Rattle.pp_prog.specs.declared.sort.Sort.TheVariants as sort
use Rattle.pp_gate.proofs.Growing.{Grows_more}
use Rattle.pp_bounded_trees.proofs.Candidates.{take_next}
use Rattle.pp_named_contents.specs.Contents.{AreGuarded}
use Rattle.pp_named_contents.proofs.Fields.{gates_next, gates_room, gates_turn, guarded_push}
use Rattle.pp_named_contents.proofs.guarded.guarded_fields.Goals as goal

pub guarded-requires-clause-room : goal.guarded-requires-clause-room
guarded-requires-clause-room c =
    let at = slice_get-get_or c.args.sorts.now c.loop-place.place sort.Int c.loop-place-test.true in
    gates_room _ _ c.args.sorts.now c.loop-place.place _ _ c.loop-place.invariant.grows at c.requires.room

pub returns-in_err-field-clause-grows : goal.returns-in_err-field-clause-grows
returns-in_err-field-clause-grows c =
    let at = slice_get-get_or c.args.sorts.now c.loop-place.place sort.Int c.loop-place-test.true in
    Grows_more _ _ _ _ _ _ c.loop-place.invariant.grows c.in_err-field.ensures.grows
    (gates_next c.args.sorts.now c.loop-place.place _ at)

pub returns-in_err-push-clause-grows : goal.returns-in_err-push-clause-grows
returns-in_err-push-clause-grows c =
    let at = slice_get-get_or c.args.sorts.now c.loop-place.place sort.Int c.loop-place-test.true in
    Grows_more _ _ _ _ _ _ c.loop-place.invariant.grows c.in_ok-field.ensures.grows
    (gates_next c.args.sorts.now c.loop-place.place _ at)

pub loop-place-preserved : goal.loop-place-preserved
loop-place-preserved c =
    let at = slice_get-get_or c.args.sorts.now c.loop-place.place sort.Int c.loop-place-test.true in
    let now = c.loop-place.invariant in
    let field = c.in_ok-field.ensures in
    record {
      grows = Grows_more _ _ _ _ _ _ now.grows field.grows (gates_turn c.args.sorts.now c.loop-place.place _ at);
      circuit = field.circuit;
      guarded = subst (λ (ss : List Sort). AreGuarded c.args.circuit.now c.guarded.new.circuit c.args.low c.args.lit ss
          c.push.new.self) (sym (take_next c.args.sorts.now c.loop-place.place _ at))
          (guarded_push _ _ _ _ _ _ _ _ _ _ _ _ c.requires.lit now.grows field.grows now.guarded field.guarded
          c.in_ok-push.ensures.ok);
    }
