use Rattle.std.proofs.Common.{◌∙◌, sym, []}
use Rattle.pp_sorts.proofs.Places.{found_place, none_at, no_place}
use Rattle.pp_sorts.proofs.scope.place_of.Goals as goal

pub returns-then-eq : goal.returns-then-eq
returns-then-eq c =
    found_place c.args.name.now c.args.texts.now c.loop-i.i (record { ref_ptr = (0, 0); now = [] }) c.loop-i-test.true
    (sym c.eq.ensures ∙ c.if-eq.true) c.loop-i.invariant

pub loop-i-preserved : goal.loop-i-preserved
loop-i-preserved c =
    none_at c.args.name.now c.args.texts.now c.loop-i.i (record { ref_ptr = (0, 0); now = [] }) c.loop-i-test.true
    (sym c.eq.ensures ∙ c.if-eq.false) c.loop-i.invariant

pub returns : goal.returns
returns c = no_place c.args.name.now c.args.texts.now c.loop-i.i c.loop-i-test.false c.loop-i.invariant
