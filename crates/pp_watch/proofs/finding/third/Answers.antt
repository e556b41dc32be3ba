use Rattle.std.proofs.Common.{◌+◌, refl, sym, ap, ◌∙◌, subst, inr, take}
use Rattle.pp_clause.specs.Literal.{Literal}
use Rattle.pp_clause.specs.Clause.{has}
use Rattle.pp_trail.proofs.Truths.{same_code}
use Rattle.pp_watch.proofs.Literals.{AreThese, has_item, these_none, these_more, these_two, these_all}
use Rattle.pp_watch.proofs.finding.third.Goals as goal
use Rattle.pp_watch.proofs.finding.third.Goals.{then-not-is_among+else-index, else-not-is_among}

pub loop-other-init : goal.loop-other-init
loop-other-init c = record {
  held = c.requires;
  these = these_none c.args.clause.now c.args.lit c.args.blocker c.args.blocker;
}

pub loop-other-preserved : goal.loop-other-preserved
loop-other-preserved c =
    let more = these_more c.args.clause.now c.loop-other.other-index c.other-item.result c.args.lit c.args.blocker in
    elim c.if-not-is_among.branch [
      | then-not-is_among+else-index w ↦ record {
        held = ap (has c.args.clause.now) w.third-is
            ∙ has_item c.args.clause.now c.loop-other.other-index c.other-item.result c.loop-other-test.true
            c.other-item.is;
        these = subst
            (λ (z : Literal). AreThese (take (c.loop-other.other-index + 1) c.args.clause.now) c.args.lit
            c.args.blocker z) (sym w.third-is)
            (more c.other-item.result c.loop-other-test.true c.other-item.is
            (these_two _ c.args.lit c.args.blocker c.loop-other.third c.other-item.result
            (same_code c.loop-other.third c.args.blocker
            (sym w.index.ensures ∙ w.if-index.false ∙ w.index-then-not-is_among.ensures))
            c.loop-other.invariant.these) (inr (inr refl)));
      }
      | else-not-is_among w ↦ record {
        held = ap (has c.args.clause.now) w.third-is ∙ c.loop-other.invariant.held;
        these = subst
            (λ (z : Literal). AreThese (take (c.loop-other.other-index + 1) c.args.clause.now) c.args.lit
            c.args.blocker z) (sym w.third-is)
            (more c.loop-other.third c.loop-other-test.true c.other-item.is c.loop-other.invariant.these
            (c.is_among.ensures w.if-not-is_among.false));
      }
    ]

pub returns : goal.returns
returns c = λ ne. record {
  held = c.loop-other.invariant.held;
  whole = these_all c.args.clause.now c.loop-other.other-index c.args.lit c.args.blocker c.loop-other.third
      c.loop-other-test.false c.loop-other.invariant.these;
}
