use Rattle.std.proofs.Common.{◌∙◌, sym, arith}
use Rattle.pp_parse_state.proofs.Holes.{ends_first, hole_of_all, lets_first}
use Rattle.pp_parse_state.proofs.stack.Stack.takes_hole.Goals as goal

pub loop-depth-init : goal.loop-depth-init
loop-depth-init c = record {
  within = omega (arith, c.len-depth.ensures);
  same = hole_of_all c.args.self.now.frames.items c.len-depth.result _ (omega (arith, c.len-depth.ensures));
}

pub returns-then-not-lets_hole : goal.returns-then-not-lets_hole
returns-then-not-lets_hole c =
    c.is_claim.ensures ∙ sym
    (c.loop-depth.invariant.same
    ∙ ends_first _ _ _ (omega arith) c.loop-depth.invariant.within c.index-frame.ensures
    (sym c.lets_hole.ensures ∙ c.if-not-lets_hole.true))

pub loop-depth-preserved : goal.loop-depth-preserved
loop-depth-preserved c = record {
  within = omega (arith, c.loop-depth.invariant.within);
  same =
      c.loop-depth.invariant.same
      ∙ lets_first _ _ _ (omega arith) c.loop-depth.invariant.within c.index-frame.ensures
      (sym c.lets_hole.ensures ∙ c.if-not-lets_hole.false);
}
