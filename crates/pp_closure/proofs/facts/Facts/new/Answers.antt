use Rattle.std.proofs.Common.{length, arith, subst, sym, ap, ◌∙◌}
use Rattle.pp_closure.specs.Facts.{AllTell}
use Rattle.pp_closure.proofs.Noted.{tell_push, tells_unknown, length_push}
use Rattle.pp_closure.proofs.facts.Facts.new.Goals as goal

pub loop-number-preserved : goal.loop-number-preserved
loop-number-preserved c = record {
  count = ap length c.in_ok-push.ensures.ok ∙ length_push _ _ _ c.loop-number.invariant.count;
  tell = λ ρ. subst (AllTell ρ 0) (sym c.in_ok-push.ensures.ok)
      (tell_push ρ 0 _ c.loop-number.number _ (c.loop-number.invariant.tell ρ)
      (tells_unknown ρ _ _ c.of.ensures) (let e = c.loop-number.invariant.count in omega (arith, e)));
}
