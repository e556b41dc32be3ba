use Rattle.std.proofs.Common.{◌≡◌, ◌≤◌, ◌-◌, ◌^◌, length, refl, arith, ap, ◌∙◌}
use Rattle.pp_clause.specs.Literal.{lit_value}
use Rattle.pp_bits.specs.Number.{nat_of}
use Rattle.pp_bits.proofs.Growing.{AddsGates_none, Gives_before}
use Rattle.pp_shifts.specs.Shift.{moved_right}
use Rattle.pp_shifts.proofs.Moved.{right_moves}
use Rattle.pp_shifts.proofs.Stages.{stages_none, stages_turn, same_digits, doubled_places, AddsGates_stage}
use Rattle.pp_shifts.proofs.shift.right.Goals as goal

pub loop-i-init : goal.loop-i-init
loop-i-init c =
    let same = c.in_ok-digits.ensures.value in
    record {
      grown = AddsGates_none _ _ c.copied.ensures.circuit;
      digits = same_digits _ _ _ same c.requires.number;
      places = omega arith;
      value = λ s gives. stages_none (right_moves _ (lit_value s c.args.fill)) s c.args.a.now _ refl same;
    }

pub returns-in_err-digits-2-clause-adds : goal.returns-in_err-digits-2-clause-adds
returns-in_err-digits-2-clause-adds c =
    let now = c.loop-i.invariant in
    AddsGates_stage _ _ _ _ _ _ _ c.loop-i-test.true (ap length c.deref.ensures.value ∙ now.digits.len) now.grown
    c.in_err-digits-2.ensures.adds

pub loop-i-preserved : goal.loop-i-preserved
loop-i-preserved c =
    let now = c.loop-i.invariant in
    let stage = c.in_ok-digits-2.ensures in
    let lent = c.deref.ensures.value in
    let len : length c.deref.result.now ≡ length c.args.a.now = ap length lent ∙ now.digits.len in
    let short : length c.args.a.now ≤ 2 ^ 64 - 1 = omega (arith, c.loop-i.digits.small) in
    record {
      grown = AddsGates_stage _ _ _ _ _ _ _ (omega arith) len now.grown stage.adds;
      digits = record { len = stage.len ∙ len; of = stage.of };
      places = doubled_places _ _ _ _ now.places c.saturating_mul-by.ensures;
      value = λ s gives.
          stages_turn (λ n. moved_right n (lit_value s c.args.fill)) _ (right_moves _ _) s c.args.a.now _ _ _ _ _ _ _ _
          c.loop-i-test.true c.index-distance-i.is refl short now.places len (ap (nat_of s) lent)
          (now.value s (Gives_before _ _ _ stage.adds s gives)) (stage.value s gives);
    }
