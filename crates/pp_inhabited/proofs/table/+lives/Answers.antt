use Rattle.std.proofs.Common.{◌∙◌, arith, ap, if◌then◌else◌, Bool}
use Rattle.pp_inhabited.specs.Table.{lives}
use Rattle.pp_inhabited.proofs.Digits.{mask_bound, mask_turn}
use Rattle.pp_inhabited.proofs.table.+lives.Goals as goal

pub mask_of-overflow_mul-digits : goal.mask_of-overflow_mul-digits
mask_of-overflow_mul-digits t c =
    let small = mask_bound (lives c.args.roots.now c.args.rows.now c.args.mask) c.args.parts.now c.loop-i.i
    c.loop-i.digits c.requires.parts c.loop-i.invariant.1 in omega arith

pub mask_of-overflow_add-digits : goal.mask_of-overflow_add-digits
mask_of-overflow_add-digits t c =
    let small = mask_bound (lives c.args.roots.now c.args.rows.now c.args.mask) c.args.parts.now c.loop-i.i
    c.loop-i.digits c.requires.parts c.loop-i.invariant.1 in
    let low = c.digit.ensures.small in omega arith

pub mask_of-loop-i-preserved : goal.mask_of-loop-i-preserved
mask_of-loop-i-preserved t c =
    let f = lives c.args.roots.now c.args.rows.now c.args.mask in
    let le = c.loop-i.invariant.0 in (
      omega arith,
      mask_turn f c.args.parts.now c.loop-i.i c.loop-i.digits c.digit.result c.index-parts-i.result c.loop-i-test.true
          le c.loop-i.invariant.1
          (c.digit.ensures.value ∙ ap (λ (b : Bool). if b then 0 else 1) (c.lives.ensures ∙ ap f c.index-parts-i.is)),
    )
