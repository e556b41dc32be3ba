use Rattle.std.proofs.Common.{◌≡◌, ap, sym, ◌∙◌, arith, true, false}
use Rattle.std.specs.Prelude.{nat_eq}
use Rattle.pp_generic.specs.declared.expected.Expected.TheVariants as expected
use Rattle.pp_typed.specs.declared.sort.GenericSort.TheVariants as sort
use Rattle.pp_generic.proofs.Fitting.{fits_roots, differ, alike, uneven, stops, ends}
use Rattle.pp_generic.proofs.expected.+fits.Goals as goal
use Rattle.pp_generic.proofs.expected.+fits.Goals.{then-r-q-via-then-r-q, then-r-q-via-else-r-q+then-xs-ys}

pub returns-then-r-q : goal.returns-then-r-q
returns-then-r-q t c =
    let r = c.in-Root-Root.r in
    let q = c.in-Root-Root.q in
    let xs = c.as_slice-xs.result.now in
    let ys = c.as_slice-ys.result.now in
    let is_e = c.in-Root-Root.is-0 ∙ ap (expected.Root r) (sym c.as_slice-xs.ensures) in
    let is_s = c.in-Root-Root.is-1 ∙ ap (sort.Root q) (sym c.as_slice-ys.ensures) in
    let own = fits_roots c.args.expected.now c.args.sort.now r q xs ys is_e is_s in
    elim c.then-r-q.branch [
      | then-r-q-via-then-r-q w ↦ let h : nat_eq r q ≡ false = grind (arith, w.if-r-q.true) in sym (own
          ∙ differ _ _ _ h)
      | then-r-q-via-else-r-q+then-xs-ys w ↦
          let h : nat_eq r q ≡ true = grind (arith, w.if-r-q.false) in
          sym (own ∙ alike _ _ _ h ∙ uneven xs ys w.if-xs-ys.true)
    ]

pub returns-then-not-fits : goal.returns-then-not-fits
returns-then-not-fits t c =
    let r = c.in-Root-Root.r in
    let q = c.in-Root-Root.q in
    let xs = c.as_slice-xs.result.now in
    let ys = c.as_slice-ys.result.now in
    let is_e = c.in-Root-Root.is-0 ∙ ap (expected.Root r) (sym c.as_slice-xs.ensures) in
    let is_s = c.in-Root-Root.is-1 ∙ ap (sort.Root q) (sym c.as_slice-ys.ensures) in
    let own = fits_roots c.args.expected.now c.args.sort.now r q xs ys is_e is_s in
    let h : nat_eq r q ≡ true = grind (arith, c.if-r-q.false) in
    let stop = stops xs ys c.loop-i.i c.index-xs-i.result c.index-ys-i.result (omega arith) c.index-xs-i.is
    (omega arith) c.index-ys-i.is (sym c.fits.ensures ∙ c.if-not-fits.true) in
    sym (own ∙ alike _ _ _ h ∙ c.loop-i.invariant ∙ stop)

pub returns-after-loop-i : goal.returns-after-loop-i
returns-after-loop-i t c =
    let r = c.in-Root-Root.r in
    let q = c.in-Root-Root.q in
    let xs = c.as_slice-xs.result.now in
    let ys = c.as_slice-ys.result.now in
    let is_e = c.in-Root-Root.is-0 ∙ ap (expected.Root r) (sym c.as_slice-xs.ensures) in
    let is_s = c.in-Root-Root.is-1 ∙ ap (sort.Root q) (sym c.as_slice-ys.ensures) in
    let own = fits_roots c.args.expected.now c.args.sort.now r q xs ys is_e is_s in
    let h : nat_eq r q ≡ true = grind (arith, c.if-r-q.false) in
    sym (own ∙ alike _ _ _ h ∙ c.loop-i.invariant ∙ ends xs ys c.loop-i.i (omega arith) c.if-xs-ys.false)
