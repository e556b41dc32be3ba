use Rattle.std.proofs.Common.{◌≡◌, length, sym, ap, ◌∙◌}
use Rattle.pp_bits.specs.Number.{nat_of}
use Rattle.pp_bits.proofs.Growing.{Gives_before}
use Rattle.pp_wordscale.specs.Division.{magnitude_of}
use Rattle.pp_wordscale.proofs.Magnitudes.{divisor_some, Divides_same}
use Rattle.pp_wordscale.proofs.signed.divide_magnitudes.Goals as goal

pub returns-clause-value : goal.returns-clause-value
returns-clause-value c =
    let parts = c.in_ok-parts.ensures in
    let divisor = c.in_ok-divisor.ensures in
    let a = c.args.a.now in
    let b = c.args.b.now in
    λ s gives some.
    let before = Gives_before _ _ _ parts.adds s gives in
    let n : nat_of s c.deref.result.now ≡ magnitude_of (length a) (nat_of s a) =
    ap (nat_of s) c.deref.ensures.value
    ∙ c.in_ok-dividend.ensures.stands.value s (Gives_before _ _ _ divisor.adds s before) in
    let d : nat_of s c.deref-2.result.now ≡ magnitude_of (length a) (nat_of s b) =
    ap (nat_of s) c.deref-2.ensures.value ∙ divisor.stands.value s before
    ∙ ap (λ k. magnitude_of k (nat_of s b)) (sym c.requires.same) in
    Divides_same n d (parts.value s gives (divisor_some s b (length a) _ c.requires.same d some))
