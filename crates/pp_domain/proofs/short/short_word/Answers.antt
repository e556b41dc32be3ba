use Rattle.std.proofs.Common.{length, ap, ◌∙◌, arith}
use Rattle.pp_domain.proofs.ShortWords.{length_repeated, repeated_more, repeated_none, word_is_short}
use Rattle.pp_domain.proofs.short.short_word.Goals as goal

pub loop-place-init : goal.loop-place-init
loop-place-init c = repeated_none _ _ _

pub loop-place-preserved : goal.loop-place-preserved
loop-place-preserved c =
    repeated_more _ _ _ _ _ _ c.loop-place.auto._place c.loop-place.invariant c.in_ok-push.ensures.items

pub from_lits-requires : goal.from_lits-requires
from_lits-requires c =
    ap length c.deref.ensures.value
    ∙ length_repeated _ _ _ _ _ c.loop-place.invariant c.in_ok-digits.ensures.inputs.len ∙ omega arith

pub returns-clause-short : goal.returns-clause-short
returns-clause-short c =
    let inputs = c.in_ok-digits.ensures in
    word_is_short _ _ _ c.loop-place._place _ _ _ c.requires.low (omega arith) inputs.inputs inputs.chosen
    c.index-sign.ensures (c.from_lits.ensures ∙ c.deref.ensures.value ∙ c.loop-place.invariant)
