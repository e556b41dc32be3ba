use Rattle.std.proofs.Common.{◌∙◌}
use Rattle.pp_domain.specs.Short.{IsShort}
use Rattle.pp_domain.proofs.PlainSymbols.{masked_read}
use Rattle.pp_domain.proofs.short.masked_short_word.Goals as goal

pub returns-clause-masked : goal.returns-clause-masked
returns-clause-masked c =
    let word = c.in_ok-word.ensures in
    masked_read c.args.circuit.now c.short_word.new.circuit c.choose.new.circuit (IsShort c.args.low) c.args.lit
    _ _ _ _ _ _ word.grows c.requires.lit word.short.len word.short.of word.short.chosen
    c.in_ok-blank.ensures.stands c.lits.ensures.value c.deref.ensures.value c.in_ok-digits.ensures.adds
    c.in_ok-digits.ensures.stands (c.from_lits.ensures ∙ c.deref-2.ensures.value)
