use Rattle.std.proofs.Common.{◌∙◌}
use Rattle.pp_domain.specs.Plain.{IsAnyWord}
use Rattle.pp_domain.proofs.PlainSymbols.{masked_read}
use Rattle.pp_domain.proofs.plain.masked_word.Goals as goal

pub returns-clause-masked : goal.returns-clause-masked
returns-clause-masked c =
    masked_read c.args.circuit.now c.inputs.new.circuit c.choose.new.circuit IsAnyWord c.args.lit _ _ _ _ _ _
    c.in_ok-digits.ensures.grows c.requires.lit c.in_ok-digits.ensures.inputs.len
    c.in_ok-digits.ensures.inputs.of c.in_ok-digits.ensures.chosen
    c.in_ok-blank.ensures.stands c.deref.ensures.value c.deref-2.ensures.value c.in_ok-word.ensures.adds
    c.in_ok-word.ensures.stands (c.from_lits.ensures ∙ c.deref-3.ensures.value)
