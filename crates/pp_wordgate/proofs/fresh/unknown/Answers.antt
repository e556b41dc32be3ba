use Rattle.std.proofs.Common.{◌∙◌, refl, sym, subst}
use Rattle.std.specs.Int.{w32}
use Rattle.pp_bits.specs.Inputs.{AreInputs}
use Rattle.pp_wordgate.proofs.Words.{chosen_word_of}
use Rattle.pp_wordgate.proofs.fresh.unknown.Goals as goal

pub returns-clause-inputs : goal.returns-clause-inputs
returns-clause-inputs c = subst (AreInputs _ _ 32) (sym (c.from_lits.ensures ∙ c.deref.ensures.value))
    c.in_ok-digits.ensures.inputs

pub returns-clause-chosen : goal.returns-clause-chosen
returns-clause-chosen c = chosen_word_of w32 (c.from_lits.ensures ∙ c.deref.ensures.value) refl
    c.in_ok-digits.ensures.chosen
