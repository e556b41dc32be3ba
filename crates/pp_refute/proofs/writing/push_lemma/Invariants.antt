use Rattle.std.proofs.Common.{◌≡◌, ◌++◌, take}
use Rattle.std.specs.List.{flat_map}
use Rattle.pp_refute.specs.LogText.{text_of_lit, text_of_number}
use Rattle.pp_refute.proofs.writing.push_lemma.Given as goal

abbrev pub invariant-loop-lit : goal.invariant-loop-lit
invariant-loop-lit l = l.text.items ≡ l.initial.text.items ++ flat_map text_of_lit (take l.lit-index l.lit-items)

abbrev pub invariant-loop-number : goal.invariant-loop-number
invariant-loop-number l =
    l.text.items ≡ l.initial.text.items ++ flat_map text_of_number (take l.number-index l.number-items)
