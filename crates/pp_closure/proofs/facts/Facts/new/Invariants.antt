use Rattle.std.proofs.Common.{◌≡◌, length}
use Rattle.pp_steps.specs.Meaning.{Values}
use Rattle.pp_closure.specs.Facts.{AllTell}
use Rattle.pp_closure.proofs.facts.Facts.new.Given as goal

abbrev pub invariant-loop-number : goal.invariant-loop-number
invariant-loop-number l = record {
  count : length l.classes ≡ l.number;
  tell : (ρ : Values) → AllTell ρ 0 l.classes;
}
