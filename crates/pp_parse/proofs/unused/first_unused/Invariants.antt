use Rattle.std.proofs.Common.{◌≡◌, drop}
use Rattle.pp_grammar.specs.LeftOut.{first_unused}
use Rattle.pp_parse.proofs.unused.first_unused.Given as goal

abbrev pub invariant-loop-t : goal.invariant-loop-t
invariant-loop-t l = first_unused l.tokens ≡ first_unused (drop l.t-index l.tokens)
