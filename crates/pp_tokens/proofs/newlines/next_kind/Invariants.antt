use Rattle.std.proofs.Common.{◌≡◌, drop}
use Rattle.pp_tokens.specs.Newlines.{next_kind}
use Rattle.pp_tokens.proofs.newlines.next_kind.Given as goal

abbrev pub invariant-loop-token : goal.invariant-loop-token
invariant-loop-token l = next_kind (drop l.token-index l.tokens) ≡ next_kind l.tokens
