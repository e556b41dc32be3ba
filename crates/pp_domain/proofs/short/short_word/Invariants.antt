use Rattle.std.proofs.Common.{◌≡◌, ◌+◌, ◌-◌, ◌++◌, replicate}
use Rattle.pp_domain.proofs.short.short_word.Given as goal

-- the inputs, and as many of the last one as places have gone by
abbrev pub invariant-loop-place : goal.invariant-loop-place
invariant-loop-place l =
    l.digits.items ≡ l.initial.digits.items ++ replicate (l._place - (l.low + 1)) l.sign
