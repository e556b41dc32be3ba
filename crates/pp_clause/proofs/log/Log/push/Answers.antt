use Rattle.std.proofs.lemmas.List.Elements.{All-push, All-same}
use Rattle.pp_clause.specs.Log.{IsLemma}
use Rattle.pp_clause.proofs.log.Log.push.Goals as goal

pub invariant_of-self : goal.invariant_of-self
invariant_of-self c = All-same IsLemma _ _ c.in_err-push.ensures.items c.self.invariant

pub invariant_of-self-2 : goal.invariant_of-self-2
invariant_of-self-2 c =
    All-same IsLemma _ _ c.in_ok-push.ensures.items
    (All-push IsLemma _ _ c.self.invariant
    (record { clause = c.lits-lits.ensures.order; chain = c.numbers-numbers.ensures.chain }))
