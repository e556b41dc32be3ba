use Rattle.std.proofs.Common.{◌∷◌, ◌++◌, [], subst, sym}
use Rattle.pp_instances.specs.Growth.{Gains, Bursts, Stage}
use Rattle.pp_instances.specs.Uses.{at_ints}
use Rattle.pp_instances.proofs.Grown.{stage_more, bursts_more, why_not}
use Rattle.pp_instances.proofs.closure.fill.Goals as goal

pub returns-in-Err-clause-closed : goal.returns-in-Err-clause-closed
returns-in-Err-clause-closed c = λ seeds k.
    let ms = c.args.members.now in
    why_not (λ b. bursts_more c.args.typed.now seeds ms (at_ints c.args.f c.args.d.now) k
    (subst (λ z. Bursts 512 ms (z ∷ [])) c.in_ok-member.ensures b))
    c.in-Err.e c.in-Err.ensures.gains

pub returns-clause-closed : goal.returns-clause-closed
returns-clause-closed c = λ seeds k.
    let ms = c.args.members.now in
    let all = c.include.new.members in
    let m = at_ints c.args.f c.args.d.now in
    let more = stage_more c.args.typed.now seeds ms all m k
    (subst (λ z. Gains ms (z ∷ []) all) c.in_ok-member.ensures c.in-Ok.ensures.gains) in
    c.close.ensures.closed (seeds ++ m ∷ [])
    (subst (λ n. Stage c.args.typed.now (seeds ++ m ∷ []) n all) (sym c.len-first.ensures.value) more)
