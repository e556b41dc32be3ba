use Rattle.std.proofs.Common.{subst, sym, ◌∙◌}
use Rattle.pp_closure.specs.Facts.{HasMaker}
use Rattle.pp_closure.proofs.Fielded.{same_fields}
use Rattle.pp_closure.proofs.wholes.learn_same_fields.Goals as goal

pub returns-in-Some-Some : goal.returns-in-Some-Some
returns-in-Some-Some c v holds =
    let one = c.in-Some-Some.ensures v in
    let other = c.in-Some-Some.ensures' v in
    let made = subst (λ m. HasMaker v.values m (v.values c.args.number)) c.in-Some.is (c.known.ensures v.values holds).maker
    in
    c.unite_all.ensures v.values (same_fields one.0 other.0 _ _ (sym one.1 ∙ sym made ∙ other.1)) holds
