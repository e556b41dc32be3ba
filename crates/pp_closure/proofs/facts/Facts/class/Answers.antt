use Rattle.std.proofs.Common.{arith, sym, ◌∙◌, ap}
use Rattle.std.specs.Prelude.{slice_get}
use Rattle.pp_closure.proofs.Noted.{tells_at}
use Rattle.pp_closure.proofs.facts.Facts.class.Goals as goal

pub returns-in-Some : goal.returns-in-Some
returns-in-Some c ρ holds =
    tells_at ρ 0 _ _ _ _ holds.classes
    (sym (c.in-Some.ensures ∙ ap (λ l. slice_get l c.args.number) c.as_slice.ensures)) (omega arith)
