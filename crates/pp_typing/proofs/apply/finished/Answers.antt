use Rattle.std.proofs.Common.{◌∙◌, ap, sym}
use Rattle.pp_generic.specs.Expected.{every}
use Rattle.pp_typed.specs.Put.{put}
use Rattle.pp_rules.specs.Elab.{agreed, typed}
use Rattle.pp_rules.specs.Shapes.{application}
use Rattle.pp_typing.proofs.Told.{finished_at}
use Rattle.pp_typing.specs.Views.{env_of}
use Rattle.pp_typing.proofs.apply.finished.Goals as goal
use Rattle.pp_fault.proofs.Parts.{tells_along}

pub returns : goal.returns
returns c =
    let env = env_of c.args.context.now in
    let at = c.args.at in
    let callee = c.args.callee in
    let sorts = c.in-Some.sorts in
    let e = ap every (sym c.as_slice.ensures) ∙ sym c.in_ok-all_found.ensures ∙ c.in-Some.is in
    let sort = ap (λ l. put l callee.result) (sym c.as_slice-in-Some.ensures) ∙ sym c.in_ok-of-in-Some.ensures in
    let t = ap (λ z. typed env at z (application callee.target sorts c.args.args)) sort
    ∙ ap (λ z. typed env at c.in_ok-of-in-Some.of z) (sym c.application-kind.ensures) ∙ sym c.in_ok-e-in-Some.ensures in
    tells_along c.agreed.result _ _
    (finished_at env at c.args.expected.now c.args.name.now callee c.args.args c.args.found sorts e
    ∙ ap (agreed env c.args.expected.now c.args.name.now) t)
    c.agreed.ensures
