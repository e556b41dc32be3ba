use Rattle.std.proofs.Common.{subst}
use Rattle.pp_induct.specs.declared.concluding.Unsettled.TheVariants.{Invalid, Open}
use Rattle.pp_induct.specs.Concluding.{EndedBy}
use Rattle.pp_induct.specs.Verdicts.{IsFirst, Never}
use Rattle.pp_induct.proofs.Undone.{all_done, first_has}
use Rattle.pp_induct.proofs.concluding.verdict_of.Goals as goal

pub returns-in-Some-first_check : goal.returns-in-Some-first_check
returns-in-Some-first_check c = (
  subst (λ l. Never (EndedBy l c.args.ends.now Invalid c.args.f.0)) c.checks.ensures.all c.in_default.ensures,
  subst (λ l. IsFirst (EndedBy l c.args.ends.now Open c.args.f.0) c.in-Some-first_check.c.0) c.checks-2.ensures.all
      c.in-Some-first_check.ensures,
)

pub returns-in-Some-first_undone : goal.returns-in-Some-first_undone
returns-in-Some-first_undone c = (
  subst (λ l. Never (EndedBy l c.args.ends.now Invalid c.args.f.0)) c.checks.ensures.all c.in_default.ensures,
  subst (λ l. Never (EndedBy l c.args.ends.now Open c.args.f.0)) c.checks-2.ensures.all
      c.in_default-first_check.ensures,
  first_has c.args.program.now c.args.ends.now c.args.undone.now c.requires.undone c.args.f.0
      c.in-Some-first_undone.g.0 c.in-Some-first_undone.ensures,
)

pub returns-in-None : goal.returns-in-None
returns-in-None c =
    all_done c.args.program.now c.args.ends.now c.args.undone.now c.requires.undone c.args.f.0 c.in-None.ensures
