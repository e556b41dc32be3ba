use Rattle.pp_plain_laws.proofs.Law.{plain_never_fail}
use Rattle.pp_query.proofs.fronts.demanded_guesses_refuted.Goals as goal

pub returns-then-plain : goal.returns-then-plain
returns-then-plain c = record {
  none = λ is i own.
      plain_never_fail.guesses c.args.plan.now c.args.program.now c.requires.plan i c.args.check own
      ((c.plain.ensures c.args.program.now c.requires.plan c.requires.check).0 c.if-plain.true) c.args.round;
}
