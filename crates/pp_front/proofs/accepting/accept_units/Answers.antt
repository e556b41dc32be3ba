use Rattle.pp_declared.specs.Shown.{units_of}
use Rattle.pp_front.proofs.Refused.{on_line}
use Rattle.pp_front.specs.Refuses.{untyped}
use Rattle.pp_front.proofs.accepting.accept_units.Goals as goal

pub returns-in-Err-clause-refused : goal.returns-in-Err-clause-refused
returns-in-Err-clause-refused c =
    on_line c.in-Err.refusal c.in-Err.ensures.refused (λ line bad. untyped (units_of c.args.units.now)
    c.requires.spelled bad)
