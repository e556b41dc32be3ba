use Rattle.std.proofs.Common.{rules}
use Rattle.clap.specs.Words.{app_of, fault_of, found_of, rows_of}
use Rattle.pp_words.specs.Told.{texts}
use Rattle.pp_words.proofs.Taken.{some_kind, values_found, with_faults, without_faults}
use Rattle.pp_words.proofs.command.matches.Goals as goal

pub returns-in-Ok-clause-taken : goal.returns-in-Ok-clause-taken
returns-in-Ok-clause-taken c =
    without_faults (app_of c.in_ok-command.command) (texts c.args.words.now) c.in_ok-command.ensures
    (λ free. c.in-Ok.ensures.kinds free)

pub returns-in-Ok-clause-values : goal.returns-in-Ok-clause-values
returns-in-Ok-clause-values c =
    values_found (app_of c.in_ok-command.command) (texts c.args.words.now) (rows_of (found_of c.in-Ok.matches))
    c.in_ok-command.ensures (λ simple. (c.in-Ok.ensures.matches simple).0)

pub returns-in-Err-clause-refused : goal.returns-in-Err-clause-refused
returns-in-Err-clause-refused c refused =
    let app = app_of c.in_ok-command.command in
    let words = texts c.args.words.now in
    with_faults app words c.in_ok-command.ensures
    (λ free. some_kind (fault_of app words) c.in-Err.error (c.in-Err.ensures.kinds free)
    (c.fault.ensures (search rules)))
