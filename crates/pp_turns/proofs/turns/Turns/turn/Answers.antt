use Rattle.std.proofs.Common.{None}
use Rattle.pp_turns.proofs.Naming.{named_ended}
use Rattle.pp_turns.proofs.OneTurn.{open_at, read_at, untouched}
use Rattle.pp_turns.proofs.turns.Turns.turn.Goals as goal

pub returns-in-None-clause-others : goal.returns-in-None-clause-others
returns-in-None-clause-others c = untouched c.args.check.0 c.args.self

pub returns-in-None-clause-turned : goal.returns-in-None-clause-turned
returns-in-None-clause-turned c names are =
    let read = read_at c.args.self.checks c.args.check.0 None c.in-None.ensures in
    named_ended names c.args.check c.args.self.checks read.0 read.1 read.2 are

pub go_on-requires-clause-at : goal.go_on-requires-clause-at
go_on-requires-clause-at c = open_at c.args.self.checks c.args.check.0 c.in-Some.progress c.in-Some.ensures
