use Rattle.std.proofs.Common.{sym}
use Rattle.std.proofs.lemmas.List.{append-nil}
use Rattle.pp_cover.proofs.Constraints.{constraints_any}
use Rattle.pp_cover.proofs.constraint.+push_constraint.Goals as goal

pub returns-in-Any : goal.returns-in-Any
returns-in-Any t c = rw (c.in-Any.is, constraints_any c.args.column) (sym (append-nil c.args.row.now))
