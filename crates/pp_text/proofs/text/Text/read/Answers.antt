use Rattle.std.proofs.Common.{sym, subst}
use Rattle.pp_text.specs.Fault.{IsFirstBad}
use Rattle.pp_text.proofs.FirstBad.{first_bad}
use Rattle.pp_text.proofs.text.Text.read.Goals as goal

pub returns-in-Err-clause-refused : goal.returns-in-Err-clause-refused
returns-in-Err-clause-refused c =
    let h = c.in-Err.ensures in
    (h.cases.0, subst (IsFirstBad c.args.bytes.now) (sym c.valid_up_to.ensures) (first_bad _ _ h.cases.1))
