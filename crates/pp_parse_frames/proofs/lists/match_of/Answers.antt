use Rattle.std.proofs.Common.{sym, subst}
use Rattle.std.specs.Prelude.{◌≡◌, IfOk}
use Rattle.pp_tree.specs.Plain.{CaseTrees, matching}
use Rattle.pp_tree.specs.Shown.{tree_of}
use Rattle.pp_parse_frames.proofs.Finished.{cases_finished}
use Rattle.pp_parse_frames.proofs.lists.match_of.Goals as goal

pub returns : goal.returns
returns c =
    let P : CaseTrees → Type 0 = λ cs. IfOk c.matching.result
    (λ e. tree_of e.now.tree ≡ matching c.args.at (tree_of c.args.of.now.tree) cs) in
    subst P (sym (cases_finished (λ x. x.now.tree) c.args.cases.now)) c.matching.ensures
