use Rattle.std.proofs.lemmas.Result.{IfOk-weaker}
use Rattle.pp_parse_frames.proofs.Finished.{text_of_case}
use Rattle.pp_parse_frames.proofs.lists.whole_case.Goals as goal

pub returns : goal.returns
returns c = IfOk-weaker c.case.result _ _ (λ k is. text_of_case _ _ _ _ is) c.case.ensures
