use Rattle.std.proofs.Common.{◌∙◌, Option, Some, sym, ap}
use Rattle.pp_verify.specs.declared.progress.Progress.{Progress}
use Rattle.pp_turns.specs.Parts.{progress_of}
use Rattle.pp_verify.proofs.Written.{read}
use Rattle.pp_turns.proofs.turns.Turns.progress_at.Goals as goal

pub returns : goal.returns
returns c =
    read progress_of c.args.self.now.checks c.as_slice-checks.result.now c.args.check.0 c.index-checks-place.result
    c.as_slice-checks.ensures c.requires c.index-checks-place.is
    ∙ ap (λ (p : Option Progress). Some p) (sym c.open_progress.ensures)
