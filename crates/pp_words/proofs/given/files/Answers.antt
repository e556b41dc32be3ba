use Rattle.std.proofs.Common.{◌∙◌, Some, None, map, ap, codes}
use Rattle.std.proofs.lemmas.Result.{IfOk-weaker}
use Rattle.clap.specs.Words.{found_of}
use Rattle.pp_words.proofs.Getters.{files_of_rows}
use Rattle.pp_words.proofs.given.files.Goals as goal

pub returns-in-Some : goal.returns-in-Some
returns-in-Some c =
    IfOk-weaker c.from_slice.result _ _
    (λ files h. ap (map (λ file. file.now)) h ∙ files_of_rows (found_of c.args.matches.now) (codes "file")
    (Some c.in-Some.files) c.in-Some.ensures)
    c.from_slice.ensures.items

pub returns-in-None : goal.returns-in-None
returns-in-None c =
    ap (map (λ file. file.now)) c.new.ensures.items ∙ files_of_rows (found_of c.args.matches.now)
    (codes "file") None c.in-None.ensures
