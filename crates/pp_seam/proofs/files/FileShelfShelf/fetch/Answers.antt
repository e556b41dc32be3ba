use Rattle.std.proofs.Common.{◌≡◌, [], ◌∷◌, ◌++◌, map, string_bytes, arith, ap, ◌∙◌}
use Rattle.std.proofs.lemmas.Grind.{common_steps}
use Rattle.pp_seam.specs.Faults.{times}
use Rattle.pp_seam.proofs.Counted.{times-push}
use Rattle.pp_seam.proofs.files.FileShelfShelf.fetch.Goals as goal

pub returns-in-Err-Failed-clause-rose : goal.returns-in-Err-Failed-clause-rose
returns-in-Err-Failed-clause-rose g c failed =
    let pushed : map string_bytes c.push-in-Err-Failed.new.self.items ≡ map string_bytes c.args.self.now.failed.items
    ++ c.args.path.now ∷ [] = grind (arith, common_steps) in
    ap (times c.args.path.now) pushed ∙ times-push c.args.path.now (map string_bytes c.args.self.now.failed.items)
