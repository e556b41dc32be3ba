use Rattle.std.proofs.Common.{codes}
use Rattle.clap.specs.Words.{found_of}
use Rattle.pp_words.proofs.Getters.{same_given, value_of_rows}
use Rattle.pp_words.proofs.given.values.Goals as goal

pub returns : goal.returns
returns c =
    let found = found_of c.args.matches.now in
    same_given (value_of_rows found (codes "mode") c.get_str.result c.get_str.ensures)
    (value_of_rows found (codes "rounds") c.get_str-2.result c.get_str-2.ensures)
    (value_of_rows found (codes "depth") c.get_str-3.result c.get_str-3.ensures)
    (value_of_rows found (codes "lemmas") c.get_str-4.result c.get_str-4.ensures)
    (value_of_rows found (codes "gates") c.get_str-5.result c.get_str-5.ensures)
    (value_of_rows found (codes "order") c.get_str-6.result c.get_str-6.ensures)
    (value_of_rows found (codes "function") c.get_str-7.result c.get_str-7.ensures)
    (value_of_rows found (codes "fuel") c.get_str-8.result c.get_str-8.ensures)
    (value_of_rows found (codes "seed") c.get_str-9.result c.get_str-9.ensures)
    c.in_ok-files.ensures
