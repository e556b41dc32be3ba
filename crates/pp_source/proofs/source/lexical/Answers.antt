use Rattle.pp_source.proofs.Lines.{at_character, at_comment, at_number}
use Rattle.pp_source.proofs.source.lexical.Goals as goal

pub returns-in-BadChar : goal.returns-in-BadChar
returns-in-BadChar c =
    at_character c.args.number c.args.text.now c.faulty.result c.in-BadChar.at c.args.fault c.in-BadChar.is
    c.requires.utf8
    c.requires.first c.faulty.ensures

pub returns-in-BadNumber : goal.returns-in-BadNumber
returns-in-BadNumber c =
    at_number c.args.number c.args.text.now c.faulty-in-BadNumber.result c.in-BadNumber.at c.args.fault
    c.in-BadNumber.is
    c.requires.utf8 c.requires.first c.faulty-in-BadNumber.ensures

pub returns-in-OpenComment : goal.returns-in-OpenComment
returns-in-OpenComment c =
    at_comment c.args.number c.args.text.now c.faulty-in-OpenComment.result c.in-OpenComment.at c.args.fault
    c.in-OpenComment.is c.requires.utf8 c.requires.first c.faulty-in-OpenComment.ensures
