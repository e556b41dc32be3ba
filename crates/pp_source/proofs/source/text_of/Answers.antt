use Rattle.pp_source.proofs.Lines.{where_not_utf8}
use Rattle.pp_source.proofs.source.text_of.Goals as goal

pub returns-in_ok-not_utf8_line-in-Err-NotUtf8-clause-refused :
    goal.returns-in_ok-not_utf8_line-in-Err-NotUtf8-clause-refused
returns-in_ok-not_utf8_line-in-Err-NotUtf8-clause-refused c =
    where_not_utf8 c.args.number c.args.bytes.now _ c.in-Err-NotUtf8.at c.in-Err-NotUtf8.field-0
    c.in-Err-NotUtf8.field-0-is
    c.in-Err-NotUtf8.ensures.refused c.in_ok-not_utf8_line-in-Err-NotUtf8.ensures
