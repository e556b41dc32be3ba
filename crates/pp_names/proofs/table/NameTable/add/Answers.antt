use Rattle.std.proofs.Common.{◌∙◌, ap, not, map}
use Rattle.pp_names.proofs.Texts.{bytes_of, has_text, with_text}
use Rattle.pp_names.proofs.table.NameTable.add.Goals as goal

pub returns-clause-is_new : goal.returns-clause-is_new
returns-clause-is_new c =
    c.in_ok-new.ensures.added
    ∙ ap not (has_text c.self.inside.names.keys c.in_ok-from_str.field-0 c.args.name.now c.args.self.now
    c.in_ok-from_str.ensures.ok c.self.view_is)

pub returns-clause-adds : goal.returns-clause-adds
returns-clause-adds c =
    ap (map bytes_of) c.in_ok-new.ensures.keys
    ∙ with_text c.self.inside.names.keys c.in_ok-from_str.field-0 c.args.name.now c.args.self.now
    c.in_ok-from_str.ensures.ok c.self.view_is
