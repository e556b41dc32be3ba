use Rattle.std.proofs.Common.{◌∙◌}
use Rattle.pp_names.proofs.Texts.{has_bytes}
use Rattle.pp_names.proofs.table.NameTable.has.Goals as goal

pub returns : goal.returns
returns c = c.contains.ensures ∙ has_bytes c.self.inside.names.keys c.args.name.now c.args.self.now c.self.view_is
