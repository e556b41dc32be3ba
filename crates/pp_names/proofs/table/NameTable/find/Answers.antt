use Rattle.std.proofs.Common.{◌∙◌, sym}
use Rattle.pp_names.proofs.Texts.{place_of_text}
use Rattle.pp_names.proofs.table.NameTable.find.Goals as goal

pub returns-in-Some : goal.returns-in-Some
returns-in-Some c =
    sym c.in-Some.is ∙ c.get_index_of.ensures.index
    ∙ place_of_text c.self.inside.names.keys c.args.name.now c.args.self.now c.self.view_is

pub returns-in-None : goal.returns-in-None
returns-in-None c =
    sym c.in-None.is ∙ c.get_index_of.ensures.index
    ∙ place_of_text c.self.inside.names.keys c.args.name.now c.args.self.now c.self.view_is
