use Rattle.std.proofs.Common.{arith}
use Rattle.pp_parse_items.specs.Shown.{parsed_of}
use Rattle.pp_parse_items.proofs.items.on_import_all.Goals as goal

pub returns-then-one : goal.returns-then-one
returns-then-one c = λ s. let h = c.on_object_import.ensures s in grind arith

pub returns : goal.returns
returns c = λ s. let h = c.on_other_import.ensures (parsed_of c.args.parsed.now) s in grind arith
