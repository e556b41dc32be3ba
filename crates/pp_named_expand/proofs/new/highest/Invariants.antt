use Rattle.std.proofs.Common.{◌≡◌, map, take}
use Rattle.pp_prog.specs.Values.{greatest}
use Rattle.pp_domain.specs.Symbols.{symbol_height}
use Rattle.pp_named_trees.specs.Meaning.{named_sense}
use Rattle.pp_named_expand.proofs.new.highest.Given as goal

abbrev pub invariant-loop-field : goal.invariant-loop-field
invariant-loop-field l = l.most ≡ greatest (map (symbol_height named_sense l.trees) (take l.field-index l.fields))
