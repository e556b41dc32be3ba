use Rattle.pp_types_laws.proofs.WellSorted.{typing_well_sorted}
use Rattle.pp_types_laws.proofs.typings_are_sorted.Goals as goal

pub returns : goal.returns
returns c units t ints h = typing_well_sorted units t ints h
