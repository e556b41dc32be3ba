use Rattle.std.specs.Prelude.{IsTrue}
use Rattle.pp_types_laws.proofs.Placed.{typing_placed}
use Rattle.pp_types_laws.proofs.offsets_are_kept.Goals as goal

pub returns : goal.returns
returns c test units t o h = typing_placed (λ x. IsTrue (test x)) units t o h
