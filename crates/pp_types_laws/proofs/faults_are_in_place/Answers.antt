use Rattle.std.specs.Prelude.{IsTrue}
use Rattle.pp_types_laws.proofs.DeclPlaces.{fault_placed}
use Rattle.pp_types_laws.proofs.faults_are_in_place.Goals as goal

pub returns : goal.returns
returns c test units f o h = fault_placed (λ x. IsTrue (test x)) units f o h
