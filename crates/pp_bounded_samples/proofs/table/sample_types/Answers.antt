use Rattle.std.proofs.Common.{List, sym, subst}
use Rattle.pp_prog.specs.declared.types.Ctor.{Ctor}
use Rattle.pp_prog.specs.declared.types.Datatype.{Datatype}
use Rattle.pp_prog.specs.Table.{IsTable}
use Rattle.pp_bounded_samples.specs.Sample.{sample_datatypes}
use Rattle.pp_bounded_samples.proofs.SampleTable.{sample_is_table}
use Rattle.pp_bounded_samples.proofs.table.sample_types.Goals as goal

pub of-requires : goal.of-requires
of-requires c =
    subst (λ (l : List Datatype). IsTable l c.in_ok-ctors.ctors) (sym c.in_ok-datatypes.ensures)
    (subst (λ (l : List Ctor). IsTable (sample_datatypes _) l) (sym c.in_ok-ctors.ensures) (sample_is_table _))
