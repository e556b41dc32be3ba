use Rattle.std.proofs.Common.{IfSome, Option, arith}
use Rattle.std.proofs.lemmas.List.{length-map}
use Rattle.pp_declared.specs.Shown.{units_of}
use Rattle.pp_front.proofs.Refused.{on_fault, untyped_line}
use Rattle.pp_front.proofs.Spelled.{as_many, each_spells}
use Rattle.pp_ordinary.proofs.Fit.{typing_fit}
use Rattle.pp_ordinary.proofs.Offsets.{offsets_stand}
use Rattle.pp_tree.specs.Shown.{unit_of}
use Rattle.pp_typed.specs.Stand.{Stands}
use Rattle.pp_types.specs.Kinds.{broken_rule}
use Rattle.pp_types_laws.proofs.DeclPlaces.{fault_placed}
use Rattle.pp_front.proofs.typed.typed.Goals as goal

pub check-requires : goal.check-requires
check-requires c =
    let same = as_many c.requires.spelled in
    let shown = length-map c.args.units.now unit_of in
    let few = c.requires.short.few in
    omega arith

pub of-requires : goal.of-requires
of-requires c =
    (typing_fit c.args.texts.now (units_of c.args.units.now) c.in-Ok.typed c.requires.short
    (each_spells c.requires.spelled) c.in-Ok.ensures.typing).sorted

pub untyped-requires : goal.untyped-requires
untyped-requires c =
    let stand = offsets_stand c.args.texts.now (units_of c.args.units.now) (each_spells c.requires.spelled) in
    on_fault (broken_rule c.in-Err.fault) c.in-Err.ensures.stands
    (λ f stands. fault_placed (Stands c.args.texts.now) (units_of c.args.units.now) f stand stands)

pub returns-in-Err-clause-refused : goal.returns-in-Err-clause-refused
returns-in-Err-clause-refused c =
    untyped_line c.args.texts.now (units_of c.args.units.now) c.untyped.result (broken_rule c.in-Err.fault)
    c.in-Err.ensures.stands c.in-Err.ensures.untyped c.untyped.ensures
