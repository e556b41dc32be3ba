use Rattle.std.proofs.Common.{◌≡◌, ◌∙◌, ◌<◌, List, length, sym, ap, subst}
use Rattle.pp_declared.specs.Shown.{class_ins, units_of}
use Rattle.pp_declared.specs.declared.listed.ClassAt.{ClassAt}
use Rattle.pp_inhabited.specs.Laws.{FewTypeParams}
use Rattle.pp_inhabited.specs.Settled.{HaveRoots}
use Rattle.pp_inhabited.specs.Value.{IsFirstUninhabited}
use Rattle.pp_typed.specs.declared.declared.Declared.{Declared}
use Rattle.pp_typed.specs.declared.typed.TypedCtor.{TypedCtor}
use Rattle.pp_typed.specs.declared.typed.TypedRoot.{TypedRoot}
use Rattle.pp_types_laws.specs.Fault.{WithoutValue}
use Rattle.pp_types.proofs.Refused.{on_broken, first_of, first_within, without_value}
use Rattle.pp_types_laws.proofs.RootFacts.{class_within, ctors_have_roots, few_type_params}
use Rattle.pp_types.proofs.values.check_values.Goals as goal

pub first_uninhabited-requires-clause-few : goal.first_uninhabited-requires-clause-few
first_uninhabited-requires-clause-few c =
    let roots : c.as_slice.result.now ≡ c.args.names.now.roots = c.as_slice.ensures
    ∙ ap (λ (d : Declared). d.roots) c.declared-declared.ensures in
    subst FewTypeParams (sym roots) (few_type_params (units_of c.args.units.now) c.args.names.now c.requires.declared)

pub first_uninhabited-requires-clause-owners : goal.first_uninhabited-requires-clause-owners
first_uninhabited-requires-clause-owners c =
    let roots : c.as_slice.result.now ≡ c.args.names.now.roots = c.as_slice.ensures
    ∙ ap (λ (d : Declared). d.roots) c.declared-declared.ensures in
    let ctors : c.as_slice-2.result.now ≡ c.args.names.now.ctors = c.as_slice-2.ensures
    ∙ ap (λ (d : Declared). d.ctors) c.declared-declared.ensures in
    subst (λ (l : List TypedRoot). HaveRoots l c.as_slice-2.result.now) (sym roots) (subst
    (HaveRoots c.args.names.now.roots) (sym ctors)
    (ctors_have_roots (units_of c.args.units.now) c.args.names.now c.requires.declared))

pub bounds-as_slice-r : goal.bounds-as_slice-r
bounds-as_slice-r c =
    let roots : c.as_slice.result.now ≡ c.args.names.now.roots = c.as_slice.ensures
    ∙ ap (λ (d : Declared). d.roots) c.declared-declared.ensures in
    let first = first_of c.as_slice.result.now c.as_slice-2.result.now c.in_ok-first_uninhabited.field-0 c.in-Some.r
    c.in-Some.is c.in_ok-first_uninhabited.ensures in
    let within : c.in-Some.r < length c.args.names.now.roots =
    subst (λ (l : List TypedRoot). c.in-Some.r < length l) roots
    (first_within c.as_slice.result.now c.as_slice-2.result.now c.in-Some.r first) in
    subst (λ (l : List ClassAt). c.in-Some.r < length l) (sym c.as_slice-in-Some.ensures)
    (class_within (units_of c.args.units.now) c.args.names.now c.requires.declared c.in_ok-classes-in-Some.classes
    c.in-Some.r c.in_ok-classes-in-Some.ensures within)

pub returns-in_ok-classes-in-Some-clause-refused : goal.returns-in_ok-classes-in-Some-clause-refused
returns-in_ok-classes-in-Some-clause-refused c =
    let d = c.args.names.now in
    let units = units_of c.args.units.now in
    let roots : c.as_slice.result.now ≡ d.roots = c.as_slice.ensures
    ∙ ap (λ (x : Declared). x.roots) c.declared-declared.ensures in
    let ctors : c.as_slice-2.result.now ≡ d.ctors = c.as_slice-2.ensures
    ∙ ap (λ (x : Declared). x.ctors) c.declared-declared.ensures in
    let found = first_of c.as_slice.result.now c.as_slice-2.result.now c.in_ok-first_uninhabited.field-0 c.in-Some.r
    c.in-Some.is c.in_ok-first_uninhabited.ensures in
    let first : IsFirstUninhabited d.roots d.ctors c.in-Some.r =
    subst (λ (l : List TypedCtor). IsFirstUninhabited d.roots l c.in-Some.r) ctors (subst (λ
    (l : List TypedRoot). IsFirstUninhabited l c.as_slice-2.result.now c.in-Some.r) roots found) in
    let is = ap class_ins c.as_slice-in-Some.ensures ∙ c.in_ok-classes-in-Some.ensures in
    let within = class_within units d c.requires.declared c.as_slice-in-Some.result.now c.in-Some.r is
    (first_within d.roots d.ctors c.in-Some.r first) in
    on_broken c.broken.result _ (WithoutValue units d) c.broken.ensures
    (without_value units d c.as_slice-in-Some.result.now c.in-Some.r _ is within first)
