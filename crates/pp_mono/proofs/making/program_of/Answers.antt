use Rattle.std.proofs.Common.{List, [], get_or, Contains, refl, sym, ◌∙◌, subst}
use Rattle.std.proofs.lemmas.List.Elements.{Contains-get_or}
use Rattle.pp_instances.proofs.Kept.{nothing_in}
use Rattle.pp_mono.proofs.Few.{few_checks}
use Rattle.pp_mono.proofs.Made.{is_concrete, is_valid, made_program}
use Rattle.pp_mono.specs.Concrete.{IsConcrete}
use Rattle.pp_prog.specs.Valid.{IsValid}
use Rattle.pp_prog.specs.declared.check.Check.{Check}
use Rattle.pp_translate.specs.Target.{setting}
use Rattle.pp_translation.specs.Defs.{TranslatesDefs}
use Rattle.pp_translation.specs.declared.frame.CheckAt.{CheckAt}
use Rattle.pp_validity.proofs.Standing.{checks_stand}
use Rattle.pp_mono.proofs.making.program_of.Goals as goal

pub checks_of-requires-clause-stand : goal.checks_of-requires-clause-stand
checks_of-requires-clause-stand c =
    let sites = c.as_slice.result.now in
    let made = subst (λ (s : List CheckAt). TranslatesDefs c.args.typed.now (setting c.in_ok-target.target)
    c.args.texts.now
    c.args.functions.now c.in_ok-functions.functions c.new-sites.result s) (sym c.as_slice.ensures)
    c.in_ok-functions.ensures in
    let stand = checks_stand c.args.texts.now c.args.typed.now (setting c.in_ok-target.target) c.requires.stand made
    (λ d has. absurd (nothing_in d (subst (λ (s : List CheckAt). Contains s d) c.new-sites.ensures has))) in
    λ k d lt. stand (get_or sites k d) (Contains-get_or sites k d lt)

pub checks_of-requires-clause-few : goal.checks_of-requires-clause-few
checks_of-requires-clause-few c =
    let made = subst (λ (s : List CheckAt). TranslatesDefs c.args.typed.now (setting c.in_ok-target.target)
    c.args.texts.now
    c.args.functions.now c.in_ok-functions.functions c.new-sites.result s) (sym c.as_slice.ensures)
    c.in_ok-functions.ensures in
    few_checks c.args.typed.now (setting c.in_ok-target.target) c.args.texts.now c.args.functions.now
    c.in_ok-functions.functions c.new-sites.result c.as_slice.result.now c.requires.small
    c.requires.instances.few_functions c.new-sites.ensures made

pub of-requires : goal.of-requires
of-requires c =
    let none = subst (λ (s : List CheckAt). TranslatesDefs c.args.typed.now (setting c.in_ok-target.target)
    c.args.texts.now
    c.args.functions.now c.in_ok-functions.functions s c.functions_of.new.checks) c.new-sites.ensures
    c.in_ok-functions.ensures in
    let made = subst (λ (s : List CheckAt). TranslatesDefs c.args.typed.now (setting c.in_ok-target.target)
    c.args.texts.now
    c.args.functions.now c.in_ok-functions.functions [] s) (sym c.as_slice.ensures) none in
    let few = few_checks c.args.typed.now (setting c.in_ok-target.target) c.args.texts.now c.args.functions.now
    c.in_ok-functions.functions [] c.as_slice.result.now c.requires.small c.requires.instances.few_functions refl
    made in
    subst (λ (l : List Check). IsValid c.in_ok-target.target.types c.in_ok-functions.functions l)
    (sym c.in_ok-checks.ensures)
    (is_valid c.args.typed.now c.args.texts.now c.args.functions.now c.args.roots.now c.requires.instances
    c.in_ok-target.target c.in_ok-target.ensures c.in_ok-functions.functions c.as_slice.result.now made few)

pub returns : goal.returns
returns c =
    let none = subst (λ (s : List CheckAt). TranslatesDefs c.args.typed.now (setting c.in_ok-target.target)
    c.args.texts.now
    c.args.functions.now c.in_ok-functions.functions s c.functions_of.new.checks) c.new-sites.ensures
    c.in_ok-functions.ensures in
    let made = subst (λ (s : List CheckAt). TranslatesDefs c.args.typed.now (setting c.in_ok-target.target)
    c.args.texts.now
    c.args.functions.now c.in_ok-functions.functions [] s) (sym c.as_slice.ensures) none in
    made_program (IsConcrete c.args.typed.now c.args.texts.now) c.of.result c.of.ensures.types c.of.ensures.functions
    c.of.ensures.checks
    (λ p types functions checks. is_concrete c.args.typed.now c.args.texts.now c.args.functions.now c.args.roots.now
    c.requires.instances c.in_ok-target.target c.in_ok-target.ensures c.in_ok-functions.functions c.as_slice.result.now
    made
    p types functions (checks ∙ c.in_ok-checks.ensures))
