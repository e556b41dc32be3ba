use Rattle.std.proofs.Common.{◌≡◌, ◌∙◌, List, Contains, true, false, take, sym, subst}
use Rattle.std.proofs.Common.{⊎_elim}
use Rattle.std.proofs.lemmas.List.{map_more, take_all}
use Rattle.std.proofs.lemmas.List.Elements.{Contains-push_cases}
use Rattle.pp_prog.specs.declared.value.Value.{Value}
use Rattle.pp_store.specs.declared.held.Held.{Held}
use Rattle.pp_store.specs.Values.{value_of, values_of}
use Rattle.pp_store.proofs.store.Store.is_one_of.Goals as goal

pub loop-field-preserved : goal.loop-field-preserved
loop-field-preserved c =
    let trees = c.args.self.now in
    let i = c.loop-field.field-index in
    let next = map_more (value_of trees) c.args.fields.now i _ c.loop-field-test.true in
    λ has. ⊎_elim c.loop-field.invariant
    (λ same. let found : false ≡ true = sym c.if-branch.false ∙ c.in_ok-same.ensures.1 (sym same) in cc)
    (Contains-push_cases (values_of trees (take i c.args.fields.now)) _ (value_of trees c.args.a)
    (subst (λ (l : List Value). Contains l (value_of trees c.args.a)) next has))

pub returns : goal.returns
returns c =
    let all = take_all c.loop-field.field-index c.args.fields.now c.loop-field-test.false in (
      λ no_field. cc,
      λ has. absurd (c.loop-field.invariant
          (subst (λ (l : List Held). Contains (values_of c.args.self.now l) (value_of c.args.self.now c.args.a))
          (sym all) has)),
    )
