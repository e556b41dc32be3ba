use Rattle.std.proofs.Common.{Some, sym, ap, ◌∙◌}
use Rattle.std.proofs.lemmas.Option.{slice_get_within}
use Rattle.pp_steps.specs.declared.step.Step.TheVariants as steps
use Rattle.pp_closure.proofs.Totals.{less_sort, made_less, made_negated, made_number, made_product, made_sum}
use Rattle.pp_closure.proofs.Totals.{negated_sort, number_sort, product_sort, sum_sort}
use Rattle.pp_closure.proofs.parts.made_of.Goals as goal

pub returns-in-Some-Int-clause-part : goal.returns-in-Some-Int-clause-part
returns-in-Some-Int-clause-part c v =
    made_number _ v _ _ (sym c.in-Some-Int.ensures ∙ ap Some c.in-Some-Int.field-0-is)

pub returns-in-Some-Int-clause-sort : goal.returns-in-Some-Int-clause-sort
returns-in-Some-Int-clause-sort c v h =
    number_sort _ v _ _ (sym c.in-Some-Int.ensures ∙ ap Some c.in-Some-Int.field-0-is)

pub returns-in-Some-Int-clause-within : goal.returns-in-Some-Int-clause-within
returns-in-Some-Int-clause-within c h = slice_get_within _ _ _ (sym c.in-Some-Int.ensures)

pub returns-in-Some-Unary-Neg-default-clause-part :
    goal.returns-in-Some-Unary-Neg-default-clause-part
returns-in-Some-Unary-Neg-default-clause-part c v = let d = c.in-Some-Unary-Neg-default in
    made_negated _ v _ d.x
    (sym d.ensures ∙ ap Some d.field-0-is ∙ ap (λ o. Some (steps.Unary o d.x)) d.field-0-0-is)

pub returns-in-Some-Unary-Neg-default-clause-sort :
    goal.returns-in-Some-Unary-Neg-default-clause-sort
returns-in-Some-Unary-Neg-default-clause-sort c v h = let d = c.in-Some-Unary-Neg-default in
    negated_sort _ v _ d.x
    (sym d.ensures ∙ ap Some d.field-0-is ∙ ap (λ o. Some (steps.Unary o d.x)) d.field-0-0-is)

pub returns-in-Some-Unary-Neg-default-clause-within :
    goal.returns-in-Some-Unary-Neg-default-clause-within
returns-in-Some-Unary-Neg-default-clause-within c h = let d = c.in-Some-Unary-Neg-default in
    slice_get_within _ _ _ (sym d.ensures)

pub returns-in-Some-Binary-Add-default-default-clause-part :
    goal.returns-in-Some-Binary-Add-default-default-clause-part
returns-in-Some-Binary-Add-default-default-clause-part c v = let d = c.in-Some-Binary-Add-default-default in
    made_sum _ v _ d.x d.y
    (sym d.ensures ∙ ap Some d.field-0-is ∙ ap (λ o. Some (steps.Binary o d.x d.y)) d.field-0-0-is)

pub returns-in-Some-Binary-Add-default-default-clause-sort :
    goal.returns-in-Some-Binary-Add-default-default-clause-sort
returns-in-Some-Binary-Add-default-default-clause-sort c v h = let d = c.in-Some-Binary-Add-default-default in
    sum_sort _ v _ d.x d.y
    (sym d.ensures ∙ ap Some d.field-0-is ∙ ap (λ o. Some (steps.Binary o d.x d.y)) d.field-0-0-is)

pub returns-in-Some-Binary-Add-default-default-clause-within :
    goal.returns-in-Some-Binary-Add-default-default-clause-within
returns-in-Some-Binary-Add-default-default-clause-within c h = let d = c.in-Some-Binary-Add-default-default in
    slice_get_within _ _ _ (sym d.ensures)

pub returns-in-Some-Binary-Sub-default-default-clause-part :
    goal.returns-in-Some-Binary-Sub-default-default-clause-part
returns-in-Some-Binary-Sub-default-default-clause-part c v = let d = c.in-Some-Binary-Sub-default-default in
    made_less _ v _ d.x d.y
    (sym d.ensures ∙ ap Some d.field-0-is ∙ ap (λ o. Some (steps.Binary o d.x d.y)) d.field-0-0-is)

pub returns-in-Some-Binary-Sub-default-default-clause-sort :
    goal.returns-in-Some-Binary-Sub-default-default-clause-sort
returns-in-Some-Binary-Sub-default-default-clause-sort c v h = let d = c.in-Some-Binary-Sub-default-default in
    less_sort _ v _ d.x d.y
    (sym d.ensures ∙ ap Some d.field-0-is ∙ ap (λ o. Some (steps.Binary o d.x d.y)) d.field-0-0-is)

pub returns-in-Some-Binary-Sub-default-default-clause-within :
    goal.returns-in-Some-Binary-Sub-default-default-clause-within
returns-in-Some-Binary-Sub-default-default-clause-within c h = let d = c.in-Some-Binary-Sub-default-default in
    slice_get_within _ _ _ (sym d.ensures)

pub returns-in-Some-Binary-Mul-default-default-clause-part :
    goal.returns-in-Some-Binary-Mul-default-default-clause-part
returns-in-Some-Binary-Mul-default-default-clause-part c v = let d = c.in-Some-Binary-Mul-default-default in
    made_product _ v _ d.x d.y
    (sym d.ensures ∙ ap Some d.field-0-is ∙ ap (λ o. Some (steps.Binary o d.x d.y)) d.field-0-0-is)

pub returns-in-Some-Binary-Mul-default-default-clause-sort :
    goal.returns-in-Some-Binary-Mul-default-default-clause-sort
returns-in-Some-Binary-Mul-default-default-clause-sort c v h = let d = c.in-Some-Binary-Mul-default-default in
    product_sort _ v _ d.x d.y
    (sym d.ensures ∙ ap Some d.field-0-is ∙ ap (λ o. Some (steps.Binary o d.x d.y)) d.field-0-0-is)

pub returns-in-Some-Binary-Mul-default-default-clause-within :
    goal.returns-in-Some-Binary-Mul-default-default-clause-within
returns-in-Some-Binary-Mul-default-default-clause-within c h = let d = c.in-Some-Binary-Mul-default-default in
    slice_get_within _ _ _ (sym d.ensures)
