use Rattle.std.proofs.Common.{Some, ap, ◌∙◌}
use Rattle.pp_closure.proofs.GoingDown.{alike_said}
use Rattle.pp_closure.proofs.Said.{bool_said, both_said, made_said, not_said, on_ok, test_said}
use Rattle.pp_closure.proofs.Totals.{made_number}
use Rattle.pp_closure.proofs.learning.learn_step.Goals as goal

pub returns-in-Bool : goal.returns-in-Bool
returns-in-Bool c v holds =
    c.assume.ensures v.values (bool_said _ v _ _ (c.requires ∙ ap Some c.in-Bool.is)) holds

pub returns-in-Not : goal.returns-in-Not
returns-in-Not c v holds =
    c.learn_not.ensures v.values (not_said _ v _ _ (c.requires ∙ ap Some c.in-Not.is)) holds

pub returns-in-Both : goal.returns-in-Both
returns-in-Both c v holds =
    c.learn_both.ensures v.values (both_said _ v _ _ _ (c.requires ∙ ap Some c.in-Both.is)) holds

pub returns-in-Choose : goal.returns-in-Choose
returns-in-Choose c v holds =
    c.learn_choice.ensures v.values (v.does c.args.number _ (c.requires ∙ ap Some c.in-Choose.is)) holds

pub returns-in-Construct : goal.returns-in-Construct
returns-in-Construct c =
    on_ok c.learn_construct.result _ _
    (λ go v holds. go v.values
    (made_said _ v _ _ _ _ (c.requires ∙ ap Some c.in-Construct.is) c.len.ensures) holds)
    c.learn_construct.ensures

pub returns-in-IsCtor : goal.returns-in-IsCtor
returns-in-IsCtor c =
    on_ok c.learn_test.result _ _
    (λ go v holds. go v.values (test_said _ v _ _ _ _ (c.requires ∙ ap Some c.in-IsCtor.is)) holds)
    c.learn_test.ensures

pub returns-in-CtorField : goal.returns-in-CtorField
returns-in-CtorField c v holds =
    c.learn_field.ensures v (v.does c.args.number _ (c.requires ∙ ap Some c.in-CtorField.is)) holds

pub returns-in-Int : goal.returns-in-Int
returns-in-Int c v holds =
    c.learn_number.ensures v.values (made_number _ v _ _ (c.requires ∙ ap Some c.in-Int.is))
    (c.maker.ensures v.values holds)

pub returns-in-IsAlike : goal.returns-in-IsAlike
returns-in-IsAlike c v holds =
    c.assume-in-IsAlike.ensures v.values (alike_said _ v _ _ _ (c.requires ∙ ap Some c.in-IsAlike.is)) holds
