use Rattle.std.proofs.Common.{◌++◌, ◌∷◌, [], List, sym, ap, ◌∙◌, subst}
use Rattle.std.specs.Prelude.{slice_get}
use Rattle.pp_prog.specs.declared.expr.Function.{Function}
use Rattle.pp_translate.specs.Target.{setting}
use Rattle.pp_translation.specs.Defs.{TranslatesDefs, more_defs, none_more}
use Rattle.pp_translate.proofs.functions.add_function.Goals as goal

pub returns-in-None-clause-made : goal.returns-in-None-clause-made
returns-in-None-clause-made c = λ is start h.
    let none = ap (λ l. slice_get l c.args.i.now.number) (sym c.as_slice.ensures) ∙ sym c.in-None.ensures in
    none_more c.args.i.now none h

pub returns-in_ok-push-in-Some-clause-made : goal.returns-in_ok-push-in-Some-clause-made
returns-in_ok-push-in-Some-clause-made c = λ is start h.
    let at = ap (λ l. slice_get l c.args.i.now.number) (sym c.as_slice.ensures) ∙ sym c.in-Some.ensures in
    let own = c.in_ok-own-in-Some.ensures in
    subst (λ (l : List Function). TranslatesDefs c.args.typed.now (setting c.args.target.now) c.args.texts.now
    (is ++ c.args.i.now ∷ []) l start c.function_of.new.checks)
    (sym c.in_ok-push-in-Some.ensures.ok)
    (more_defs c.in_ok-own-in-Some.own c.in-Some.d.now (own.number ∙ c.len.ensures) own.args own.measured at h
    c.in_ok-function-in-Some.ensures)
