use Rattle.std.proofs.Common.{◌≡◌, ◌∙◌, List, sym, subst, true, false}
use Rattle.pp_prog.specs.declared.expr.Function.{Function}
use Rattle.pp_prog.specs.Names.{IsFirstNamed, NoneNamed}
use Rattle.pp_prog.proofs.Named.{found_first, none_more, none_at_all}
use Rattle.pp_prog.proofs.program.Program.find.Goals as goal

pub returns-then-has_name : goal.returns-then-has_name
returns-then-has_name c =
    subst (λ (l : List Function). IsFirstNamed l c.args.name.now c.loop-i.i) c.as_slice-functions.ensures
    (found_first c.as_slice-functions.result.now c.args.name.now c.loop-i.i c.index-functions-i.result
    c.loop-i-test.true c.index-functions-i.is
    (c.has_name.ensures.0 c.if-has_name.true) c.loop-i.invariant)

pub loop-i-preserved : goal.loop-i-preserved
loop-i-preserved c =
    none_more c.as_slice-functions.result.now c.args.name.now c.loop-i.i c.index-functions-i.result c.loop-i-test.true
    c.index-functions-i.is
    (λ e. let no : false ≡ true = sym c.if-has_name.false ∙ c.has_name.ensures.1 e in cc) c.loop-i.invariant

pub returns : goal.returns
returns c =
    subst (λ (l : List Function). NoneNamed l c.args.name.now) c.as_slice-functions.ensures
    (none_at_all c.as_slice-functions.result.now c.args.name.now c.loop-i.i c.loop-i-test.false c.loop-i.invariant)
