use Rattle.std.proofs.Common.{[], List, length, sym, ap, subst, arith}
use Rattle.pp_prog.specs.declared.expr.Function.{Function}
use Rattle.pp_translate.specs.Target.{setting}
use Rattle.pp_translation.specs.Defs.{TranslatesDefs, no_defs}
use Rattle.pp_translate.proofs.functions.functions_of.Goals as goal

pub loop-i-init : goal.loop-i-init
loop-i-init c =
    let none = ap length c.new-functions.ensures in
    record {
      made = subst (λ (l : List Function). TranslatesDefs c.args.typed.now (setting c.args.target.now) c.args.texts.now
          [] l c.args.checks.now c.args.checks.now) (sym c.new-functions.ensures) no_defs;
      few = omega arith;
    }
