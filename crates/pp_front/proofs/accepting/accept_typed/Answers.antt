use Rattle.pp_front.proofs.Refused.{if_refused, on_line}
use Rattle.pp_front.proofs.Spelled.{each_spells}
use Rattle.pp_front.specs.Refuses.{breaks_rules, too_many}
use Rattle.pp_ordinary.proofs.Fit.{typing_fit}
use Rattle.pp_front.proofs.accepting.accept_typed.Goals as goal

pub program-requires-clause-small : goal.program-requires-clause-small
program-requires-clause-small c =
    let t = c.requires.typing in
    (typing_fit c.args.texts.now t.units c.args.typed.now c.requires.short (each_spells t.spelled) t.typing).small

pub program-requires-clause-stand : goal.program-requires-clause-stand
program-requires-clause-stand c =
    let t = c.requires.typing in
    (typing_fit c.args.texts.now t.units c.args.typed.now c.requires.short (each_spells t.spelled) t.typing).stands

pub returns-in-Ok-clause-refused : goal.returns-in-Ok-clause-refused
returns-in-Ok-clause-refused c =
    if_refused c.accept_program.result c.accept_program.ensures.refused
    (λ line bad. breaks_rules c.in-Ok.program
    (record { typed = c.args.typed.now; typing = c.requires.typing; concrete = c.in-Ok.ensures.program }) bad)

pub returns-in-Err-clause-refused : goal.returns-in-Err-clause-refused
returns-in-Err-clause-refused c =
    on_line c.in-Err.refusal c.in-Err.ensures.refused (λ line bad. too_many c.args.typed.now c.requires.typing bad)
