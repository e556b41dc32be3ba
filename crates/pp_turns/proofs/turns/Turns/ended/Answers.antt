use Rattle.std.proofs.Common.{◌∙◌, ap, sym}
use Rattle.std.specs.Prelude.{List}
use Rattle.std.specs.List.{list_all}
use Rattle.pp_turns.specs.declared.part.Turn.{Turn}
use Rattle.pp_turns.specs.Parts.{has_ended}
use Rattle.pp_turns.proofs.EndLists.{from_test, to_test}
use Rattle.pp_turns.proofs.Naming.{all_ended}
use Rattle.pp_turns.proofs.turns.Turns.ended.Goals as goal

pub returns-clause-each : goal.returns-clause-each
returns-clause-each c =
    let test = c.have_ended.ensures ∙ ap (λ (l : List Turn). list_all has_ended l) c.as_slice.ensures in
    (λ yes. from_test c.args.self.now.checks (sym test ∙ yes), λ have. test ∙ to_test c.args.self.now.checks have)

pub returns-clause-enough : goal.returns-clause-enough
returns-clause-enough c p names are turned enough =
    c.have_ended.ensures ∙ ap (λ (l : List Turn). list_all has_ended l) c.as_slice.ensures
    ∙ to_test c.args.self.now.checks (all_ended p names c.args.self.now are turned enough)
