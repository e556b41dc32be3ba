use Rattle.pp_compile.proofs.Joining.{fall_arm, ok_map}
use Rattle.pp_compile.proofs.calls.+fall.Goals as goal

pub returns-in_ok-rest-in-Some : goal.returns-in_ok-rest-in-Some
returns-in_ok-rest-in-Some t c =
    ok_map c.later.result c.later.ensures
    (λ r h. fall_arm c.args.work.now c.args.new.now c.args.old.now c.args.alive c.in-Some-Some.ensures.cases.0
    c.in-Some.ensures.cases.0 c.in-Some-Some.ensures'.cases.0
    c.in_ok-down-in-Some.ensures.written c.in_ok-down-in-Some.ensures.number c.in_ok-same-in-Some.ensures.written
    c.in_ok-same-in-Some.ensures.number c.in_ok-rest-in-Some.ensures h)
