use Rattle.pp_instances.specs.Uses.{mentions, case_mentions}
use Rattle.pp_list.proofs.Joined.{one_more}
use Rattle.pp_instances.proofs.mentions.+mentions.Goals as goal

pub add_all-loop-e-preserved : goal.add_all-loop-e-preserved
add_all-loop-e-preserved t c =
    one_more mentions c.args.es.now c.loop-e.e-index c.e-item.result c.args.found.now c.loop-e-test.true c.e-item.is
    c.loop-e.invariant c.in_ok-add_mentions.ensures

pub add_cases-loop-c-preserved : goal.add_cases-loop-c-preserved
add_cases-loop-c-preserved t c =
    one_more case_mentions c.args.cases.now c.loop-c.c-index c.c-item.result c.args.found.now c.loop-c-test.true
    c.c-item.is c.loop-c.invariant c.in_ok-add_case.ensures
