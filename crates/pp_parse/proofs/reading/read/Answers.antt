use Rattle.std.proofs.Common.{sym, ◌∙◌, ap}
use Rattle.pp_parse_state.specs.Shown.{shown}
use Rattle.pp_parse_items.specs.Shown.{parsed_of, state_of}
use Rattle.pp_parse.proofs.Runs.{run_turn, fails_run, run_ended, still_open}
use Rattle.pp_parse.proofs.reading.read.Goals as goal

pub returns-in-Err : goal.returns-in-Err
returns-in-Err c = fails_run _ _ _ _ _ _ _ c.loop-t-test.true c.in-Err.ensures c.loop-t.invariant

pub loop-t-preserved : goal.loop-t-preserved
loop-t-preserved c = run_turn _ _ _ _ _ _ _ c.loop-t-test.true c.in-Ok.ensures c.loop-t.invariant

pub returns-in-Done : goal.returns-in-Done
returns-in-Done c =
    sym (run_ended _ _ _ _ _ c.loop-t-test.false c.loop-t.invariant)
    ∙ ap (state_of (parsed_of c.loop-t.parsed) (shown c.loop-t.stack)) c.in-Done.is

pub returns : goal.returns
returns c = still_open _ _ _ _ c.in_default.not-Done (run_ended _ _ _ _ _ c.loop-t-test.false c.loop-t.invariant)
