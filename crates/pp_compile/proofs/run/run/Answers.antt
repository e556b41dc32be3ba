use Rattle.pp_compile.specs.Sites.{site_of}
use Rattle.pp_compile.proofs.Joining.{ok_map}
use Rattle.pp_compile.proofs.Running.{run_made}
use Rattle.pp_compile.proofs.run.run.Goals as goal

pub returns-clause-made : goal.returns-clause-made
returns-clause-made c =
    ok_map c.start.result c.start.ensures.made
    (λ r h. run_made (site_of c.args.calls.functions.now c.args.calls.kind c.args.asked) c.args.asked c.args.f.now
    c.args.work.now c.args.args.now c.args.reach
    c.in_ok-allowed.ensures.made c.in_ok-allowed.ensures.kept h)
