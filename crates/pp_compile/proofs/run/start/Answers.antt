use Rattle.pp_compile.specs.Sites.{site_of}
use Rattle.pp_compile.proofs.Running.{start_made}
use Rattle.pp_compile.proofs.run.start.Goals as goal

pub returns-clause-made : goal.returns-clause-made
returns-clause-made c =
    start_made (site_of c.args.calls.functions.now c.args.calls.kind c.args.asked) c.args.asked c.args.f.now
    c.args.work.now c.args.args.now c.args.reach
    c.as_slice.ensures c.in_ok-new.ensures.made c.in_ok-new.ensures.kept c.in_ok-x.ensures.made
    c.in_ok-x.ensures.kept c.in_ok-push.ensures.ok c.in_ok-end.ensures.made
