use Rattle.std.proofs.Common.{Some, refl}
use Rattle.pp_compile.specs.Sites.{site_of}
use Rattle.pp_compile.proofs.Running.{whole_made}
use Rattle.pp_compile.proofs.run.whole_run.Goals as goal

pub returns : goal.returns
returns c =
    whole_made (site_of c.args.calls.functions.now c.args.calls.kind (Some c.args.check)) c.args.f.now c.args.check
    c.new.ensures c.new-2.ensures c.as_slice.ensures c.in_ok-args.ensures c.in_ok-run.ensures.made
    c.in_ok-run.ensures.kept
    refl c.as_slice-2.ensures c.in_ok-found.ensures.written c.in_ok-found.ensures.number
    c.new-4.ensures
