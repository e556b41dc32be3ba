use Rattle.pp_induct.proofs.Reports.{ends_are_supported}
use Rattle.pp_verify.proofs.verifying.verify.Goals as goal

pub conclude-requires-clause-supported : goal.conclude-requires-clause-supported
conclude-requires-clause-supported c = (
  c.args.limits.depth,
  c.requires.limits.least_depth,
  c.requires.limits.depth,
  ends_are_supported c.args.program.now c.args.limits c.as_slice.result.now c.requires.limits
      (rw c.as_slice.ensures c.in_ok-checks.ensures.ends),
)
