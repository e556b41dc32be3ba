use Rattle.std.proofs.Common.{◌≡◌, map, take}
use Rattle.pp_typed.specs.Put.{put}
use Rattle.pp_instances.proofs.member.Member.at_args.Given as goal

abbrev pub invariant-loop-sort : goal.invariant-loop-sort
invariant-loop-sort l = l.sorts ≡ map (put l.args) (take l.sort-index l.fn.self.args)
