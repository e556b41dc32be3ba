use Rattle.std.proofs.Common.{◌≡◌, take}
use Rattle.pp_order.specs.Instances.{as_function, as_root, instances_of}
use Rattle.pp_order.proofs.listed.Given as goal

abbrev pub invariant-loop-member : goal.invariant-loop-member
invariant-loop-member l = record {
  functions : l.functions.items ≡ instances_of l.typed as_function (take l.member-index l.member-items);
  roots : l.roots.items ≡ instances_of l.typed as_root (take l.member-index l.member-items);
}
