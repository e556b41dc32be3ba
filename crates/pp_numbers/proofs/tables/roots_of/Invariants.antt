use Rattle.std.proofs.Common.{◌≡◌, take, map}
use Rattle.pp_instances.specs.declared.member.Decl.TheVariants.{Root}
use Rattle.pp_translation.specs.Numbers.{stands_for}
use Rattle.pp_numbers.proofs.tables.roots_of.Given as goal

abbrev pub invariant-loop-i : goal.invariant-loop-i
invariant-loop-i l = l.members ≡ map (stands_for Root) (take l.i-index l.roots)
