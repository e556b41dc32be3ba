use Rattle.std.proofs.Common.{◌≡◌, take, map}
use Rattle.pp_instances.specs.declared.member.Decl.TheVariants.{Function}
use Rattle.pp_translation.specs.Numbers.{stands_for}
use Rattle.pp_numbers.proofs.tables.functions_of.Given as goal

abbrev pub invariant-loop-i : goal.invariant-loop-i
invariant-loop-i l = l.members ≡ map (stands_for Function) (take l.i-index l.functions)
