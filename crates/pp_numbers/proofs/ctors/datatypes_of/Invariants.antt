use Rattle.std.proofs.Common.{◌≡◌, take, map}
use Rattle.pp_instances.specs.declared.member.Decl.TheVariants.{Root}
use Rattle.pp_translation.specs.Numbers.{datatypes_from, first_of, stands_for}
use Rattle.pp_numbers.proofs.ctors.datatypes_of.Given as goal

abbrev pub invariant-loop-i : goal.invariant-loop-i
invariant-loop-i l = record {
  datatypes : l.datatypes ≡ datatypes_from l.typed.ctors 0 (take l.i l.roots);
  first : l.first ≡ first_of l.typed.ctors (map (stands_for Root) l.roots) l.i;
}
