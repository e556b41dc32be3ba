-- The table of datatypes of a program is a table.
use Rattle.std.proofs.Common.{◌≡◌, ◌<◌, ◌≤◌, List, map, length, sym, subst, arith}
use Rattle.std.proofs.lemmas.List.{length-map}
use Rattle.pp_concrete_types.proofs.Agree.{agree}
use Rattle.pp_concrete_types.proofs.Inhabited.{datatype_has}
use Rattle.pp_concrete_types.proofs.Lists.{item_at}
use Rattle.pp_concrete_types.proofs.Places.{length_datatypes}
use Rattle.pp_concrete_types.proofs.Rooms.{few_ctors}
use Rattle.pp_concrete_types.specs.Datatypes.{AreDatatypes}
use Rattle.pp_instances.specs.declared.member.Decl.TheVariants.{Root}
use Rattle.pp_instances.specs.declared.member.Instance.{Instance}
use Rattle.pp_instances.specs.declared.member.Member.{Member}
use Rattle.pp_prog.specs.Table.{HaveValues, IsTable}
use Rattle.pp_prog.specs.declared.types.Ctor.{Ctor}
use Rattle.pp_prog.specs.declared.types.Datatype.{Datatype}
use Rattle.pp_translation.specs.Numbers.{ctors, datatypes, stands_for}
use Rattle.pp_typed.specs.WellSorted.{IsWellSorted}
use Rattle.pp_typed.specs.declared.typed.Typed.{Typed}

module _ (typed : Typed) (ris : List Instance) (sorted : IsWellSorted typed)
    (are : AreDatatypes typed (map (stands_for Root) ris)) (few : length ris ≤ 512) where
  abbrev roots : List Member
  roots = map (stands_for Root) ris

  few_roots : length roots ≤ 512
  few_roots = let size = length-map ris (stands_for Root) in omega arith

  have_values : HaveValues (datatypes typed ris) (ctors typed roots)
  have_values d lt =
      let i = item_at ris d (subst (λ n. d < n) (length_datatypes typed ris) lt) in
      datatype_has typed sorted ris are d i.0 i.1

  pub is_table : IsTable (datatypes typed ris) (ctors typed roots)
  is_table = record {
    few_datatypes = (let size = length_datatypes typed ris in omega arith);
    few_ctors = (let many = few_ctors typed sorted roots few_roots in omega arith);
    agree = agree typed ris are;
    inhabited = have_values;
  }

  -- the same of lists that are known to be these
  pub are_table : (ds : List Datatype) (cs : List Ctor) → ds ≡ datatypes typed ris → cs ≡ ctors typed roots
      → IsTable ds cs
  are_table ds cs p q =
      subst (λ (l : List Datatype). IsTable l cs) (sym p)
      (subst (λ (l : List Ctor). IsTable (datatypes typed ris) l) (sym q) is_table)
