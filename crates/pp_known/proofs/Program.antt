-- The program of the instances of well-sorted typed units is valid, and is that of the instances.
use Rattle.std.proofs.Common.{◌≡◌, ℕ, zero, suc, ◌+◌, ◌<◌, ◌^◌, List, [], ◌∷◌, map, length, refl, sym, ap, ◌∙◌, subst}
use Rattle.std.proofs.Common.{arith}
use Rattle.std.specs.Prelude.{Some, None, slice_get}
use Rattle.std.proofs.lemmas.List.{append-nil}
use Rattle.std.proofs.lemmas.Option.{same_Some, slice_get_within}
use Rattle.pp_instances.specs.declared.member.Decl.TheVariants.{Function, Root}
use Rattle.pp_instances.specs.declared.member.Instance.{Instance}
use Rattle.pp_instances.specs.declared.member.Member.{Member}
use Rattle.pp_known.proofs.Known.{known}
use Rattle.pp_known.proofs.Listed.{declared}
use Rattle.pp_known.proofs.Places.{at_within}
use Rattle.pp_known.proofs.Ranges.{all_pass, function_in_range}
use Rattle.pp_known.proofs.Ready.{ready}
use Rattle.pp_known.specs.SettingOf.{AreTranslated, IsSettingOf}
use Rattle.pp_prog.specs.Valid.{IsValid, is_in_range}
use Rattle.pp_prog.specs.declared.check.Check.{Check}
use Rattle.pp_prog.specs.declared.expr.Function.{Function as ProgramFunction}
use Rattle.pp_prog.specs.declared.types.TypeTable.{TypeTable}
use Rattle.pp_translation.specs.Bare.{bare_function}
use Rattle.pp_translation.specs.Defs.{checks_from}
use Rattle.pp_translation.specs.Functions.{functions_of}
use Rattle.pp_translation.specs.Numbers.{ctors, datatypes, stands_for}
use Rattle.pp_translation.specs.Places.{places_of}
use Rattle.pp_translation.specs.Setting.{Setting}
use Rattle.pp_translation.specs.declared.frame.CheckAt.{CheckAt}
use Rattle.pp_typed.specs.declared.typed.Typed.{Typed}
use Rattle.pp_validity.proofs.Whole.{AreWhole, place_of, whole}

as_many : (texts : List (List ℕ)) (n : ℕ) (cs : List CheckAt) → length (checks_from texts n cs) ≡ length cs
as_many texts n [] = refl
as_many texts n (c ∷ cs) = ap suc (as_many texts (suc n) cs)

-- the checks are numbered in order
numbered_from : (texts : List (List ℕ)) (n : ℕ) (cs : List CheckAt) (i : ℕ) (c : Check)
    → slice_get (checks_from texts n cs) i ≡ Some c → c.id.0 ≡ n + i
numbered_from texts n [] i c h = let no : None ≡ Some c = h in cc
numbered_from texts n (d ∷ cs) zero c h =
    let e : n ≡ n + 0 = omega arith in ap (λ (z : Check). z.id.0) (sym (same_Some _ _ h)) ∙ e
numbered_from texts n (d ∷ cs) (suc i) c h =
    let e : suc n + i ≡ n + suc i = omega arith in numbered_from texts (suc n) cs i c h ∙ e

numbered_in_order : (texts : List (List ℕ)) (cs : List CheckAt) (i : ℕ) (c : Check)
    → slice_get (checks_from texts 0 cs) i ≡ Some c → c.id.0 ≡ i
numbered_in_order texts cs i c h = let e : 0 + i ≡ i = omega arith in numbered_from texts 0 cs i c h ∙ e

-- the types, the functions and the places of the checks are those of the instances in this order
pub record IsOfInstances (typed : Typed) (texts : List (List ℕ)) (fs rs : List Instance) (types : TypeTable)
    (all : List ProgramFunction) (checks : List Check) : Type 0 where
  pub has_datatypes : types.datatypes ≡ datatypes typed rs
  pub has_ctors : types.ctors ≡ ctors typed (map (stands_for Root) rs)
  pub has_functions : map bare_function all
      ≡ functions_of typed texts (map (stands_for Root) rs) (map (stands_for Function) fs) fs
  pub has_places : map place_of checks ≡ places_of typed texts types all all fs

module _ (typed : Typed) (ms : List Member) (fs rs : List Instance) (set : Setting) (s : IsSettingOf typed ms fs rs set)
    (texts : List (List ℕ)) (all : List ProgramFunction) (cs : List CheckAt)
    (t : AreTranslated typed texts fs set all cs) where
  -- the functions, their checks and their places
  pub program_is_whole : AreWhole typed set texts all fs all cs
  program_is_whole =
      whole typed set texts all ms (known typed ms fs rs set s texts all cs t) fs
      (λ own i d at at_def args measured. ready typed ms fs rs set s texts all cs t own i d at at_def args measured)
      (declared typed ms fs rs set s) [] t.translates refl (sym (append-nil fs))

  -- the functions and their checks are a program
  pub program_is_valid : length all < 2 ^ 32 → length cs < 2 ^ 32 → IsValid set.types all (checks_from texts 0 cs)
  program_is_valid few_functions few_checks =
      let w = program_is_whole in
      record {
        few_functions = few_functions;
        few_checks = subst (λ (n : ℕ). n < 2 ^ 32) (sym (as_many texts 0 cs)) few_checks;
        in_range = all_pass (is_in_range set.types.datatypes) all
            (λ n g at. let i = at_within fs n (omega (arith, w.even, slice_get_within all n g at)) in
            function_in_range typed ms fs rs set s texts all cs t n i.x g i.at at);
        sorted = w.sorted;
        carried = w.carry;
        listed = w.entries;
        numbered = numbered_in_order texts cs;
      }

  -- the program is that of the instances in this order
  pub program_is_concrete : IsOfInstances typed texts fs rs set.types all (checks_from texts 0 cs)
  program_is_concrete =
      let w = program_is_whole in
      record {
        has_datatypes = s.datatypes;
        has_ctors = s.ctors ∙ ap (ctors typed) s.roots;
        has_functions = w.bare ∙ ap (λ l. functions_of typed texts l set.functions fs) s.roots
            ∙ ap (λ l. functions_of typed texts (map (stands_for Root) rs) l fs) s.functions;
        has_places = w.places;
      }
