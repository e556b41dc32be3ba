-- Typed units have at most one program.
use Rattle.std.proofs.Common.{◌≡◌, ℕ, List, [], ◌∷◌, map, Contains, refl, sym, ap, ◌∙◌, subst}
use Rattle.pp_instances.specs.declared.member.Instance.{Instance}
use Rattle.pp_instances.specs.declared.member.Member.{Member}
use Rattle.pp_mono.specs.Concrete.{IsConcrete, function_members, place_of_check, root_members}
use Rattle.pp_prog.proofs.Sure.{is_valid}
use Rattle.pp_prog.specs.Valid.{Entry, IsValid, entry, listing}
use Rattle.pp_prog.specs.declared.check.Check.{Check}
use Rattle.pp_prog.specs.declared.expr.Function.{Function}
use Rattle.pp_prog.specs.declared.place.Place.{Place}
use Rattle.pp_prog.specs.declared.program.Program.{Program}
use Rattle.pp_translation.specs.Functions.{functions_of}
use Rattle.pp_translation.specs.Numbers.{ctors, datatypes}
use Rattle.pp_translation.specs.Places.{places_of}
use Rattle.pp_typed.specs.declared.typed.Typed.{Typed}
use Rattle.pp_mono_laws.specs.Laws.{ProgramsAreUnique}
use Rattle.pp_mono_laws.proofs.Fills.{instances_are}
use Rattle.pp_mono_laws.proofs.Listings.{functions_are, roots_are}
use Rattle.pp_mono_laws.proofs.Numbering.{one_functions}
use Rattle.pp_mono_laws.proofs.Tables.{one_table}

abbrev made : Entry → Place → Check
made e place = record { id = record { 0 = e.0 }; function = record { 0 = e.1 }; kind = e.2; place = place }

-- checks are told by their entries and their places
one_checks : (xs ys : List Check) → map entry xs ≡ map entry ys → map place_of_check xs ≡ map place_of_check ys
    → xs ≡ ys
one_checks [] [] same places = refl
one_checks [] (y ∷ ys) same places = cc
one_checks (x ∷ xs) [] same places = cc
one_checks (x ∷ xs) (y ∷ ys) same places =
    let head : entry x ≡ entry y = cc in
    let tail : map entry xs ≡ map entry ys = cc in
    let here : x.place ≡ y.place = cc in
    let behind : map place_of_check xs ≡ map place_of_check ys = cc in
    ap (λ e. made e x.place ∷ xs) head ∙ ap (λ p. made (entry y) p ∷ xs) here
    ∙ ap (λ l. y ∷ l) (one_checks xs ys tail behind)

module _ (typed : Typed) (texts : List (List ℕ)) (p q : Program) (a : IsConcrete typed texts p)
    (b : IsConcrete typed texts q) where
  first_in_second : (m : Member) → Contains a.members m → Contains b.members m
  first_in_second = instances_are typed a.members b.members a.instances b.instances

  second_in_first : (m : Member) → Contains b.members m → Contains a.members m
  second_in_first = instances_are typed b.members a.members b.instances a.instances

  same_functions : a.functions ≡ b.functions
  same_functions =
      functions_are typed a.members b.members a.functions b.functions a.roots b.roots a.listed b.listed
      first_in_second second_in_first

  same_roots : a.roots ≡ b.roots
  same_roots =
      roots_are typed a.members b.members a.functions b.functions a.roots b.roots a.listed b.listed
      first_in_second second_in_first

  one_datatypes : p.types.datatypes ≡ q.types.datatypes
  one_datatypes = a.has_datatypes ∙ ap (datatypes typed) same_roots ∙ sym b.has_datatypes

  one_ctors : p.types.ctors ≡ q.types.ctors
  one_ctors = a.has_ctors ∙ ap (λ l. ctors typed (root_members l)) same_roots ∙ sym b.has_ctors

  one_types : p.types ≡ q.types
  one_types = one_table p.types q.types one_datatypes one_ctors

  abbrev forms : List Instance → List Instance → List Function
  forms roots functions = functions_of typed texts (root_members roots) (function_members functions) functions

  all_functions : p.functions ≡ q.functions
  all_functions =
      one_functions q.types p.functions q.functions p.checks q.checks
      (subst (λ t. IsValid t p.functions p.checks) one_types (is_valid p)) (is_valid q)
      (a.has_functions ∙ ap (λ l. forms l a.functions) same_roots ∙ ap (forms b.roots) same_functions
      ∙ sym b.has_functions)

  entries : map entry p.checks ≡ map entry q.checks
  entries =
      (is_valid p).listed ∙ ap (λ t. listing t p.functions) one_types ∙ ap (listing q.types) all_functions
      ∙ sym (is_valid q).listed

  places : map place_of_check p.checks ≡ map place_of_check q.checks
  places =
      a.has_places ∙ ap (λ t. places_of typed texts t p.functions p.functions a.functions) one_types
      ∙ ap (λ l. places_of typed texts q.types l l a.functions) all_functions
      ∙ ap (places_of typed texts q.types q.functions q.functions) same_functions ∙ sym b.has_places

pub programs_are_unique : ProgramsAreUnique
programs_are_unique typed texts p q a b = (
  one_datatypes typed texts p q a b,
  one_ctors typed texts p q a b,
  all_functions typed texts p q a b,
  one_checks p.checks q.checks (entries typed texts p q a b) (places typed texts p q a b),
)
