-- Where members stand, and the datatypes and constructors of a program.
use Rattle.std.proofs.Common.{◌≡◌, ⊎_elim, ℕ, zero, suc, ◌+◌, Bool, true, false, cond, not, List, [], ◌∷◌, map, take}
use Rattle.std.proofs.Common.{length, refl, sym, ap, ◌∙◌, subst, arith}
use Rattle.std.specs.Prelude.{Some, slice_get, Contains}
use Rattle.std.specs.List.{sum_by, take-map}
use Rattle.std.specs.Option.{option_map}
use Rattle.std.proofs.lemmas.List.{length-map}
use Rattle.std.proofs.lemmas.List.Sums.{sum_by-cons}
use Rattle.std.proofs.lemmas.Option.{none-some, same_Some, slice_get-map}
use Rattle.pp_concrete_types.proofs.Lists.{before_or_behind, contained, unmapped}
use Rattle.pp_concrete_types.proofs.Rooms.{own_ctor}
use Rattle.pp_instances.specs.Closure.{Distinct}
use Rattle.pp_instances.specs.Decides.{same_is, same_self}
use Rattle.pp_instances.specs.Same.{place_of, same}
use Rattle.pp_instances.specs.Uses.{root_at}
use Rattle.pp_instances.specs.declared.member.Decl.TheVariants.{Root}
use Rattle.pp_instances.specs.declared.member.Instance.{Instance}
use Rattle.pp_instances.specs.declared.member.Member.{Member}
use Rattle.pp_prog.specs.declared.types.Ctor.{Ctor}
use Rattle.pp_translation.specs.Numbers.{count_of, ctor_at, ctor_if, ctor_number, ctors, ctors_at, ctors_from}
use Rattle.pp_translation.specs.Numbers.{datatypes, datatypes_from, decl_number, first_of, rank_of, stands_for}
use Rattle.pp_typed.specs.Sorted.{ctors_of}
use Rattle.pp_typed.specs.declared.typed.Typed.{Typed}
use Rattle.pp_typed.specs.declared.typed.TypedCtor.{TypedCtor}
use Rattle.pp_validity.proofs.Placed.{ctor_found, data_found, datatype}

-- a member that stands in a list once has its place there
pub place_is : (ms : List Member) (d : ℕ) (m : Member) → Distinct ms → slice_get ms d ≡ Some m → place_of ms m ≡ d
place_is [] d m once h = absurd (none-some _ h)
place_is (k ∷ ms) zero m once h =
    ap (λ b. cond (not b) (1 + place_of ms m) 0) (ap (same m) (same_Some _ _ h) ∙ same_self m)
place_is (k ∷ ms) (suc d) m once h = by (same m k) refl (place_is ms d m once.1 h)
  where
    by : (b : Bool) → same m k ≡ b → place_of ms m ≡ d → cond (not (same m k)) (1 + place_of ms m) 0 ≡ suc d
    by true t later = absurd (once.0 (subst (Contains ms) (same_is m k t) (contained ms d m h)))
    by false t later =
        let more : 1 + place_of ms m ≡ suc d = omega arith in
        ap (λ b. cond (not b) (1 + place_of ms m) 0) t ∙ more

-- where a constructor of datatypes comes from: a datatype, and a constructor of its root
pub record IsOf (typed : Typed) (roots : List Member) (base : ℕ) (ms : List Member) (c : ℕ) (k : Ctor) : Type 0 where
  pub d : ℕ
  pub of : Member
  pub at : slice_get ms d ≡ Some of
  pub j : ℕ
  pub ctor : TypedCtor
  pub found : slice_get (ctors_of typed.ctors (decl_number of.of)) j ≡ Some ctor
  pub place : c ≡ first_of typed.ctors ms d + j
  pub is : k ≡ ctor_at typed roots (base + d) of.args ctor

-- the constructor is one of later datatypes
abbrev Behind : Typed → List Member → ℕ → Member → List Member → ℕ → Ctor → Type 0
Behind typed roots base m ms c k =
    (j : ℕ) × (c ≡ length (ctors_at typed roots base m) + j)
    × (slice_get (ctors_from typed roots (suc base) ms) j ≡ Some k)

module _ (typed : Typed) (roots : List Member) where
  pub ctor_of : (base : ℕ) (ms : List Member) (c : ℕ) (k : Ctor) → slice_get (ctors_from typed roots base ms) c ≡ Some k
      → IsOf typed roots base ms c k
  ctor_of base [] c k h = absurd (none-some _ h)
  ctor_of base (m ∷ ms) c k h =
      ⊎_elim here (λ (q : Behind typed roots base m ms c k). later q.0 q.1 (ctor_of (suc base) ms q.0 k q.2))
      (before_or_behind (ctors_at typed roots base m) (ctors_from typed roots (suc base) ms) c k h)
    where
      here : slice_get (ctors_at typed roots base m) c ≡ Some k → IsOf typed roots base (m ∷ ms) c k
      here e =
          let x = unmapped (ctor_at typed roots base m.args) (ctors_of typed.ctors (decl_number m.of)) c k e in
          let number : base ≡ base + 0 = omega arith in
          record {
            d = 0;
            of = m;
            at = refl;
            j = c;
            ctor = x.0;
            found = x.1;
            place = omega arith;
            is = sym x.2 ∙ ap (λ n. ctor_at typed roots n m.args x.0) number;
          }

      later : (j : ℕ) → c ≡ length (ctors_at typed roots base m) + j → IsOf typed roots (suc base) ms j k
          → IsOf typed roots base (m ∷ ms) c k
      later j e r =
          let many = length-map (ctors_of typed.ctors (decl_number m.of)) (ctor_at typed roots base m.args) in
          let sum = sum_by-cons (count_of typed.ctors) m (take r.d ms) in
          let place = r.place in
          let number : suc base + r.d ≡ base + suc r.d = omega arith in
          record {
            d = suc r.d;
            of = r.of;
            at = r.at;
            j = r.j;
            ctor = r.ctor;
            found = r.found;
            place = omega arith;
            is = r.is ∙ ap (λ n. ctor_at typed roots n r.of.args r.ctor) number;
          }

module _ (typed : Typed) (ris : List Instance) where
  abbrev roots : List Member
  roots = map (stands_for Root) ris

  -- the datatype of an instance
  pub datatype_at : (d : ℕ) (i : Instance) → slice_get ris d ≡ Some i
      → slice_get (datatypes typed ris) d ≡ Some (datatype typed.ctors (first_of typed.ctors roots d) i)
  datatype_at d i h =
      let first : 0 + sum_by (count_of typed.ctors) (map (stands_for Root) (take d ris)) ≡ first_of typed.ctors roots d
      = (let same = ap (sum_by (count_of typed.ctors)) (take-map (stands_for Root) d ris) in omega arith) in
      data_found typed.ctors 0 d ris i h ∙ ap (λ n. Some (datatype typed.ctors n i)) first

  sized : (first : ℕ) (is : List Instance) → length (datatypes_from typed.ctors first is) ≡ length is
  sized first [] = refl
  sized first (i ∷ is) = ap suc (sized (first + count_of typed.ctors (stands_for Root i)) is)

  pub length_datatypes : length (datatypes typed ris) ≡ length ris
  length_datatypes = sized 0 ris

  -- the root of an instance at its arguments
  pub root_stands : (d : ℕ) (i : Instance) (r : ℕ) → slice_get ris d ≡ Some i → r ≡ i.number
      → slice_get roots d ≡ Some (root_at r i.args)
  root_stands d i r at is =
      slice_get-map (stands_for Root) ris d ∙ ap (option_map (stands_for Root)) at
      ∙ ap (λ (n : ℕ). Some (root_at n i.args)) (sym is)

  -- the constructor of an instance with this rank
  pub ctor_behind : Distinct roots → (d : ℕ) (i : Instance) → slice_get ris d ≡ Some i → (j : ℕ) (k : TypedCtor)
      → slice_get (ctors_of typed.ctors i.number) j ≡ Some k
      → slice_get (ctors typed roots) (first_of typed.ctors roots d + j) ≡ Some (ctor_at typed roots d i.args k)
  ctor_behind once d i at j k found =
      let all = typed.ctors in
      let own = own_ctor all i.number j k found in
      let m = root_at k.root i.args in
      let here = root_stands d i k.root at own.root in
      let place : place_of roots m ≡ d = place_is roots d m once here in
      let rank : rank_of all own.place k ≡ j =
      ap (λ (r : ℕ). length (ctors_of (take own.place all) r)) own.root ∙ own.rank in
      let number : (ctor_number all roots own.place i.args).0 ≡ first_of all roots d + j =
      ap (λ o. (ctor_if all roots own.place i.args o).0) own.at
      ∙ ap (λ n. first_of all roots n + rank_of all own.place k) place
      ∙ ap (λ n. first_of all roots d + n) rank in
      ap (slice_get (ctors typed roots)) (sym number)
      ∙ ctor_found typed roots own.place k i.args own.at (contained roots d m here)
      ∙ ap (λ n. Some (ctor_at typed roots n i.args k)) place
