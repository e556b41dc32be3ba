-- Instances are closed: what one uses is one, and so is each type that its arguments are made of.
use Rattle.std.proofs.Common.{◌≡◌, ⊎_elim, ℕ, zero, suc, ◌+◌, nat_eq, Bool, true, false, List, [], ◌∷◌, replicate}
use Rattle.std.proofs.Common.{length, refl, sym, ap, ◌∙◌, subst, arith}
use Rattle.std.specs.Prelude.{Some, Contains, if◌then◌else◌, slice_get}
use Rattle.std.proofs.lemmas.Bool.{eqb-true}
use Rattle.std.proofs.lemmas.List.{length-replicate}
use Rattle.std.proofs.lemmas.List.Elements.{Contains-append_cases}
use Rattle.pp_instances.proofs.Kept.{nothing_in}
use Rattle.pp_instances.proofs.Mentioned.{types_int}
use Rattle.pp_instances.specs.Closure.{AreInstances, Filled, Used, at_first, at_start, by_use, has_none, has_some}
use Rattle.pp_instances.specs.Uses.{at_args, at_ints, decl_mentions, function_at, start_at, start_from, types_in, uses}
use Rattle.pp_instances.specs.declared.member.Member.{Member}
use Rattle.pp_members.proofs.Listed.{AreProperIn, IsProperIn, function_in, root_in, proper_put}
use Rattle.pp_members.proofs.Lists.{first_or_later, in_mapped, in_replicate, mapped_in}
use Rattle.pp_members.proofs.Mentions.{proper_function, proper_root}
use Rattle.pp_members.proofs.Put.{types_put}
use Rattle.pp_members.specs.Proper.{IsProper, of_function, of_root}
use Rattle.pp_typed.specs.InRange.{IsInRange, AreInRange, int_in_range, none_in_range, more_in_range}
use Rattle.pp_typed.specs.Put.{put}
use Rattle.pp_typed.specs.WellSorted.{IsWellSorted}
use Rattle.pp_typed.specs.declared.sort.GenericSort.{GenericSort}
use Rattle.pp_typed.specs.declared.sort.GenericSort.TheVariants as sort
use Rattle.pp_typed.specs.declared.typed.Typed.{Typed}
use Rattle.pp_typed.specs.declared.typed.TypedDef.{TypedDef}

-- what a member uses is a member
pub uses_are_members : (typed : Typed) (ms : List Member) → AreInstances typed ms → (m n : Member) → Contains ms m
    → Contains (uses typed m) n → Contains ms n
uses_are_members typed ms is m n has used = (is.closure.members n).1 (by_use m n ((is.closure.members m).0 has) used)

-- the types of the arguments of a member are there
abbrev TypesAre : (Member → Type 0) → Member → Type 0
TypesAre U m = (s : GenericSort) → Contains m.args s → (n : Member) → Contains (types_in s) n → U n

-- a member is proper, and the types of its arguments are there
record IsSettled (typed : Typed) (U : Member → Type 0) (m : Member) : Type 0 where
  proper : IsProper typed m
  types : TypesAre U m

-- a seed is proper, and its arguments are made of no types
record IsSeed (typed : Typed) (m : Member) : Type 0 where
  proper : IsProper typed m
  none : (s : GenericSort) → Contains m.args s → types_in s ≡ []

ints_in_range : (typed : Typed) (n : ℕ) → AreInRange typed.roots 0 (replicate n sort.Int)
ints_in_range typed zero = none_in_range
ints_in_range typed (suc n) = more_in_range (int_in_range refl) (ints_in_range typed n)

module _ (typed : Typed) where
  start_seed : (f : ℕ) (d : TypedDef) (b : Bool) → slice_get typed.defs f ≡ Some d → nat_eq d.type_params 0 ≡ b
      → (m : Member) → Contains (if b then function_at f [] ∷ [] else []) m → IsSeed typed m
  start_seed f d true at plain m h =
      ⊎_elim (λ (e : function_at f [] ≡ m). record {
        proper = of_function f d [] (sym e) at (sym (eqb-true d.type_params 0 plain)) none_in_range;
        none = λ s c. absurd (nothing_in s (subst (λ (z : Member). Contains z.args s) (sym e) c));
      }) (λ (no : Contains [] m). absurd (nothing_in m no)) (first_or_later (function_at f []) [] m h)
  start_seed f d false at plain m h = absurd (nothing_in m h)

  start_seeds : (f : ℕ) (ds : List TypedDef)
      → ((i : ℕ) (d : TypedDef) → slice_get ds i ≡ Some d → slice_get typed.defs (f + i) ≡ Some d)
      → (m : Member) → Contains (start_from f ds) m → IsSeed typed m
  start_seeds f [] at m h = absurd (nothing_in m h)
  start_seeds f (d ∷ ds) at m h =
      let here : f ≡ f + 0 = omega arith in
      ⊎_elim (start_seed f d (nat_eq d.type_params 0) (ap (slice_get typed.defs) here ∙ at 0 d refl) refl m)
      (start_seeds (suc f) ds
      (λ i e is. let next : suc f + i ≡ f + suc i = omega arith in ap (slice_get typed.defs) next ∙ at (suc i) e is) m)
      (Contains-append_cases (start_at f d) (start_from (suc f) ds) m h)

  ints_seed : (f : ℕ) (d : TypedDef) → slice_get typed.defs f ≡ Some d → (m : Member) → at_ints f d ≡ m → IsSeed typed m
  ints_seed f d at m e = record {
    proper =
        of_function f d (replicate d.type_params sort.Int) (sym e) at (length-replicate d.type_params sort.Int)
        (ints_in_range typed d.type_params);
    none =
        λ s c. let arg = subst (λ (z : Member). Contains z.args s) (sym e) c in
        ap types_in (sym (in_replicate d.type_params sort.Int s arg)) ∙ types_int;
  }

  -- the seeds, after some functions have been looked at
  seeds : {f : ℕ} {ss : List Member} → Filled typed f ss → (m : Member) → Contains ss m → IsSeed typed m
  seeds at_first m h =
      start_seeds 0 typed.defs (λ i d at. let e : 0 + i ≡ i = omega arith in ap (slice_get typed.defs) e ∙ at) m h
  seeds (has_some f ss before there) m h = seeds before m h
  seeds (has_none f ss d before none at) m h =
      ⊎_elim (seeds before m) (λ (one : Contains (at_ints f d ∷ []) m).
      ⊎_elim (ints_seed f d at m) (λ (no : Contains [] m). absurd (nothing_in m no))
      (first_or_later (at_ints f d) [] m one))
      (Contains-append_cases ss (at_ints f d ∷ []) m h)

  module _ (well : IsWellSorted typed) (ss : List Member) (plain : (m : Member) → Contains ss m → IsSeed typed m) where
    abbrev U : Member → Type 0
    U = Used typed ss

    in_range_of : (params : ℕ) (k : Member) → IsProperIn typed params k → AreInRange typed.roots params k.args
    in_range_of params k (function_in f d args is at all each) =
        subst (λ (z : Member). AreInRange typed.roots params z.args) (sym is) each
    in_range_of params k (root_in r root args is at all each) =
        subst (λ (z : Member). AreInRange typed.roots params z.args) (sym is) each

    one_in_range : (params : ℕ) {ts : List GenericSort} → AreInRange typed.roots params ts → (t : GenericSort)
        → Contains ts t → IsInRange typed.roots params t
    one_in_range params none_in_range t h = absurd (nothing_in t h)
    one_in_range params (more_in_range {s = s} {ss = more} here later) t h =
        ⊎_elim (λ (e : s ≡ t). subst (IsInRange typed.roots params) e here) (one_in_range params later t)
        (first_or_later s more t h)

    -- the types of an argument of what a settled member uses are there
    use_types : (m k : Member) (params : ℕ) → U m → TypesAre U m → length m.args ≡ params
        → AreProperIn typed params (decl_mentions typed m.of) → Contains (decl_mentions typed m.of) k
        → TypesAre U (at_args m.args k)
    use_types m k params used own all mentioned has s c x inside =
        let t = in_mapped (put m.args) k.args s c in
        types_put m.args typed.roots params all U own
        (one_in_range params (in_range_of params k (mentioned.each k has)) t.from t.has)
        (λ y d. by_use m (at_args m.args y) used
        (mapped_in (at_args m.args) (decl_mentions typed m.of) y (mentioned.types k has t.from t.has y d)))
        x (subst (λ (z : GenericSort). Contains (types_in z) x) t.is inside)

    -- what a settled member uses is settled
    use_settled : (m n : Member) (params : ℕ) → U m → TypesAre U m → AreInRange typed.roots 0 m.args
        → length m.args ≡ params → AreProperIn typed params (decl_mentions typed m.of) → Contains (uses typed m) n
        → IsSettled typed U n
    use_settled m n params used own ok all mentioned h =
        let k = in_mapped (at_args m.args) (decl_mentions typed m.of) n h in
        record {
          proper = subst (IsProper typed) (sym k.is)
              (proper_put typed params m.args ok all k.from (mentioned.each k.from k.has));
          types = subst (TypesAre U) (sym k.is) (use_types m k.from params used own all mentioned k.has);
        }

    use_of_proper : (m n : Member) → U m → TypesAre U m → IsProper typed m → Contains (uses typed m) n
        → IsSettled typed U n
    use_of_proper m n used own (of_function f d args is at all each) h =
        let same = ap (λ (z : Member). z.args) is in
        use_settled m n d.type_params used own (subst (AreInRange typed.roots 0) (sym same) each) (ap length same ∙ all)
        (subst (λ (z : Member). AreProperIn typed d.type_params (decl_mentions typed z.of)) (sym is)
        (proper_function typed well f d at)) h
    use_of_proper m n used own (of_root r root args is at all each) h =
        let same = ap (λ (z : Member). z.args) is in
        use_settled m n root.type_params used own (subst (AreInRange typed.roots 0) (sym same) each)
        (ap length same ∙ all)
        (subst (λ (z : Member). AreProperIn typed root.type_params (decl_mentions typed z.of)) (sym is)
        (proper_root typed well r root at)) h

    used_settled : (m : Member) → U m → IsSettled typed U m
    used_settled m (at_start _ h) =
        let seed = plain m h in
        let none : TypesAre U m = λ s c n d. absurd (nothing_in n (subst (λ l. Contains l n) (seed.none s c) d)) in
        record { proper = seed.proper; types = none }
    used_settled n (by_use m _ used h) =
        let before = used_settled m used in use_of_proper m n used before.types before.proper h

module _ (typed : Typed) (ms : List Member) (well : IsWellSorted typed) (is : AreInstances typed ms) where
  settled : (m : Member) → Contains ms m → IsSettled typed (Used typed is.seeds) m
  settled m has = used_settled typed well is.seeds (seeds typed is.filled) m ((is.closure.members m).0 has)

  -- each member is proper
  pub proper_members : (m : Member) → Contains ms m → IsProper typed m
  proper_members m has = (settled m has).proper

-- the types that an argument of a member is made of are members
pub types_are_members : (typed : Typed) (ms : List Member) → IsWellSorted typed → AreInstances typed ms → (m : Member)
    → Contains ms m → (s : GenericSort) → Contains m.args s → (n : Member) → Contains (types_in s) n → Contains ms n
types_are_members typed ms well is m has s arg n inside =
    (is.closure.members n).1 ((settled typed ms well is m has).types s arg n inside)
