-- Members, constructors and datatypes stand at their numbers.
use Rattle.std.proofs.Common.{◌≡◌, ⊎_elim, ℕ, zero, suc, ◌+◌, nat_eq, cond, Bool, true, false, not, List, [], ◌∷◌, ◌++◌}
use Rattle.std.proofs.Common.{map, take, length, refl, sym, ap, ◌∙◌, arith, eq-eqb}
use Rattle.std.specs.Prelude.{Some, None, slice_get, Contains}
use Rattle.std.specs.List.{filter, sum_by}
use Rattle.std.specs.Option.{option_map}
use Rattle.std.proofs.lemmas.List.{length-map}
use Rattle.std.proofs.lemmas.List.Elements.{Contains-push_cases, Contains-append_cases}
use Rattle.std.proofs.lemmas.List.Sums.{sum_by-cons}
use Rattle.std.proofs.lemmas.Option.{same_Some, slice_get-map}
use Rattle.pp_instances.proofs.Kept.{nothing_in}
use Rattle.pp_instances.specs.Decides.{same_is, same_self}
use Rattle.pp_instances.specs.Same.{place_of, same}
use Rattle.pp_instances.specs.Uses.{root_at}
use Rattle.pp_instances.specs.declared.member.Decl.TheVariants.{Root}
use Rattle.pp_instances.specs.declared.member.Instance.{Instance}
use Rattle.pp_instances.specs.declared.member.Member.{Member}
use Rattle.pp_prog.specs.declared.types.Ctor.{Ctor}
use Rattle.pp_prog.specs.declared.types.Datatype.{Datatype}
use Rattle.pp_translation.specs.Numbers.{count_of, ctor_at, ctor_number, ctor_if, ctors, ctors_at, ctors_from}
use Rattle.pp_translation.specs.Numbers.{datatypes_from, decl_number, rank_of, stands_for}
use Rattle.pp_typed.specs.Sorted.{ctors_of}
use Rattle.pp_typed.specs.declared.sort.GenericSort.{GenericSort}
use Rattle.pp_typed.specs.declared.typed.Typed.{Typed}
use Rattle.pp_typed.specs.declared.typed.TypedCtor.{TypedCtor}

not_first : (k : Member) (ks : List Member) (m : Member) → Contains (k ∷ ks) m → same m k ≡ false → Contains ks m
not_first k ks m h off =
    ⊎_elim (λ (first : Contains (k ∷ []) m). ⊎_elim (λ (none : Contains [] m). absurd (nothing_in m none))
    (λ (e : k ≡ m). let t : false ≡ true = sym off ∙ ap (same m) e ∙ same_self m in cc)
    (Contains-push_cases [] k m first))
    (λ (c : Contains ks m). c) (Contains-append_cases (k ∷ []) ks m h)

placed_by : (k : Member) (ks : List Member) (m : Member) (b : Bool) → same m k ≡ b
    → (b ≡ false → slice_get ks (place_of ks m) ≡ Some m)
    → slice_get (k ∷ ks) (cond (not b) (1 + place_of ks m) 0) ≡ Some m
placed_by k ks m true t later = ap Some (sym (same_is m k t))
placed_by k ks m false off later = let e : 1 + place_of ks m ≡ suc (place_of ks m) = omega arith in
    ap (slice_get (k ∷ ks)) e ∙ later refl

-- a member of a list stands at its place
pub placed : (ms : List Member) (m : Member) → Contains ms m → slice_get ms (place_of ms m) ≡ Some m
placed [] m h = absurd (nothing_in m h)
placed (k ∷ ks) m h = placed_by k ks m (same m k) refl (λ off. placed ks m (not_first k ks m h off))

-- one list after another
pub behind : {A : Type 0} (a b : List A) (n : ℕ) → slice_get (a ++ b) (length a + n) ≡ slice_get b n
behind [] b n = let e : 0 + n ≡ n = omega arith in ap (slice_get b) e
behind (x ∷ a) b n = let e : suc (length a) + n ≡ suc (length a + n) = omega arith in
    ap (slice_get (x ∷ a ++ b)) e ∙ behind a b n

pub before : {A : Type 0} (a b : List A) (n : ℕ) (x : A) → slice_get a n ≡ Some x → slice_get (a ++ b) n ≡ Some x
before [] b n x h = let no : None ≡ Some x = h in cc
before (y ∷ a) b zero x h = h
before (y ∷ a) b (suc n) x h = before a b n x h

rank_by : {A : Type 0} (b : Bool) (y : A) (all some : List A) (x : A) → slice_get all (length some) ≡ Some x
    → slice_get (cond b (y ∷ all) all) (length (cond b (y ∷ some) some)) ≡ Some x
rank_by true y all some x h = h
rank_by false y all some x h = h

-- what passes a test, at its rank
pub at_rank : {A : Type 0} (p : A → Bool) (xs : List A) (c : ℕ) (x : A) → slice_get xs c ≡ Some x → p x ≡ true
    → slice_get (filter p xs) (length (filter p (take c xs))) ≡ Some x
at_rank p [] c x h t = let no : None ≡ Some x = h in cc
at_rank p (y ∷ xs) zero x h t =
    let same : y ≡ x = same_Some _ _ h in
    ap (λ b. slice_get (cond b (y ∷ filter p xs) (filter p xs)) 0) (ap p same ∙ t) ∙ h
at_rank p (y ∷ xs) (suc c) x h t = rank_by (p y) y (filter p xs) (filter p (take c xs)) x (at_rank p xs c x h t)

module _ (typed : Typed) (roots : List Member) where
  at_ctors : (base d : ℕ) (ms : List Member) (m : Member) (n : ℕ) (k : Ctor) → slice_get ms d ≡ Some m
      → slice_get (ctors_at typed roots (base + d) m) n ≡ Some k
      → slice_get (ctors_from typed roots base ms) (sum_by (count_of typed.ctors) (take d ms) + n) ≡ Some k
  at_ctors base d [] m n k h at = let no : None ≡ Some m = h in cc
  at_ctors base zero (r ∷ rs) m n k h at =
      let same : r ≡ m = same_Some _ _ h in
      let e : 0 + n ≡ n = omega arith in
      let f : base + 0 ≡ base = omega arith in
      ap (slice_get (ctors_from typed roots base (r ∷ rs))) e
      ∙ before (ctors_at typed roots base r) (ctors_from typed roots (suc base) rs) n k
      (ap (λ z. slice_get (ctors_at typed roots base z) n) same
      ∙ ap (λ b. slice_get (ctors_at typed roots b m) n) (sym f) ∙ at)
  at_ctors base (suc d) (r ∷ rs) m n k h at =
      let sums : sum_by (count_of typed.ctors) (r ∷ take d rs) ≡ count_of typed.ctors r + sum_by (count_of typed.ctors)
      (take d rs) = sum_by-cons (count_of typed.ctors) r (take d rs) in
      let many : length (ctors_at typed roots base r) ≡ count_of typed.ctors r =
      length-map (ctors_of typed.ctors (decl_number r.of)) (ctor_at typed roots base r.args) in
      let S = sum_by (count_of typed.ctors) (take d rs) in
      let e : sum_by (count_of typed.ctors) (r ∷ take d rs) + n ≡ length (ctors_at typed roots base r) + (S + n) =
      omega arith in
      let f : base + suc d ≡ suc base + d = omega arith in
      ap (slice_get (ctors_from typed roots base (r ∷ rs))) e
      ∙ behind (ctors_at typed roots base r) (ctors_from typed roots (suc base) rs) (S + n)
      ∙ at_ctors (suc base) d rs m n k h (ap (λ b. slice_get (ctors_at typed roots b m) n) (sym f) ∙ at)

  -- the constructor that a constructor is at these arguments
  pub ctor_found : (c : ℕ) (k : TypedCtor) (args : List GenericSort) → slice_get typed.ctors c ≡ Some k
      → Contains roots (root_at k.root args)
      → slice_get (ctors typed roots) (ctor_number typed.ctors roots c args).0 ≡ Some
      (ctor_at typed roots (place_of roots (root_at k.root args)) args k)
  ctor_found c k args h there =
      let d = place_of roots (root_at k.root args) in
      let here = placed roots (root_at k.root args) there in
      let e : 0 + d ≡ d = omega arith in
      let rank = at_rank (λ (z : TypedCtor). nat_eq z.root k.root) typed.ctors c k h (eq-eqb k.root k.root refl) in
      ap (λ o. slice_get (ctors typed roots) (ctor_if typed.ctors roots c args o).0) h
      ∙ at_ctors 0 d roots (root_at k.root args) (rank_of typed.ctors c k) (ctor_at typed roots d args k) here
      (ap (λ b. slice_get (ctors_at typed roots b (root_at k.root args)) (rank_of typed.ctors c k)) e
      ∙ slice_get-map (ctor_at typed roots d args) (ctors_of typed.ctors k.root) (rank_of typed.ctors c k)
      ∙ ap (option_map (ctor_at typed roots d args)) rank)

-- the datatype of an instance
abbrev pub datatype : List TypedCtor → ℕ → Instance → Datatype
datatype all n i = record { name = i.name; first = record { 0 = n }; count = count_of all (stands_for Root i) }

pub data_found : (all : List TypedCtor) (first d : ℕ) (is : List Instance) (i : Instance) → slice_get is d ≡ Some i
    → slice_get (datatypes_from all first is) d ≡ Some (datatype all
    (first + sum_by (count_of all) (map (stands_for Root) (take d is))) i)
data_found all first d [] i h = let no : None ≡ Some i = h in cc
data_found all first zero (j ∷ is) i h =
    let same : j ≡ i = same_Some _ _ h in
    let e : first ≡ first + 0 = omega arith in
    ap (λ z. Some (datatype all first z)) same ∙ ap (λ n. Some (datatype all n i)) e
data_found all first (suc d) (j ∷ is) i h =
    let c = count_of all (stands_for Root j) in
    let sums : sum_by (count_of all) (map (stands_for Root) (j ∷ take d is)) ≡ c + sum_by (count_of all)
    (map (stands_for Root) (take d is)) =
    sum_by-cons (count_of all) (stands_for Root j) (map (stands_for Root) (take d is)) in
    let e : (first + c) + sum_by (count_of all) (map (stands_for Root) (take d is)) ≡ first + sum_by (count_of all)
    (map (stands_for Root) (j ∷ take d is)) = omega arith in
    data_found all (first + c) d is i h ∙ ap (λ n. Some (datatype all n i)) e
