-- Constructors of a root, counted.
use Rattle.std.proofs.Common.{◌≡◌, ℕ, suc, ◌+◌, ◌<◌, ◌≤◌, Bool, cond, List, [], ◌∷◌, ◌++◌, map, take, drop, length}
use Rattle.std.proofs.Common.{get_or, length-append, subst, sym, ap, ◌∙◌, arith, nat_eq, append_assoc}
use Rattle.std.specs.Prelude.{Some, slice_get}
use Rattle.std.proofs.lemmas.List.{append-nil, get_or-map, length-map, length-take, take_more, take-append-drop}
use Rattle.std.proofs.lemmas.List.{take-map}
use Rattle.std.proofs.lemmas.List.Sums.{sum_by-cons, sum_by_more}
use Rattle.std.proofs.lemmas.Option.{get_or_from_slice_get, slice_get_within}
use Rattle.std.specs.List.{sum_by}
use Rattle.std.proofs.lemmas.List.Elements.{filter-append}
use Rattle.std.proofs.lemmas.List.Filters.{length-filter_more}
use Rattle.pp_instances.specs.declared.member.Decl.TheVariants.{Root}
use Rattle.pp_instances.specs.declared.member.Instance.{Instance}
use Rattle.pp_instances.specs.declared.member.Member.{Member}
use Rattle.pp_prog.specs.declared.types.Datatype.{Datatype}
use Rattle.pp_translation.specs.Numbers.{count_of, ctors_at, ctors_from, datatypes_from, first_of, stands_for}
use Rattle.pp_typed.specs.Sorted.{ctors_of}
use Rattle.pp_typed.specs.declared.typed.Typed.{Typed}
use Rattle.pp_typed.specs.declared.typed.TypedCtor.{TypedCtor}

abbrev is_of : ℕ → TypedCtor → Bool
is_of r c = nat_eq c.root r

-- one more constructor
pub count_more : (all : List TypedCtor) (i : ℕ) (k : TypedCtor) (r : ℕ) → i < length all → k ≡ get_or all i k
    → length (ctors_of (take (i + 1) all) r) ≡ length (ctors_of (take i all) r) + cond (nat_eq k.root r) 1 0
count_more all i k r lt is =
    length-filter_more (is_of r) all i k lt
    ∙ ap (λ z. length (ctors_of (take i all) r) + cond (nat_eq z.root r) 1 0) (sym is)

-- some of the constructors
pub count_at_most : (all : List TypedCtor) (i r : ℕ) → length (ctors_of (take i all) r) ≤ length (ctors_of all r)
count_at_most all i r =
    let whole = ap (λ l. length (ctors_of l r)) (take-append-drop i all) in
    let parts = filter-append (is_of r) (take i all) (drop i all) in
    let both : length (ctors_of (take i all ++ drop i all) r) ≡ length
    (ctors_of (take i all) r ++ ctors_of (drop i all) r) = ap length parts in
    let sum = length-append (ctors_of (take i all) r) (ctors_of (drop i all) r) in
    omega arith

plus_assoc : (a b c : ℕ) → (a + b) + c ≡ a + (b + c)
plus_assoc a b c = omega arith

-- the first constructor behind one more datatype
pub first_more : (all : List TypedCtor) (roots : List Member) (i : ℕ) (m : Member) → i < length roots
    → m ≡ get_or roots i m
    → first_of all roots (i + 1) ≡ first_of all roots i + count_of all m
first_more all roots i m lt is =
    sum_by_more (count_of all) roots i m lt ∙ ap (λ z. first_of all roots i + count_of all z) (sym is)

abbrev pub datatype : List TypedCtor → ℕ → Instance → Datatype
datatype all n i = record { name = i.name; first = record { 0 = n }; count = count_of all (stands_for Root i) }

abbrev before : List TypedCtor → List Instance → ℕ
before all is = sum_by (count_of all) (map (stands_for Root) is)

-- one more datatype
datatypes_push : (all : List TypedCtor) (first : ℕ) (is : List Instance) (i : Instance)
    → datatypes_from all first (is ++ i ∷ []) ≡ datatypes_from all first is ++ datatype all (first + before all is) i
    ∷ []
datatypes_push all first [] i =
    let same : first ≡ first + 0 = omega arith in
    ap (λ n. datatype all n i ∷ []) same
datatypes_push all first (j ∷ is) i =
    let c = count_of all (stands_for Root j) in
    let sums : before all (j ∷ is) ≡ c + before all is =
    sum_by-cons (count_of all) (stands_for Root j) (map (stands_for Root) is) in
    let same : (first + c) + before all is ≡ first + before all (j ∷ is) = omega arith in
    ap (λ l. datatype all first j ∷ l) (datatypes_push all (first + c) is i
    ∙ ap (λ n. datatypes_from all (first + c) is ++ datatype all n i ∷ []) same)

-- the constructors of one more datatype
pub ctors_push : (typed : Typed) (roots : List Member) (d : ℕ) (ms : List Member) (m : Member)
    → ctors_from typed roots d (ms ++ m ∷ []) ≡ ctors_from typed roots d ms ++ ctors_at typed roots (d + length ms) m
ctors_push typed roots d [] m =
    let same : d ≡ d + 0 = omega arith in
    append-nil (ctors_at typed roots d m) ∙ ap (λ n. ctors_at typed roots n m) same
ctors_push typed roots d (k ∷ ms) m =
    let same : suc d + length ms ≡ d + suc (length ms) = omega arith in
    ap (λ l. ctors_at typed roots d k ++ l)
    (ctors_push typed roots (suc d) ms m
    ∙ ap (λ n. ctors_from typed roots (suc d) ms ++ ctors_at typed roots n m) same)
    ∙ sym (append_assoc (ctors_at typed roots d k) (ctors_from typed roots (suc d) ms)
    (ctors_at typed roots (d + suc (length ms)) m))

pub datatype_is : (all : List TypedCtor) (r : Instance) (name : List ℕ) (first count n : ℕ) → name ≡ r.name → first ≡ n
    → count ≡ count_of all (stands_for Root r)
    → record { name = name; first = record { 0 = first }; count = count } ≡ datatype all n r
datatype_is all r name first count n p q s = cc

pub datatypes_turn : (all : List TypedCtor) (is : List Instance) (i : ℕ) (r : Instance) → i < length is
    → r ≡ get_or is i r
    → datatypes_from all 0 (take (i + 1) is) ≡ datatypes_from all 0 (take i is)
    ++ datatype all (first_of all (map (stands_for Root) is) i) r ∷ []
datatypes_turn all is i r lt at =
    let zero_more : 0 + before all (take i is) ≡ before all (take i is) = omega arith in
    let same : 0 + before all (take i is) ≡ first_of all (map (stands_for Root) is) i =
    zero_more ∙ ap (sum_by (count_of all)) (sym (take-map (stands_for Root) i is)) in
    ap (datatypes_from all 0) (take_more is i r lt ∙ ap (λ z. take i is ++ z ∷ []) (sym at))
    ∙ datatypes_push all 0 (take i is) r
    ∙ ap (λ n. datatypes_from all 0 (take i is) ++ datatype all n r ∷ []) same

pub first_turn : (all : List TypedCtor) (is : List Instance) (i : ℕ) (r : Instance) → i < length is → r ≡ get_or is i r
    → first_of all (map (stands_for Root) is) (i + 1) ≡ first_of all (map (stands_for Root) is) i + count_of all
    (stands_for Root r)
first_turn all is i r lt at =
    let within : i < length (map (stands_for Root) is) =
    subst (λ n. i < n) (sym (length-map is (stands_for Root))) lt in
    first_more all (map (stands_for Root) is) i (stands_for Root r) within
    (ap (stands_for Root) at ∙ sym (get_or-map (stands_for Root) is i r (stands_for Root r) lt))

pub ctors_turn : (typed : Typed) (roots : List Member) (i : ℕ) (m : Member) → slice_get roots i ≡ Some m
    → ctors_from typed roots 0 (take (i + 1) roots) ≡ ctors_from typed roots 0 (take i roots)
    ++ ctors_at typed roots i m
ctors_turn typed roots i m at =
    let lt = slice_get_within roots i m at in
    let sized : 0 + length (take i roots) ≡ i = (let e = length-take i roots in omega arith) in
    ap (ctors_from typed roots 0)
    (take_more roots i m lt ∙ ap (λ z. take i roots ++ z ∷ []) (get_or_from_slice_get roots i m m at))
    ∙ ctors_push typed roots 0 (take i roots) m
    ∙ ap (λ n. ctors_from typed roots 0 (take i roots) ++ ctors_at typed roots n m) sized
