-- A constructor has no more fields than its datatype is wide.
use Rattle.std.proofs.Common.{◌≡◌, ℕ, zero, suc, ◌+◌, ◌-◌, ◌<◌, ◌≤◌, nat_le, nat_lt, true, List, [], ◌∷◌}
use Rattle.std.proofs.Common.{◌++◌, drop, take, length, map, Option, None, Some, refl, ap, ◌∙◌, subst, arith}
use Rattle.std.specs.Prelude.{slice_get, sum}
use Rattle.std.proofs.lemmas.Bool.{and_parts, leb-true, ltb-true}
use Rattle.std.proofs.lemmas.List.{map-append}
use Rattle.std.proofs.lemmas.List.Sums.{sum_by-append, sum_by-cons}
use Rattle.std.proofs.lemmas.Option.{same_Some}
use Rattle.pp_list.specs.Joined.{joined}
use Rattle.pp_prog.specs.declared.sort.Sort.{Sort}
use Rattle.pp_prog.specs.declared.sort.Sort.TheVariants as sort
use Rattle.pp_prog.specs.declared.types.Ctor.{Ctor}
use Rattle.pp_prog.specs.declared.types.Datatype.{Datatype}
use Rattle.pp_prog.specs.declared.types.TypeTable.{TypeTable}
use Rattle.pp_prog.specs.Sizes.{ctors_in, ctors_of, flat, sorts_in_ctor, width}
use Rattle.pp_prog.specs.Table.{in_block_of}
use Rattle.pp_build.proofs.StepLists.{dropped_at}

taken_at : {X : Type 0} (xs : List X) (n i : ℕ) (x : X) → slice_get xs i ≡ Some x → i < n
    → slice_get (take n xs) i ≡ Some x
taken_at [] n i x at lt = cc
taken_at (y ∷ xs) zero i x at lt = absurd (omega (arith, lt))
taken_at (y ∷ xs) (suc n) zero x at lt = at
taken_at (y ∷ xs) (suc n) (suc i) x at lt = taken_at xs n i x at (omega (arith, lt))

-- ---- sums of widths

some_width : (s : Sort) → 1 ≤ width s
some_width sort.Int = omega arith
some_width sort.Bool = omega arith
some_width (sort.Tree d) = omega arith

widths_cons : (s : Sort) (ss : List Sort) → sum (map width (s ∷ ss)) ≡ width s + sum (map width ss)
widths_cons s ss = sum_by-cons (λ (n : ℕ). n) (width s) (map width ss)

fields_most : (ss : List Sort) → length ss ≤ sum (map width ss)
fields_most [] = omega arith
fields_most (s ∷ ss) =
    let one = some_width s in let rest = fields_most ss in let all = widths_cons s ss in
    omega (arith, one, rest, all)

widths_joined : (xs ys : List Sort) → sum (map width (xs ++ ys)) ≡ sum (map width xs) + sum (map width ys)
widths_joined xs ys = ap sum (map-append width xs ys) ∙ sum_by-append (λ (n : ℕ). n) (map width xs) (map width ys)

-- those of one constructor are among those of all
ctor_most : (cs : List Ctor) (i : ℕ) (k : Ctor) → slice_get cs i ≡ Some k
    → sum (map width k.fields) ≤ sum (map width (joined (map sorts_in_ctor cs)))
ctor_most [] i k at = cc
ctor_most (c ∷ cs) zero k at =
    subst (λ x. sum (map width x.fields) ≤ sum (map width (joined (map sorts_in_ctor (c ∷ cs))))) (same_Some c k at)
    (let both = widths_joined c.fields (joined (map sorts_in_ctor cs)) in omega (arith, both))
ctor_most (c ∷ cs) (suc i) k at =
    let rest = ctor_most cs i k at in
    let both = widths_joined c.fields (joined (map sorts_in_ctor cs)) in omega (arith, rest, both)

-- ---- the constructor in its datatype

pub fields_flat : (types : TypeTable) (c : ℕ) (k : Ctor) → slice_get types.ctors c ≡ Some k
    → length k.fields ≤ flat types k.of
fields_flat types c k at =
    by (slice_get types.datatypes k.of.0) refl (types.agree.stands c k at)
  where
    within : (cs : List Ctor) (i : ℕ) → ctors_of types k.of ≡ cs → slice_get cs i ≡ Some k
        → length k.fields ≤ flat types k.of
    within cs i are here =
        let own = fields_most k.fields in
        let all = ctor_most (ctors_of types k.of) i k (ap (λ l. slice_get l i) are ∙ here) in
        omega (arith, own, all)

    by : (o : Option Datatype) → slice_get types.datatypes k.of.0 ≡ o → in_block_of o c ≡ true
        → length k.fields ≤ flat types k.of
    by None is inside = cc
    by (Some t) is inside =
        let low = leb-true t.first.0 c (and_parts (nat_le t.first.0 c) (nat_lt c (t.first.0 + t.count)) inside).0 in
        let high = ltb-true c (t.first.0 + t.count)
        (and_parts (nat_le t.first.0 c) (nat_lt c (t.first.0 + t.count)) inside).1 in
        within (take t.count (drop t.first.0 types.ctors)) (c - t.first.0) (ap (ctors_in types.ctors) is)
        (taken_at (drop t.first.0 types.ctors) t.count (c - t.first.0) k
        (dropped_at types.ctors t.first.0 (c - t.first.0) c k at (omega (arith, low))) (omega (arith, low, high)))
