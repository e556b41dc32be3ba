-- The constructors of a datatype, as they stand in the table.
use Rattle.std.proofs.Common.{◌≡◌, ℕ, zero, suc, ◌+◌, ◌-◌, ◌<◌, ◌≤◌, true, false, List, [], ◌∷◌, length, drop, take}
use Rattle.std.proofs.Common.{Option, Some, None, slice_get, nat_eq, nat_le, nat_lt, refl, sym, ap, ◌∙◌, subst, arith}
use Rattle.std.proofs.Common.{◌⊎◌, inl, inr}
use Rattle.std.proofs.lemmas.Bool.{and_from, and_parts, eqb-true, le-leb, leb-true, lt-ltb, ltb-true}
use Rattle.std.proofs.lemmas.Bool.Decides.{eqb_tells, leb_tells}
use Rattle.std.proofs.Math.Logic.{∥∥₁_elim}
use Rattle.std.proofs.lemmas.Option.{slice_get_within}
use Rattle.pp_prog.specs.declared.id.DataId.{DataId}
use Rattle.pp_prog.specs.declared.types.Ctor.{Ctor}
use Rattle.pp_prog.specs.declared.types.Datatype.{Datatype}
use Rattle.pp_prog.specs.declared.types.TypeTable.{TypeTable}
use Rattle.pp_prog.specs.Table.{HaveValues, in_block, in_block_of, is_of}
use Rattle.pp_cover.specs.Split.{block_of, first_of}
use Rattle.pp_cover.proofs.Lists.{drop_at, get_within}
use Rattle.pp_cover.proofs.Typed.{tree_opened}

-- constructor number e is this one, where the first of the list has the number c
abbrev pub IsNumbered : ℕ → List Ctor → ℕ → Ctor → Type 0
IsNumbered c [] e ctor = ⊥
IsNumbered c (x ∷ xs) e ctor = ((e ≡ c) × (x ≡ ctor)) ⊎ IsNumbered (suc c) xs e ctor

module _ (ctors : List Ctor) where
  -- the constructors from number c on are these, and are of datatype d
  abbrev pub AreCtorsOf : ℕ → ℕ → List Ctor → Type 0
  AreCtorsOf d c [] = Unit {0}
  AreCtorsOf d c (x ∷ xs) = (slice_get ctors c ≡ Some x) × (x.of.0 ≡ d) × AreCtorsOf d (suc c) xs

  stand_block : (d n c : ℕ) → ((e : ℕ) → c ≤ e → e < c + n → is_of d (slice_get ctors e) ≡ true) →
      AreCtorsOf d c (take n (drop c ctors))
  stand_block d zero c told = tt
  stand_block d (suc n) c told =
      by (slice_get ctors c) refl (told c (omega arith) (omega arith))
      (stand_block d n (suc c) (λ e le lt. told e (omega (arith, le)) (omega (arith, lt))))
    where
      by : (o : Option Ctor) → slice_get ctors c ≡ o → is_of d o ≡ true →
          AreCtorsOf d (suc c) (take n (drop (suc c) ctors)) → AreCtorsOf d c (take (suc n) (drop c ctors))
      by None at of more = cc
      by (Some x) at of more =
          subst (λ (l : List Ctor). AreCtorsOf d c (take (suc n) l)) (sym (drop_at ctors c x at))
          (at, eqb-true x.of.0 d of, more)

  at_block : (n c e : ℕ) (ctor : Ctor) → c ≤ e → e < c + n → slice_get ctors e ≡ Some ctor →
      IsNumbered c (take n (drop c ctors)) e ctor
  at_block zero c e ctor le lt at = absurd (omega (arith, le, lt))
  at_block (suc n) c e ctor le lt at =
      let x = get_within ctors c (omega (arith, le, slice_get_within ctors e ctor at)) in
      subst (λ (l : List Ctor). IsNumbered c (take (suc n) l) e ctor) (sym (drop_at ctors c x.0 x.1))
      (by x.0 x.1 (eqb_tells e c) (λ later. at_block n (suc c) e ctor later (omega (arith, lt)) at))
    where
      by : (x : Ctor) → slice_get ctors c ≡ Some x →
          ((nat_eq e c ≡ true) × (e ≡ c)) ⊎ ((nat_eq e c ≡ false) × (e ≡ c → ⊥)) →
          (suc c ≤ e → IsNumbered (suc c) (take n (drop (suc c) ctors)) e ctor) →
          ((e ≡ c) × (x ≡ ctor)) ⊎ IsNumbered (suc c) (take n (drop (suc c) ctors)) e ctor
      by x is (inl same) more =
          let both : Some x ≡ Some ctor = sym is ∙ ap (slice_get ctors) (sym same.1) ∙ at in
          inl (same.1, cc)
      by x is (inr apart) more =
          let later : suc c ≤ e = grind (arith, le, apart.1) in
          inr (more later)

-- the constructors of a datatype, as the table has them
module _ (table : TypeTable) (d : DataId) where
  pub stands : (o : Option Datatype) → slice_get table.datatypes d.0 ≡ o →
      AreCtorsOf table.ctors d.0 (first_of o) (block_of table.ctors o)
  stands None is = tt
  stands (Some t) is =
      stand_block table.ctors d.0 t.count t.first.0
      (λ e le lt. table.agree.block d.0 t is e (and_from _ _ (le-leb _ _ le) (lt-ltb _ _ lt)))

  pub at_stands : (o : Option Datatype) → slice_get table.datatypes d.0 ≡ o → (e : ℕ) (ctor : Ctor) →
      slice_get table.ctors e ≡ Some ctor → ctor.of.0 ≡ d.0 →
      IsNumbered (first_of o) (block_of table.ctors o) e ctor
  at_stands o is e ctor at of =
      by o (ap (λ (i : ℕ). slice_get table.datatypes i) of ∙ is) (table.agree.stands e ctor at)
    where
      by : (o : Option Datatype) → slice_get table.datatypes ctor.of.0 ≡ o →
          in_block_of (slice_get table.datatypes ctor.of.0) e ≡ true →
          IsNumbered (first_of o) (block_of table.ctors o) e ctor
      by None is inside = let no : false ≡ true = ap (λ (p : Option Datatype). in_block_of p e) (sym is) ∙ inside in cc
      by (Some t) is inside =
          let here : in_block t e ≡ true = ap (λ (p : Option Datatype). in_block_of p e) (sym is) ∙ inside in
          let ends = and_parts _ _ here in
          at_block table.ctors t.count t.first.0 e ctor (leb-true _ _ ends.0) (ltb-true _ _ ends.1) at

-- the constructors of a datatype stand inside the table
pub block_inside : (table : TypeTable) (d : DataId) (t : Datatype) → slice_get table.datatypes d.0 ≡ Some t →
    t.first.0 + t.count ≤ length table.ctors
block_inside table d t is = elim (leb_tells (t.first.0 + t.count) (length table.ctors)) [
  | inl le ↦ le.1
  | inr gt ↦ absurd (∥∥₁_elim table.inhabited ⊥_prop (λ values. past (λ le. omega (arith, le, gt.1)) values))
]
  where
    ⊥_prop : IsProp ⊥
    ⊥_prop = hlevel

    last : (o : Option Ctor) → slice_get table.ctors (t.first.0 + t.count - 1) ≡ o → is_of d.0 o ≡ true →
        (t.first.0 + t.count ≤ length table.ctors → ⊥) → ⊥
    last None at of over = cc
    last (Some x) at of over = over (omega (arith, slice_get_within table.ctors (t.first.0 + t.count - 1) x at))

    past : (t.first.0 + t.count ≤ length table.ctors → ⊥) → HaveValues table.datatypes table.ctors → ⊥
    past over values =
        let v = values d.0 (slice_get_within table.datatypes d.0 t is) in
        let o = tree_opened table.ctors d v.0 v.1 in
        let stands_there : in_block_of
        (slice_get table.datatypes o.ctor.of.0) o.c.0 ≡ true = table.agree.stands o.c.0 o.ctor o.there in
        let inside : in_block t o.c.0 ≡ true = sym
        (ap (λ (p : Option Datatype). in_block_of p o.c.0) (ap (λ (i : ℕ). slice_get table.datatypes i) o.of ∙ is))
        ∙ stands_there in
        let ends = and_parts _ _ inside in
        let from : t.first.0 ≤ o.c.0 = leb-true _ _ ends.0 in
        let to : o.c.0 < t.first.0 + t.count = ltb-true _ _ ends.1 in
        let end = t.first.0 + t.count - 1 in
        let in_front : in_block t end ≡ true = and_from (nat_le t.first.0 end) (nat_lt end (t.first.0 + t.count))
        (le-leb t.first.0 end (omega (arith, from, to)))
        (lt-ltb end (t.first.0 + t.count) (omega (arith, from, to))) in
        last (slice_get table.ctors end) refl (table.agree.block d.0 t is end in_front) over
