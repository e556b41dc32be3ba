-- Which constructors have values up to a height, and what they count.
use Rattle.std.proofs.Common.{◌≡◌, ℕ, zero, suc, ◌+◌, ◌-◌, ◌<◌, ◌≤◌, nat_eq, nat_le, Bool, true, false, ◌||◌, List, []}
use Rattle.std.proofs.Common.{◌∷◌, ◌++◌, length, map, take, drop, sum, Option, Some, None, ◌⊎◌, refl, sym, ap, ◌∙◌}
use Rattle.std.proofs.Common.{subst, arith, slice_get, inl, inr, length-append}
use Rattle.std.proofs.lemmas.Bool.{and_from, and_parts, cases_lt, eqb-true, leb-true, ltb-true, le-leb, lt-ltb}
use Rattle.std.proofs.lemmas.List.Sums.{sum-map, sum_by-cons}
use Rattle.std.proofs.lemmas.Option.{same_Some, slice_get_within}
use Rattle.std.specs.List.{list_all, list_any}
use Rattle.pp_list.specs.Joined.{joined}
use Rattle.pp_prog.specs.declared.id.CtorId.{CtorId}
use Rattle.pp_prog.specs.declared.id.DataId.{DataId}
use Rattle.pp_prog.specs.declared.sort.Sort.{Sort}
use Rattle.pp_prog.specs.declared.sort.Sort.TheVariants as sort
use Rattle.pp_prog.specs.declared.types.Ctor.{Ctor}
use Rattle.pp_prog.specs.declared.types.Datatype.{Datatype}
use Rattle.pp_prog.specs.declared.types.TypeTable.{TypeTable}
use Rattle.pp_prog.specs.declared.value.Value.{Value}
use Rattle.pp_prog.specs.Sizes.{bits, ctors_in, ctors_of, fields_of, sorts_in_ctor}
use Rattle.pp_prog.specs.Table.{in_block, in_block_of, is_of}
use Rattle.pp_gate.proofs.Places.{at_left, at_next, at_push, at_some}
use Rattle.pp_bounded_trees.specs.Possible.{ArePossible, AreValuesUpTo, IsValueUpTo, bits_if, ctor_bits, field_bits}
use Rattle.pp_bounded_trees.specs.Possible.{total, has_value, is_possible}
use Rattle.pp_bounded_trees.proofs.Sorted.{fields_up_to, no_tree}

-- sums
pub total_append : {X : Type 0} (f : X → ℕ) (xs ys : List X) → total f (xs ++ ys) ≡ total f xs + total f ys
total_append f [] ys = omega arith
total_append f (x ∷ xs) ys = let r = total_append f xs ys in omega arith

pub total_sum : {X : Type 0} (f : X → ℕ) (xs : List X) → sum (map f xs) ≡ total f xs
total_sum f [] = refl
total_sum f (x ∷ xs) =
    sum-map f (x ∷ xs) ∙ sum_by-cons f x xs ∙ ap (λ n. f x + n) (sym (sum-map f xs) ∙ total_sum f xs)

pub total_joined : (types : TypeTable) (h : ℕ) (ks : List Ctor)
    → total (bits types h) (joined (map sorts_in_ctor ks)) ≡ total (field_bits types h) ks
total_joined types h [] = refl
total_joined types h (k ∷ ks) =
    total_append (bits types h) k.fields (joined (map sorts_in_ctor ks))
    ∙ ap (λ n. field_bits types h k + n) (total_joined types h ks)

-- the bits of a datatype, a constructor at a time
pub bits_of_ctors : (types : TypeTable) (h : ℕ) (d : DataId)
    → bits types (suc h) (sort.Tree d) ≡ length (ctors_of types d) + total (field_bits types h) (ctors_of types d)
bits_of_ctors types h d =
    ap (λ n. length (ctors_of types d) + n)
    (total_sum (bits types h) (fields_of types d) ∙ total_joined types h (ctors_of types d))

-- tests of lists
pub any_from : {X : Type 0} (p : X → Bool) (xs : List X) (j : ℕ) (x : X) → slice_get xs j ≡ Some x → p x ≡ true
    → list_any p xs ≡ true
any_from p [] j x at is = cc
any_from p (y ∷ xs) zero x at is = first (p y) (ap p (same_Some y x at) ∙ is)
  where
    first : (b : Bool) → b ≡ true → b || list_any p xs ≡ true
    first true e = refl
    first false e = cc
any_from p (y ∷ xs) (suc j) x at is = rest (p y) (any_from p xs j x at is)
  where
    rest : (b : Bool) → list_any p xs ≡ true → b || list_any p xs ≡ true
    rest true e = refl
    rest false e = e

pub at_drop : {X : Type 0} (xs : List X) (f i : ℕ) → slice_get (drop f xs) i ≡ slice_get xs (f + i)
at_drop xs zero i = let e : 0 + i ≡ i = omega arith in ap (slice_get xs) (sym e)
at_drop [] (suc f) i = refl
at_drop (x ∷ xs) (suc f) i =
    let e : suc f + i ≡ suc (f + i) = omega arith in at_drop xs f i ∙ ap (slice_get (x ∷ xs)) (sym e)

pub at_take : {X : Type 0} (xs : List X) (n i : ℕ) → i < n → slice_get (take n xs) i ≡ slice_get xs i
at_take xs zero i lt = absurd (omega arith)
at_take [] (suc n) i lt = refl
at_take (x ∷ xs) (suc n) zero lt = refl
at_take (x ∷ xs) (suc n) (suc i) lt = at_take xs n i (omega arith)

pub at_taken : {X : Type 0} (xs : List X) (n i : ℕ) (x : X) → slice_get (take n xs) i ≡ Some x
    → (i < n) × (slice_get xs i ≡ Some x)
at_taken xs zero i x at = cc
at_taken [] (suc n) i x at = cc
at_taken (y ∷ xs) (suc n) zero x at = (omega arith, at)
at_taken (y ∷ xs) (suc n) (suc i) x at = let r = at_taken xs n i x at in (omega (arith, r.0), r.1)

pub take_whole : {X : Type 0} (xs : List X) → take (length xs) xs ≡ xs
take_whole [] = refl
take_whole (x ∷ xs) = ap (λ ys. x ∷ ys) (take_whole xs)

-- one more of the first
pub take_next : {X : Type 0} (xs : List X) (i : ℕ) (x : X) → slice_get xs i ≡ Some x
    → take (i + 1) xs ≡ take i xs ++ x ∷ []
take_next [] i x at = cc
take_next (y ∷ xs) zero x at = let e : 0 + 1 ≡ suc 0 = omega arith in
    ap (λ n. take n (y ∷ xs)) e ∙ ap (λ z. z ∷ []) (same_Some y x at)
take_next (y ∷ xs) (suc i) x at = let e : suc i + 1 ≡ suc (i + 1) = omega arith in
    ap (λ n. take n (y ∷ xs)) e ∙ ap (λ ys. y ∷ ys) (take_next xs i x at)

pub total_taken : {X : Type 0} (f : X → ℕ) (xs : List X) (i : ℕ) (x : X) → slice_get xs i ≡ Some x
    → total f (take (i + 1) xs) ≡ total f (take i xs) + f x
total_taken f xs i x at =
    let e = ap (total f) (take_next xs i x at) in
    let s = total_append f (take i xs) (x ∷ []) in omega arith

pub total_within : {X : Type 0} (f : X → ℕ) (xs : List X) (i : ℕ) → total f (take i xs) ≤ total f xs
total_within f xs zero = omega arith
total_within f [] (suc i) = omega arith
total_within f (x ∷ xs) (suc i) = let r = total_within f xs i in omega arith

pub record AnySome {X : Type 0} (p : X → Bool) (xs : List X) : Type 0 where
  pub place : ℕ
  pub element : X
  pub at : slice_get xs place ≡ Some element
  pub is : p element ≡ true

pub any_some : {X : Type 0} (p : X → Bool) (xs : List X) → list_any p xs ≡ true → AnySome p xs
any_some p [] any = cc
any_some p (x ∷ xs) any = step (p x) refl (λ g. any_some p xs g) any
  where
    step : (b : Bool) → p x ≡ b → (list_any p xs ≡ true → AnySome p xs) → b || list_any p xs ≡ true
        → AnySome p (x ∷ xs)
    step true e rest g = record { place = 0; element = x; at = refl; is = e }
    step false e rest g =
        let r = rest g in record { place = suc r.place; element = r.element; at = r.at; is = r.is }

module _ (types : TypeTable) where
  -- a constructor stands in the block of its datatype
  pub record InBlock (d : DataId) (c : ℕ) (k : Ctor) : Type 0 where
    pub datatype : Datatype
    pub at_data : slice_get types.datatypes d.0 ≡ Some datatype
    pub place : ℕ
    pub at : slice_get (ctors_of types d) place ≡ Some k
    pub number : c ≡ datatype.first.0 + place

  pub in_block_ctor : (d : DataId) (c : ℕ) (k : Ctor) → slice_get types.ctors c ≡ Some k → k.of ≡ d → InBlock d c k
  in_block_ctor d c k at of =
      step (slice_get types.datatypes d.0) refl
      (subst (λ (e : DataId). in_block_of (slice_get types.datatypes e.0) c ≡ true) of (types.agree.stands c k at))
    where
      step : (o : Option Datatype) → slice_get types.datatypes d.0 ≡ o → in_block_of o c ≡ true → InBlock d c k
      step None is g = cc
      step (Some t) is g =
          let p = and_parts (nat_le t.first.0 c) _ g in
          let low = leb-true t.first.0 c p.0 in
          let high = ltb-true c (t.first.0 + t.count) p.1 in
          let sum : t.first.0 + (c - t.first.0) ≡ c = omega arith in
          record {
            datatype = t;
            at_data = is;
            place = c - t.first.0;
            at = ap (λ (o : Option Datatype). slice_get (ctors_in types.ctors o)
                (c - t.first.0)) is
                ∙ at_take (drop t.first.0 types.ctors) t.count (c - t.first.0) (omega arith)
                ∙ at_drop types.ctors t.first.0 (c - t.first.0) ∙ ap (slice_get types.ctors) sum ∙ at;
            number = sym sum;
          }

  -- and what stands in the block is one
  pub ctor_in_block : (d : DataId) (t : Datatype) (i : ℕ) (k : Ctor) → slice_get types.datatypes d.0 ≡ Some t
      → slice_get (ctors_of types d) i ≡ Some k → (slice_get types.ctors (t.first.0 + i) ≡ Some k) × (k.of ≡ d)
  ctor_in_block d t i k is at =
      let here = ap (λ (o : Option Datatype). slice_get (ctors_in types.ctors o) i) (sym is) ∙ at in
      let taken = at_taken (drop t.first.0 types.ctors) t.count i k here in
      let there = sym (at_drop types.ctors t.first.0 i) ∙ taken.1 in
      let inside : in_block t (t.first.0 + i) ≡ true =
      and_from (nat_le t.first.0 (t.first.0 + i)) _ (le-leb t.first.0 (t.first.0 + i) (omega arith))
      (lt-ltb (t.first.0 + i) (t.first.0 + t.count) (omega (arith, taken.0))) in
      let named = types.agree.block d.0 t is (t.first.0 + i) inside in
      let is_d : nat_eq k.of.0 d.0 ≡ true = ap (is_of d.0) (sym there) ∙ named in
      (there, data_same k.of d is_d)
    where
      data_same : (d e : DataId) → nat_eq d.0 e.0 ≡ true → d ≡ e
      data_same d e h = let mk : ℕ → DataId = λ n. record { 0 = n } in ap mk (eqb-true d.0 e.0 h)

  pub has_value_next : (h : ℕ) (d : DataId) → 0 < h
      → has_value types h (sort.Tree d) ≡ list_any (is_possible (has_value types (h - 1))) (ctors_of types d)
  has_value_next zero d lt = absurd (omega arith)
  has_value_next (suc h) d lt =
      let e : h ≡ suc h - 1 = omega arith in
      ap (λ n. list_any (is_possible (has_value types n)) (ctors_of types d)) e

  pub has_value_none : (h : ℕ) (d : DataId) → h ≡ 0 → has_value types h (sort.Tree d) ≡ false
  has_value_none zero d e = refl
  has_value_none (suc h) d e = absurd (omega arith)

  -- a sort that has a value up to a height is said to
  fields_have_values : (h : ℕ) → ((s : Sort) (v : Value) → IsValueUpTo types h s v → has_value types h s ≡ true)
      → (ss : List Sort) (vs : List Value) → AreValuesUpTo types h ss vs → list_all (has_value types h) ss ≡ true
  fields_have_values h each [] [] are = refl
  fields_have_values h each [] (v ∷ vs) are = absurd are
  fields_have_values h each (s ∷ ss) [] are = absurd are
  fields_have_values h each (s ∷ ss) (v ∷ vs) are =
      and_from (has_value types h s) _ (each s v are.0) (fields_have_values h each ss vs are.1)

  pub value_possible : (h : ℕ) (s : Sort) (v : Value) → IsValueUpTo types h s v → has_value types h s ≡ true
  value_possible zero sort.Int v is = refl
  value_possible zero sort.Bool v is = refl
  value_possible zero (sort.Tree d) v is = absurd (no_tree types d v is)
  value_possible (suc h) sort.Int v is = refl
  value_possible (suc h) sort.Bool v is = refl
  value_possible (suc h) (sort.Tree d) v is =
      let t = fields_up_to types h d v is in
      let b = in_block_ctor d t.0.ctor.0 t.0.entry t.0.at t.0.data_of in
      any_from (is_possible (has_value types h)) (ctors_of types d) b.place t.0.entry b.at
      (fields_have_values h (λ s u has. value_possible h s u has) t.0.entry.fields t.0.fields t.1)

  pub fields_possible : (h : ℕ) (ss : List Sort) (vs : List Value) → AreValuesUpTo types h ss vs
      → list_all (has_value types h) ss ≡ true
  fields_possible h ss vs are = fields_have_values h (λ s v is. value_possible h s v is) ss vs are

  -- the possible ones among the first i
  pub record PossibleBefore (h : ℕ) (d : DataId) (first i : ℕ) (cs : List CtorId) : Type 0 where
    pub each : (j : ℕ) (c : CtorId) → slice_get cs j ≡ Some c → (k : Ctor) × (slice_get types.ctors c.0 ≡ Some k)
        × (k.of ≡ d) × (is_possible (has_value types h) k ≡ true)
    pub low : (j : ℕ) (c : CtorId) → slice_get cs j ≡ Some c → c.0 < first + i
    pub order : (m j : ℕ) (b c : CtorId) → m < j → slice_get cs m ≡ Some b → slice_get cs j ≡ Some c → b.0 < c.0
    pub all : (c : CtorId) (j : ℕ) (k : Ctor) → j < i → c.0 ≡ first + j → slice_get (ctors_of types d) j ≡ Some k
        → is_possible (has_value types h) k ≡ true → (p : ℕ) × (slice_get cs p ≡ Some c)
    pub most : length cs + total (ctor_bits types h) cs ≤ i + total (field_bits types h) (take i (ctors_of types d))

  module _ (h : ℕ) (d : DataId) (t : Datatype) (is : slice_get types.datatypes d.0 ≡ Some t) where
    pub possible_none : (cs : List CtorId) → cs ≡ [] → PossibleBefore h d t.first.0 0 cs
    possible_none cs empty = subst (λ xs. PossibleBefore h d t.first.0 0 xs) (sym empty) (record {
      each = λ j c at. absurd (nothing j c at);
      low = λ j c at. absurd (nothing j c at);
      order = λ m j b c lt one other. absurd (nothing m b one);
      all = λ c j k lt n at p. absurd (omega arith);
      most = omega arith;
    })
      where
        nothing : (j : ℕ) (c : CtorId) → slice_get [] j ≡ Some c → ⊥
        nothing j c e = cc

    module _ (i : ℕ) (k : Ctor) (cs : List CtorId) (here : slice_get (ctors_of types d) i ≡ Some k)
        (before : PossibleBefore h d t.first.0 i cs) where
      taken_more : total (field_bits types h) (take (i + 1) (ctors_of types d))
          ≡ total (field_bits types h) (take i (ctors_of types d)) + field_bits types h k
      taken_more = total_taken (field_bits types h) (ctors_of types d) i k here

      earlier : (c : CtorId) (j : ℕ) (l : Ctor) → j < i + 1 → slice_get (ctors_of types d) j ≡ Some l
          → (j < i) ⊎ ((j ≡ i) × (l ≡ k))
      earlier c j l lt at = elim (cases_lt j i) [
        | inl less ↦ inl less
        | inr not ↦
            let e : j ≡ i = omega arith in inr (e, same_Some l k (sym at ∙ ap (slice_get (ctors_of types d)) e ∙ here))
      ]

      -- one that isn't
      pub possible_skip : is_possible (has_value types h) k ≡ false → PossibleBefore h d t.first.0 (i + 1) cs
      possible_skip not = record {
        each = before.each;
        low = λ j c at. let l = before.low j c at in omega arith;
        order = before.order;
        all = λ c j l lt n at p. elim (earlier c j l lt at) [
          | inl less ↦ before.all c j l less n at p
          | inr same ↦ absurd (both_ways _ (ap (is_possible (has_value types h)) (sym same.1) ∙ p) not)
        ];
        most = let m = before.most in let e = taken_more in omega arith;
      }
        where
          both_ways : (b : Bool) → b ≡ true → b ≡ false → ⊥
          both_ways b e f = cc

      -- one that is
      pub possible_push : (ds : List CtorId) (c : CtorId) → ds ≡ cs ++ c ∷ [] → c.0 ≡ t.first.0 + i
          → is_possible (has_value types h) k ≡ true → PossibleBefore h d t.first.0 (i + 1) ds
      possible_push ds c push number is_one = subst (λ xs. PossibleBefore h d t.first.0 (i + 1) xs) (sym push) (record {
        each = λ j b at. elim (at_push cs c j b at) [
          | inl old ↦ before.each j b old
          | inr new ↦
              let own = ctor_in_block d t i k is here in (
                k,
                ap (λ (e : CtorId). slice_get types.ctors e.0) (sym new.1) ∙ ap (slice_get types.ctors) number
                    ∙ own.0,
                own.1,
                is_one,
              )
        ];
        low = λ j b at. elim (at_push cs c j b at) [
          | inl old ↦ (let l = before.low j b old in omega arith)
          | inr new ↦ (let e : c.0 ≡ b.0 = ap (λ (x : CtorId). x.0) new.1 in omega arith)
        ];
        order = λ m j a b lt one other. elim (at_push cs c j b other) [
          | inl old ↦ elim (at_push cs c m a one) [
            | inl older ↦ before.order m j a b lt older old
            | inr last ↦ absurd (let w = slice_get_within cs j b old in let e = last.0 in omega arith)
          ]
          | inr new ↦ elim (at_push cs c m a one) [
            | inl older ↦ (let l = before.low m a older in let e : c.0 ≡ b.0 = ap (λ (x : CtorId). x.0) new.1 in
                omega arith)
            | inr last ↦ absurd (let f = last.0 in let e = new.0 in omega arith)
          ]
        ];
        all = λ b j l lt n at p. elim (earlier b j l lt at) [
          | inl less ↦ (let old = before.all b j l less n at p in (old.0, at_left cs (c ∷ []) old.0 b old.1))
          | inr same ↦ (
            length cs,
            at_next cs [] c ∙ ap Some (same_id c b (number ∙ ap (λ x. t.first.0 + x) (sym same.0) ∙ sym n)),
          )
        ];
        most =
            let m = before.most in
            let e = taken_more in
            let l = length-append cs (c ∷ []) in
            let s = total_append (ctor_bits types h) cs (c ∷ []) in
            let own : ctor_bits types h c ≡ field_bits types h k =
            ap (bits_if types h) (ap (slice_get types.ctors) number ∙ (ctor_in_block d t i k is here).0) in
            omega arith;
      })
        where
          same_id : (a b : CtorId) → a.0 ≡ b.0 → a ≡ b
          same_id a b e = let mk : ℕ → CtorId = λ m. record { 0 = m } in ap mk e

    -- all of them
    pub possible_all : (i : ℕ) (cs : List CtorId) → i ≡ length (ctors_of types d)
        → PossibleBefore h d t.first.0 i cs → ArePossible types h d cs
    possible_all i cs end before = record {
      each = before.each;
      order = before.order;
      all = λ c k at of p.
          let b = in_block_ctor d c.0 k at of in
          let same : b.datatype ≡ t = same_Some b.datatype t (sym b.at_data ∙ is) in
          let within = slice_get_within (ctors_of types d) b.place k b.at in
          before.all c b.place k (omega arith) (b.number ∙ ap (λ (x : Datatype). x.first.0 + b.place) same) b.at p;
      most =
          let e = bits_of_ctors types h d in
          let m = before.most in
          let whole : take i (ctors_of types d) ≡ ctors_of types d = ap (λ n. take n (ctors_of types d)) end
          ∙ take_whole (ctors_of types d) in
          let f = ap (total (field_bits types h)) whole in
          let s : h + 1 ≡ suc h = omega arith in
          let g = ap (λ n. bits types n (sort.Tree d)) s in
          omega arith;
    }

  -- where the datatype has a value, some constructor is possible
  pub some_possible : (h : ℕ) (d : DataId) (cs : List CtorId) → d.0 < length types.datatypes
      → has_value types h (sort.Tree d) ≡ true → ArePossible types (h - 1) d cs → 1 ≤ length cs
  some_possible zero d cs within has are = cc
  some_possible (suc h) d cs within has are =
      let t = at_some types.datatypes d.0 within in
      let e : h ≡ suc h - 1 = omega arith in
      let a = any_some (is_possible (has_value types (suc h - 1))) (ctors_of types d)
      (ap (λ n. list_any (is_possible (has_value types n)) (ctors_of types d)) (sym e) ∙ has) in
      let own = ctor_in_block d t.0 a.place a.element t.1 a.at in
      let p = are.all (record { 0 = t.0.first.0 + a.place }) a.element own.0 own.1 a.is in
      let w = slice_get_within cs p.0 _ p.1 in
      omega arith

  pub positive_next : (h : ℕ) (d : DataId) → has_value types h (sort.Tree d) ≡ true → h - 1 + 1 ≡ h
  positive_next zero d has = cc
  positive_next (suc h) d has = omega arith

  pub next_suc : (h : ℕ) (d : DataId) → has_value types h (sort.Tree d) ≡ true → suc (h - 1) ≡ h
  next_suc zero d has = cc
  next_suc (suc h) d has = omega arith

pub bits_of_int : (types : TypeTable) (h : ℕ) → bits types h sort.Int ≡ 32
bits_of_int types zero = refl
bits_of_int types (suc h) = refl

pub bits_of_bool : (types : TypeTable) (h : ℕ) → bits types h sort.Bool ≡ 1
bits_of_bool types zero = refl
bits_of_bool types (suc h) = refl
