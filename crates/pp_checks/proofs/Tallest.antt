-- How high the values of datatypes can be: one more than the depth of their fields.
use Rattle.std.specs.Prelude.{pos}
use Rattle.std.proofs.Common.{◌≡◌, ◌⊎◌, ◌<◌, ◌≤◌, ◌+◌, ◌-◌, ℕ, zero, suc, nat_eq, nat_lt, nat_le, Bool, true, false}
use Rattle.std.proofs.Common.{List, [], ◌∷◌, ◌++◌, map, take, drop, length, get_or, Option, Some, None, slice_get}
use Rattle.std.proofs.Common.{refl, sym, ap, ◌∙◌, subst, arith, inl, inr, Contains, ◌≢◌, append_assoc, add-one}
use Rattle.std.proofs.Common.{drop-cons}
use Rattle.std.specs.List.{list_all}
use Rattle.std.proofs.lemmas.Bool.{and_parts, eqb-true, le-leb, leb-true, lt-ltb, ltb-true}
use Rattle.std.proofs.lemmas.List.{length_push}
use Rattle.std.proofs.lemmas.Bool.Decides.{eqb_tells, leb_tells, nat_tests}
use Rattle.std.proofs.lemmas.Option.{slice_get_within}
use Rattle.pp_list.specs.Joined.{joined}
use Rattle.pp_graph.specs.Reaches.{called_by, calls_of}
use Rattle.pp_prog.specs.declared.id.CtorId.{CtorId}
use Rattle.pp_prog.specs.declared.id.DataId.{DataId}
use Rattle.pp_prog.specs.declared.sort.Sort.{Sort}
use Rattle.pp_prog.specs.declared.sort.Sort.TheVariants as sort
use Rattle.pp_prog.specs.declared.types.Ctor.{Ctor}
use Rattle.pp_prog.specs.declared.types.Datatype.{Datatype}
use Rattle.pp_prog.specs.declared.types.TypeTable.{TypeTable}
use Rattle.pp_prog.specs.declared.value.Value.{Value}
use Rattle.pp_prog.specs.declared.value.Value.TheFolds.{fold_out-Value, map-Value}
use Rattle.pp_prog.specs.declared.value.Value.TheOpen as value
use Rattle.pp_prog.specs.declared.value.Value.TheViews.{out-Value}
use Rattle.pp_prog.specs.Sizes.{IsUpTo, ctors_in, ctors_of, fields_of, sorts_in_ctor}
use Rattle.pp_prog.specs.Sorts.{fields_have, has_sort, has_step, same_sort, tree_has}
use Rattle.pp_prog.specs.Table.{Agree, HasValue, HaveValues, in_block, in_block_of, is_of, is_sort}
use Rattle.pp_prog.specs.declared.value.Value.TheVariants.{Int, Bool as Truth, Tree, outs-Int, outs-Bool, outs-Tree}
use Rattle.pp_prog.proofs.Values.{height_of_tree}
use Rattle.pp_prog.specs.Values.{greatest, height, height_step}
use Rattle.pp_checks.specs.Closed.{Nests}
use Rattle.pp_checks.specs.Tables.{field_table, fields_below, tree_in, trees_in}

trees_append : (ss ts : List Sort) → trees_in (ss ++ ts) ≡ trees_in ss ++ trees_in ts
trees_append [] ts = refl
trees_append (s ∷ ss) ts = ap (λ (l : List ℕ). tree_in s ++ l) (trees_append ss ts)
    ∙ sym (append_assoc (tree_in s) (trees_in ss) (trees_in ts))

-- the datatypes of one constructor more
pub trees_more : (cs : List Ctor) (i : ℕ) (c : Ctor) (whole found next : List ℕ) → i < length cs
    → c ≡ get_or cs i c → whole ≡ found ++ trees_in (joined (map sorts_in_ctor (drop i cs)))
    → next ≡ found ++ trees_in c.fields → whole ≡ next ++ trees_in (joined (map sorts_in_ctor (drop (i + 1) cs)))
trees_more cs i c whole found next lt is inv step =
    let now = drop-cons cs i c lt ∙ ap (λ (k : Ctor). k ∷ drop (suc i) cs) (sym is) in
    let rest = joined (map sorts_in_ctor (drop (suc i) cs)) in
    rw add-one (inv ∙ ap (λ (l : List Ctor). found ++ trees_in (joined (map sorts_in_ctor l))) now
    ∙ ap (λ (l : List ℕ). found ++ l) (trees_append c.fields rest) ∙ sym (append_assoc found (trees_in
    c.fields) (trees_in rest)) ∙ ap (λ (l : List ℕ). l ++ trees_in rest) (sym step))

-- membership
pub at_head : {A : Type 0} (x : A) (xs : List A) → Contains (x ∷ xs) x
at_head x xs = (0, omega arith, refl)

at_tail : {A : Type 0} (x y : A) (xs : List A) → Contains xs y → Contains (x ∷ xs) y
at_tail x y xs c = (suc c.0, omega (arith, c.1), c.2)

pub head_or : {A : Type 0} (x y : A) (xs : List A) → Contains (x ∷ xs) y → (x ≡ y) ⊎ Contains xs y
head_or x y xs (zero, lt, is) = inl is
head_or x y xs (suc k, lt, is) = inr (k, omega (arith, lt), is)

pub left_in : {A : Type 0} (xs ys : List A) (x : A) → Contains xs x → Contains (xs ++ ys) x
left_in [] ys x (k, lt, is) = absurd (omega (arith, lt))
left_in (y ∷ xs) ys x c = elim (head_or y x xs c) [
  | inl e ↦ subst (λ z. Contains (y ∷ xs ++ ys) z) e (at_head y (xs
      ++ ys))
  | inr d ↦ at_tail y x (xs ++ ys) (left_in xs ys x d)
]

pub right_in : {A : Type 0} (xs ys : List A) (x : A) → Contains ys x → Contains (xs ++ ys) x
right_in [] ys x c = c
right_in (y ∷ xs) ys x c = at_tail y x (xs ++ ys) (right_in xs ys x c)

pub either_in : {A : Type 0} (xs ys : List A) (x : A) → Contains (xs ++ ys) x → Contains xs x ⊎ Contains ys x
either_in [] ys x c = inr c
either_in (y ∷ xs) ys x c = elim (head_or y x (xs ++ ys) c) [
  | inl e ↦ inl (subst (Contains (y ∷ xs)) e (at_head y
      xs))
  | inr d ↦ elim (either_in xs ys x d) [ inl l ↦ inl (at_tail y x xs l) | inr r ↦ inr r ]
]

get_in : {A : Type 0} (xs : List A) (i : ℕ) (x : A) → slice_get xs i ≡ Some x → Contains xs x
get_in [] i x is = let no : None ≡ Some x = is in cc
get_in (y ∷ xs) zero x is = let e : y ≡ x = (let s : Some y ≡ Some x = is in cc) in (0, omega arith, e)
get_in (y ∷ xs) (suc i) x is = at_tail y x xs (get_in xs i x is)

in_get : {A : Type 0} (xs : List A) (x : A) → Contains xs x → (i : ℕ) × (slice_get xs i ≡ Some x)
in_get [] x (k, lt, is) = absurd (omega (arith, lt))
in_get (y ∷ xs) x c = elim (head_or y x xs c) [
  | inl e ↦ (0, ap Some e)
  | inr d ↦ (let p = in_get xs x d in
      (suc p.0, p.1))
]

-- what stands in a block
taken_get : {A : Type 0} (xs : List A) (n i : ℕ) → i < n → slice_get (take n xs) i ≡ slice_get xs i
taken_get xs zero i lt = absurd (omega arith)
taken_get [] (suc n) i lt = refl
taken_get (x ∷ xs) (suc n) zero lt = refl
taken_get (x ∷ xs) (suc n) (suc i) lt = taken_get xs n i (omega arith)

dropped_get : {A : Type 0} (xs : List A) (m i : ℕ) → slice_get (drop m xs) i ≡ slice_get xs (m + i)
dropped_get xs zero i = let e : i ≡ 0 + i = omega arith in ap (slice_get xs) e
dropped_get [] (suc m) i = let e : suc (m + i) ≡ suc m + i = omega arith in ap (slice_get []) e
dropped_get (x ∷ xs) (suc m) i =
    let e : suc (m + i) ≡ suc m + i = omega arith in dropped_get xs m i ∙ ap (slice_get (x ∷ xs)) e

block_get : {A : Type 0} (xs : List A) (from count i : ℕ) → i < count → slice_get (take count (drop from xs)) i ≡
    slice_get xs (from + i)
block_get xs from count i lt = taken_get (drop from xs) count i lt ∙ dropped_get xs from i

block_over : {A : Type 0} (xs : List A) (from count i : ℕ) (x : A) → slice_get (take count (drop from xs)) i ≡ Some
    x → i < count
block_over xs from count i x is = by (leb_tells count i)
  where
    past : {A : Type 0} (ys : List A) (n j : ℕ) → n ≤ j → slice_get (take n ys) j ≡ None
    past ys zero j le = refl
    past [] (suc n) j le = refl
    past (y ∷ ys) (suc n) zero le = absurd (omega arith)
    past (y ∷ ys) (suc n) (suc j) le = past ys n j (omega arith)

    by : ((nat_le count i ≡ true) × (count ≤ i)) ⊎ ((nat_le count i ≡ false) × (i < count)) → i < count
    by (inl e) = absurd (let no : None ≡ Some x = sym (past (drop from xs) count i e.1) ∙ is in cc)
    by (inr e) = e.1

tree_in_trees : (ss : List Sort) (e : DataId) → Contains ss (sort.Tree e) → Contains (trees_in ss) e.0
tree_in_trees [] e (k, lt, is) = absurd (omega (arith, lt))
tree_in_trees (s ∷ ss) e c = elim (head_or s (sort.Tree e) ss c) [
  | inl h ↦ left_in (tree_in s) (trees_in ss) e.0
      (subst (λ z. Contains (tree_in z) e.0) (sym h) (at_head e.0 []))
  | inr d ↦ right_in (tree_in s) (trees_in ss)
      e.0 (tree_in_trees ss e d)
]

tree_of_trees : (ss : List Sort) (e : ℕ) → Contains (trees_in ss) e → Contains ss (sort.Tree (record { 0 = e }))
tree_of_trees [] e (k, lt, is) = absurd (omega (arith, lt))
tree_of_trees (sort.Int ∷ ss) e c = at_tail sort.Int (sort.Tree (record { 0 = e })) ss (tree_of_trees ss e c)
tree_of_trees (sort.Bool ∷ ss) e c = at_tail sort.Bool (sort.Tree (record { 0 = e })) ss (tree_of_trees ss e c)
tree_of_trees (sort.Tree d ∷ ss) e c = elim (head_or d.0 e (trees_in ss) c) [
  | inl h ↦ subst (λ (n : ℕ). Contains
      (sort.Tree d ∷ ss) (sort.Tree (record { 0 = n }))) h (at_head (sort.Tree d) ss)
  | inr r ↦ at_tail (sort.Tree d)
      (sort.Tree (record { 0 = e })) ss (tree_of_trees ss e r)
]

field_in : (cs : List Ctor) (k : Ctor) (s : Sort) → Contains cs k → Contains k.fields s
    → Contains (joined (map sorts_in_ctor cs)) s
field_in [] k s (i, lt, is) f = absurd (omega (arith, lt))
field_in (c ∷ cs) k s has f = elim (head_or c k cs has) [
  | inl e ↦ left_in c.fields (joined (map sorts_in_ctor cs))
      s (subst (λ (z : Ctor). Contains z.fields s) (sym e) f)
  | inr d ↦ right_in c.fields (joined (map sorts_in_ctor
      cs)) s (field_in cs k s d f)
]

field_of : (cs : List Ctor) (s : Sort) → Contains (joined (map sorts_in_ctor cs)) s
    → (k : Ctor) × Contains cs k × Contains k.fields s
field_of [] s (i, lt, is) = absurd (omega (arith, lt))
field_of (c ∷ cs) s has = elim (either_in c.fields (joined (map sorts_in_ctor cs)) s has) [
  | inl h ↦ (
    c,
    at_head c
        cs,
    h,
  )
  | inr r ↦ (let p = field_of cs s r in (p.0, at_tail c p.0 cs p.1, p.2))
]

one : (n : ℕ) → n + 1 ≡ suc n
one n = omega arith

pub fields_size : (types : TypeTable) (n : ℕ) → length (fields_below types n) ≡ n
fields_size types zero = refl
fields_size types (suc n) = length_push (fields_below types n) (trees_in (fields_of types (record { 0 = n })))
    ∙ ap (λ m. m + 1) (fields_size types n) ∙ one n

below_get : (types : TypeTable) (n d : ℕ) → d < n → slice_get (fields_below types n) d ≡ Some (trees_in (fields_of
    types (record { 0 = d })))
below_get types zero d lt = absurd (omega arith)
below_get types (suc n) d lt = by (eqb_tells d n) (λ h. below_get types n d h)
  where
    last : (xs : List (List ℕ)) (x : List ℕ) (i : ℕ) → i ≡ length xs → slice_get (xs ++ x ∷ []) i ≡ Some x
    last [] x zero e = refl
    last [] x (suc i) e = absurd (omega arith)
    last (y ∷ xs) x zero e = absurd (omega arith)
    last (y ∷ xs) x (suc i) e = last xs x i (omega arith)

    first : (xs ys : List (List ℕ)) (i : ℕ) (x : List ℕ) → slice_get xs i ≡ Some x → slice_get (xs ++ ys) i ≡ Some x
    first [] ys i x e = let no : None ≡ Some x = e in cc
    first (z ∷ xs) ys zero x e = e
    first (z ∷ xs) ys (suc i) x e = first xs ys i x e

    by : ((nat_eq d n ≡ true) × (d ≡ n)) ⊎ ((nat_eq d n ≡ false) × (d ≢ n)) → (d < n
        → slice_get (fields_below types n) d ≡ Some (trees_in (fields_of types (record { 0 = d }))))
        → slice_get (fields_below types (suc n)) d ≡ Some (trees_in (fields_of types (record { 0 = d })))
    by (inl e) again =
        last (fields_below types n) (trees_in (fields_of types (record { 0 = n }))) d (e.1
        ∙ sym (fields_size types n)) ∙ ap (λ (k : ℕ). Some (trees_in (fields_of types (record { 0 = k }))))
        (sym e.1)
    by (inr e) again =
        first (fields_below types n) (trees_in (fields_of types (record { 0 = n })) ∷ []) d (trees_in (fields_of
        types (record { 0 = d }))) (again (omega (arith, e.1)))

pub calls_are : (types : TypeTable) (d : ℕ) → d < length types.datatypes
    → calls_of (field_table types) d ≡ trees_in (fields_of types (record { 0 = d }))
calls_are types d lt = ap called_by (below_get types (length types.datatypes) d lt)

has_is : (ctors : List Ctor) (v : Value) (s : Sort) → has_sort ctors v s ≡ has_step ctors (map-Value Value (Sort
    → Bool) (has_sort ctors) (out-Value v)) s
has_is ctors v s = ap (λ (f : Sort → Bool). f s) (fold_out-Value (Sort → Bool) (has_step ctors) v)

height_is : (v : Value) → height v ≡ height_step (map-Value Value ℕ height (out-Value v))
height_is v = fold_out-Value ℕ height_step v

of_data : (d e : ℕ) → same_sort (sort.Tree (record { 0 = d })) (sort.Tree (record { 0 = e })) ≡ true → d ≡ e
of_data d e h = eqb-true d e h

-- a number and a truth value have no height
pub word_height : (ctors : List Ctor) (v : Value) (s : Sort) → (s ≡ sort.Int) ⊎ (s ≡ sort.Bool)
    → has_sort ctors v s ≡ true → height v ≡ 0
word_height ctors v s w h = height_is v ∙ by (out-Value v) w (sym (has_is ctors v s) ∙ h)
  where
    no_tree : (c : CtorId) (fs : List Value) (k : Option Ctor) → (s ≡ sort.Int) ⊎ (s ≡ sort.Bool)
        → tree_has k (map (has_sort ctors) fs) s ≡ true → ⊥
    no_tree c fs None w h = let no : false ≡ true = h in cc
    no_tree c fs (Some k) (inl e) h =
        let no : false ≡ true = ap (λ (t : Sort). same_sort (sort.Tree k.of) t) (sym e) ∙ (and_parts _ _ h).0 in cc
    no_tree c fs (Some k) (inr e) h =
        let no : false ≡ true = ap (λ (t : Sort). same_sort (sort.Tree k.of) t) (sym e) ∙ (and_parts _ _ h).0 in cc

    by : (y : value.Value-F Value) → (s ≡ sort.Int) ⊎ (s ≡ sort.Bool) → has_step ctors (map-Value Value (Sort
        → Bool) (has_sort ctors) y) s ≡ true → height_step (map-Value Value ℕ height y) ≡ 0
    by (value.Int n) w h = refl
    by (value.Bool b) w h = refl
    by (value.Tree c fs) w h = absurd (no_tree c fs (slice_get ctors c.0) w h)

-- each field of a tree is at most so high
fields_low : (ctors : List Ctor) (n : ℕ) (fs : List Value) (ss : List Sort) → ((s : Sort) → Contains ss s
    → (v : Value) → has_sort ctors v s ≡ true → height v ≤ n) → fields_have (map (has_sort ctors) fs) ss ≡ true
    → greatest (map height fs) ≤ n
fields_low ctors n [] ss low h = omega arith
fields_low ctors n (f ∷ fs) [] low h = let no : false ≡ true = h in cc
fields_low ctors n (f ∷ fs) (s ∷ ss) low h =
    let p = and_parts _ _ h in
    omega (arith, low s (at_head s ss) f p.0, fields_low ctors n fs ss (λ t c. low t (at_tail s t ss c)) p.1)

module _ (types : TypeTable) (agree : Agree types.datatypes types.ctors) where
  -- a constructor is among those of its datatype
  own_ctor : (c : ℕ) (k : Ctor) → slice_get types.ctors c ≡ Some k → Contains (ctors_of types k.of) k
  own_ctor c k is = by (slice_get types.datatypes k.of.0) refl (agree.stands c k is)
    where
      by : (o : Option Datatype) → slice_get types.datatypes k.of.0 ≡ o → in_block_of o c ≡ true
          → Contains (ctors_of types k.of) k
      by None e h = let no : false ≡ true = h in cc
      by (Some t) e h =
          let p = and_parts _ _ h in
          let from = leb-true t.first.0 c p.0 in
          let to = ltb-true c (t.first.0 + t.count) p.1 in
          let at : t.first.0 + (c - t.first.0) ≡ c = omega (arith, from) in
          subst (λ (o : Option Datatype). Contains (ctors_in types.ctors o) k) (sym e)
          (get_in (take t.count (drop t.first.0 types.ctors)) (c - t.first.0) k
          (block_get types.ctors t.first.0 t.count (c - t.first.0) (omega (arith, from, to))
          ∙ ap (slice_get types.ctors) at ∙ is))

  own_datatype : (c : ℕ) (k : Ctor) → slice_get types.ctors c ≡ Some k → k.of.0 < length types.datatypes
  own_datatype c k is = by (slice_get types.datatypes k.of.0) refl (agree.stands c k is)
    where
      by : (o : Option Datatype) → slice_get types.datatypes k.of.0 ≡ o → in_block_of o c ≡ true
          → k.of.0 < length types.datatypes
      by None e h = let no : false ≡ true = h in cc
      by (Some t) e h = slice_get_within types.datatypes k.of.0 t e

  -- the fields of a constructor are at most n high, where those of the datatype are nested less than n deep
  field_low : (n d : ℕ) → Nests (field_table types) n d → ((m e : ℕ) → n ≡ suc m → Nests (field_table types) m e
      → (w : Value) → has_sort types.ctors w (sort.Tree (record { 0 = e })) ≡ true → height w ≤ n)
      → (c : ℕ) (k : Ctor) → slice_get types.ctors c ≡ Some k → k.of.0 ≡ d → (s : Sort) → Contains k.fields s
      → (v : Value) → has_sort types.ctors v s ≡ true → height v ≤ n
  field_low n d nests again c k is own sort.Int has v h =
      omega (arith, word_height types.ctors v sort.Int (inl refl) h)
  field_low n d nests again c k is own sort.Bool has v h =
      omega (arith, word_height types.ctors v sort.Bool (inr refl) h)
  field_low n d nests again c k is own (sort.Tree e) has v h =
      by n nests again
    where
      called : Contains (calls_of (field_table types) d) e.0
      called =
          subst (λ l. Contains l e.0) (sym (subst (λ m. calls_of (field_table types) m ≡ trees_in (fields_of types
          k.of)) own (calls_are types k.of.0 (own_datatype c k is))))
          (tree_in_trees (fields_of types k.of) e (field_in (ctors_of types k.of) k (sort.Tree e) (own_ctor c k is)
          has))

      by : (n : ℕ) → Nests (field_table types) n d → ((m e : ℕ) → n ≡ suc m → Nests (field_table types) m e
          → (w : Value) → has_sort types.ctors w (sort.Tree (record { 0 = e })) ≡ true → height w ≤ n) → height v ≤ n
      by zero nests again = absurd (nests e.0 called)
      by (suc m) nests again = again m e.0 refl (nests e.0 called) v h

  tree_low : (n d : ℕ) (c : CtorId) (fs : List Value) → ((k : Ctor) → slice_get types.ctors c.0 ≡ Some k
      → k.of.0 ≡ d → (s : Sort) → Contains k.fields s → (v : Value) → has_sort types.ctors v s ≡ true
      → height v ≤ n) → (o : Option Ctor) → slice_get types.ctors c.0 ≡ o
      → tree_has o (map (has_sort types.ctors) fs) (sort.Tree (record { 0 = d })) ≡ true
      → greatest (map height fs) ≤ n
  tree_low n d c fs fields None e h = let no : false ≡ true = h in cc
  tree_low n d c fs fields (Some k) e h =
      let p = and_parts _ _ h in
      fields_low types.ctors n fs k.fields (fields k e (of_data k.of.0 d p.0)) p.1

  layer_low : (n d : ℕ) (y : value.Value-F Value) → ((c : ℕ) (k : Ctor) → slice_get types.ctors c ≡ Some k
      → k.of.0 ≡ d → (s : Sort) → Contains k.fields s → (v : Value) → has_sort types.ctors v s ≡ true
      → height v ≤ n) → has_step types.ctors (map-Value Value (Sort → Bool) (has_sort types.ctors) y) (sort.Tree
      (record { 0 = d })) ≡ true → height_step (map-Value Value ℕ height y) ≤ n + 1
  layer_low n d (value.Int i) fields h = omega arith
  layer_low n d (value.Bool b) fields h = omega arith
  layer_low n d (value.Tree c fs) fields h =
      omega (arith, tree_low n d c fs (fields c.0) (slice_get types.ctors c.0) refl h)

  -- with fields nested at most n deep a value is at most one more high
  pub low : (n d : ℕ) → Nests (field_table types) n d → (v : Value) → has_sort types.ctors v (sort.Tree (record {
    0
        = d;
  })) ≡ true → height v ≤ n + 1
  low zero d nests v h =
      subst (λ (m : ℕ). m ≤ 1) (sym (height_is v)) (layer_low 0 d (out-Value v) (field_low 0 d nests (λ m e is.
      absurd (omega (arith, is)))) (sym (has_is types.ctors v (sort.Tree (record { 0 = d }))) ∙ h))
  low (suc n) d nests v h =
      subst (λ (m : ℕ). m ≤ suc n + 1) (sym (height_is v)) (layer_low (suc n) d (out-Value v) (field_low (suc n) d
      nests (λ m e is lower w hw. step m is e (low n e) lower w hw)) (sym (has_is types.ctors v (sort.Tree
      (record { 0 = d }))) ∙ h))
    where
      step : (m : ℕ) → suc n ≡ suc m → (e : ℕ) → (Nests (field_table types) n e → (w : Value)
          → has_sort types.ctors w (sort.Tree (record { 0 = e })) ≡ true → height w ≤ n + 1)
          → Nests (field_table types) m e → (w : Value) → has_sort types.ctors w (sort.Tree (record { 0 = e })) ≡
          true → height w ≤ suc n
      step m is e lower nests w hw =
          let same : m ≡ n = omega (arith, is) in omega (
            arith,
            lower (subst (λ (k : ℕ). Nests (field_table types)
                k e) same nests) w hw,
          )

  -- the datatypes that the fields of a datatype have come from a constructor of it
  ctor_from : (d : ℕ) (k : Ctor) → Contains (ctors_of types (record { 0 = d })) k
      → (c : ℕ) × (slice_get types.ctors c ≡ Some k) × (k.of.0 ≡ d)
  ctor_from d k has = by (slice_get types.datatypes d) refl has
    where
      names : (c : ℕ) (o : Option Ctor) → o ≡ Some k → is_of d o ≡ true → k.of.0 ≡ d
      names c None e h = let no : false ≡ true = h in cc
      names c (Some l) e h =
          let same : l ≡ k = (let s : Some l ≡ Some k = e in cc) in ap (λ (z : Ctor). z.of.0) (sym same)
          ∙ eqb-true l.of.0 d h

      by : (o : Option Datatype) → slice_get types.datatypes d ≡ o → Contains (ctors_in types.ctors o) k
          → (c : ℕ) × (slice_get types.ctors c ≡ Some k) × (k.of.0 ≡ d)
      by None e (i, lt, is) = absurd (omega (arith, lt))
      by (Some t) e has =
          let p = in_get (take t.count (drop t.first.0 types.ctors)) k has in
          let lt = block_over types.ctors t.first.0 t.count p.0 k p.1 in
          let at = sym (block_get types.ctors t.first.0 t.count p.0 lt) ∙ p.1 in
          let inside : in_block t (t.first.0 + p.0) ≡ true = rw (le-leb t.first.0 (t.first.0 + p.0) (omega arith))
          (lt-ltb (t.first.0 + p.0) (t.first.0 + t.count) (omega (arith, lt))) in (
            t.first.0 + p.0,
            at,
            names (t.first.0 + p.0) (slice_get types.ctors (t.first.0 + p.0)) at (agree.block d
                t e (t.first.0 + p.0) inside),
          )

  module _ (inhabited : HaveValues types.datatypes types.ctors) where
    value_of : (s : Sort) → is_sort types.datatypes s ≡ true → HasValue types.ctors s
    value_of sort.Int h = (
      Int (pos 0),
      has_is types.ctors (Int (pos 0)) sort.Int ∙ ap (λ y. has_step types.ctors (map-Value Value
          (Sort → Bool) (has_sort types.ctors) y) sort.Int) (outs-Int (pos 0)),
    )
    value_of sort.Bool h = (
      Truth true,
      has_is types.ctors (Truth true) sort.Bool ∙ ap (λ y. has_step types.ctors (map-Value Value
          (Sort → Bool) (has_sort types.ctors) y) sort.Bool) (outs-Bool true),
    )
    value_of (sort.Tree e) h = inhabited e.0 (ltb-true e.0 (length types.datatypes) h)

    all_values : (ss : List Sort) → list_all (is_sort types.datatypes) ss ≡ true
        → (fs : List Value) × (fields_have (map (has_sort types.ctors) fs) ss ≡ true)
    all_values [] h = ([], refl)
    all_values (s ∷ ss) h =
        let p = and_parts _ _ h in
        let first = value_of s p.0 in
        let rest = all_values ss p.1 in
        (first.0 ∷ rest.0, rw (first.1) (rest.1))

    -- values of these sorts, with this value at the place of its sort
    fields_with : (ss : List Sort) (s : Sort) (v : Value) → list_all (is_sort types.datatypes) ss ≡ true
        → has_sort types.ctors v s ≡ true → Contains ss s → (fs : List Value) × (fields_have (map (has_sort
        types.ctors) fs) ss ≡ true) × (height v ≤ greatest (map height fs))
    fields_with [] s v h hv (k, lt, is) = absurd (omega (arith, lt))
    fields_with (t ∷ ss) s v h hv has = by (λ c. fields_with ss s v (and_parts (is_sort types.datatypes t) (list_all
        (is_sort types.datatypes) ss) h).1 hv c) (head_or t s ss has)
      where
        by : (Contains ss s → (fs : List Value) × (fields_have (map (has_sort types.ctors) fs) ss ≡ true) × (height
            v ≤ greatest (map height fs))) → (t ≡ s) ⊎ Contains ss s → (fs : List Value) × (fields_have (map
            (has_sort types.ctors) fs) (t ∷ ss) ≡ true) × (height v ≤ greatest (map height fs))
        by again (inl e) =
            let p = and_parts (is_sort types.datatypes t) (list_all (is_sort types.datatypes) ss) h in
            let rest = all_values ss p.1 in
            (v ∷ rest.0, rw (subst (λ z. has_sort types.ctors v z ≡ true) (sym e) hv) (rest.1), omega arith)
        by again (inr c) =
            let rest = again c in
            let p = and_parts (is_sort types.datatypes t) (list_all (is_sort types.datatypes) ss) h in
            let first = value_of t p.0 in
            (first.0 ∷ rest.0, rw (first.1) (rest.1), omega (arith, rest.2))

    tree_step : (c : CtorId) (fs : List Value) (k : Ctor) (d : ℕ) → slice_get types.ctors c.0 ≡ Some k
        → k.of.0 ≡ d → fields_have (map (has_sort types.ctors) fs) k.fields ≡ true
        → has_sort types.ctors (Tree c fs) (sort.Tree (record { 0 = d })) ≡ true
    tree_step c fs k d is own h =
        has_is types.ctors (Tree c fs) (sort.Tree (record { 0 = d })) ∙ ap (λ y. has_step types.ctors (map-Value
        Value (Sort → Bool) (has_sort types.ctors) y) (sort.Tree (record { 0 = d }))) (outs-Tree c fs)
        ∙ ap (λ (o : Option Ctor). tree_has o (map (has_sort types.ctors) fs) (sort.Tree (record { 0 = d }))) is
        ∙ (rw (same_data k.of.0 d own) h)
      where
        same_data : (a b : ℕ) → a ≡ b → nat_eq a b ≡ true
        same_data a b e = grind (arith, nat_tests)

    -- a value that is higher than a value of a field's sort
    higher : (d e : ℕ) (v : Value) → Contains (fields_of types (record { 0 = d })) (sort.Tree (record { 0 = e }))
        → has_sort types.ctors v (sort.Tree (record { 0 = e })) ≡ true → (w : Value) × (has_sort types.ctors w
        (sort.Tree (record { 0 = d })) ≡ true) × (height v < height w)
    higher d e v has hv =
        let field = field_of (ctors_of types (record { 0 = d })) (sort.Tree (record { 0 = e })) has in
        let ctor = ctor_from d field.0 field.1 in
        let fs = fields_with field.0.fields (sort.Tree (record { 0 = e })) v (agree.fields ctor.0 field.0 ctor.1)
        hv field.2 in (
          Tree (record { 0 = ctor.0 }) fs.0,
          tree_step (record { 0 = ctor.0 }) fs.0 field.0 d ctor.1 ctor.2 fs.1,
          omega (arith, fs.2, height_of_tree (record { 0 = ctor.0 }) fs.0),
        )

    tree_height : (d : ℕ) (v : Value) → has_sort types.ctors v (sort.Tree (record { 0 = d })) ≡ true → 0 < height v
    tree_height d v h = subst (λ (m : ℕ). 0 < m) (sym (height_is v)) (by (out-Value v) (sym (has_is types.ctors v
        (sort.Tree (record { 0 = d }))) ∙ h))
      where
        by : (y : value.Value-F Value) → has_step types.ctors (map-Value Value (Sort
            → Bool) (has_sort types.ctors) y) (sort.Tree (record { 0 = d })) ≡ true
            → 0 < height_step (map-Value Value ℕ height y)
        by (value.Int n) h = let no : false ≡ true = h in cc
        by (value.Bool b) h = let no : false ≡ true = h in cc
        by (value.Tree c fs) h = omega arith

    called_in : (d e : ℕ) → d < length types.datatypes → Contains (calls_of (field_table types) d) e
        → Contains (fields_of types (record { 0 = d })) (sort.Tree (record { 0 = e }))
    called_in d e lt c =
        tree_of_trees (fields_of types (record { 0 = d })) e (subst (λ l. Contains l e) (calls_are types d lt) c)

    field_range : (d e : ℕ) → Contains (fields_of types (record { 0 = d })) (sort.Tree (record { 0 = e }))
        → e < length types.datatypes
    field_range d e has =
        let field = field_of (ctors_of types (record { 0 = d })) (sort.Tree (record { 0 = e })) has in
        let ctor = ctor_from d field.0 field.1 in
        ltb-true e (length types.datatypes) (by field.0.fields (agree.fields ctor.0 field.0 ctor.1) field.2)
      where
        by : (ss : List Sort) → list_all (is_sort types.datatypes) ss ≡ true
            → Contains ss (sort.Tree (record { 0 = e })) → nat_lt e (length types.datatypes) ≡ true
        by [] h (k, lt, is) = absurd (omega (arith, lt))
        by (s ∷ ss) h c = elim (head_or s (sort.Tree (record { 0 = e })) ss c) [
          | inl same ↦ subst (λ z. is_sort
              types.datatypes z ≡ true) same (and_parts _ _ h).0
          | inr d ↦ by ss (and_parts _ _ h).1 d
        ]

    -- where each value is at most one more high, fields are nested at most n deep
    pub high : (n d : ℕ) → d < length types.datatypes → IsUpTo types.ctors (sort.Tree (record { 0 = d })) (suc n)
        → Nests (field_table types) n d
    high zero d lt up = λ e c.
        let has = called_in d e lt c in
        let v = inhabited e (field_range d e has) in
        let w = higher d e v.0 has v.1 in
        absurd (omega (arith, up w.0 w.1, w.2, tree_height e v.0 v.1))
    high (suc n) d lt up = λ e c.
        let has = called_in d e lt c in
        high n e (field_range d e has) (λ v hv. let w = higher d e v has hv in omega (arith, up w.0 w.1, w.2))

    -- there is a value
    pub none_low : (d : ℕ) → d < length types.datatypes → IsUpTo types.ctors (sort.Tree (record { 0 = d })) 0 → ⊥
    none_low d lt up = let v = inhabited d lt in absurd (omega (arith, up v.0 v.1, tree_height d v.0 v.1))
