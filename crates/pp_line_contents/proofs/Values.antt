-- A value of a sort is told by its text, where a mark follows, and arguments by theirs.
use Rattle.std.proofs.Common.{◌≡◌, ◌≢◌, ◌<◌, ◌^◌, ◌∙◌, ℕ, ℤ, pos, neg_ℤ, Bool, true, false, List, [], ◌∷◌, ◌++◌, Option}
use Rattle.std.proofs.Common.{Some, None}
use Rattle.std.proofs.Common.{◌&&◌, codes, map, refl, sym, ap, subst, arith, append_assoc, cond}
use Rattle.std.specs.Int.RustNames.{int_le, int_lt}
use Rattle.std.specs.List.{concat}
use Rattle.std.specs.Prelude.{slice_get}
use Rattle.std.proofs.lemmas.Bool.{and_parts, eqb-true}
use Rattle.std.proofs.lemmas.Int.{ints}
use Rattle.std.proofs.lemmas.List.{append_cancel_left}
use Rattle.std.proofs.lemmas.Option.{same_Some}
use Rattle.pp_line_contents.proofs.Spans.{Stops, every_of, first_same, one_span, rest_same}
use Rattle.pp_line_contents.proofs.Words.{IsDigit, one_signed}
use Rattle.pp_line_contents.specs.Laws.{HasNoMark}
use Rattle.pp_list.proofs.Integers.{at_most, less}
use Rattle.pp_print.specs.Values.{after_comma, arguments_text, bool_text, in_brackets, joined, tree_text}
use Rattle.pp_print.specs.Values.{value_step, value_text}
use Rattle.pp_prog.specs.Sorts.{fields_have, has_sort, has_step, have_sorts, is_int, param_sorts, same_sort, tree_has}
use Rattle.pp_prog.specs.declared.expr.Param.{Param}
use Rattle.pp_prog.specs.declared.id.CtorId.{CtorId}
use Rattle.pp_prog.specs.declared.id.DataId.{DataId}
use Rattle.pp_prog.specs.declared.sort.Sort.{Sort}
use Rattle.pp_prog.specs.declared.sort.Sort.TheVariants as sort
use Rattle.pp_prog.specs.declared.types.Ctor.{Ctor}
use Rattle.pp_prog.specs.declared.value.Value.{Value}
use Rattle.pp_prog.specs.declared.value.Value.TheFolds.{fold-roll-Value, ind-Value, map-Value}
use Rattle.pp_prog.specs.declared.value.Value.TheOpen as layer
use Rattle.pp_prog.specs.declared.value.Value.TheViews.{out-Value, roll-Value, roll-out-Value}
use lib.Signed.{◌≤ℤ◌, ◌<ℤ◌, mag}

-- a byte that isn't a mark
abbrev pub IsUnmarked : ℕ → Type 0
IsUnmarked b = (b ≢ 10) × (b ≢ 40) × (b ≢ 41) × (b ≢ 44)

digit_unmarked : (c : ℕ) → IsDigit c → IsUnmarked c
digit_unmarked c h = (
  (λ e. omega (arith, h.0)),
  (λ e. omega (arith, h.0)),
  (λ e. omega (arith, h.0)),
  (λ e. omega (arith, h.0)),
)

-- where a mark follows, no digit does
pub no_digit : (r : List ℕ) → Stops IsUnmarked r → Stops IsDigit r
no_digit [] h = tt
no_digit (c ∷ cs) h = λ d. h (digit_unmarked c d)

pub newline_stops : IsUnmarked 10 → ⊥
newline_stops h = h.0 refl

open_stops : IsUnmarked 40 → ⊥
open_stops h = h.1 refl

close_stops : IsUnmarked 41 → ⊥
close_stops h = h.2 refl

pub comma_stops : IsUnmarked 44 → ⊥
comma_stops h = h.3 refl

-- ---- numbers and truth values

small_int : (n : ℤ) → is_int n ≡ true → mag n < 2 ^ 63
small_int n h =
    let p = and_parts (int_le (neg_ℤ (pos (2 ^ 31))) n) (int_lt n (pos (2 ^ 31))) h in
    by n (at_most (neg_ℤ (pos (2 ^ 31))) n p.0) (less n (pos (2 ^ 31)) p.1)
  where
    by : (n : ℤ) → neg_ℤ (pos (2 ^ 31)) ≤ℤ n → n <ℤ pos (2 ^ 31) → mag n < 2 ^ 63
    by n low high = grind (arith, ints)

one_truth : (a b : Bool) (r s : List ℕ) → bool_text a ++ r ≡ bool_text b ++ s → (a ≡ b) × (r ≡ s)
one_truth true true r s e = (refl, append_cancel_left (codes "true") r s e)
one_truth true false r s e = absurd (let no : 116 ≡ 102 = first_same e in omega (arith, no))
one_truth false true r s e = absurd (let no : 102 ≡ 116 = first_same e in omega (arith, no))
one_truth false false r s e = (refl, append_cancel_left (codes "false") r s e)

-- ---- sorts

no_int_bool : (s : Sort) → same_sort sort.Int s ≡ true → same_sort sort.Bool s ≡ true → ⊥
no_int_bool sort.Int h k = cc
no_int_bool sort.Bool h k = cc
no_int_bool (sort.Tree d) h k = cc

no_int_tree : (d : DataId) (s : Sort) → same_sort sort.Int s ≡ true → same_sort (sort.Tree d) s ≡ true → ⊥
no_int_tree d sort.Int h k = cc
no_int_tree d sort.Bool h k = cc
no_int_tree d (sort.Tree e) h k = cc

no_bool_tree : (d : DataId) (s : Sort) → same_sort sort.Bool s ≡ true → same_sort (sort.Tree d) s ≡ true → ⊥
no_bool_tree d sort.Int h k = cc
no_bool_tree d sort.Bool h k = cc
no_bool_tree d (sort.Tree e) h k = cc

data_same : (d e : DataId) → d.0 ≡ e.0 → d ≡ e
data_same d e h = let mk : ℕ → DataId = λ n. record { 0 = n } in ap mk h

one_data : (d e : DataId) (s : Sort) → same_sort (sort.Tree d) s ≡ true → same_sort (sort.Tree e) s ≡ true → d ≡ e
one_data d e sort.Int h k = cc
one_data d e sort.Bool h k = cc
one_data d e (sort.Tree t) h k = data_same d e (eqb-true d.0 t.0 h ∙ sym (eqb-true e.0 t.0 k))

no_fields : (tests : List (Sort → Bool)) (ss : List Sort) → ss ≡ [] → fields_have tests ss ≡ true → tests ≡ []
no_fields [] ss none h = refl
no_fields (t ∷ ts) [] none h = cc
no_fields (t ∷ ts) (s ∷ ss) none h = cc

-- ---- trees

module _ (ctors : List Ctor)
    (unmarked : (c : ℕ) (a : Ctor) → slice_get ctors c ≡ Some a → HasNoMark a.name)
    (differ : (c d : ℕ) (a b : Ctor) → slice_get ctors c ≡ Some a → slice_get ctors d ≡ Some b → a.of ≡ b.of
    → a.name ≡ b.name → c ≡ d)
    (objects : (c : ℕ) (a : Ctor) → slice_get ctors c ≡ Some a → a.object ≡ true → a.fields ≡ []) where
  abbrev text : Value → List ℕ
  text = value_text ctors

  abbrev has : Value → Sort → Bool
  has = has_sort ctors

  -- the text of the value tells it among those of its sort
  abbrev pub IsTold : Value → Type 0
  IsTold v = (w : Value) (s : Sort) (r t : List ℕ) → has v s ≡ true → has w s ≡ true → Stops IsUnmarked r
      → Stops IsUnmarked t → text v ++ r ≡ text w ++ t → (v ≡ w) × (r ≡ t)

  abbrev Told : Type 0
  Told = (v : Value) × IsTold v

  abbrev value_of : Told → Value
  value_of y = y.0

  -- ---- fields

  abbrev more : List Value → List ℕ → List ℕ
  more vs r = concat (map after_comma (map text vs)) ++ 41 ∷ r

  more_stops : (vs : List Value) (r : List ℕ) → Stops IsUnmarked (more vs r)
  more_stops [] r = close_stops
  more_stops (v ∷ vs) r = comma_stops

  more_split : (v : Value) (vs : List Value) (r : List ℕ) → more (v ∷ vs) r ≡ 44 ∷ 32 ∷ text v ++ more vs r
  more_split v vs r =
      ap (λ l. 44 ∷ 32 ∷ l) (append_assoc (text v) (concat (map after_comma (map text vs))) (41 ∷ r))

  more_told : (ys : List Told) (ws : List Value) (ss : List Sort) (r t : List ℕ)
      → fields_have (map has (map value_of ys)) ss ≡ true → fields_have (map has ws) ss ≡ true
      → more (map value_of ys) r ≡ more ws t → (map value_of ys ≡ ws) × (r ≡ t)
  more_told [] [] ss r t h k e = (refl, rest_same e)
  more_told [] (w ∷ ws) ss r t h k e = absurd (let no : 41 ≡ 44 = first_same e in omega (arith, no))
  more_told (y ∷ ys) [] ss r t h k e = absurd (let no : 44 ≡ 41 = first_same e in omega (arith, no))
  more_told (y ∷ ys) (w ∷ ws) [] r t h k e = cc
  more_told (y ∷ ys) (w ∷ ws) (s ∷ ss) r t h k e =
      let p = and_parts (has y.0 s) _ h in
      let q = and_parts (has w s) _ k in
      let same = rest_same (rest_same (sym (more_split y.0 (map value_of ys) r) ∙ e ∙ more_split w ws t)) in
      let one = y.1 w s _ _ p.0 q.0 (more_stops (map value_of ys) r) (more_stops ws t) same in
      let others = more_told ys ws ss r t p.1 q.1 one.1 in
      (ap (λ z. z ∷ map value_of ys) one.0 ∙ ap (λ l. w ∷ l) others.0, others.1)

  joined_split : (v : Value) (vs : List Value) (r : List ℕ) → joined (map text (v ∷ vs)) ++ 41 ∷ r ≡ text v ++ more vs r
  joined_split v vs r = append_assoc (text v) (concat (map after_comma (map text vs))) (41 ∷ r)

  fields_told : (ys : List Told) (ws : List Value) (ss : List Sort) (r t : List ℕ)
      → fields_have (map has (map value_of ys)) ss ≡ true → fields_have (map has ws) ss ≡ true
      → joined (map text (map value_of ys)) ++ 41 ∷ r ≡ joined (map text ws) ++ 41 ∷ t
      → (map value_of ys ≡ ws) × (r ≡ t)
  fields_told [] [] ss r t h k e = (refl, rest_same e)
  fields_told [] (w ∷ ws) [] r t h k e = cc
  fields_told [] (w ∷ ws) (s ∷ ss) r t h k e = cc
  fields_told (y ∷ ys) [] [] r t h k e = cc
  fields_told (y ∷ ys) [] (s ∷ ss) r t h k e = cc
  fields_told (y ∷ ys) (w ∷ ws) [] r t h k e = cc
  fields_told (y ∷ ys) (w ∷ ws) (s ∷ ss) r t h k e =
      let p = and_parts (has y.0 s) _ h in
      let q = and_parts (has w s) _ k in
      let same = sym (joined_split y.0 (map value_of ys) r) ∙ e ∙ joined_split w ws t in
      let one = y.1 w s _ _ p.0 q.0 (more_stops (map value_of ys) r) (more_stops ws t) same in
      let others = more_told ys ws ss r t p.1 q.1 one.1 in
      (ap (λ z. z ∷ map value_of ys) one.0 ∙ ap (λ l. w ∷ l) others.0, others.1)

  -- ---- constructors

  -- what stands behind the name of a constructor
  abbrev behind_name : Bool → List (List ℕ) → List ℕ → List ℕ
  behind_name true fields r = r
  behind_name false fields r = 40 ∷ joined fields ++ 41 ∷ r

  behind_stops : (object : Bool) (fields : List (List ℕ)) (r : List ℕ) → Stops IsUnmarked r
      → Stops IsUnmarked (behind_name object fields r)
  behind_stops true fields r h = h
  behind_stops false fields r h = open_stops

  behind_split : (object : Bool) (name : List ℕ) (fields : List (List ℕ)) (r : List ℕ)
      → cond object name (name ++ in_brackets fields) ++ r ≡ name ++ behind_name object fields r
  behind_split true name fields r = refl
  behind_split false name fields r =
      append_assoc name (in_brackets fields) r
      ∙ ap (λ l. name ++ 40 ∷ l) (append_assoc (joined fields) (41 ∷ []) r)

  behind_told : (object : Bool) (fs : List Sort) (ys : List Told) (ws : List Value) (r t : List ℕ)
      → (object ≡ true → fs ≡ []) → fields_have (map has (map value_of ys)) fs ≡ true
      → fields_have (map has ws) fs ≡ true
      → behind_name object (map text (map value_of ys)) r ≡ behind_name object (map text ws) t
      → (map value_of ys ≡ ws) × (r ≡ t)
  behind_told false fs ys ws r t none h k e = fields_told ys ws fs r t h k (rest_same e)
  behind_told true fs ys ws r t none h k e =
      (by ys ws (no_fields _ fs (none refl) h) (no_fields _ fs (none refl) k), e)
    where
      by : (ys : List Told) (ws : List Value) → map has (map value_of ys) ≡ [] → map has ws ≡ []
          → map value_of ys ≡ ws
      by [] [] h k = refl
      by [] (w ∷ ws) h k = cc
      by (y ∷ ys) ws h k = cc

  tree_told : (c d : CtorId) (ys : List Told) (ws : List Value) (s : Sort) (r t : List ℕ) (a b : Option Ctor)
      → slice_get ctors c.0 ≡ a → slice_get ctors d.0 ≡ b → tree_has a (map has (map value_of ys)) s ≡ true
      → tree_has b (map has ws) s ≡ true → Stops IsUnmarked r → Stops IsUnmarked t
      → tree_text a (map text (map value_of ys)) ++ r ≡ tree_text b (map text ws) ++ t
      → (c ≡ d) × (map value_of ys ≡ ws) × (r ≡ t)
  tree_told c d ys ws s r t None b here there h k p q e = cc
  tree_told c d ys ws s r t (Some a) None here there h k p q e = cc
  tree_told c d ys ws s r t (Some a) (Some b) here there h k p q e =
      let m = and_parts (same_sort (sort.Tree a.of) s) _ h in
      let n = and_parts (same_sort (sort.Tree b.of) s) _ k in
      let split = sym (behind_split a.object a.name (map text (map value_of ys)) r) ∙ e
      ∙ behind_split b.object b.name (map text ws) t in
      let names = one_span IsUnmarked a.name b.name _ _
      (every_of IsUnmarked a.name (unmarked c.0 a here)) (every_of IsUnmarked b.name (unmarked d.0 b there))
      (behind_stops a.object _ r p) (behind_stops b.object _ t q) split in
      let numbers = differ c.0 d.0 a b here there (one_data a.of b.of s m.0 n.0) names.0 in
      let same : b ≡ a = same_Some _ _ (sym there ∙ ap (slice_get ctors) (sym numbers) ∙ here) in
      let fields = behind_told a.object a.fields ys ws r t (objects c.0 a here) m.1
      (subst (λ (x : Ctor). fields_have (map has ws) x.fields ≡ true) same n.1)
      (names.1 ∙ ap (λ (x : Ctor). behind_name x.object (map text ws) t) same) in
      let mk : ℕ → CtorId = λ n. record { 0 = n } in (ap mk numbers, fields.0, fields.1)

  -- ---- values

  abbrev whole : layer.Value-F Told → layer.Value-F Value
  whole y = map-Value Told Value value_of y

  abbrev tests : layer.Value-F Value → layer.Value-F (Sort → Bool)
  tests z = map-Value Value (Sort → Bool) has z

  abbrev texts : layer.Value-F Value → layer.Value-F (List ℕ)
  texts z = map-Value Value (List ℕ) text z

  level : (y : layer.Value-F Told) (o : layer.Value-F Value) (s : Sort) (r t : List ℕ)
      → has_step ctors (tests (whole y)) s ≡ true → has_step ctors (tests o) s ≡ true → Stops IsUnmarked r
      → Stops IsUnmarked t → value_step ctors (texts (whole y)) ++ r ≡ value_step ctors (texts o) ++ t
      → (whole y ≡ o) × (r ≡ t)
  level (layer.Int m) (layer.Int n) s r t h k p q e =
      let both = one_signed m n r t (small_int m (and_parts _ _ h).1) (small_int n (and_parts _ _ k).1) (no_digit r p)
      (no_digit t q) e in (ap layer.Int both.0, both.1)
  level (layer.Int m) (layer.Bool b) s r t h k p q e = absurd (no_int_bool s (and_parts _ _ h).0 k)
  level (layer.Int m) (layer.Tree d ws) s r t h k p q e = absurd (no_tree m d ws s (slice_get ctors d.0) h k)
    where
      no_tree : (m : ℤ) (d : CtorId) (ws : List Value) (s : Sort) (b : Option Ctor)
          → (same_sort sort.Int s && is_int m) ≡ true → tree_has b (map has ws) s ≡ true → ⊥
      no_tree m d ws s None h k = cc
      no_tree m d ws s (Some b) h k = no_int_tree b.of s (and_parts _ _ h).0 (and_parts _ _ k).0
  level (layer.Bool a) (layer.Int n) s r t h k p q e = absurd (no_int_bool s (and_parts _ _ k).0 h)
  level (layer.Bool a) (layer.Bool b) s r t h k p q e =
      let both = one_truth a b r t e in (ap layer.Bool both.0, both.1)
  level (layer.Bool a) (layer.Tree d ws) s r t h k p q e = absurd (no_tree ws s (slice_get ctors d.0) h k)
    where
      no_tree : (ws : List Value) (s : Sort) (b : Option Ctor) → same_sort sort.Bool s ≡ true
          → tree_has b (map has ws) s ≡ true → ⊥
      no_tree ws s None h k = cc
      no_tree ws s (Some b) h k = no_bool_tree b.of s h (and_parts _ _ k).0
  level (layer.Tree c ys) (layer.Int n) s r t h k p q e = absurd (no_tree (slice_get ctors c.0) h)
    where
      no_tree : (a : Option Ctor) → tree_has a (map has (map value_of ys)) s ≡ true → ⊥
      no_tree None h = cc
      no_tree (Some a) h = no_int_tree a.of s (and_parts _ _ k).0 (and_parts _ _ h).0
  level (layer.Tree c ys) (layer.Bool b) s r t h k p q e = absurd (no_tree (slice_get ctors c.0) h)
    where
      no_tree : (a : Option Ctor) → tree_has a (map has (map value_of ys)) s ≡ true → ⊥
      no_tree None h = cc
      no_tree (Some a) h = no_bool_tree a.of s k (and_parts _ _ h).0
  level (layer.Tree c ys) (layer.Tree d ws) s r t h k p q e =
      let told = tree_told c d ys ws s r t _ _ refl refl h k p q e in
      (ap (λ z. layer.Tree z (map value_of ys)) told.0 ∙ ap (layer.Tree d) told.1, told.2)

  at_level : (y : layer.Value-F Told) → IsTold (roll-Value (whole y))
  at_level y w s r t h k p q e =
      let z = whole y in
      let has_here : has (roll-Value z) s ≡ has_step ctors (tests z) s =
      ap (λ (f : Sort → Bool). f s) (fold-roll-Value (Sort → Bool) (has_step ctors) z) in
      let text_here : text (roll-Value z) ≡ value_step ctors (texts z) =
      fold-roll-Value (List ℕ) (value_step ctors) z in
      let rolled = roll-out-Value w in
      let o = out-Value w in
      let has_there : has w s ≡ has_step ctors (tests o) s =
      ap (λ (v : Value). has v s) (sym rolled)
      ∙ ap (λ (f : Sort → Bool). f s) (fold-roll-Value (Sort → Bool) (has_step ctors) o) in
      let text_there : text w ≡ value_step ctors (texts o) =
      ap text (sym rolled) ∙ fold-roll-Value (List ℕ) (value_step ctors) o in
      let both = level y o s r t (sym has_here ∙ h) (sym has_there ∙ k) p q
      (sym (ap (λ l. l ++ r) text_here) ∙ e ∙ ap (λ l. l ++ t) text_there) in
      (ap roll-Value both.0 ∙ rolled, both.1)

  pub value_told : (v : Value) → IsTold v
  value_told = ind-Value IsTold (λ x y is. subst (λ z. IsTold (roll-Value z)) is (at_level y))

  -- ---- arguments

  abbrev line_end : List Param → List Value → List ℕ
  line_end params values = arguments_text ctors params values ++ 10 ∷ []

  pub end_stops : (ps : List Param) (vs : List Value) → Stops IsUnmarked (line_end ps vs)
  end_stops [] vs = newline_stops
  end_stops (p ∷ ps) [] = newline_stops
  end_stops (p ∷ ps) (v ∷ vs) = comma_stops

  end_split : (p : Param) (ps : List Param) (v : Value) (vs : List Value)
      → line_end (p ∷ ps) (v ∷ vs) ≡ 44 ∷ 32 ∷ (p.name ++ (codes " = " ++ (text v ++ line_end ps vs)))
  end_split p ps v vs =
      ap (λ l. 44 ∷ 32 ∷ l)
      (append_assoc (p.name ++ 32 ∷ 61 ∷ 32 ∷ text v) (arguments_text ctors ps vs) (10 ∷ [])
      ∙ append_assoc p.name (32 ∷ 61 ∷ 32 ∷ text v) (line_end ps vs))

  pub arguments_told : (ps : List Param) (vs ws : List Value) → have_sorts ctors vs (param_sorts ps) ≡ true
      → have_sorts ctors ws (param_sorts ps) ≡ true → line_end ps vs ≡ line_end ps ws → vs ≡ ws
  arguments_told [] [] [] h k e = refl
  arguments_told [] [] (w ∷ ws) h k e = cc
  arguments_told [] (v ∷ vs) ws h k e = cc
  arguments_told (p ∷ ps) [] ws h k e = cc
  arguments_told (p ∷ ps) (v ∷ vs) [] h k e = cc
  arguments_told (p ∷ ps) (v ∷ vs) (w ∷ ws) h k e =
      let m = and_parts (has v p.sort) _ h in
      let n = and_parts (has w p.sort) _ k in
      let same = sym (end_split p ps v vs) ∙ e ∙ end_split p ps w ws in
      let values = append_cancel_left (codes " = ") _ _
      (append_cancel_left p.name _ _ (rest_same (rest_same same))) in
      let one = value_told v w p.sort _ _ m.0 n.0 (end_stops ps vs) (end_stops ps ws) values in
      let others = arguments_told ps vs ws m.1 n.1 one.1 in
      ap (λ z. z ∷ vs) one.0 ∙ ap (λ l. w ∷ l) others
