-- Names that can be declared differ from one another and from the words that can't, and are plain.
use Rattle.std.proofs.Common.{◌≡◌, ◌∙◌, ℕ, zero, suc, ◌≢◌, Bool, true, false, ◌||◌, List, [], ◌∷◌, ◌++◌, Some, Contains}
use Rattle.std.proofs.Common.{get_or, nat_eq, slice_get, refl, sym, ap, subst}
use Rattle.std.proofs.lemmas.Bool.{eqb-false}
use Rattle.std.proofs.lemmas.List.Folds.{list_any-append, list_any_at}
use Rattle.std.proofs.lemmas.List.Quantifiers.{position-Some}
use Rattle.std.proofs.lemmas.Option.{same_Some, slice_get-get_or}
use Rattle.std.proofs.lemmas.Slice.Eq.{bytes_eq-Decides}
use Rattle.std.specs.List.{list_any}
use Rattle.std.specs.Str.{bytes_eq}
use Rattle.pp_declared.specs.WellFormed.{AreNewAfter, is_barred, is_mark, is_taken}
use Rattle.pp_names.specs.Places.{Word, has, place_of}
use Rattle.pp_names.specs.Reserved.{is_reserved}
use Rattle.pp_typed.specs.WellSorted.{IsPlain}

equal_words : (v w : Word) → bytes_eq v w ≡ true → v ≡ w
equal_words v w h = (bytes_eq-Decides v w).0 h

same_word : (w : Word) → bytes_eq w w ≡ true
same_word w = (bytes_eq-Decides w w).1 refl

either_false : (a b : Bool) → (a || b) ≡ false → (a ≡ false) × (b ≡ false)
either_false true b h = cc
either_false false b h = (refl, h)

both_false : (a b : Bool) → a ≡ false → b ≡ false → (a || b) ≡ false
both_false a b h k = ap (λ x. x || b) h ∙ k

-- a name that can be declared after more names can be after fewer
new_after_fewer : (before : List Word) (x w : Word) → is_taken (before ++ x ∷ []) w ≡ false → is_taken before w ≡ false
new_after_fewer before x w h =
    let p = either_false (is_barred w) (has w (before ++ x ∷ [])) h in
    let q = either_false (has w before) (has w (x ∷ [])) (sym (list_any-append (bytes_eq w) before (x ∷ [])) ∙ p.1) in
    both_false (is_barred w) (has w before) p.0 q.0

-- and it isn't the last of these
new_isnt_last : (before : List Word) (w : Word) → is_taken (before ++ w ∷ []) w ≡ false → ⊥
new_isnt_last before w h =
    let p = either_false (is_barred w) (has w (before ++ w ∷ [])) h in
    let q = either_false (has w before) (has w (w ∷ [])) (sym (list_any-append (bytes_eq w) before (w ∷ [])) ∙ p.1) in
    let r = either_false (bytes_eq w w) false q.1 in
    let s : true ≡ false = sym (same_word w) ∙ r.0 in cc

pub name_is_new : (before ws : List Word) → AreNewAfter before ws → (i : ℕ) (w : Word) → slice_get ws i ≡ Some w
    → is_taken before w ≡ false
name_is_new before [] h i w e = cc
name_is_new before (x ∷ ws) h zero w e = subst (λ y. is_taken before y ≡ false) (same_Some x w e) h.0
name_is_new before (x ∷ ws) h (suc i) w e = new_after_fewer before x w (name_is_new (before ++ x ∷ []) ws h.1 i w e)

-- no two of them are one name
pub names_differ : (before ws : List Word) → AreNewAfter before ws → (i j : ℕ) (w : Word) → slice_get ws i ≡ Some w
    → slice_get ws j ≡ Some w → i ≡ j
names_differ before [] h i j w e f = cc
names_differ before (x ∷ ws) h zero zero w e f = refl
names_differ before (x ∷ ws) h zero (suc j) w e f =
    absurd (new_isnt_last before w
    (subst (λ y. is_taken (before ++ y ∷ []) w ≡ false) (same_Some x w e) (name_is_new
    (before ++ x ∷ []) ws h.1 j w f)))
names_differ before (x ∷ ws) h (suc i) zero w e f =
    absurd (new_isnt_last before w
    (subst (λ y. is_taken (before ++ y ∷ []) w ≡ false) (same_Some x w f) (name_is_new
    (before ++ x ∷ []) ws h.1 i w e)))
names_differ before (x ∷ ws) h (suc i) (suc j) w e f =
    ap suc (names_differ (before ++ x ∷ []) ws h.1 i j w e f)

-- each of them can be declared
can_be_declared : (ws : List Word) → AreNewAfter [] ws → (i : ℕ) (w : Word) → slice_get ws i ≡ Some w
    → is_barred w ≡ false
can_be_declared ws h i w e = (either_false (is_barred w) (has w []) (name_is_new [] ws h i w e)).0

-- none of them is a word that can't be declared
pub not_reserved : (ws : List Word) → AreNewAfter [] ws → (i : ℕ) (w v : Word) → slice_get ws i ≡ Some w
    → is_reserved v ≡ true
    → w ≡ v → ⊥
not_reserved ws h i w v e r is =
    let p = either_false (is_reserved w) (list_any is_mark w) (can_be_declared ws h i w e) in
    let q : true ≡ false = sym (ap is_reserved is ∙ r) ∙ p.0 in cc

differs_from : (b n : ℕ) → nat_eq b n ≡ false → b ≢ n
differs_from b n h = eqb-false b n h

no_mark : (b : ℕ) → is_mark b ≡ false → (b ≢ 44) × (b ≢ 91) × (b ≢ 93)
no_mark b h =
    let p = either_false (nat_eq b 44) (nat_eq b 91 || nat_eq b 93) h in
    let q = either_false (nat_eq b 91) (nat_eq b 93) p.1 in
    (differs_from b 44 p.0, differs_from b 91 q.0, differs_from b 93 q.1)

-- what a list has isn't a mark where none of it is
none_marks : (w : Word) → list_any is_mark w ≡ false → (b : ℕ) → Contains w b → is_mark b ≡ false
none_marks w h b has = by (is_mark b) refl
  where
    by : (t : Bool) → is_mark b ≡ t → is_mark b ≡ false
    by true is =
        let at = list_any_at is_mark w has.0 b has.1 (ap is_mark has.2 ∙ is) in
        let never : true ≡ false = sym at ∙ h in cc
    by false is = is

-- each of them is plain
pub names_plain : (ws : List Word) → AreNewAfter [] ws → (i : ℕ) (w : Word) → slice_get ws i ≡ Some w → IsPlain w
names_plain ws h i w e b here =
    let p = either_false (is_reserved w) (list_any is_mark w) (can_be_declared ws h i w e) in
    no_mark b (none_marks w p.1 b here)

-- the name at the place that was found
pub found_at : (w : Word) (ws : List Word) (i : ℕ) → place_of w ws ≡ Some i → slice_get ws i ≡ Some w
found_at w ws i e =
    let p = position-Some (bytes_eq w) ws i [] e in
    slice_get-get_or ws i [] p.0 ∙ ap Some (sym (equal_words w (get_or ws i []) p.1))
