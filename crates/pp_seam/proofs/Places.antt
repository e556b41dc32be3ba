-- What a path holds, by the place at which it stands.
use Rattle.std.proofs.Common.{◌≡◌, ℕ, zero, suc, ◌<◌, ◌≤◌, List, [], ◌∷◌, ◌++◌, Bool, true, false, cond, Option, Some}
use Rattle.std.proofs.Common.{None, option_map, IfNone, length, get_or, set, slice_get, position, find, nat_lt}
use Rattle.std.proofs.Common.{bytes_eq, string_bytes, unwrap_or, refl, ap, sym, subst, ◌∙◌, arith}
use Rattle.std.specs.List.{position_or_len}
use Rattle.std.specs.Option.{option_or}
use Rattle.std.proofs.lemmas.Bool.Decides.{nat_tests}
use Rattle.std.proofs.lemmas.Slice.Eq.{bytes_eq-Decides}
use Rattle.std.proofs.lemmas.List.Folds.{find_at, find-set, find_past, find-append}
use Rattle.std.proofs.lemmas.List.Sums.{passes_at_first}
use Rattle.std.proofs.lemmas.Option.{slice_get-map, slice_get-get_or}
use Rattle.pp_seam.specs.Entries.{entry_of, entries_of}
use Rattle.pp_seam.specs.Shelved.{held_in, bytes_at}
use Rattle.pp_seam.specs.declared.entries.Entry.{Entry}

-- an entry is that of the path
abbrev pub is_at : List ℕ → Entry → Bool
is_at path e = bytes_eq (string_bytes e.path) path

-- the entry of a path stands at this place
pub record StandsAt (path : List ℕ) (es : List Entry) (i : ℕ) : Type 0 where
  pub first : i ≡ position_or_len (is_at path) es
  pub within : i < length es

same_bytes : (xs ys : List ℕ) → bytes_eq xs ys ≡ true → xs ≡ ys
same_bytes xs ys h = (bytes_eq-Decides xs ys).0 h

pub stands_at : (path : List ℕ) (es : List Entry) (i : ℕ) → position (is_at path) es ≡ Some i → StandsAt path es i
stands_at path es i h =
    let both : (i ≡ position_or_len (is_at path) es) × (i < length es) =
    by (position_or_len (is_at path) es) (length es) h in
    record { first = both.0; within = both.1 }
  where
    by : (n l : ℕ) → cond (nat_lt n l) (Some n) None ≡ Some i → (i ≡ n) × (i < l)
    by n l e = (grind (arith, nat_tests), grind (arith, nat_tests))

-- what a path holds is what its first entry has
held_by : (es : List Entry) (path : List ℕ)
    → held_in (entries_of es) path ≡ option_map (λ e. e.bytes.items) (find (is_at path) es)
held_by [] path = refl
held_by (e ∷ es) path = by (is_at path e) (held_by es path)
  where
    by : (b : Bool) → held_in (entries_of es) path ≡ option_map (λ e. e.bytes.items) (find (is_at path) es)
        → option_map (λ e. e.1) (cond b (Some (entry_of e)) (find (λ e. bytes_eq e.0 path) (entries_of es))) ≡
        option_map (λ e. e.bytes.items) (cond b (Some e) (find (is_at path) es))
    by true h = refl
    by false h = h

found_at : (path : List ℕ) (es : List Entry) (i : ℕ) (e : Entry) → StandsAt path es i → e ≡ get_or es i e
    → find (is_at path) es ≡ Some e
found_at path es i e at is =
    find_at (is_at path) es ∙ ap (slice_get es) (sym at.first) ∙ slice_get-get_or es i e at.within ∙ ap Some (sym is)

-- the path of the entry at its place
path_at : (path : List ℕ) (es : List Entry) (i : ℕ) (e : Entry) → StandsAt path es i → e ≡ get_or es i e
    → string_bytes e.path ≡ path
path_at path es i e at is =
    let here : is_at path (get_or es i e) ≡ true =
    subst (λ k. is_at path (get_or es k e) ≡ true) (sym at.first)
    (passes_at_first (is_at path) es e (subst (λ k. k < length es) at.first at.within)) in
    same_bytes _ _ (ap (is_at path) is ∙ here)

pub held_at : (path : List ℕ) (es : List Entry) (i : ℕ) (e : Entry) → StandsAt path es i → e ≡ get_or es i e
    → held_in (entries_of es) path ≡ Some e.bytes.items
held_at path es i e at is = held_by es path ∙ ap (option_map (λ e. e.bytes.items)) (found_at path es i e at is)

pub bytes_at_place : (es : List Entry) (i : ℕ) (e : Entry) → i < length es → e ≡ get_or es i e
    → bytes_at (entries_of es) i ≡ e.bytes.items
bytes_at_place es i e h is =
    ap (λ o. unwrap_or (option_map (λ e. e.1) o) [])
    (slice_get-map entry_of es i ∙ ap (option_map entry_of) (slice_get-get_or es i e h ∙ ap Some (sym is)))

-- no entry is that of a path without a place
unfound : (path : List ℕ) (es : List Entry) → position (is_at path) es ≡ None → find (is_at path) es ≡ None
unfound path es h = find_at (is_at path) es ∙ by (position_or_len (is_at path) es) h
  where
    beyond : (es : List Entry) (n : ℕ) → length es ≤ n → slice_get es n ≡ None
    beyond [] n h = refl
    beyond (x ∷ es) zero h = absurd (omega arith)
    beyond (x ∷ es) (suc n) h = beyond es n (omega arith)

    by : (n : ℕ) → cond (nat_lt n (length es)) (Some n) None ≡ None → slice_get es n ≡ None
    by n e = beyond es n (grind (arith, nat_tests))

pub unheld : (path : List ℕ) (es : List Entry) → position (is_at path) es ≡ None → held_in (entries_of es) path ≡ None
unheld path es h = held_by es path ∙ ap (option_map (λ e. e.bytes.items)) (unfound path es h)

-- a write at the place of a path
pub held_written : (path : List ℕ) (es : List Entry) (i : ℕ) (e y : Entry) → StandsAt path es i → e ≡ get_or es i e
    → string_bytes y.path ≡ string_bytes e.path → held_in (entries_of (set es i y)) path ≡ Some y.bytes.items
held_written path es i e y at is same =
    let hits : is_at path y ≡ true = (bytes_eq-Decides _ _).1 (same ∙ path_at path es i e at is) in
    held_by (set es i y) path
    ∙ ap (option_map (λ e. e.bytes.items)) (find-set (is_at path) es i y at.first at.within hits)

pub kept_written : (path : List ℕ) (es : List Entry) (i : ℕ) (e y : Entry) (p : List ℕ) → StandsAt path es i
    → e ≡ get_or es i e → string_bytes y.path ≡ string_bytes e.path → bytes_eq path p ≡ false
    → held_in (entries_of (set es i y)) p ≡ held_in (entries_of es) p
kept_written path es i e y p at is same other =
    let misses : is_at p e ≡ false = ap (λ n. bytes_eq n p) (path_at path es i e at is) ∙ other in
    held_by (set es i y) p ∙ ap (option_map (λ e. e.bytes.items))
    (find_past (is_at p) es i y e (ap (is_at p) (sym is) ∙ misses) (ap (λ n. bytes_eq n p) same ∙ misses))
    ∙ sym (held_by es p)

-- an entry behind all others
pub held_pushed : (path : List ℕ) (es : List Entry) (y : Entry) → position (is_at path) es ≡ None → is_at path y ≡ true
    → held_in (entries_of (es ++ y ∷ [])) path ≡ Some y.bytes.items
held_pushed path es y none hits =
    held_by (es ++ y ∷ []) path
    ∙ ap (option_map (λ e. e.bytes.items))
    (find-append (is_at path) es (y ∷ [])
    ∙ ap (λ o. option_or o (find (is_at path) (y ∷ []))) (unfound path es none)
    ∙ ap (λ b. cond b (Some y) None) hits)

pub kept_pushed : (path : List ℕ) (es : List Entry) (y : Entry) (p : List ℕ) → string_bytes y.path ≡ path
    → bytes_eq path p ≡ false → held_in (entries_of (es ++ y ∷ [])) p ≡ held_in (entries_of es) p
kept_pushed path es y p is other =
    held_by (es ++ y ∷ []) p
    ∙ ap (option_map (λ e. e.bytes.items))
    (find-append (is_at p) es (y ∷ [])
    ∙ ap (λ b. option_or (find (is_at p) es) (cond b (Some y) None)) (ap (λ n. bytes_eq n p) is ∙ other)
    ∙ option_or_none (find (is_at p) es)) ∙ sym (held_by es p)
  where
    option_or_none : (o : Option Entry) → option_or o None ≡ o
    option_or_none None = refl
    option_or_none (Some x) = refl

pub if_none : {T P : Type 0} (o : Option T) → P → IfNone o P
if_none None h = h
if_none (Some x) h = tt
