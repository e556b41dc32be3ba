-- How the table of rows and the list of groups grow.
use Rattle.std.proofs.Common.{◌≡◌, ◌↔◌, ◌⊎◌, ◌<◌, ◌+◌, ℕ, zero, suc, Bool, List, [], ◌∷◌, ◌++◌, Some, None, length}
use Rattle.std.proofs.Common.{slice_get, refl, sym, ap, ◌∙◌, subst, arith, inl, inr, IsTrue, length-append}
use Rattle.pp_graph.specs.Reaches.{Reaches}
use Rattle.pp_graph.specs.Rows.{IsRow, Tells, Grouped, bit, group, marked}

bit_old : (rows : List (List Bool)) (row : List Bool) (f g : ℕ) → f < length rows
    → bit (rows ++ row ∷ []) f g ≡ bit rows f g
bit_old [] row f g lt = absurd (omega arith)
bit_old (r ∷ rows) row zero g lt = refl
bit_old (r ∷ rows) row (suc f) g lt = bit_old rows row f g (omega arith)

bit_new : (rows : List (List Bool)) (row : List Bool) (f g : ℕ) → f ≡ length rows
    → bit (rows ++ row ∷ []) f g ≡ marked row g
bit_new [] row zero g e = refl
bit_new [] row (suc f) g e = absurd (omega arith)
bit_new (r ∷ rows) row zero g e = absurd (omega arith)
bit_new (r ∷ rows) row (suc f) g e = bit_new rows row f g (omega arith)

last_or : (k n : ℕ) → k < n + 1 → (k < n) ⊎ (k ≡ n)
last_or zero zero lt = inr refl
last_or zero (suc n) lt = inl (omega arith)
last_or (suc k) zero lt = absurd (omega arith)
last_or (suc k) (suc n) lt =
    elim (last_or k n (omega arith)) [ inl h ↦ inl (omega (arith, h)) | inr e ↦ inr (ap suc e) ]

pub tells_none : (calls : List (List ℕ)) → Tells calls 0 []
tells_none calls = record { size = refl; tells = λ f g lt in_graph. absurd (omega (arith, lt)) }

pub tells_push : (calls : List (List ℕ)) (n : ℕ) (rows : List (List Bool)) (row : List Bool) → Tells calls n rows
    → IsRow calls n row → Tells calls (n + 1) (rows ++ row ∷ [])
tells_push calls n rows row t r = record {
  size = omega (arith, length-append rows (row ∷ []), t.size);
  tells = λ f g lt in_graph. by f g (last_or f n lt) in_graph;
}
  where
    by : (f g : ℕ) → (f < n) ⊎ (f ≡ n) → g < length calls → IsTrue (bit (rows ++ row ∷ []) f g) ↔ Reaches calls f g
    by f g (inl lt) in_graph =
        rw (bit_old rows row f g (omega (arith, t.size))) (t.tells f g lt in_graph)
    by f g (inr e) in_graph =
        rw (bit_new rows row f g (e ∙ sym t.size))
        (subst (λ m. IsTrue (marked row g) ↔ Reaches calls m g) (sym e) (r.tells g in_graph))

pub grouped_none : (rows : List (List Bool)) → Grouped rows 0 []
grouped_none rows = record { size = refl; each = λ f m is. let no : None ≡ Some m = is in cc }

get_push : (xs : List ℕ) (x f m : ℕ) → slice_get (xs ++ x ∷ []) f ≡ Some m → (slice_get xs f ≡ Some m)
    ⊎ ((f ≡ length xs) × (m ≡ x))
get_push [] x zero m e = inr (refl, (cc))
get_push [] x (suc f) m e = let no : None ≡ Some m = e in cc
get_push (y ∷ xs) x zero m e = inl e
get_push (y ∷ xs) x (suc f) m e =
    elim (get_push xs x f m e) [ inl h ↦ inl h | inr h ↦ inr (omega (arith, h.0), h.1) ]

pub grouped_push : (rows : List (List Bool)) (n : ℕ) (groups : List ℕ) → Grouped rows n groups
    → Grouped rows (n + 1) (groups ++ group rows n ∷ [])
grouped_push rows n groups g = record {
  size = omega (arith, length-append groups (group rows n ∷ []), g.size);
  each = λ f m is. by f m (get_push groups (group rows n) f m is);
}
  where
    by : (f m : ℕ) → (slice_get groups f ≡ Some m) ⊎ ((f ≡ length groups) × (m ≡ group rows n)) → (f < n + 1)
        × (m ≡ group rows f)
    by f m (inl h) = let p = g.each f m h in (omega (arith, p.0), p.1)
    by f m (inr h) =
        let e : f ≡ n = h.0 ∙ g.size in (omega (arith, e), h.1 ∙ ap (group rows) (sym e))
