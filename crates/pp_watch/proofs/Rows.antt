-- Lists of watchers, as a vector of vectors holds them.
use Rattle.std.proofs.Common.{ℕ, zero, suc, ◌+◌, ◌≡◌, ◌∙◌, ◌<◌, ◌≤◌, List, [], ◌∷◌, ◌++◌, Vec, Global, map, length}
use Rattle.std.proofs.Common.{refl, ap, arith, get_or, set, inl, inr, length-set}
use Rattle.std.specs.List.{swap_remove}
use Rattle.std.proofs.lemmas.Bool.{cases_eq, cases_lt}
use Rattle.std.proofs.lemmas.List.{length-map, get_or-set_same, get_or-set_other, get_or_past}
use Rattle.pp_watch.specs.declared.watcher.Watcher.{Watcher}

abbrev pub Row : Type 0
Row = Vec Watcher Global

abbrev pub rows : List Row → List (List Watcher)
rows vs = map (λ (v : Row). v.items) vs

-- a write of a vector is a write of its items
pub rows_set : (vs : List Row) (at : ℕ) (w : Row) (ws : List Watcher) → w.items ≡ ws → rows (set vs at w) ≡ set
    (rows vs) at ws
rows_set [] at w ws e = refl
rows_set (v ∷ vs) zero w ws e = ap (λ (l : List Watcher). l ∷ rows vs) e
rows_set (v ∷ vs) (suc at) w ws e = ap (λ l. v.items ∷ l) (rows_set vs at w ws e)

-- the items of the vector at a place
pub row_at : (vs : List Row) (at : ℕ) (v : Row) → at < length (rows vs) → v ≡ get_or vs at v → v.items ≡ get_or
    (rows vs) at []
row_at [] at v lt e = absurd (omega arith)
row_at (x ∷ xs) zero v lt e = ap (λ (w : Row). w.items) e
row_at (x ∷ xs) (suc at) v lt e = row_at xs at v (omega arith) e

-- the first lists are empty, and no list is lost
pub record AreCleared (vs ws : List Row) (count : ℕ) : Type 0 where
  pub len : length (rows ws) ≡ length (rows vs)
  pub none : (k : ℕ) → k < count → get_or (rows ws) k [] ≡ []

pub cleared_none : (vs : List Row) → AreCleared vs vs 0
cleared_none vs = record { len = refl; none = λ k lt. absurd (omega arith) }

pub cleared_more : (vs ws : List Row) (i : ℕ) (w : Row) → AreCleared vs ws i → i < length ws → w.items ≡ [] →
    AreCleared vs (set ws i w) (i + 1)
cleared_more vs ws i w h lt e =
    let same : rows (set ws i w) ≡ set (rows ws) i [] = rows_set ws i w [] e in
    let long : length (rows ws) ≡ length ws = length-map ws (λ (v : Row). v.items) in
    record {
      len = ap length same ∙ length-set (rows ws) i [] ∙ h.len;
      none = λ k b. elim (cases_eq k i) [
        | inl p ↦ ap (λ (z : List (List Watcher)). get_or z k []) same ∙ ap
            (λ (n : ℕ). get_or (set (rows ws) i []) n []) p ∙ get_or-set_same (rows ws) i [] [] (omega arith)
        | inr n ↦ ap (λ (z : List (List Watcher)). get_or z k []) same ∙ get_or-set_other (rows ws) i k [] [] n
            ∙ h.none k (omega arith)
      ];
    }

pub cleared_all : (vs ws : List Row) (i k : ℕ) → AreCleared vs ws i → length ws ≤ i → get_or (rows ws) k [] ≡ []
cleared_all vs ws i k h le =
    let long : length (rows ws) ≡ length ws = length-map ws (λ (v : Row). v.items) in
    elim (cases_lt k i) [
      | inl lt ↦ h.none k lt
      | inr ge ↦ get_or_past (rows ws) k [] (omega arith)
    ]

-- the items of a vector, in the lists
pub old_row : (vs : List Row) (lists : List (List Watcher)) (i at : ℕ) (v : Row) → rows vs ≡ lists → i ≡ at →
    at < length lists → v ≡ get_or vs i v → v.items ≡ get_or lists at []
old_row vs lists i at v same here lt is =
    let short : i < length (rows vs) = rw (same, here) lt in
    row_at vs i v short is ∙ ap (λ (z : List (List Watcher)). get_or z i []) same ∙ ap
    (λ (n : ℕ). get_or lists n []) here

-- a vector that gets an item more
pub pushed_row : (vs : List Row) (lists : List (List Watcher)) (i at : ℕ) (v w : Row) (x : Watcher) → rows vs
    ≡ lists → i ≡ at → at < length lists →
    v ≡ get_or vs i v → w.items ≡ v.items ++ x ∷ [] → rows (set vs i w) ≡ set lists at (get_or lists at [] ++ x ∷ [])
pushed_row vs lists i at v w x same here lt is e =
    let old = old_row vs lists i at v same here lt is in
    rows_set vs i w (get_or lists at [] ++ x ∷ []) (e ∙ ap (λ (z : List Watcher). z ++ x ∷ []) old)
    ∙ ap (λ (z : List (List Watcher)). set z i (get_or lists at [] ++ x ∷ [])) same
    ∙ ap (λ (n : ℕ). set lists n (get_or lists at [] ++ x ∷ [])) here

-- a vector that loses an item
pub removed_row : (vs : List Row) (lists : List (List Watcher)) (i at : ℕ) (v w : Row) (place : ℕ) (x : Watcher) →
    rows vs ≡ lists → i ≡ at → at < length lists →
    v ≡ get_or vs i v → w.items ≡ swap_remove v.items place x → rows (set vs i w) ≡ set lists at
    (swap_remove (get_or lists at []) place x)
removed_row vs lists i at v w place x same here lt is e =
    let old = old_row vs lists i at v same here lt is in
    rows_set vs i w (swap_remove (get_or lists at []) place x)
    (e ∙ ap (λ (z : List Watcher). swap_remove z place x) old)
    ∙ ap (λ (z : List (List Watcher)). set z i (swap_remove (get_or lists at []) place x)) same
    ∙ ap (λ (n : ℕ). set lists n (swap_remove (get_or lists at []) place x)) here

-- a vector with an item written over
pub written_row : (vs : List Row) (lists : List (List Watcher)) (i at : ℕ) (v w : Row) (place : ℕ) (x : Watcher) →
    rows vs ≡ lists → i ≡ at → at < length lists → v ≡ get_or vs i v → w.items ≡ set v.items place x →
    rows (set vs i w) ≡ set lists at (set (get_or lists at []) place x)
written_row vs lists i at v w place x same here lt is e =
    let old = old_row vs lists i at v same here lt is in
    rows_set vs i w (set (get_or lists at []) place x) (e ∙ ap (λ (z : List Watcher). set z place x) old)
    ∙ ap (λ (z : List (List Watcher)). set z i (set (get_or lists at []) place x)) same
    ∙ ap (λ (n : ℕ). set lists n (set (get_or lists at []) place x)) here
