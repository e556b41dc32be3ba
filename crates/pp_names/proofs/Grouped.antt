-- Places that are grouped by the numbers that stand there.
use Rattle.std.proofs.Common.{◌≡◌, ◌∙◌, ℕ, zero, suc, ◌+◌, ◌<◌, ◌≢◌, Bool, true, false, List, [], ◌∷◌, ◌++◌, map}
use Rattle.std.proofs.Common.{length, refl, sym, ap, subst, arith, get_or, slice_set, nat_eq, if◌then◌else◌, Vec}
use Rattle.std.proofs.Common.{Global, add-one, add-zero, ◌⊎◌, inl, inr, take}
use Rattle.std.proofs.lemmas.Bool.Decides.{eqb_tells}
use Rattle.std.proofs.lemmas.List.{length-take-le, length-map, get_or-map}
use Rattle.std.proofs.Math.Seq.{take-suc}
use Rattle.pp_names.specs.Places.{places_from, pushed_at, grouped_from}

abbrev Places : Type 0
Places = Vec ℕ Global

-- a write of a list with an item more is a push there
pub items_set : (vs : List Places) (at n : ℕ) (v w : Places) → at < length vs → v ≡ get_or vs at v
    → w.items ≡ v.items ++ n ∷ []
    → map (λ (x : Places). x.items) (slice_set vs at w) ≡ pushed_at (map (λ (x : Places). x.items) vs) at n
items_set [] at n v w lt g e = absurd (omega arith)
items_set (x ∷ xs) zero n v w lt g e = ap (λ l. l ∷ map (λ (y : Places). y.items) xs) (e
    ∙ ap (λ (y : Places). y.items ++ n ∷ []) g)
items_set (x ∷ xs) (suc at) n v w lt g e = ap (λ l. x.items ∷ l) (items_set xs at n v w (omega arith) g e)

pub length-grouped_from : (r count : ℕ) (ns : List ℕ) → length (grouped_from r count ns) ≡ count
length-grouped_from r zero ns = refl
length-grouped_from r (suc count) ns = let e = length-grouped_from (r + 1) count ns in grind (arith, e)

pub grouped_from-empty : (r count : ℕ) → grouped_from r (suc count) [] ≡ grouped_from r count [] ++ [] ∷ []
grouped_from-empty r zero = refl
grouped_from-empty r (suc count) = ap (λ l. [] ∷ l) (grouped_from-empty (r + 1) count)

-- one more number adds its place where it is the number that is looked for
by_test : (b c : Bool) (at m : ℕ) (old more : List ℕ)
    → (if b then at ∷ (if c then old ++ m ∷ [] else old) else (if c then old ++ m ∷ [] else old))
    ≡ (if c then (if b then at ∷ old else old) ++ m ∷ [] else (if b then at ∷ old else old))
by_test true true at m old more = refl
by_test true false at m old more = refl
by_test false true at m old more = refl
by_test false false at m old more = refl

places_from-push : (at n m : ℕ) (ns : List ℕ)
    → places_from at n (ns ++ m ∷ []) ≡ (if nat_eq m n then places_from at n ns ++ (at + length ns) ∷ []
    else places_from at n ns)
places_from-push at n m [] = ap (λ k. if nat_eq m n then k ∷ [] else []) (sym (add-zero at))
places_from-push at n m (k ∷ ns) =
    let rest = places_from-push (at + 1) n m ns
    ∙ ap (λ q. if nat_eq m n then places_from (at + 1) n ns ++ q ∷ [] else places_from (at + 1) n ns)
    (omega arith) in
    ap (λ l. if nat_eq k n then at ∷ l else l) rest
    ∙ by_test (nat_eq k n) (nat_eq m n) at (at + suc (length ns)) (places_from (at + 1) n ns) []

same_place : (at n m : ℕ) (ns : List ℕ) → m ≡ n
    → places_from at n (ns ++ m ∷ []) ≡ places_from at n ns ++ (at + length ns) ∷ []
same_place at n m ns e = by (eqb_tells m n)
  where
    by : ((nat_eq m n ≡ true) × (m ≡ n)) ⊎ ((nat_eq m n ≡ false) × (m ≢ n))
        → places_from at n (ns ++ m ∷ []) ≡ places_from at n ns ++ (at + length ns) ∷ []
    by (inl h) = places_from-push at n m ns
        ∙ ap (λ b. if b then places_from at n ns ++ (at + length ns) ∷ [] else places_from at n ns) h.0
    by (inr h) = absurd (h.1 e)

other_place : (at n m : ℕ) (ns : List ℕ) → m ≢ n → places_from at n (ns ++ m ∷ []) ≡ places_from at n ns
other_place at n m ns e = by (eqb_tells m n)
  where
    by : ((nat_eq m n ≡ true) × (m ≡ n)) ⊎ ((nat_eq m n ≡ false) × (m ≢ n))
        → places_from at n (ns ++ m ∷ []) ≡ places_from at n ns
    by (inl h) = absurd (e h.1)
    by (inr h) = places_from-push at n m ns
        ∙ ap (λ b. if b then places_from at n ns ++ (at + length ns) ∷ [] else places_from at n ns) h.0

above_all : (r count m : ℕ) (ns : List ℕ) → m < r → grouped_from r count (ns ++ m ∷ []) ≡ grouped_from r count ns
above_all r zero m ns lt = refl
above_all r (suc count) m ns lt =
    let e = other_place 0 r m ns (λ h. omega arith) in let f = above_all (r + 1) count m ns (omega arith) in cc

grouped_push_from : (r count at m : ℕ) (ns : List ℕ) → m ≡ r + at → at < count
    → pushed_at (grouped_from r count ns) at (length ns) ≡ grouped_from r count (ns ++ m ∷ [])
grouped_push_from r zero at m ns e lt = absurd (omega arith)
grouped_push_from r (suc count) zero m ns e lt =
    let a : places_from 0 r (ns ++ m ∷ []) ≡ places_from 0 r ns ++ length ns ∷ [] =
    same_place 0 r m ns (e ∙ add-zero r) ∙ ap (λ n. places_from 0 r ns ++ n ∷ []) (omega arith) in
    let b = above_all (r + 1) count m ns (omega arith) in cc
grouped_push_from r (suc count) (suc at) m ns e lt =
    let a = other_place 0 r m ns (λ h. omega arith) in let b =
    grouped_push_from (r + 1) count at m ns (omega arith) (omega arith) in cc

-- a turn of the loop that goes over the numbers
pub grouped_turn : (lists more : List (List ℕ)) (count i m : ℕ) (ns : List ℕ) → i < length ns → m ≡ get_or ns i 0
    → m < count
    → lists ≡ grouped_from 0 count (take i ns) → more ≡ pushed_at lists m i
    → more ≡ grouped_from 0 count (take (i + 1) ns)
grouped_turn lists more count i m ns lt is within before push =
    push ∙ ap (λ l. pushed_at l m i) before
    ∙ ap (pushed_at (grouped_from 0 count (take i ns)) m) (sym (length-take-le i ns (omega arith)))
    ∙ grouped_push_from 0 count m m (take i ns) (omega arith) within
    ∙ ap (λ k. grouped_from 0 count (take i ns ++ k ∷ [])) is
    ∙ ap (grouped_from 0 count) (sym (ap (λ k. take k ns) (add-one i) ∙ take-suc ns i 0 lt))

grouped_at : (r count i : ℕ) (ns d : List ℕ) → i < count
    → get_or (grouped_from r count ns) i d ≡ places_from 0 (r + i) ns
grouped_at r zero i ns d lt = absurd (omega arith)
grouped_at r (suc count) zero ns d lt = ap (λ k. places_from 0 k ns) (sym (add-zero r))
grouped_at r (suc count) (suc i) ns d lt = grouped_at (r + 1) count i ns d (omega arith)
    ∙ ap (λ k. places_from 0 k ns) (omega arith)

-- there is a list for each number below the bound, and it holds the places of the number
pub group_within : (vs : List Places) (count i : ℕ) (ns : List ℕ) → i < count
    → map (λ (x : Places). x.items) vs ≡ grouped_from 0 count ns → i < length vs
group_within vs count i ns lt e =
    subst (λ n. i < n) (sym (sym (length-map vs (λ (x : Places). x.items)) ∙ ap length e
    ∙ length-grouped_from 0 count ns)) lt

pub group_places : (vs : List Places) (count i : ℕ) (ns : List ℕ) (v : Places) → i < count
    → map (λ (x : Places). x.items) vs ≡ grouped_from 0 count ns
    → v ≡ get_or vs i v → v.items ≡ places_from 0 i ns
group_places vs count i ns v lt e is =
    ap (λ (x : Places). x.items) is
    ∙ sym (get_or-map (λ (x : Places). x.items) vs i v [] (group_within vs count i ns lt e))
    ∙ ap (λ l. get_or l i []) e
    ∙ grouped_at 0 count i ns [] lt ∙ ap (λ k. places_from 0 k ns) (omega arith)
