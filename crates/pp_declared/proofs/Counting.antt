-- How often owners occur.
use Rattle.std.proofs.Common.{◌≡◌, ◌≢◌, ◌∙◌, ℕ, zero, suc, ◌+◌, ◌<◌, ◌⊎◌, inl, inr, true, false, List, [], ◌∷◌, ◌++◌}
use Rattle.std.proofs.Common.{count_by, nat_eq, slice_set, get_or, length, refl, sym, ap, arith, add-zero}
use Rattle.std.proofs.Common.{if◌then◌else◌}
use Rattle.std.proofs.lemmas.Bool.Decides.{eqb_tells}
use Rattle.std.proofs.lemmas.List.Sums.{sum_by_push}
use Rattle.pp_declared.specs.Counts.{counts_from}

pub length-counts_from : (r n : ℕ) (os : List ℕ) → length (counts_from r n os) ≡ n
length-counts_from r zero os = refl
length-counts_from r (suc n) os = ap suc (length-counts_from (r + 1) n os)

pub counts_none : (r n : ℕ) → counts_from r n [] ++ 0 ∷ [] ≡ counts_from r (suc n) []
counts_none r zero = refl
counts_none r (suc n) = ap (λ l. 0 ∷ l) (counts_none (r + 1) n)

count_at_from : (r n i : ℕ) (os : List ℕ) (d : ℕ) → i < n
    → get_or (counts_from r n os) i d ≡ count_by (nat_eq (r + i)) os
count_at_from r zero i os d lt = absurd (omega arith)
count_at_from r (suc n) zero os d lt = ap (λ k. count_by (nat_eq k) os) (sym (add-zero r))
count_at_from r (suc n) (suc i) os d lt = count_at_from (r + 1) n i os d (omega arith)
    ∙ ap (λ k. count_by (nat_eq k) os) (omega arith)

pub count_within : (cs : List ℕ) (n i : ℕ) (os : List ℕ) → cs ≡ counts_from 0 n os → i < n → i < length cs
count_within cs n i os e lt = omega (arith, ap length e, length-counts_from 0 n os)

pub count_at : (cs : List ℕ) (n i : ℕ) (os : List ℕ) (d : ℕ) → cs ≡ counts_from 0 n os → i < n
    → get_or cs i d ≡ count_by (nat_eq i) os
count_at cs n i os d e lt = ap (λ l. get_or l i d) e ∙ count_at_from 0 n i os d lt
    ∙ ap (λ k. count_by (nat_eq k) os) (omega arith)

count_more : (r m : ℕ) (os : List ℕ) → m ≡ r → count_by (nat_eq r) (os ++ m ∷ []) ≡ count_by (nat_eq r) os + 1
count_more r m os e =
    by (eqb_tells r m)
  where
    by : ((nat_eq r m ≡ true) × (r ≡ m)) ⊎ ((nat_eq r m ≡ false) × (r ≢ m))
        → count_by (nat_eq r) (os ++ m ∷ []) ≡ count_by (nat_eq r) os + 1
    by (inl h) = sum_by_push (λ k. if nat_eq r k then 1 else 0) os m
        ∙ ap (λ b. count_by (nat_eq r) os + (if b then 1 else 0)) h.0
    by (inr h) = absurd (h.1 (sym e))

count_same : (r m : ℕ) (os : List ℕ) → m ≢ r → count_by (nat_eq r) (os ++ m ∷ []) ≡ count_by (nat_eq r) os
count_same r m os e =
    by (eqb_tells r m)
  where
    by : ((nat_eq r m ≡ true) × (r ≡ m)) ⊎ ((nat_eq r m ≡ false) × (r ≢ m))
        → count_by (nat_eq r) (os ++ m ∷ []) ≡ count_by (nat_eq r) os
    by (inl h) = absurd (e (sym h.1))
    by (inr h) =
        sum_by_push (λ k. if nat_eq r k then 1 else 0) os m
        ∙ ap (λ b. count_by (nat_eq r) os + (if b then 1 else 0)) h.0
        ∙ omega arith

counts_above : (r n m : ℕ) (os : List ℕ) → m < r → counts_from r n (os ++ m ∷ []) ≡ counts_from r n os
counts_above r zero m os lt = refl
counts_above r (suc n) m os lt = let a = count_same r m os (λ h. omega arith) in let b =
    counts_above (r + 1) n m os (omega arith) in cc

counts_set_from : (r n i m : ℕ) (os : List ℕ) → m ≡ r + i → i < n
    → slice_set (counts_from r n os) i (count_by (nat_eq m) os + 1) ≡ counts_from r n (os ++ m ∷ [])
counts_set_from r zero i m os e lt = absurd (omega arith)
counts_set_from r (suc n) zero m os e lt =
    let same : m ≡ r = e ∙ add-zero r in
    let a : count_by (nat_eq m) os + 1 ≡ count_by (nat_eq r) (os ++ m ∷ []) =
    ap (λ k. count_by (nat_eq k) os + 1) same ∙ sym (count_more r m os same) in
    let b = counts_above (r + 1) n m os (omega arith) in cc
counts_set_from r (suc n) (suc i) m os e lt =
    let a = count_same r m os (λ h. omega arith) in let b =
    counts_set_from (r + 1) n i m os (omega arith) (omega arith) in cc

pub counts_set : (n m : ℕ) (os : List ℕ) → m < n → slice_set (counts_from 0 n os) m (count_by (nat_eq m) os + 1)
    ≡ counts_from 0 n (os ++ m ∷ [])
counts_set n m os lt = counts_set_from 0 n m m os (omega arith) lt
