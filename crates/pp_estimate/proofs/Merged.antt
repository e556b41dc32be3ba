-- What was counted apart, added.
use Rattle.std.proofs.Common.{◌≡◌, ℕ, zero, suc, List, [], ◌∷◌, ◌++◌, length, replicate, refl, sym, ap, ◌∙◌, arith}
use Rattle.std.proofs.lemmas.List.{length-replicate}
use Rattle.pp_estimate.specs.declared.counts.Counts.{Counts}
use Rattle.pp_estimate.specs.Counted.{Fits, add_at, count_one, counted, plus, plus_each, together, uncounted}
use Rattle.pp_estimate.specs.Cut.{cut}
use Rattle.pp_estimate.specs.Events.{Event, called, compare, look, work}

-- one list of events after another
pub counted_append : (c : Counts) (xs ys : List Event) → counted c (xs ++ ys) ≡ counted (counted c xs) ys
counted_append c [] ys = refl
counted_append c (x ∷ xs) ys = counted_append (count_one c x) xs ys

-- a weight counts as far as it is below the greatest number
pub work_cut : (c : Counts) (a b : ℕ) → cut a ≡ cut b → counted c (work a ∷ []) ≡ counted c (work b ∷ [])
work_cut c a b e =
    let same : plus c.work a ≡ plus c.work b = omega (arith, e) in
    ap (λ (n : ℕ). record { work = n; looks = c.looks; calls = c.calls; compares = c.compares }) same

pub add_at_length : (xs : List ℕ) (i n : ℕ) → length (add_at xs i n) ≡ length xs
add_at_length [] i n = refl
add_at_length (x ∷ xs) zero n = refl
add_at_length (x ∷ xs) (suc i) n = ap suc (add_at_length xs i n)

each_add : (xs ys : List ℕ) (i n : ℕ) → length xs ≡ length ys
    → plus_each xs (add_at ys i n) ≡ add_at (plus_each xs ys) i n
each_add [] ys i n e = refl
each_add (x ∷ xs) [] i n e = absurd (omega arith)
each_add (x ∷ xs) (y ∷ ys) zero n e =
    let same : plus x (plus y n) ≡ plus (plus x y) n = omega arith in ap (λ (z : ℕ). z ∷ plus_each xs ys) same
each_add (x ∷ xs) (y ∷ ys) (suc i) n e = ap (λ (l : List ℕ). plus x y ∷ l) (each_add xs ys i n (omega arith))

each_length : (xs ys : List ℕ) → length (plus_each xs ys) ≡ length xs
each_length [] ys = refl
each_length (x ∷ xs) [] = refl
each_length (x ∷ xs) (y ∷ ys) = ap suc (each_length xs ys)

-- lists of as many datatypes and functions
record Long (n m : ℕ) (c : Counts) : Type 0 where
  looks : length c.looks ≡ n
  calls : length c.calls ≡ m

long_one : (n m : ℕ) (c : Counts) (e : Event) → Long n m c → Long n m (count_one c e)
long_one n m c (work w) l = record { looks = l.looks; calls = l.calls }
long_one n m c (look d) l = record { looks = add_at_length c.looks d.0 1 ∙ l.looks; calls = l.calls }
long_one n m c (called g) l = record { looks = l.looks; calls = add_at_length c.calls g.0 1 ∙ l.calls }
long_one n m c compare l = record { looks = l.looks; calls = l.calls }

module _ (n m : ℕ) where
  together_one : (c d : Counts) (e : Event) → Long n m c → Long n m d
      → together c (count_one d e) ≡ count_one (together c d) e
  together_one c d (work w) p q =
      let same : plus c.work (plus d.work w) ≡ plus (plus c.work d.work) w = omega arith in
      ap (λ (k : ℕ). record {
        work = k;
        looks = plus_each c.looks d.looks;
        calls = plus_each c.calls d.calls;
        compares = plus c.compares d.compares;
      }) same
  together_one c d (look e) p q =
      ap (λ (l : List ℕ). record {
        work = plus c.work d.work;
        looks = l;
        calls = plus_each c.calls d.calls;
        compares = plus c.compares d.compares;
      }) (each_add c.looks d.looks e.0 1 (p.looks ∙ sym q.looks))
  together_one c d (called g) p q =
      ap (λ (l : List ℕ). record {
        work = plus c.work d.work;
        looks = plus_each c.looks d.looks;
        calls = l;
        compares = plus c.compares d.compares;
      }) (each_add c.calls d.calls g.0 1 (p.calls ∙ sym q.calls))
  together_one c d compare p q =
      let same : plus c.compares (plus d.compares 1) ≡ plus (plus c.compares d.compares) 1 = omega arith in
      ap (λ (k : ℕ). record {
        work = plus c.work d.work;
        looks = plus_each c.looks d.looks;
        calls = plus_each c.calls
            d.calls;
        compares = k;
      }) same

  together_all : (c d : Counts) (es : List Event) → Long n m c → Long n m d
      → together c (counted d es) ≡ counted (together c d) es
  together_all c d [] p q = refl
  together_all c d (e ∷ es) p q =
      together_all c (count_one d e) es p (long_one n m d e q)
      ∙ ap (λ (k : Counts). counted k es) (together_one c d e p q)

  long_none : Long n m (uncounted n m)
  long_none = record { looks = length-replicate n 0; calls = length-replicate m 0 }

  long_of : (c : Counts) → Fits n m c → Long n m c
  long_of c f = record { looks = f.looks; calls = f.calls }

  -- events that were counted from nothing
  pub together_is : (c : Counts) (es : List Event) → Fits n m c → together c (counted (uncounted n m) es) ≡ counted c es
  together_is c es f =
      together_all c (uncounted n m) es (long_of c f) long_none ∙ ap (λ (k : Counts). counted k es) f.low

  none_each : (k : ℕ) → plus_each (replicate k 0) (replicate k 0) ≡ replicate k 0
  none_each zero = refl
  none_each (suc k) = ap (λ (l : List ℕ). 0 ∷ l) (none_each k)

  pub fits_none : Fits n m (uncounted n m)
  fits_none = record {
    looks = length-replicate n 0;
    calls = length-replicate m 0;
    low = ap (λ (l : List ℕ). record {
      work = 0;
      looks = l;
      calls = plus_each (replicate m 0) (replicate m 0);
      compares = 0;
    }) (none_each n) ∙ ap (λ (l : List ℕ). record
        { work = 0; looks = replicate n 0; calls = l; compares = 0 }) (none_each m);
  }

  each_low : (xs zs : List ℕ) (i k : ℕ) → plus_each xs zs ≡ xs → length xs ≡ length zs
      → plus_each (add_at xs i k) zs ≡ add_at (plus_each xs zs) i k
  each_low [] zs i k e l = refl
  each_low (x ∷ xs) [] i k e l = absurd (omega arith)
  each_low (x ∷ xs) (z ∷ zs) zero k e l =
      let same : plus (plus x k) z ≡ plus (plus x z) k = omega arith in ap (λ (y : ℕ). y ∷ plus_each xs zs) same
  each_low (x ∷ xs) (z ∷ zs) (suc i) k e l =
      ap (λ (r : List ℕ). plus x z ∷ r) (each_low xs zs i k (cc) (omega arith))

  fits_one : (c : Counts) (e : Event) → Fits n m c → Fits n m (count_one c e)
  fits_one c (work w) f = record {
    looks = f.looks;
    calls = f.calls;
    low = let same : plus (plus c.work w) 0 ≡ plus c.work w = omega arith in
        ap (λ (k : ℕ). record {
          work = k;
          looks = plus_each c.looks (replicate n 0);
          calls = plus_each c.calls
              (replicate m 0);
          compares = plus c.compares 0;
        }) same
        ∙ ap (λ (k : Counts). record { work = plus c.work w; looks = k.looks; calls = k.calls; compares = k.compares })
        f.low;
  }
  fits_one c (look d) f = record {
    looks = add_at_length c.looks d.0 1 ∙ f.looks;
    calls = f.calls;
    low = ap (λ (l : List ℕ). record {
      work = plus c.work 0;
      looks = l;
      calls = plus_each c.calls (replicate m 0);
      compares = plus c.compares 0;
    }) (each_low c.looks (replicate n 0) d.0 1 (ap (λ (k : Counts). k.looks) f.low)
        (f.looks ∙ sym (length-replicate n 0)))
        ∙ ap (λ (k : Counts). record {
          work = k.work;
          looks = add_at k.looks d.0 1;
          calls = k.calls;
          compares = k.compares;
        }) f.low;
  }
  fits_one c (called g) f = record {
    looks = f.looks;
    calls = add_at_length c.calls g.0 1 ∙ f.calls;
    low = ap (λ (l : List ℕ). record {
      work = plus c.work 0;
      looks = plus_each c.looks (replicate n 0);
      calls = l;
      compares = plus c.compares 0;
    }) (each_low c.calls (replicate m 0) g.0 1 (ap (λ (k : Counts). k.calls) f.low)
        (f.calls ∙ sym (length-replicate m 0)))
        ∙ ap (λ (k : Counts). record {
          work = k.work;
          looks = k.looks;
          calls = add_at k.calls g.0 1;
          compares = k.compares;
        }) f.low;
  }
  fits_one c compare f = record {
    looks = f.looks;
    calls = f.calls;
    low = let same : plus (plus c.compares 1) 0 ≡ plus c.compares 1 = omega arith in
        ap (λ (k : ℕ). record {
          work = plus c.work 0;
          looks = plus_each c.looks (replicate n 0);
          calls = plus_each
              c.calls (replicate m 0);
          compares = k;
        }) same
        ∙ ap (λ (k : Counts). record { work = k.work; looks = k.looks; calls = k.calls; compares = plus c.compares 1 })
        f.low;
  }

  pub fits_all : (c : Counts) (es : List Event) → Fits n m c → Fits n m (counted c es)
  fits_all c [] f = f
  fits_all c (e ∷ es) f = fits_all (count_one c e) es (fits_one c e f)
