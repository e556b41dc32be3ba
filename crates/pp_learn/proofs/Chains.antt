-- Chains that grow at their end.
use Rattle.std.proofs.Common.{ℕ, zero, suc, ◌-◌, ◌≡◌, ◌<◌, ◌≤◌, List, [], ◌∷◌, ◌++◌, Option, Some, None, sym, refl, ap}
use Rattle.std.proofs.Common.{◌∙◌, arith, length, All}
use Rattle.std.specs.Prelude.{slice_get}
use Rattle.std.specs.Option.{option_and_then}
use Rattle.std.proofs.lemmas.Option.{slice_get_within, same_Some}
use Rattle.std.proofs.lemmas.List.Elements.{All-nil, All-cons}
use Rattle.pp_clause.specs.Literal.{Literal}
use Rattle.pp_clause.specs.Derivation.{numbered, resolvent, reached_by, derived_by}
use Rattle.pp_clause.proofs.Soundness.{then_some}

-- a function after two others
then_then : (o : Option (List Literal)) (f g h : List Literal → Option (List Literal))
    → ((x : List Literal) → g x ≡ option_and_then h (f x))
    → option_and_then g o ≡ option_and_then h (option_and_then f o)
then_then None f g h e = refl
then_then (Some x) f g h e = e x

-- what one more number makes of what was reached
abbrev next_by : List (List Literal) → ℕ → List Literal → Option (List Literal)
next_by cs n xs = option_and_then (λ c. resolvent xs c) (numbered cs n)

then_itself : (o : Option (List Literal)) → option_and_then (λ (x : List Literal). Some x) o ≡ o
then_itself None = refl
then_itself (Some x) = refl

one_by : (cs : List (List Literal)) (n : ℕ) (xs : List Literal) → reached_by cs xs (n ∷ []) ≡ next_by cs n xs
unfolding reached_by
one_by cs n xs = by_number (numbered cs n)
  where
    by_number : (o : Option (List Literal)) → option_and_then
        (λ c. option_and_then (λ next. Some next) (resolvent xs c)) o ≡ option_and_then (λ c. resolvent xs c) o
    by_number None = refl
    by_number (Some c) = then_itself (resolvent xs c)

reached_more : (cs : List (List Literal)) (xs : List Literal) (ns : List ℕ) (n : ℕ)
    → reached_by cs xs (ns ++ n ∷ []) ≡ option_and_then (next_by cs n) (reached_by cs xs ns)
unfolding reached_by
reached_more cs xs [] n = one_by cs n xs
reached_more cs xs (k ∷ ks) n =
    then_then (numbered cs k) (λ c. option_and_then (λ next. reached_by cs next ks) (resolvent xs c))
    (λ c. option_and_then (λ next. reached_by cs next (ks ++ n ∷ [])) (resolvent xs c)) (next_by cs n)
    (λ c. then_then (resolvent xs c) (λ next. reached_by cs next ks) (λ next. reached_by cs next (ks ++ n ∷ []))
    (next_by cs n) (λ next. reached_more cs next ks n))

derived_more : (cs : List (List Literal)) (ns : List ℕ) (n : ℕ) → 0 < length ns
    → derived_by cs (ns ++ n ∷ []) ≡ option_and_then (next_by cs n) (derived_by cs ns)
unfolding derived_by
derived_more cs [] n h = absurd (omega arith)
derived_more cs (k ∷ ks) n h =
    then_then (numbered cs k) (λ c. reached_by cs c ks) (λ c. reached_by cs c (ks ++ n ∷ [])) (next_by cs n)
    (λ c. reached_more cs c ks n)

-- the numbers of a chain that derives something are clause numbers
numbered_low : (cs : List (List Literal)) (n : ℕ) (c : List Literal) → numbered cs n ≡ Some c → 1 ≤ n
numbered_low cs zero c h = absurd (let f : None ≡ Some c = h in cc)
numbered_low cs (suc n) c h = omega arith

reached_numbers : (cs : List (List Literal)) (ns : List ℕ) (xs found : List Literal) → reached_by cs xs ns ≡ Some found
    → All (λ n. 1 ≤ n) ns
unfolding reached_by
reached_numbers cs [] xs found h = All-nil (λ n. 1 ≤ n)
reached_numbers cs (n ∷ ns) xs found h =
    let p = then_some (numbered cs n) (λ c. option_and_then (λ next. reached_by cs next ns) (resolvent xs c)) found h in
    let q = then_some (resolvent xs p.0) (λ next. reached_by cs next ns) found p.2 in
    All-cons (λ n. 1 ≤ n) n ns (numbered_low cs n p.0 p.1) (reached_numbers cs ns q.0 found q.2)

pub derived_some : (cs : List (List Literal)) (ns : List ℕ) (found : List Literal) → derived_by cs ns ≡ Some found
    → 0 < length ns
unfolding derived_by
derived_some cs [] found h = absurd (let f : None ≡ Some found = h in cc)
derived_some cs (n ∷ ns) found h = omega arith

pub derived_numbers : (cs : List (List Literal)) (ns : List ℕ) (found : List Literal) → derived_by cs ns ≡ Some found
    → All (λ n. 1 ≤ n) ns
unfolding derived_by
derived_numbers cs [] found h = All-nil (λ n. 1 ≤ n)
derived_numbers cs (n ∷ ns) found h =
    let p = then_some (numbered cs n) (λ c. reached_by cs c ns) found h in
    All-cons (λ n. 1 ≤ n) n ns (numbered_low cs n p.0 p.1) (reached_numbers cs ns p.0 found p.2)

-- a chain of one number
pub derived_one : (cs : List (List Literal)) (n : ℕ) (c : List Literal) → numbered cs n ≡ Some c
    → derived_by cs (n ∷ []) ≡ Some c
unfolding derived_by reached_by
derived_one cs n c h = ap (option_and_then (λ (x : List Literal). Some x)) h

-- one more step
pub derived_push : (cs : List (List Literal)) (ns : List ℕ) (n : ℕ) (found c next : List Literal)
    → derived_by cs ns ≡ Some found → numbered cs n ≡ Some c → resolvent found c ≡ Some next
    → derived_by cs (ns ++ n ∷ []) ≡ Some next
derived_push cs ns n found c next h e r =
    derived_more cs ns n (derived_some cs ns found h) ∙ ap (option_and_then (next_by cs n)) h
    ∙ ap (option_and_then (λ z. resolvent found z)) e ∙ r

-- where a number is that of a clause
pub numbered_within : (cs : List (List Literal)) (n : ℕ) (c : List Literal) → numbered cs n ≡ Some c → (1 ≤ n)
    × (n ≤ length cs) × (slice_get cs (n - 1) ≡ Some c)
numbered_within cs zero c h = absurd (let f : None ≡ Some c = h in cc)
numbered_within cs (suc n) c h =
    let one : suc n - 1 ≡ n = omega arith in
    let inside : n < length cs = slice_get_within cs n c h in
    (omega arith, omega arith, ap (slice_get cs) one ∙ h)

pub numbered_is : (cs : List (List Literal)) (n : ℕ) (c got : List Literal) → numbered cs n ≡ Some c
    → slice_get cs (n - 1) ≡ Some got → got ≡ c
numbered_is cs n c got h e = same_Some got c (sym e ∙ (numbered_within cs n c h).2)
