-- How long a source is at most.
use Rattle.std.proofs.Common.{◌≡◌, ℕ, zero, suc, ◌+◌, ◌*◌, ◌<◌, ◌≤◌, List, [], ◌∷◌, ◌++◌, codes, decimal, length, map}
use Rattle.std.proofs.Common.{refl, arith, length-append}
use Rattle.std.proofs.lemmas.Fmt.{length-decimal-le}
use Rattle.std.specs.List.{concat, range_with_len}
use Rattle.pp_limits.specs.declared.TheConstants.{MOST_SEED}
use Rattle.pp_text.specs.Limits.{most_bytes}
use Rattle.pp_made.specs.Made.{Text, count_with, functions_text, functions_to, opening, made_source, step_with}

abbrev total : List Text → ℕ
total [] = 0
total (text ∷ texts) = length text + total texts

length_concat : (texts : List Text) → length (concat texts) ≡ total texts
length_concat [] = refl
length_concat (text ∷ texts) = omega (arith, length-append text (concat texts), length_concat texts)

-- numbers below 1000 have at most three digits
three_digits : (n : ℕ) → n < 1000 → length (decimal n) ≤ 3
three_digits n h = length-decimal-le 3 n (omega arith) (omega (arith, h)) (omega (arith, h))

count_short : (number bound : ℕ) → number < 1000 → bound < 1000 → length (concat (count_with number bound)) ≤ 250
count_short number bound h k =
    omega (arith, length_concat (count_with number bound), three_digits number h, three_digits bound k)

step_short : (number bound : ℕ) → number < 1000 → bound < 1000 → length (concat (step_with number bound)) ≤ 150
step_short number bound h k =
    omega (arith, length_concat (step_with number bound), three_digits number h, three_digits bound k)

functions_short : (number : ℕ) → number < 900 → length (functions_text number) ≤ 400
functions_short number h =
    let count = count_short number (10 + number) (omega (arith, h)) (omega (arith, h)) in
    let step = step_short number (10 + number) (omega (arith, h)) (omega (arith, h)) in
    let all = length-append (concat (count_with number (10 + number))) (concat (step_with number (10 + number))) in
    omega (arith, count, step, all)

ranges_short : (first count : ℕ) → first + count ≤ 900
    → length (concat (map functions_text (range_with_len first count))) ≤ 400 * count
ranges_short first zero h = omega arith
ranges_short first (suc count) h =
    let now = functions_short first (omega (arith, h)) in
    let later = concat (map functions_text (range_with_len (first + 1) count)) in
    omega (arith, now, length-append (functions_text first) later, ranges_short (first + 1) count (omega (arith, h)))

-- a seed that an option takes has a source that is no longer than a source may be
pub source_short : (seed : ℕ) → seed ≤ MOST_SEED → length (made_source seed) ≤ most_bytes
source_short seed h =
    let functions = ranges_short 1 seed (omega (arith, h)) in
    let ends = length-append (functions_to seed) (codes "}\n") in
    omega (arith, h, functions, ends, length-append opening (functions_to seed ++ codes "}\n"))
