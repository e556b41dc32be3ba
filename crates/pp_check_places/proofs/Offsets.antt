-- Two offsets at which characters of one text begin have two places.
use Rattle.std.proofs.Common.{◌≡◌, ℕ, ◌+◌, ◌-◌, ◌≤◌, Bool, true, false, not, cond, List, [], ◌∷◌, ◌++◌, reverse}
use Rattle.std.proofs.Common.{length, take, drop, count_by, IsUtf8, IsCharBoundary, refl, sym, ap, ◌∙◌, arith, ⊎_elim}
use Rattle.std.specs.Str.{chars}
use Rattle.std.specs.List.{AllByRecursion, prefix_len, suffix_len}
use Rattle.std.proofs.lemmas.Bool.{cases_lt}
use Rattle.std.proofs.lemmas.List.{length-drop, length-take-le, reverse-append}
use Rattle.std.proofs.Math.Seq.{take-add}
use Rattle.std.proofs.lemmas.List.Elements.{All-from_recursion, recursion_from_All}
use Rattle.std.proofs.lemmas.List.Sorted.{All-permutation, IsPermutation-reverse, length_permutation}
use Rattle.std.proofs.lemmas.List.Sums.{suffix_len-le-length, sum_by-append, sum_by-cons}
use Rattle.std.proofs.lemmas.Str.{IsUtf8-between, IsUtf8-take, chars-append, encodes-chars}
use lib.Utf8.{encodes}
use Rattle.pp_text.specs.Place.{column_behind, is_line_feed, line_behind, place_behind_of, place_of}

abbrev goes_on : ℕ → Bool
goes_on c = not (is_line_feed c)

-- where no line feed is counted, each character goes on in its line
one_goes_on : (b : Bool) (n : ℕ) → cond b 1 0 + n ≡ 0 → (not b ≡ true) × (n ≡ 0)
one_goes_on true n none = absurd (omega (arith, none))
one_goes_on false n none = (refl, omega (arith, none))

all_go_on : (cs : List ℕ) → count_by is_line_feed cs ≡ 0 → AllByRecursion (λ c. goes_on c ≡ true) cs
all_go_on [] none = tt
all_go_on (c ∷ cs) none =
    let both = one_goes_on (is_line_feed c) (count_by is_line_feed cs)
    (sym (sum_by-cons (λ x. cond (is_line_feed x) 1 0) c cs) ∙ none) in
    (both.0, all_go_on cs both.1)

prefix_goes_on : (xs ys : List ℕ) → AllByRecursion (λ c. goes_on c ≡ true) xs
    → prefix_len goes_on (xs ++ ys) ≡ length xs + prefix_len goes_on ys
prefix_goes_on [] ys all = omega arith
prefix_goes_on (x ∷ xs) ys all =
    let more = prefix_goes_on xs ys all.1 in
    ap (λ b. cond b (1 + prefix_len goes_on (xs ++ ys)) 0) all.0 ∙ omega (arith, more)

column_is : (cs : List ℕ) → column_behind cs ≡ 1 + suffix_len goes_on cs
column_is cs =
    let le = suffix_len-le-length goes_on cs in
    omega (arith, length-drop (length cs - suffix_len goes_on cs) cs, le)

-- characters that go on in the line move the column on
column_goes_on : (cs ms : List ℕ) → count_by is_line_feed ms ≡ 0
    → column_behind (cs ++ ms) ≡ length ms + column_behind cs
column_goes_on cs ms none =
    let flipped = IsPermutation-reverse ms in
    let all = recursion_from_All (λ c. goes_on c ≡ true) (reverse ms)
    (All-permutation (λ c. goes_on c ≡ true) ms (reverse ms) flipped
    (All-from_recursion (λ c. goes_on c ≡ true) ms (all_go_on ms none))) in
    let whole : suffix_len goes_on (cs ++ ms) ≡ length (reverse ms) + suffix_len goes_on cs =
    ap (prefix_len goes_on) (reverse-append cs ms) ∙ prefix_goes_on (reverse ms) (reverse cs) all in
    omega (arith, column_is (cs ++ ms), column_is cs, whole, length_permutation ms (reverse ms) flipped)

-- the place behind more characters is another
place_moves_on : (cs ms : List ℕ) → place_behind_of (cs ++ ms) ≡ place_behind_of cs → length ms ≡ 0
place_moves_on cs ms same =
    let lines : line_behind (cs ++ ms) ≡ line_behind cs = ap (λ (p : ℕ × ℕ). p.0) same in
    let columns : column_behind (cs ++ ms) ≡ column_behind cs = ap (λ (p : ℕ × ℕ). p.1) same in
    let counts = sum_by-append (λ c. cond (is_line_feed c) 1 0) cs ms in
    let none : count_by is_line_feed ms ≡ 0 = omega (arith, lines, counts) in
    omega (arith, column_goes_on cs ms none, columns)

none_encoded : (cs : List ℕ) → length cs ≡ 0 → encodes cs ≡ []
none_encoded [] none = refl
none_encoded (c ∷ cs) none = absurd (omega (arith, none))

later_same : (text : List ℕ) (o p : ℕ) → IsUtf8 text → IsCharBoundary text o → IsCharBoundary text p → o ≤ p
    → place_of text p ≡ place_of text o → p ≤ o
later_same text o p utf8 begins ends le same =
    let m = p - o in
    let between = take m (drop o text) in
    let far : o + m ≡ p = omega arith in
    let start = IsUtf8-take text o utf8 begins in
    let split : take p text ≡ take o text ++ between = ap (λ n. take n text) (sym far) ∙ take-add o m text in
    let spelt : chars (take p text) ≡ chars (take o text) ++ chars between =
    ap chars split ∙ chars-append (take o text) between start in
    let none = place_moves_on (chars (take o text)) (chars between) (ap place_behind_of (sym spelt) ∙ same) in
    let bytes : between ≡ [] =
    sym (encodes-chars between (IsUtf8-between text o p utf8 le begins ends)) ∙ none_encoded (chars between) none in
    let long : length between ≡ m = length-take-le m (drop o text) (omega (arith, length-drop o text, ends.0)) in
    omega (arith, long, ap length bytes)

-- offsets of one place are the same
pub place_tells_offset : (text : List ℕ) (o p : ℕ) → IsUtf8 text → IsCharBoundary text o → IsCharBoundary text p
    → place_of text o ≡ place_of text p → o ≡ p
place_tells_offset text o p utf8 one two same =
    ⊎_elim (λ lt. let le = later_same text o p utf8 one two (omega arith) (sym same) in omega arith)
    (λ ge. let le = later_same text p o utf8 two one ge same in omega arith) (cases_lt o p)
