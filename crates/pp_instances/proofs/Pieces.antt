-- Printed names, piece by piece.
use Rattle.std.proofs.Common.{◌≡◌, ℕ, zero, suc, ◌+◌, ◌<◌, ◌≤◌, List, [], ◌∷◌, ◌++◌, map, take, drop, length, get_or}
use Rattle.std.proofs.Common.{refl, sym, ap, ◌∙◌, append_assoc, arith}
use Rattle.std.proofs.lemmas.List.{take_more, take_all, map_push}
use Rattle.pp_list.specs.Joined.{joined}
use Rattle.pp_list.proofs.Joined.{joined_push, two_parts}
use Rattle.pp_instances.specs.Names.{after_comma, bracketed, printed_later, printed_sort}
use Rattle.pp_typed.specs.declared.sort.GenericSort.{GenericSort}
use Rattle.pp_typed.specs.declared.typed.Typed.{Typed}

after_first : {A : Type 0} (xs ys : List A) → 1 ≤ length xs → drop 1 (xs ++ ys) ≡ drop 1 xs ++ ys
after_first [] ys h = absurd (omega (arith, h))
after_first (x ∷ xs) ys h = refl

some_taken : {A : Type 0} (xs : List A) (i : ℕ) → 1 ≤ i → i < length xs → 1 ≤ length (take i xs)
some_taken [] i h lt = absurd (omega (arith, lt))
some_taken (x ∷ xs) zero h lt = absurd (omega (arith, h))
some_taken (x ∷ xs) (suc i) h lt = omega arith

module _ (typed : Typed) where
  -- one more sort after a comma
  pub later_more : (xs : List GenericSort) (i : ℕ) (x : GenericSort) (start : List ℕ) {mid comma end : List ℕ} → 1 ≤ i
      → i < length xs
      → x ≡ get_or xs i x → mid ≡ start ++ joined (map (printed_later typed) (drop 1 (take i xs)))
      → comma ≡ mid ++ 44 ∷ 32 ∷ [] → end ≡ comma ++ printed_sort typed x
      → end ≡ start ++ joined (map (printed_later typed) (drop 1 (take (i + 1) xs)))
  later_more xs i x start {mid} {comma} {end} one lt is p q r =
      let f = printed_later typed in
      let before = drop 1 (take i xs) in
      two_parts start (joined (map f before)) (f x) p
      (r ∙ ap (λ l. l ++ printed_sort typed x) q ∙ append_assoc mid (44 ∷ 32 ∷ []) (printed_sort typed x))
      (ap (λ l. joined (map f (drop 1 l))) (take_more xs i x lt)
      ∙ ap (λ l. joined (map f l)) (after_first (take i xs) (get_or xs i x ∷ []) (some_taken xs i one lt))
      ∙ ap joined (map_push f before (get_or xs i x)) ∙ joined_push (map f before) (f (get_or xs i x))
      ∙ ap (λ y. joined (map f before) ++ f y) (sym is))

  each_later : (xs : List GenericSort) → map (printed_later typed) xs ≡ map after_comma (map (printed_sort typed) xs)
  each_later [] = refl
  each_later (x ∷ xs) = ap (λ l. printed_later typed x ∷ l) (each_later xs)

  -- the first, the later ones, and the brackets
  pub bracketed_is : (xs : List GenericSort) (i : ℕ) (x : GenericSort) (start : List ℕ) {one two all end : List ℕ}
      → 0 < length xs
      → x ≡ get_or xs 0 x → length xs ≤ i → one ≡ start ++ 91 ∷ [] → two ≡ one ++ printed_sort typed x
      → all ≡ two ++ joined (map (printed_later typed) (drop 1 (take i xs))) → end ≡ all ++ 93 ∷ []
      → end ≡ start ++ bracketed (map (printed_sort typed) xs)
  bracketed_is [] i x start some is over p q r s = absurd (omega (arith, some))
  bracketed_is (y ∷ ys) i x start {one} {two} {all} {end} some is over p q r s =
      let later = joined (map after_comma (map (printed_sort typed) ys)) in
      let all_is : all ≡ two ++ later =
      r ∙ ap (λ l. two ++ joined (map (printed_later typed) (drop 1 l))) (take_all i (y ∷ ys) over)
      ∙ ap (λ l. two ++ joined l) (each_later ys) in
      let two_is : two ≡ start ++ (91 ∷ printed_sort typed y) =
      q ∙ ap (λ z. one ++ printed_sort typed z) is ∙ ap (λ l. l ++ printed_sort typed y) p
      ∙ append_assoc start (91 ∷ []) (printed_sort typed y) in
      s ∙ ap (λ l. l ++ 93 ∷ []) all_is ∙ append_assoc two later (93 ∷ []) ∙ ap (λ l. l ++ (later ++ 93 ∷ [])) two_is
      ∙ append_assoc start (91 ∷ printed_sort typed y) (later ++ 93 ∷ [])
