-- Names are right.
use Rattle.std.proofs.Common.{ℕ, ◌≡◌, ◌+◌, List, ◌∷◌, take, drop, refl, ap, ◌∙◌, arith, Bool, true, false, cond, Option}
use Rattle.std.proofs.Common.{Some, None}
use Rattle.std.specs.Prelude.{codes}
use Rattle.std.specs.List.{list_all, prefix_len}
use Rattle.unicode_ident.specs.Ident.{is_xid_continue}
use Rattle.pp_tokens.specs.declared.token.Reserved.{Reserved}
use Rattle.pp_tokens.specs.Characters.{starts_name, goes_on_with, goes_on_name}
use Rattle.pp_tokens.specs.Words.{spells, words, word_of, word_text}
use Rattle.pp_tokens.specs.Front.{kind_of, word_or_name, name_front}
use Rattle.pp_tokens.specs.Layout.{IsLongestName, IsToken}
use Rattle.pp_tokens.proofs.Booleans.{same_text, found_passes}
use Rattle.pp_tokens.proofs.Longest.{longest_front, take_one_more, drop_one_more}
use Rattle.pp_tokens.proofs.Right.{IsRight}

module _ (xs after : List ℕ) (name : IsLongestName xs after) where
  by_word : (o : Option Reserved) → word_of xs ≡ o → spells xs (codes "_") ≡ false → IsToken (word_or_name o) xs after
  by_word (Some w) e h = (
    name,
    same_text xs (word_text w) (found_passes (λ (v : Reserved). spells xs (word_text v)) words w e),
  )
  by_word None e h = (
    name,
    e,
    λ is. let t : spells xs (codes "_") ≡ true = ap (λ (l : List ℕ). spells l (codes "_")) is in cc,
  )

  by_hole : (b : Bool) → spells xs (codes "_") ≡ b
      → IsToken (cond b Rattle.pp_tokens.specs.declared.token.TokenKind.TheVariants.Hole (word_or_name (word_of xs))) xs
      after
  by_hole true e = (name, same_text xs (codes "_") e)
  by_hole false e = by_word (word_of xs) refl e

  kind_right : IsToken (kind_of xs) xs after
  kind_right = by_hole (spells xs (codes "_")) refl

pub name_right : (c : ℕ) (cs : List ℕ) → starts_name c ≡ true → IsRight (name_front (c ∷ cs)) (c ∷ cs)
name_right c cs starts =
    let n = prefix_len is_xid_continue cs in
    let f = longest_front is_xid_continue cs in
    let t : take (1 + n) (c ∷ cs) ≡ c ∷ take n cs = take_one_more n c cs in
    let d : drop (1 + n) (c ∷ cs) ≡ drop n cs = drop_one_more n c cs in
    record {
      right = kind_right (take (1 + n) (c ∷ cs)) (drop (1 + n) (c ∷ cs)) (record {
        starts = ap (goes_on_with starts_name) t ∙ starts;
        continues = ap (λ (l : List ℕ). list_all is_xid_continue (drop 1 l)) t ∙ f.all;
        longest = ap goes_on_name d ∙ f.stops;
      });
      some = omega arith;
      within = omega (arith, f.within);
    }
