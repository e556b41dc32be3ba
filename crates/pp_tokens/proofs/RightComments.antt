-- Comments are right.
use Rattle.std.proofs.Common.{ℕ, suc, ◌≡◌, ◌+◌, inl, inr, List, ◌∷◌, take, drop, take-append-drop, refl, sym, ap, ◌∙◌}
use Rattle.std.proofs.Common.{subst, arith, Bool, true, false, not, Option, Some, None}
use Rattle.std.specs.List.{prefix_len}
use Rattle.pp_tokens.specs.declared.front.Front.TheVariants.{Takes}
use Rattle.pp_tokens.specs.Characters.{is_line_feed, opens_line, opens_block}
use Rattle.pp_tokens.specs.Comments.{line_len, block_len}
use Rattle.pp_tokens.specs.Front.{comment_front, ended_comment}
use Rattle.pp_tokens.specs.Layout.{IsBlockComment, IsBody}
use Rattle.pp_tokens.proofs.Bodies.{nests}
use Rattle.pp_tokens.proofs.Booleans.{two_first}
use Rattle.pp_tokens.proofs.Longest.{longest_front, take_one_more}
use Rattle.pp_tokens.proofs.Right.{IsRight}

abbrev no_feed : ℕ → Bool
no_feed c = not (is_line_feed c)

line_at : (r : List ℕ) → IsRight (Takes None (line_len (47 ∷ 47 ∷ r))) (47 ∷ 47 ∷ r)
line_at r =
    let n = prefix_len no_feed r in
    let f = longest_front no_feed (47 ∷ 47 ∷ r) in
    let t : take (1 + (1 + n)) (47 ∷ 47 ∷ r) ≡ 47 ∷ 47 ∷ take n r =
    take_one_more (1 + n) 47 (47 ∷ r) ∙ ap (λ (l : List ℕ). 47 ∷ l) (take_one_more n 47 r) in
    record {
      right = inr (inl (record
          { opening = t ∙ ap (λ (l : List ℕ). 47 ∷ 47 ∷ drop 2 l) (sym t); one_line = f.all; longest = f.stops }));
      some = omega arith;
      within = f.within;
    }

pub line_right : (c : ℕ) (cs : List ℕ) → opens_line c cs ≡ true → IsRight (Takes None (line_len (c ∷ cs))) (c ∷ cs)
line_right c cs h =
    let s = two_first 47 47 c cs h in
    let P : List ℕ → Type 0 = λ l. IsRight (Takes None (line_len l)) l in
    subst P (sym s.1) (line_at s.0)

ended_right : (r : List ℕ) (o : Option ℕ) → block_len 1 false r ≡ o → IsRight (ended_comment o) (47 ∷ 42 ∷ r)
ended_right r None e = tt
ended_right r (Some n) e =
    let b = nests r 1 false n (omega arith) e in
    let two : suc (suc n) ≡ 2 + n = omega arith in
    let P : ℕ → Type 0 = λ k. IsBlockComment (take k (47 ∷ 42 ∷ r)) (drop k (47 ∷ 42 ∷ r)) in
    let Q : List ℕ → Type 0 = λ l. IsBody l (drop n r) in
    let R : List ℕ → Type 0 = λ l. IsBody r l in
    record {
      right = inr (inr (subst P two
          (record { opening = refl; body = subst Q (sym (take-append-drop n r)) (subst R b.0.2 b.0.1) })));
      some = omega arith;
      within = omega (arith, b.1);
    }

pub block_right : (c : ℕ) (cs : List ℕ) → opens_block c cs ≡ true → IsRight (comment_front (c ∷ cs)) (c ∷ cs)
block_right c cs h =
    let s = two_first 47 42 c cs h in
    let P : List ℕ → Type 0 = λ l. IsRight (comment_front l) l in
    subst P (sym s.1) (ended_right s.0 (block_len 1 false s.0) refl)
