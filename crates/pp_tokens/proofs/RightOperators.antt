-- Operators and marks are right.
use Rattle.std.proofs.Common.{ℕ, suc, ◌≡◌, ◌+◌, ◌≤◌, List, [], ◌∷◌, take, drop, length, take-append-drop, refl, ap, ◌∙◌}
use Rattle.std.proofs.Common.{subst, arith, Bool, true, false, cond, not, Option, Some, None}
use Rattle.std.specs.Prelude.{◌||◌}
use Rattle.pp_tokens.specs.declared.token.Operator.{Operator}
use Rattle.pp_tokens.specs.declared.token.Bracket.{Bracket}
use Rattle.pp_tokens.specs.Characters.{is_operator_char, opens_line, opens_block}
use Rattle.pp_tokens.specs.Words.{spells}
use Rattle.pp_tokens.specs.Operators.{operator_text, operators, operator_of, runs_on, run_len, run_front}
use Rattle.pp_tokens.specs.Operators.{operator_front, mark_text, marks, mark_of, mark_front}
use Rattle.pp_tokens.specs.Layout.{AllRunOn, run_goes_on}
use Rattle.pp_tokens.proofs.Booleans.{and_both, either, same_text, found_passes}
use Rattle.pp_tokens.proofs.Longest.{drop_one_more}
use Rattle.pp_tokens.proofs.Right.{IsRight}

record IsRunOf (xs : List ℕ) (n : ℕ) : Type 0 where
  all : AllRunOn (take n xs) (drop n xs)
  stops : run_goes_on (drop n xs) ≡ false
  within : n ≤ length xs

one_more : (x : ℕ) (xs : List ℕ) (b : Bool) (n : ℕ) → runs_on x xs ≡ b → IsRunOf xs n
    → IsRunOf (x ∷ xs) (cond b (1 + n) 0)
one_more x xs true n e r =
    let P : ℕ → Type 0 = λ k. AllRunOn (take k (x ∷ xs)) (drop k (x ∷ xs)) in
    let s : suc n ≡ 1 + n = omega arith in
    record {
      all = subst P s (ap (runs_on x) (take-append-drop n xs) ∙ e, r.all);
      stops = ap run_goes_on (drop_one_more n x xs) ∙ r.stops;
      within = omega (arith, r.within);
    }
one_more x xs false n e r = record { all = tt; stops = e; within = omega arith }

longest_run : (xs : List ℕ) → IsRunOf xs (run_len xs)
longest_run [] = record { all = tt; stops = refl; within = omega arith }
longest_run (x ∷ xs) = one_more x xs (runs_on x xs) (run_len xs) refl (longest_run xs)

by_run : (xs : List ℕ) (n : ℕ) (o : Option Operator) → operator_of (take n xs) ≡ o → IsRunOf xs n → 1 ≤ n
    → IsRight (run_front o n) xs
by_run xs n (Some o) e r some = record {
  right = (
    record { runs = r.all; stops = r.stops },
    same_text (take n xs) (operator_text o)
        (found_passes (λ (p : Operator). spells (take n xs) (operator_text p)) operators o e),
  );
  some = some;
  within = r.within;
}
by_run xs n None e r some = tt

pub operator_right : (c : ℕ) (cs : List ℕ) → is_operator_char c ≡ true → opens_line c cs ≡ false
    → opens_block c cs ≡ false → IsRight (operator_front (c ∷ cs)) (c ∷ cs)
operator_right c cs char line block =
    let runs : runs_on c cs ≡ true =
    and_both (is_operator_char c) (not (opens_line c cs || opens_block c cs)) char
    (ap not (either (opens_line c cs) (opens_block c cs) line block)) in
    let some : 1 ≤ run_len (c ∷ cs) = omega (arith, ap (λ (b : Bool). cond b (1 + run_len cs) 0) runs) in
    by_run (c ∷ cs) (run_len (c ∷ cs)) (operator_of (take (run_len (c ∷ cs)) (c ∷ cs))) refl (longest_run (c ∷ cs)) some

by_mark : (c : ℕ) (cs : List ℕ) (o : Option Bracket) → mark_of c ≡ o → IsRight (mark_front o) (c ∷ cs)
by_mark c cs (Some b) e = record {
  right = same_text (c ∷ []) (mark_text b) (found_passes (λ (p : Bracket). spells (c ∷ []) (mark_text p)) marks b e);
  some = omega arith;
  within = omega arith;
}
by_mark c cs None e = tt

pub mark_right : (c : ℕ) (cs : List ℕ) → IsRight (mark_front (mark_of c)) (c ∷ cs)
mark_right c cs = by_mark c cs (mark_of c) refl
