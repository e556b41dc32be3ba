-- A table is made chunk by chunk.
use Rattle.std.proofs.Common.{◌≡◌, ℕ, ◌+◌, ◌*◌, ◌<◌, ◌≤◌, List, [], ◌∷◌, ◌++◌, take, drop, length, get_or, min}
use Rattle.std.proofs.Common.{ap, sym, ◌∙◌, arith, inl, inr, append-nil, length-append}
use Rattle.std.proofs.Math.Seq.{take-add, take-append_seam, drop-append_seam}
use Rattle.std.proofs.Math.ListN.{drop_of_length-le}
use Rattle.std.proofs.lemmas.Bool.{cases_lt}
use Rattle.std.proofs.lemmas.List.{drop-drop, length-take, take_all, nil_from_length}
use Rattle.std.proofs.lemmas.List.{get_or_push, get_or_append_left, length_push}
use Rattle.std.proofs.lemmas.List.Sums.{fold-append}
use Rattle.std.proofs.lemmas.Grind.{common_steps}
use Rattle.pp_text.specs.declared.place.TheConstants.{BYTES_APART}
use Rattle.pp_text.specs.Table.{past_byte, past_bytes, behind_bytes}

-- bytes lead no further than their number
pub past_bounds : (bytes : List ℕ) (p : ℕ × ℕ)
    → ((past_bytes p bytes).0 ≤ p.0 + length bytes) × ((past_bytes p bytes).1 ≤ p.1 + length bytes)
past_bounds [] p = (omega arith, omega arith)
past_bounds (b ∷ bs) p = let h = past_bounds bs (past_byte p b) in grind (arith, common_steps)

-- the line and the column in a text are no greater than one more than its length
pub behind_bounds : (bytes : List ℕ) (k : ℕ)
    → ((behind_bytes (take k bytes)).0 ≤ 1 + length bytes) × ((behind_bytes (take k bytes)).1 ≤ 1 + length bytes)
behind_bounds bytes k =
    let h = past_bounds (take k bytes) (1, 1) in
    let short : length (take k bytes) ≤ length bytes = omega (arith, length-take k bytes) in
    (omega arith, omega arith)

take_front : (front back : List ℕ) (n : ℕ) → length front ≡ n → take n (front ++ back) ≡ front
take_front front back n size = rw (← size) (take-append_seam front back)

drop_front : (front back : List ℕ) (n : ℕ) → length front ≡ n → drop n (front ++ back) ≡ back
drop_front front back n size = rw (← size) (drop-append_seam front back)

-- a chunk is what stands at the front of the bytes that are left
pub chunk_is : (left chunk after : List ℕ) → left ≡ chunk ++ after → length chunk ≡ min BYTES_APART (length left)
    → (take BYTES_APART left ≡ chunk) × (drop BYTES_APART left ≡ after)
chunk_is left chunk after split size =
    let sum = ap length split ∙ length-append chunk after in
    elim (cases_lt (length left) BYTES_APART) [
      | inl short ↦
          let none : after ≡ [] = nil_from_length after (omega arith) in (
            take_all BYTES_APART left (omega arith) ∙ split ∙ ap (λ (l : List ℕ). chunk ++ l) none ∙ append-nil chunk,
            drop_of_length-le left {i = BYTES_APART} (omega arith) ∙ sym none,
          )
      | inr long ↦
          let whole : length chunk ≡ BYTES_APART = omega arith in (
            ap (take BYTES_APART) split ∙ take_front chunk after BYTES_APART whole,
            ap (drop BYTES_APART) split ∙ drop_front chunk after BYTES_APART whole,
          )
    ]

-- the table of the first n chunks, the place behind them and the bytes that are left
pub record IsTableOf (bytes : List ℕ) (n : ℕ) (place : ℕ × ℕ) (table : List (ℕ × ℕ)) (left : List ℕ) : Type 0 where
  pub rest : left ≡ drop (BYTES_APART * n) bytes
  pub behind : place ≡ behind_bytes (take (BYTES_APART * n) bytes)
  pub count : length table ≡ n + 1
  pub right : (k : ℕ) (d : ℕ × ℕ) → k < length table → get_or table k d ≡ behind_bytes (take (BYTES_APART * k) bytes)

pub place_bounds : (bytes : List ℕ) (n : ℕ) (place : ℕ × ℕ) (table : List (ℕ × ℕ)) (left : List ℕ)
    → IsTableOf bytes n place table left → (place.0 ≤ 1 + length bytes) × (place.1 ≤ 1 + length bytes)
place_bounds bytes n place table left t = rw t.behind (behind_bounds bytes (BYTES_APART * n))

-- one more chunk
pub take_more : (bytes chunk : List ℕ) (n : ℕ) → take BYTES_APART (drop (BYTES_APART * n) bytes) ≡ chunk
    → take (BYTES_APART * (n + 1)) bytes ≡ take (BYTES_APART * n) bytes ++ chunk
take_more bytes chunk n front =
    let next : BYTES_APART * (n + 1) ≡ BYTES_APART * n + BYTES_APART = omega arith in
    rw next
    (take-add (BYTES_APART * n) BYTES_APART bytes ∙ ap (λ (l : List ℕ). take (BYTES_APART * n) bytes ++ l) front)

pub drop_more : (bytes after : List ℕ) (n : ℕ) → drop BYTES_APART (drop (BYTES_APART * n) bytes) ≡ after
    → after ≡ drop (BYTES_APART * (n + 1)) bytes
drop_more bytes after n back =
    let next : BYTES_APART * (n + 1) ≡ BYTES_APART * n + BYTES_APART = omega arith in
    rw next (sym back ∙ drop-drop BYTES_APART (BYTES_APART * n) bytes)

pub behind_more : (bytes chunk : List ℕ) (n : ℕ) (place : ℕ × ℕ) → place ≡ behind_bytes (take (BYTES_APART * n) bytes)
    → take (BYTES_APART * (n + 1)) bytes ≡ take (BYTES_APART * n) bytes ++ chunk
    → past_bytes place chunk ≡ behind_bytes (take (BYTES_APART * (n + 1)) bytes)
behind_more bytes chunk n place behind more =
    rw (behind, more) (sym (fold-append past_byte (1, 1) (take (BYTES_APART * n) bytes) chunk))

pub right_more : (bytes : List ℕ) (n : ℕ) (place : ℕ × ℕ) (table : List (ℕ × ℕ)) → length table ≡ n + 1
    → ((k : ℕ) (d : ℕ × ℕ) → k < length table → get_or table k d ≡ behind_bytes (take (BYTES_APART * k) bytes))
    → place ≡ behind_bytes (take (BYTES_APART * (n + 1)) bytes) → (k : ℕ) (d : ℕ × ℕ)
    → k < length (table ++ place ∷ []) → get_or (table ++ place ∷ []) k d ≡ behind_bytes (take (BYTES_APART * k) bytes)
right_more bytes n place table count right behind k d small =
    elim (cases_lt k (length table)) [
      | inl before ↦ get_or_append_left table _ d k before ∙ right k d before
      | inr last ↦
          let here : k ≡ n + 1 = omega (arith, length_push table place, count) in
          rw here (get_or_push table place d (n + 1) count ∙ behind)
    ]

pub more_table : (bytes : List ℕ) (n : ℕ) (place : ℕ × ℕ) (table : List (ℕ × ℕ)) (left chunk after : List ℕ)
    → IsTableOf bytes n place table left → left ≡ chunk ++ after → length chunk ≡ min BYTES_APART (length left)
    → IsTableOf bytes (n + 1) (past_bytes place chunk) (table ++ past_bytes place chunk ∷ []) after
more_table bytes n place table left chunk after t split size =
    let parts = chunk_is left chunk after split size in
    let more = take_more bytes chunk n (ap (take BYTES_APART) (sym t.rest) ∙ parts.0) in
    let behind = behind_more bytes chunk n place t.behind more in
    record {
      rest = drop_more bytes after n (ap (drop BYTES_APART) (sym t.rest) ∙ parts.1);
      behind = behind;
      count = length_push table (past_bytes place chunk) ∙ ap (λ (k : ℕ). k + 1) t.count;
      right = right_more bytes n (past_bytes place chunk) table t.count t.right behind;
    }
