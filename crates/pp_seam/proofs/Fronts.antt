-- A front of a piece that was taken, and what is left of it.
use Rattle.std.proofs.Common.{◌≡◌, ℕ, List, ◌++◌, Some, Result, Ok, Err, OnErr, take, drop, length, ◌-◌, ap, sym, ◌∙◌}
use Rattle.std.proofs.Common.{append_assoc, take-append-drop}
use Rattle.std.proofs.lemmas.List.{take_rest}
use Rattle.pp_seam.specs.Pieces.{AppendsFront}
use Rattle.pp_seam.specs.Stored.{Stored, share, after_piece}

-- one more front of what is left was taken
pub moves_front : (all done rest : List ℕ) (n : ℕ) → all ≡ done ++ rest
    → all ≡ (done ++ take n rest) ++ take (length rest - n) (drop n rest)
moves_front all done rest n e =
    e ∙ ap (λ l. done ++ l) (sym (take-append-drop n rest)) ∙ sym (append_assoc done (take n rest) (drop n rest))
    ∙ ap (λ l. (done ++ take n rest) ++ l) (sym (take_rest rest n))

-- a sink in memory takes a front of a piece
pub piece_front : {T E : Type 0} (r : Result T E) (old new : Stored) (piece : List ℕ) → new ≡ after_piece old piece
    → OnErr r (AppendsFront (Some old.taken) (Some new.taken) piece)
piece_front (Ok x) old new piece e = tt
piece_front (Err f) old new piece e =
    let n = share old (length piece) in
    (take n piece, drop n piece, sym (take-append-drop n piece), ap (λ s. s.taken) e)
