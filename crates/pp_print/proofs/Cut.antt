-- Lines that are put one after another.
use Rattle.std.proofs.Common.{◌≡◌, ◌∙◌, ℕ, ◌+◌, ◌<◌, List, [], ◌∷◌, ◌++◌, Option, Some, Result, Ok, Err, OnErr, length}
use Rattle.std.proofs.Common.{take, drop, map, get_or, slice_get, refl, sym, ap, subst, append_assoc, append-nil}
use Rattle.std.proofs.KnownBytes.{Appends-trans}
use Rattle.std.proofs.lemmas.List.{take_more, take-append-drop}
use Rattle.std.proofs.lemmas.List.Folds.{concat-append}
use Rattle.std.proofs.lemmas.Option.{slice_get_read, slice_get-map, slice_get_within, get_or_from_slice_get}
use Rattle.std.specs.Io.KnownBytes.{Appends}
use Rattle.std.specs.List.{concat}
use Rattle.std.specs.Option.{option_map}
use Rattle.pp_seam.specs.Pieces.{AppendsFront}
use Rattle.pp_print.specs.Puts.{IsCut}
use Rattle.pp_print.specs.Values.{Text}

-- the first lines, with the next
first_more : (lines : List Text) (i : ℕ) (line : Text) → slice_get lines i ≡ Some line
    → concat (take (i + 1) lines) ≡ concat (take i lines) ++ line
first_more lines i line is =
    ap concat (take_more lines i line (slice_get_within lines i line is))
    ∙ concat-append (take i lines) (get_or lines i line ∷ [])
    ∙ ap (λ (t : Text). concat (take i lines) ++ t)
    (append-nil (get_or lines i line) ∙ get_or_from_slice_get lines i line line is)

module _ {A : Type 0} (text : A → Text) (xs : List A) (i : ℕ) (x : A) (old mid new : Option (List ℕ)) where
  -- the text at its place
  at_place : i < length xs → x ≡ get_or xs i x → slice_get (map text xs) i ≡ Some (text x)
  at_place within is = slice_get-map text xs i ∙ ap (option_map text) (slice_get_read xs (length xs) i x refl within is)

  -- a whole line more
  pub line_put : i < length xs → x ≡ get_or xs i x → Appends old mid (concat (take i (map text xs)))
      → Appends mid new (text x)
      → Appends old new (concat (take (i + 1) (map text xs)))
  line_put within is before now =
      subst (Appends old new) (sym (first_more (map text xs) i (text x) (at_place within is)))
      (Appends-trans old mid new (concat (take i (map text xs))) (text x) before now)

  -- a front of a line more
  pub line_cut : i < length xs → x ≡ get_or xs i x → Appends old mid (concat (take i (map text xs)))
      → AppendsFront mid new (text x)
      → IsCut (map text xs) old new
  line_cut within is before (front, rest, split, now) =
      record {
        whole = i;
        line = text x;
        front = front;
        rest = rest;
        next = at_place within is;
        split = split;
        taken = Appends-trans old mid new (concat (take i (map text xs))) front before now;
      }

-- what was taken of lines that were cut is a front of them all
pub cut_front : (lines : List Text) (old new : Option (List ℕ)) → IsCut lines old new
    → AppendsFront old new (concat lines)
cut_front lines old new cut =
    let i = cut.whole in
    let all : concat lines ≡ concat (take (i + 1) lines) ++ concat (drop (i + 1) lines) =
    ap concat (sym (take-append-drop (i + 1) lines)) ∙ concat-append (take (i + 1) lines) (drop (i + 1) lines) in
    let after = concat (drop (i + 1) lines) in
    let head = concat (take i lines) in (
      head ++ cut.front,
      cut.rest ++ after,
      all
          ∙ ap (λ (t : Text). t ++ after)
          (first_more lines i cut.line cut.next ∙ ap (λ (t : Text). head ++ t) cut.split
          ∙ sym (append_assoc head cut.front cut.rest))
          ∙ append_assoc (head ++ cut.front) cut.rest after,
      cut.taken,
    )

-- a fact holds on an Err where it holds
pub on_err : {T E : Type 0} (r : Result T E) (P : Type 0) → P → OnErr r P
on_err (Ok x) P p = tt
on_err (Err e) P p = p
