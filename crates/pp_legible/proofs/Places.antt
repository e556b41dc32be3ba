-- A place in a short text has small numbers.
use Rattle.std.proofs.Common.{◌≡◌, ◌≤◌, ◌-◌, ℕ, List, All, IsUtf8, length, not, take, sym, ap, subst, arith}
use Rattle.std.specs.Prelude.{Some, slice_get}
use Rattle.std.specs.List.{suffix_len}
use Rattle.std.specs.Str.{chars}
use Rattle.std.proofs.lemmas.List.{length-drop, length-take-le}
use Rattle.std.proofs.lemmas.List.Sums.{count_by-le-length}
use Rattle.std.proofs.lemmas.Option.{get_or_from_slice_get, slice_get_within}
use Rattle.std.proofs.lemmas.Str.{IsUtf8-take, encodes-chars, length-le-encodes}
use Rattle.pp_line_contents.specs.Laws.{IsSmallPlace}
use Rattle.pp_prog.specs.declared.place.Place.{Place}
use Rattle.pp_text.specs.Limits.{most_bytes}
use Rattle.pp_text.specs.Place.{is_line_feed}
use Rattle.pp_translation.specs.Functions.{place_at, place_in_text}
use Rattle.pp_typed.specs.Stand.{Offset, Stands}

abbrev IsShort : List ℕ → Type 0
IsShort text = length text ≤ most_bytes

-- what holds of all texts holds of the one at a place
of_one : (P : List ℕ → Type 0) (texts : List (List ℕ)) (k : ℕ) (text : List ℕ) → All P texts
    → slice_get texts k ≡ Some text → P text
of_one P texts k text all there =
    subst P (get_or_from_slice_get texts k text text there) (all k text (slice_get_within texts k text there))

few_chars : (text : List ℕ) (o : ℕ) → IsShort text → IsUtf8 (take o text) → o ≤ length text
    → length (chars (take o text)) ≤ most_bytes
few_chars text o short utf8 within =
    let le = length-le-encodes (chars (take o text)) in
    let same = ap length (encodes-chars (take o text) utf8) in
    let long = length-take-le o text within in omega (arith, le, same, long, short)

pub small_place : (texts : List (List ℕ)) (o : Offset) → length texts ≤ 16 → All IsShort texts → All IsUtf8 texts
    → Stands texts o → IsSmallPlace (place_at texts o)
small_place texts o few short utf8 stands =
    let own = of_one IsUtf8 texts (o.0 - 1) stands.text utf8 stands.of_source in
    let limit = of_one IsShort texts (o.0 - 1) stands.text short stands.of_source in
    let cs = chars (take o.1 stands.text) in
    let few_here = few_chars stands.text o.1 limit (IsUtf8-take stands.text o.1 own stands.boundary)
    stands.boundary.0 in
    let before = suffix_len (λ c. not (is_line_feed c)) cs in
    let place : Place = place_in_text o.0 o.1 (Some stands.text) in
    let small : IsSmallPlace place = record {
      source = (let lt = slice_get_within texts (o.0 - 1) stands.text stands.of_source in omega (arith, lt, few));
      line = (let le = count_by-le-length is_line_feed cs in omega (arith, le, few_here));
      column = (let le = length-drop (length cs - before) cs in omega (arith, le, few_here));
    } in
    subst IsSmallPlace (ap (place_in_text o.0 o.1) (sym stands.of_source)) small
