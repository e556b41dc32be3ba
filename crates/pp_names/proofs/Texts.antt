-- Texts in a list of texts are found by their bytes.
use Rattle.std.proofs.Common.{◌≡◌, ◌∙◌, Bool, true, false, List, [], ◌∷◌, ◌++◌, map, position, ap, String, Global}
use Rattle.std.proofs.Common.{if◌then◌else◌}
use Rattle.std.proofs.lemmas.List.{map_push}
use Rattle.std.specs.List.{list_any}
use Rattle.std.specs.Str.{bytes_eq}
use Rattle.std.specs.String.{string_bytes, string_eq}
use Rattle.pp_names.specs.Places.{Word, place_of, has, with_name}
use Rattle.pp_names.proofs.Mapped.{list_any-map, position-map}

abbrev Text : Type 0
Text = String Global

abbrev pub bytes_of : Text → Word
bytes_of = string_bytes

pub has_text : (keys : List Text) (k : Text) (w : Word) (ws : List Word) → bytes_of k ≡ w → map bytes_of keys ≡ ws
    → list_any (string_eq k) keys ≡ has w ws
has_text keys k w ws e v = list_any-map bytes_of (bytes_eq (bytes_of k)) keys
    ∙ ap (λ l. list_any (bytes_eq (bytes_of k)) l) v ∙ ap (λ b. list_any (bytes_eq b) ws) e

chosen : (b c : Bool) (keys : List Text) (k : Text) (w : Word) (ws : List Word) → b ≡ c → bytes_of k ≡ w
    → map bytes_of keys ≡ ws
    → map bytes_of (if b then keys else keys ++ k ∷ []) ≡ (if c then ws else ws ++ w ∷ [])
chosen true c keys k w ws e i v = v ∙ ap (λ b. if b then ws else ws ++ w ∷ []) e
chosen false c keys k w ws e i v =
    map_push bytes_of keys k ∙ ap (λ l. l ++ bytes_of k ∷ []) v ∙ ap (λ b. ws ++ b ∷ []) i
    ∙ ap (λ b. if b then ws else ws ++ w ∷ []) e

pub with_text : (keys : List Text) (k : Text) (w : Word) (ws : List Word) → bytes_of k ≡ w → map bytes_of keys ≡ ws
    → map bytes_of (if list_any (string_eq k) keys then keys else keys ++ k ∷ []) ≡ with_name ws w
with_text keys k w ws e v = chosen _ _ keys k w ws (has_text keys k w ws e v) e v

pub place_of_text : (keys : List Text) (w : Word) (ws : List Word) → map bytes_of keys ≡ ws
    → position (λ k. bytes_eq w (bytes_of k)) keys ≡ place_of w ws
place_of_text keys w ws v = position-map bytes_of (bytes_eq w) keys ∙ ap (place_of w) v

pub has_bytes : (keys : List Text) (w : Word) (ws : List Word) → map bytes_of keys ≡ ws
    → list_any (λ k. bytes_eq w (bytes_of k)) keys ≡ has w ws
has_bytes keys w ws v = list_any-map bytes_of (bytes_eq w) keys ∙ ap (has w) v
