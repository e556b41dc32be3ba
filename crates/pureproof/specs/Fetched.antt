-- What is fetched of a shelf. Source: own.
use Rattle.std.specs.Prelude.{◌≡◌, ◌<◌, ◌≤◌, ◌+◌, ℕ, List, [], ◌∷◌, ◌++◌, Option, Some, IfSome, All, length, slice_get}
use Rattle.std.specs.Prelude.{take}
use Rattle.pp_text.specs.Limits.{most_bytes}

-- the bytes of a text
abbrev pub Text : Type 0
Text = List ℕ

-- what a shelf tells before and after: the bytes of a path, the paths that were asked for, those whose fetch failed,
-- and the bytes that a fetch read which found too many
pub record Shelf : Type 0 where
  pub held : Text → Option Text
  pub asked : List Text
  pub asked_after : List Text
  pub failed : List Text
  pub failed_after : List Text
  pub seen_after : Text

abbrev pub told : {S : Type 0} → (S → Text → Option Text) → (S → List Text) → (S → List Text) → (S → Text) → S → S
    → Shelf
told held asked failed seen old new = record {
  held = held old;
  asked = asked old;
  asked_after = asked new;
  failed = failed old;
  failed_after = failed new;
  seen_after = seen new;
}

-- these are the bytes of a path, where they are told
abbrev pub IsHeld : Option Text → Text → Type 0
IsHeld held bytes = IfSome held (λ told. bytes ≡ told)

-- the sources are the bytes of the paths, where these are told
pub data AreHeld (held : Text → Option Text) : List Text → List Text → Type 0 where
  no_paths : AreHeld held [] []
  one_path : {path bytes : Text} {paths sources : List Text} → IsHeld (held path) bytes
      → AreHeld held paths sources → AreHeld held (path ∷ paths) (bytes ∷ sources)

-- no source is longer than it may be
abbrev pub AreShort : List Text → Type 0
AreShort sources = All (λ (bytes : Text). length bytes ≤ most_bytes) sources

-- these paths were asked for, in order, and no others
abbrev pub Asks : Shelf → List Text → Type 0
Asks shelf paths = shelf.asked_after ≡ shelf.asked ++ paths

-- the first of these paths were asked for, in order, and no others
abbrev pub AsksFirst : Shelf → List Text → Type 0
AsksFirst shelf files = (many : ℕ) × Asks shelf (take many files)

-- nothing was asked for, so nothing failed
pub record FetchesNothing (shelf : Shelf) : Type 0 where
  pub asks : Asks shelf []
  pub failed : shelf.failed_after ≡ shelf.failed

-- the shelf's fetch of a file fails: those before it are fetched, none behind it is asked for, and it stands once more
-- among the failed ones
pub record FailsAt (shelf : Shelf) (files sources : List Text) : Type 0 where
  pub path : Text
  pub before : AreHeld shelf.held (take (length sources) files) sources
  pub short : AreShort sources
  pub here : slice_get files (length sources) ≡ Some path
  pub asks : Asks shelf (take (length sources + 1) files)
  pub grew : shelf.failed_after ≡ shelf.failed ++ path ∷ []

-- a file has more bytes than a source may have, those before it are fetched, and none behind it is asked for
pub record IsTooLongAt (shelf : Shelf) (files sources : List Text) : Type 0 where
  pub path : Text
  pub before : AreHeld shelf.held (take (length sources) files) sources
  pub short : AreShort sources
  pub here : slice_get files (length sources) ≡ Some path
  pub asks : Asks shelf (take (length sources + 1) files)
  pub calm : shelf.failed_after ≡ shelf.failed
  pub seen : length shelf.seen_after ≡ most_bytes + 1
  pub long : IfSome (shelf.held path) (λ bytes. most_bytes < length bytes)
