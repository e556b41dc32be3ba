-- The words that no source can declare, since the language gives them a meaning. Source: own.
use Rattle.std.specs.Prelude.{Bool, List, [], ◌∷◌, codes}
use Rattle.pp_names.specs.Places.{Word, has}

abbrev pub reserved_words : List Word
reserved_words =
    codes "require" ∷ codes "ensuring" ∷ codes "holds" ∷ codes "decreases" ∷ codes "assert" ∷ codes "Int"
    ∷ codes "Boolean" ∷ []

abbrev pub is_reserved : Word → Bool
is_reserved w = has w reserved_words
