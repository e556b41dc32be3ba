-- The place of a name in a list of names. Source: own.
use Rattle.std.specs.Prelude.{◌≡◌, ℕ, zero, suc, ◌+◌, Bool, List, [], ◌∷◌, ◌++◌, Option, Vec, nat_eq, map, position}
use Rattle.std.specs.Prelude.{if◌then◌else◌}
use Rattle.std.specs.declared.alloc.Global.{Global}
use Rattle.std.specs.List.{list_any}
use Rattle.std.specs.Str.{bytes_eq}

-- a name: its bytes
abbrev pub Word : Type 0
Word = List ℕ

-- the place of the first name of the list that is this one
abbrev pub place_of : Word → List Word → Option ℕ
place_of w ws = position (bytes_eq w) ws

-- whether the list has the name
abbrev pub has : Word → List Word → Bool
has w ws = list_any (bytes_eq w) ws

-- the list with the name at its end, where it doesn't have it already
abbrev pub with_name : List Word → Word → List Word
with_name ws w = if has w ws then ws else ws ++ w ∷ []

-- the places, counted from this one, at which a list has this number
abbrev pub places_from : ℕ → ℕ → List ℕ → List ℕ
places_from at n [] = []
places_from at n (m ∷ ms) = if nat_eq m n then at ∷ places_from (at + 1) n ms else places_from (at + 1) n ms

-- the lists that a list of lists holds
abbrev pub lists_of : Vec (Vec ℕ Global) Global → List (List ℕ)
lists_of vs = map (λ (v : Vec ℕ Global). v.items) vs.items

-- the lists, with an item more at the end of the one at this place
abbrev pub pushed_at : List (List ℕ) → ℕ → ℕ → List (List ℕ)
pushed_at [] at n = []
pushed_at (ns ∷ nss) zero n = (ns ++ n ∷ []) ∷ nss
pushed_at (ns ∷ nss) (suc at) n = ns ∷ pushed_at nss at n

-- for each number below the bound, from this one on, a list of the places at which the numbers have it
abbrev pub grouped_from : ℕ → ℕ → List ℕ → List (List ℕ)
grouped_from r zero ns = []
grouped_from r (suc count) ns = places_from 0 r ns ∷ grouped_from (r + 1) count ns

abbrev pub AreGrouped : List (List ℕ) → ℕ → List ℕ → Type 0
AreGrouped lists count ns = lists ≡ grouped_from 0 count ns
