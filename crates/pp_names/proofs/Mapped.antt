-- Searches through the image of a list.
use Rattle.std.proofs.Common.{◌≡◌, ◌∙◌, Bool, ◌||◌, List, [], ◌∷◌, map, length, position, refl, sym, ap, Some, None}
use Rattle.std.proofs.Common.{nat_lt, if◌then◌else◌}
use Rattle.std.proofs.lemmas.List.{length-map}
use Rattle.std.specs.List.{list_any, position_or_len}

module _ {X Y : Type 0} (f : X → Y) (p : Y → Bool) where
  pub position_or_len-map : (xs : List X) → position_or_len (λ x. p (f x)) xs ≡ position_or_len p (map f xs)
  position_or_len-map [] = refl
  position_or_len-map (x ∷ xs) = let e = position_or_len-map xs in cc

  pub list_any-map : (xs : List X) → list_any (λ x. p (f x)) xs ≡ list_any p (map f xs)
  list_any-map [] = refl
  list_any-map (x ∷ xs) = ap (λ b. p (f x) || b) (list_any-map xs)

  pub position-map : (xs : List X) → position (λ x. p (f x)) xs ≡ position p (map f xs)
  position-map xs =
      ap (λ n. if nat_lt n (length xs) then Some n else None) (position_or_len-map xs)
      ∙ ap (λ n. if nat_lt (position_or_len p (map f xs)) n then Some (position_or_len p (map f xs))
      else None) (sym (length-map xs f))
