-- What a sink in memory is, and what a put leaves. Source: own.
use Rattle.std.specs.Prelude.{ℕ, ◌-◌, ◌==◌, ◌&&◌, ◌++◌, min, Bool, true, List, [], Option, None, Some, if◌then◌else◌}
use Rattle.std.specs.Prelude.{unwrap_or, is_none, take, length, nat_le}
use Rattle.pp_seam.specs.Faults.{raised}

-- the bytes that were taken, for how many there is room in all, how many pieces that aren't empty were put, the
-- number of the put that was told to fail with how much it takes, and how many puts failed
pub record Stored : Type 0 where
  pub taken : List ℕ
  pub room : ℕ
  pub calls : ℕ
  pub told : Option (ℕ × ℕ)
  pub faults : ℕ

-- an empty sink with this room
abbrev pub room_for : ℕ → Stored
room_for room = record { taken = []; room = room; calls = 0; told = None; faults = 0 }

-- for how many more bytes there is room
abbrev pub free : Stored → ℕ
free s = s.room - length s.taken

-- how much the put with this number takes at most, where it was told to fail
abbrev pub told_at : Option (ℕ × ℕ) → ℕ → Option ℕ
told_at None number = None
told_at (Some told) number = if told.0 == number then Some told.1 else None

-- how much of a piece of this length the next put takes
abbrev pub share : Stored → ℕ → ℕ
share s len = min (unwrap_or (told_at s.told (raised s.calls)) len) (min len (free s))

-- the next put takes a piece of this length whole and isn't told to fail
abbrev pub fits : Stored → ℕ → Bool
fits s len = is_none (told_at s.told (raised s.calls)) && nat_le len (free s)

-- what the next put leaves of a piece that isn't empty
abbrev pub after_piece : Stored → List ℕ → Stored
after_piece s piece = record {
  taken = s.taken ++ take (share s (length piece)) piece;
  room = s.room;
  calls =
      raised s.calls;
  told = s.told;
  faults = if fits s (length piece) then s.faults else raised s.faults;
}

-- what a put leaves; an empty piece changes nothing
abbrev pub after_put : Stored → List ℕ → Stored
after_put s [] = s
after_put s piece = after_piece s piece

-- a put is Ok
abbrev pub put_is_ok : Stored → List ℕ → Bool
put_is_ok s [] = true
put_is_ok s piece = fits s (length piece)
