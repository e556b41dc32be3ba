-- How events are counted: with sums cut at the greatest number, and a memo of frames that were counted. This is of the
-- making: private functions say it of each other, and no public clause rests on it, for that of `estimate` speaks of
-- specs/Estimates, where the events themselves are summed. Source: own.
use Rattle.std.specs.Prelude.{◌≡◌, ℕ, zero, suc, ◌+◌, Some, List, [], ◌∷◌, replicate, length, slice_get, Contains}
use Rattle.pp_prog.specs.declared.expr.Function.{Function}
use Rattle.pp_prog.specs.declared.types.TypeTable.{TypeTable}
use Rattle.pp_estimate.specs.declared.counts.Counts.{Counts}
use Rattle.pp_estimate.specs.declared.memo.Known.{Known}
use Rattle.pp_estimate.specs.declared.memo.Framed.{Framed}
use Rattle.pp_estimate.specs.declared.memo.Memo.{Memo}
use Rattle.pp_estimate.specs.declared.shape.Shape.{Shape}
use Rattle.pp_estimate.specs.Bounds.{AreRows}
use Rattle.pp_estimate.specs.Cut.{cut}
use Rattle.pp_estimate.specs.Events.{Event, called, compare, look, work}
use Rattle.pp_estimate.specs.Frames.{Frame, frame_at, inner_calls}

-- a sum, cut
abbrev pub plus : ℕ → ℕ → ℕ
plus a b = cut (a + b)

-- the list with more at the place
abbrev pub add_at : List ℕ → ℕ → ℕ → List ℕ
add_at [] i n = []
add_at (x ∷ xs) zero n = plus x n ∷ xs
add_at (x ∷ xs) (suc i) n = x ∷ add_at xs i n

-- the number at the place; past the end there is none, which is 0
abbrev pub number_at : List ℕ → ℕ → ℕ
number_at [] i = 0
number_at (x ∷ xs) zero = x
number_at (x ∷ xs) (suc i) = number_at xs i

abbrev pub count_one : Counts → Event → Counts
count_one c (work n) = record { work = plus c.work n; looks = c.looks; calls = c.calls; compares = c.compares }
count_one c (look d) = record { work = c.work; looks = add_at c.looks d.0 1; calls = c.calls; compares = c.compares }
count_one c (called g) = record { work = c.work; looks = c.looks; calls = add_at c.calls g.0 1; compares = c.compares }
count_one c compare = record { work = c.work; looks = c.looks; calls = c.calls; compares = plus c.compares 1 }

-- the counts with these events
abbrev pub counted : Counts → List Event → Counts
counted c [] = c
counted c (e ∷ es) = counted (count_one c e) es

-- nothing counted, of so many datatypes and functions
abbrev pub uncounted : ℕ → ℕ → Counts
uncounted datatypes functions =
    record { work = 0; looks = replicate datatypes 0; calls = replicate functions 0; compares = 0 }

abbrev pub plus_each : List ℕ → List ℕ → List ℕ
plus_each [] ys = []
plus_each (x ∷ xs) [] = x ∷ xs
plus_each (x ∷ xs) (y ∷ ys) = plus x y ∷ plus_each xs ys

-- two counts together
abbrev pub together : Counts → Counts → Counts
together a b =
    record {
      work = plus a.work b.work;
      looks = plus_each a.looks b.looks;
      calls = plus_each a.calls b.calls;
      compares = plus a.compares b.compares;
    }

-- the counts are of so many datatypes and functions, and none is past the greatest number
pub record Fits (datatypes functions : ℕ) (c : Counts) : Type 0 where
  pub looks : length c.looks ≡ datatypes
  pub calls : length c.calls ≡ functions
  pub low : together c (uncounted datatypes functions) ≡ c

-- the entry at this place is that of the function at this fuel and these arguments
pub record IsEntry (known : List Known) (i g fuel : ℕ) (args : List Shape) : Type 0 where
  pub entry : Known
  pub here : slice_get known i ≡ Some entry
  pub function : entry.function ≡ g
  pub fuel_is : entry.fuel ≡ fuel
  pub args_are : entry.args ≡ args

-- the frame stands at this place of the memo
pub record IsFrameAt (known : List Known) (i : ℕ) (frame : Framed) : Type 0 where
  pub entry : Known
  pub here : slice_get known i ≡ Some entry
  pub is : entry.frame ≡ frame

module _ (types : TypeTable) (functions : List Function) where
  -- the counts of events alone
  abbrev pub counts_of : List Event → Counts
  counts_of es = counted (uncounted (length types.datatypes) (length functions)) es

  -- a frame, counted
  abbrev pub framed : Frame → Framed
  framed f = record { counts = counts_of f.events; shape = f.shape; measure = f.measure }

  -- each known frame is that of its function, fuel and arguments
  abbrev pub AllTrue : List Known → Type 0
  AllTrue known =
      (k : Known) → Contains known k → k.frame
      ≡ framed (frame_at types (inner_calls types functions k.fuel) (slice_get functions k.function) k.args)

  -- what is known is true: the frames, and the rows of sizes
  pub record MemoOf (memo : Memo) : Type 0 where
    pub known : AllTrue memo.known
    pub rows : AreRows types memo.rows

  -- what holds while a visit counts: the memo is true, and the counts fit
  pub record Sound (m : Memo) (c : Counts) : Type 0 where
    pub memo : MemoOf m
    pub counts : Fits (length types.datatypes) (length functions) c
